use Rattle.std.proofs.Common.{◌≡◌, ◌<◌, ◌≤◌, ◌^◌, length, take}
use Rattle.cm_asm.specs.Listing.{hex}
use Rattle.cm_asm.proofs.reading.number_front.Given as goal

-- the digits so far, and their value
abbrev pub invariant-loop-count : goal.invariant-loop-count
invariant-loop-count l = record { inside : l.count ≤ length l.text; digits : take l.count l.text ≡ hex l.count l.value; small : l.value < 16 ^ l.count }
