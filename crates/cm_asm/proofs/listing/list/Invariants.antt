use Rattle.std.proofs.Common.{◌≡◌, ◌*◌, take}
use Rattle.cm_asm.specs.Listing.{listing}
use Rattle.cm_asm.proofs.listing.list.Given as goal

-- the lines of the words so far, and the address of the next
abbrev pub invariant-loop-word : goal.invariant-loop-word
invariant-loop-word l = record { lines : l.text ≡ listing (take l.word-index l.word-items); place : l.address ≡ 4 * l.word-index }
