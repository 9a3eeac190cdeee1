use Rattle.std.proofs.Common.{◌≡◌, ℕ, ◌<◌, ◌≤◌, ◌-◌, ◌*◌, ◌^◌, length, take, get_or}
use Rattle.cm_asm.specs.Listing.{listing}
use Rattle.cm_asm.proofs.reading.unlist.Given as goal

-- the bytes so far are the listing of the words so far
abbrev pub invariant-loop-at : goal.invariant-loop-at
invariant-loop-at l = record {
  inside : l.at ≤ length l.text;
  read : take l.at l.text ≡ listing l.words;
  place : l.at ≡ 18 * length l.words;
  few : length l.words ≤ 4194304;
  each : (k : ℕ) → get_or l.words k 0 < 2 ^ 32;
}

abbrev pub decreases-loop-at : goal.decreases-loop-at
decreases-loop-at l = length l.text - l.at
