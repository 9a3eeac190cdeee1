-- Why reading to the end of input stopped, and what a broken write leaves.
use Rattle.std.specs.Prelude.{ℕ, ◌≡◌, ◌<◌, ◌≤◌, List, length, take, Option, IfSome}
use Rattle.std.specs.Io.KnownBytes.{Appends, Consumes}
use Rattle.cm_text.specs.Count.{Rose}
use Rattle.cm_text.specs.declared.transfer.ReadEnd.{ReadEnd}
use Rattle.cm_text.specs.declared.transfer.ReadEnd.TheVariants.{Fault, Long, Memory}

-- the cause of each end: at Fault the count of faults rose, at Long more bytes than the limit were left,
-- where the source tells them, and want of memory is free
abbrev pub Causes : ReadEnd → ℕ → Option (List ℕ) → ℕ → ℕ → Type 0
Causes Fault limit left before now = Rose before now
Causes (Long told) limit left before now = (told ≡ limit) × IfSome left (λ bytes. limit < length bytes)
Causes Memory limit left before now = Unit {0}

-- what an end says of the number of bytes that were read: Long comes past the limit, and Fault up to it
abbrev pub EndsAfter : ReadEnd → ℕ → ℕ → Type 0
EndsAfter Fault limit count = count ≤ limit
EndsAfter (Long told) limit count = limit < count
EndsAfter Memory limit count = Unit {0}

-- the source gave some bytes, as many as this end says
abbrev pub GaveSome : ReadEnd → ℕ → Option (List ℕ) → Option (List ℕ) → Type 0
GaveSome end limit old new = (bytes : List ℕ) × Consumes old new bytes × EndsAfter end limit (length bytes)

-- the sink took some bytes from the front of these, and nothing else
abbrev pub TookFront : Option (List ℕ) → Option (List ℕ) → List ℕ → Type 0
TookFront old new bytes = (count : ℕ) × (count ≤ length bytes) × Appends old new (take count bytes)
