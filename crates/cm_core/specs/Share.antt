-- What strands hold of words: shares of one whole, which only move.
use Rattle.std.specs.Prelude.{◌≡◌, ℕ, ◌+◌, ◌-◌, ◌<◌, ◌≤◌, ◌≢◌, ◌⊎◌, ◌==◌, if◌then◌else◌, ⊤}
use Rattle.cm_core.specs.Table.{total}
use Rattle.cm_core.specs.Turn.{Transfer, nothing, words_of}
use Rattle.cm_core.specs.State.{Place, free, out, back, State}

-- the shares that strands hold, by their numbers, of each word
abbrev pub Shares : Type 0
Shares = ℕ → ℕ → ℕ

-- this much of each word goes from one strand to another
abbrev pub shift : Shares → (giver taker : ℕ) → (what : ℕ → ℕ) → Shares
shift has giver taker what k word =
    if k == taker then has taker word + what word else (if k == giver then has giver word - what word else has k word)

-- at a spawn a strand gives what it lends, and an answer gives all that the child has; the numbers tell which it is
abbrev pub moves : (lent : Shares) → (strands : ℕ) → Transfer → Shares → Shares
moves lent strands nothing has = has
moves lent strands (words_of giver taker) has = shift has giver taker (if taker == strands then lent taker else has giver)

-- all shares of a word make the whole, and nobody who isn't there has any
pub record Whole (whole : ℕ) (strands : ℕ) (has : Shares) : Type 0 where
  pub all : (word : ℕ) → total strands (λ k. has k word) ≡ whole
  pub none : (k word : ℕ) → strands ≤ k → has k word ≡ 0

-- a strand lends no more than it has
abbrev pub Lends : (lent : Shares) → (strands : ℕ) → Transfer → Shares → Type 0
Lends lent strands nothing has = ⊤
Lends lent strands (words_of giver taker) has = taker ≡ strands → (word : ℕ) → lent taker word ≤ has giver word

-- two different strands that are there, of which the second is new or both were
abbrev pub GoesWell : (strands : ℕ) → (strands' : ℕ) → Transfer → Type 0
GoesWell strands strands' nothing = strands' ≡ strands
GoesWell strands strands' (words_of giver taker) = (giver < strands) × (taker < strands') × (giver ≢ taker) × (strands ≤ strands') × ((taker ≡ strands) ⊎ (strands' ≡ strands))

-- the child in a place was spawned by the scope's owner, and after it
abbrev pub IsLater : {Ended : Type 0} → (owner strands : ℕ) → Place Ended → Type 0
IsLater owner strands free = ⊤
IsLater owner strands (out hole child) = (owner < child) × (child < strands)
IsLater owner strands (back hole child e) = (owner < child) × (child < strands)

abbrev pub Later : {Body Ended : Type 0} → State Body Ended → Type 0
Later s = (n i : ℕ) → n < s.scopes → IsLater (s.owner n) s.strands (s.places n i)
