-- What is owned of the words of a memory, and of how much of them an account is to be given: of each word nothing, or a share of it.
-- With any share a word may be read, and with the whole of it written. Owned words come together where their shares are apart.
use Rattle.std.specs.Prelude.{◌≡◌, ℕ, ◌%◌, ◌≤◌, ◌<◌, ◌==◌, if◌then◌else◌, Option, None, Some}
use Rattle.cm_share.specs.Share.{Share, whole, part, ShareSum}
use Rattle.cm_isa.specs.Machine.{Mapped, Stored, unmapped, writable, read_only}

-- ---- of one word

-- what is owned of a word: nothing, or a share of it with the word
pub data Held : Type 0 where
  nothing : Held
  held : Share → (word : ℕ) → Held

-- the share
abbrev pub share_of : Held → Option Share
share_of nothing = None
share_of (held q w) = Some q

-- what a machine has of it: of which the whole is owned may be written, of which a part is may be read
abbrev pub stored : Held → Stored
stored nothing = unmapped
stored (held whole w) = writable w
stored (held (part p) w) = read_only w

-- another word is put there, where some share is owned
abbrev pub with_value : Held → (word : ℕ) → Held
with_value nothing v = nothing
with_value (held q w) v = held q v

-- At most one is owned, and the third is that one; or both are of one word, with shares that are apart, and the third has both.
abbrev pub HeldSum : (a b c : Held) → Type 0
HeldSum nothing b c = c ≡ b
HeldSum (held q v) nothing c = c ≡ held q v
HeldSum (held q v) (held p w) c = (w ≡ v) × (r : Share) × ShareSum q p r × (c ≡ held r v)

-- the same of shares alone
abbrev pub PartSum : (a b c : Option Share) → Type 0
PartSum None b c = c ≡ b
PartSum (Some q) None c = c ≡ Some q
PartSum (Some q) (Some p) c = (r : Share) × ShareSum q p r × (c ≡ Some r)

-- ---- of all words, by their addresses

-- the words that are owned
unfoldable pub Owned : Type 0
Owned = ℕ → Held

-- which words, and how much of each; of what is in them nothing is said
unfoldable pub Claim : Type 0
Claim = ℕ → Option Share

-- what a machine can see of owned words
unfoldable pub seen : Owned → Mapped
unfolding Owned
seen w a = stored (w a)

-- the claim on owned words
unfoldable pub claim : Owned → Claim
unfolding Owned Claim
claim w a = share_of (w a)

-- no word
unfoldable pub no_words : Owned
unfolding Owned
no_words a = nothing

-- no claim
unfoldable pub no_claim : Claim
unfolding Claim
no_claim a = None

-- two parts of owned words together are the third
unfoldable pub OwnedSum : (a b c : Owned) → Type 0
unfolding Owned
OwnedSum a b c = (address : ℕ) → HeldSum (a address) (b address) (c address)

-- the same of claims
unfoldable pub ClaimSum : (a b c : Claim) → Type 0
unfolding Claim
ClaimSum a b c = (address : ℕ) → PartSum (a address) (b address) (c address)

-- the whole of the word at this address is claimed, so it may be written
unfoldable pub MayWrite : Claim → (address : ℕ) → Type 0
unfolding Claim
MayWrite c a = c a ≡ Some whole

-- a word is written
unfoldable pub put : Owned → (address word : ℕ) → Owned
unfolding Owned
put w a v x = if x == a then with_value (w x) v else w x

-- nothing of the word at this address is claimed
unfoldable pub Lacks : Claim → (address : ℕ) → Type 0
unfolding Claim
Lacks c a = c a ≡ None

-- of each word between two addresses the whole is claimed
abbrev pub Covers : Claim → (from to : ℕ) → Type 0
Covers c from to = (a : ℕ) → a % 4 ≡ 0 → from ≤ a → a < to → MayWrite c a

-- of none of them anything is claimed
abbrev pub Spares : Claim → (from to : ℕ) → Type 0
Spares c from to = (a : ℕ) → a % 4 ≡ 0 → from ≤ a → a < to → Lacks c a
