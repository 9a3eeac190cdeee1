-- Steps that read and write a cell: what holds of such a move, whatever the cell is. A law that goes by moves names no case of
-- a cell: it says what holds where the cell has a value, or where it may be written.
use Rattle.std.proofs.Common.{◌≡◌, Some, refl}
use Rattle.std.specs.Prelude.{true}
use Rattle.cm_syntax.specs.Label.{stuck}
use Rattle.cm_syntax.specs.Cell.{Cell, absent, unset, present, shared, value_in, may_write, to_read, lent_cell}
use Rattle.cm_syntax.specs.Step.{Move, when_readable, when_writable}

-- what holds of two stuck moves, and of what comes with the cell's value, holds of the two moves that read it
pub both_read : {A : Type 0} (P : Move → Move → Type 0) → P stuck stuck → (c : Cell A) (f g : A → Move) → ((v : A) → value_in c ≡ Some v → P (f v) (g v)) → P (when_readable c f) (when_readable c g)
both_read P s absent f g go = s
both_read P s unset f g go = s
both_read P s (present v) f g go = go v refl
both_read P s (shared p v) f g go = go v refl

-- and where the cell may be written, of the two that write it
pub both_write : {A : Type 0} (P : Move → Move → Type 0) → P stuck stuck → (c : Cell A) (f g : Move) → (may_write c ≡ true → P f g) → P (when_writable c f) (when_writable c g)
both_write P s absent f g go = s
both_write P s unset f g go = go refl
both_write P s (present v) f g go = go refl
both_write P s (shared p v) f g go = s

-- the same of one move
pub reading : {A : Type 0} (P : Move → Type 0) → P stuck → (c : Cell A) (f : A → Move) → ((v : A) → value_in c ≡ Some v → P (f v)) → P (when_readable c f)
reading P s c f go = both_read (λ m n. P m) s c f f go

pub writing : {A : Type 0} (P : Move → Type 0) → P stuck → (c : Cell A) (move : Move) → (may_write c ≡ true → P move) → P (when_writable c move)
writing P s c move go = both_write (λ m n. P m) s c move move go

-- a cell with a value is read, and one that may be written is written
pub reads_value : {A : Type 0} (c : Cell A) (v : A) (goes_on : A → Move) → value_in c ≡ Some v → when_readable c goes_on ≡ goes_on v
reads_value absent v goes_on e = cc e
reads_value unset v goes_on e = cc e
reads_value (present w) v goes_on e = cc e
reads_value (shared p w) v goes_on e = cc e

pub writes_on : {A : Type 0} (c : Cell A) (move : Move) → may_write c ≡ true → when_writable c move ≡ move
writes_on absent move e = cc e
writes_on unset move e = refl
writes_on (present v) move e = refl
writes_on (shared p v) move e = cc e

-- of what is lent for reading nothing may be written
pub writes_no_loan : {A : Type 0} (c : Cell A) (move : Move) → when_writable (lent_cell to_read c) move ≡ stuck
writes_no_loan absent move = refl
writes_no_loan unset move = refl
writes_no_loan (present v) move = refl
writes_no_loan (shared p v) move = refl
