-- No reached piece holds a part of a word: nothing is lent for reading alone.
use Rattle.std.proofs.Common.{◌≡◌, ℕ, ◌-◌, ◌==◌, Bool, true, false, List, [], ◌∷◌, length, Option, None, Some, sym, subst, inl, inr}
use Rattle.std.specs.Prelude.{ℤ, pos, ◌&&◌, ⊤, nat_lt, nat_le, if◌then◌else◌, slice_get}
use Rattle.cm_syntax.specs.declared.stmt.Function.{Function}
use Rattle.cm_syntax.specs.declared.stmt.Program.{Program}
use Rattle.cm_syntax.specs.Trap as kind
use Rattle.cm_syntax.specs.Label.{silent, ticks, prints, spawns, traps}
use Rattle.cm_syntax.specs.Cell.{Cell, absent, unset, present, shared, lent_cell, kept_cell, unlent, to_write, ComesEarly}
use Rattle.cm_syntax.specs.Stack.{Reference, Stack, Destination, Argument, word, slice, empty_stack, write_word, clear_words, write_reference, push_frame, pop_frame, word_parameter, slice_parameter, lends, settle}
use Rattle.cm_syntax.specs.Rest.{Item, body, fall, join, end, Hand, idle, holds, returned, entering, framing, Control, control}
use Rattle.cm_syntax.specs.Step.{Move, top, rest_at_join, leave, call_bytes_in, push_call, end_call, item_step, step}
use Rattle.cm_meaning.specs.End.{End, Done, Trapped, Spent}
use Rattle.cm_meaning.specs.Piece as pieces
use Rattle.cm_meaning.specs.Piece.{awaited, told, printed, child}
use Rattle.cm_meaning.specs.Meaning.{Ask, Note, Piece, Fork, Goes, GivesBack, Reached, begun}
use Rattle.cm_meaning.specs.Leads.{Hears, Collects}
use Rattle.cm_meaning.proofs.Walk as walk
use Rattle.cm_meaning.proofs.Walk.{IsNoEnd, MoveRules, changed}
use Rattle.cm_meaning.proofs.WalkLaw.{move_law}
use Rattle.cm_strand.specs.Piece.{Answer, HasNote}
use Rattle.cm_strand.specs.Unshared.{NoPart, IsUnshared}
use Rattle.cm_strand.proofs.UnsharedLaw.{unshared_sum, unshared_settled}

-- ---- what a step makes of a stack

chosen : {A : Type 0} (b : Bool) (x y : Cell A) → NoPart x → NoPart y → NoPart (if b then x else y)
chosen true x y m n = m
chosen false x y m n = n

pub unshared_empty : IsUnshared empty_stack
unshared_empty = record { words = λ d s i. tt; references = λ d s. tt }

with_word_ : (h : Stack) (d s i : ℕ) (v : ℤ) → IsUnshared h → IsUnshared (write_word h d s i v)
with_word_ h d s i v un = record {
  words = λ e t j. chosen (e == d && (t == s && j == i)) (present v) (h.words e t j) tt (un.words e t j);
  references = un.references;
}

with_zeros : (h : Stack) (d s m : ℕ) → IsUnshared h → IsUnshared (clear_words h d s m)
with_zeros h d s m un = record {
  words = λ e t j. chosen (e == d && (t == s && nat_lt j m)) (present (pos 0)) (h.words e t j) tt (un.words e t j);
  references = un.references;
}

with_reference : (h : Stack) (d s : ℕ) (r : Reference) → IsUnshared h → IsUnshared (write_reference h d s r)
with_reference h d s r un = record {
  words = un.words;
  references = λ e t. chosen (e == d && t == s) (present r) (h.references e t) tt (un.references e t);
}

with_change : (n : ℕ) (x : walk.Change) (h : Stack) → IsUnshared h → IsUnshared (changed n x h)
with_change n walk.nothing h un = un
with_change n (walk.word d s i v) h un = with_word_ h d s i v un
with_change n (walk.zeros s m) h un = with_zeros h n s m un
with_change n (walk.parts l r x m) h un = with_reference _ n r _ (with_reference h n l _ un)

word_of_call : (ws : List Argument) (s : ℕ) → NoPart (word_parameter ws s)
word_of_call [] s = tt
word_of_call (word v ∷ ws) s = chosen (s == length ws) (present v) (word_parameter ws s) tt (word_of_call ws s)
word_of_call (slice r ∷ ws) s = word_of_call ws s

slice_of_call : (ws : List Argument) (s : ℕ) → NoPart (slice_parameter ws s)
slice_of_call [] s = tt
slice_of_call (word v ∷ ws) s = slice_of_call ws s
slice_of_call (slice r ∷ ws) s = chosen (s == length ws) (present r) (slice_parameter ws s) tt (slice_of_call ws s)

with_frame : (h : Stack) (n : ℕ) (ws : List Argument) → IsUnshared h → IsUnshared (push_frame h n ws)
with_frame h n ws un = record {
  words = λ d s i. chosen (d == n) (if i == 0 then word_parameter ws s else unset) (h.words d s i)
      (chosen (i == 0) (word_parameter ws s) unset (word_of_call ws s) tt) (un.words d s i);
  references = λ d s. chosen (d == n) (slice_parameter ws s) (h.references d s) (slice_of_call ws s) (un.references d s);
}

without_frame : (h : Stack) (n : ℕ) → IsUnshared h → IsUnshared (pop_frame h n)
without_frame h n un = record {
  words = λ d s i. chosen (d == n) absent (h.words d s i) tt (un.words d s i);
  references = λ d s. chosen (d == n) absent (h.references d s) tt (un.references d s);
}

lent_part : (b : Bool) (c : Cell ℤ) → NoPart c → NoPart (lent_cell (if b then to_write else unlent) c)
lent_part true c n = n
lent_part false c n = tt

kept_part : (b : Bool) (c : Cell ℤ) → NoPart c → NoPart (kept_cell (if b then to_write else unlent) c)
kept_part true c n = tt
kept_part false c n = n

-- the stacks that a step leads to hold no part
abbrev KeepsUnshared : Move → Type 0
KeepsUnshared (silent t g) = IsUnshared g
KeepsUnshared (ticks t g) = IsUnshared g
KeepsUnshared (prints v t g) = IsUnshared g
KeepsUnshared (spawns call lent x t g) = IsUnshared lent × IsUnshared g
KeepsUnshared _ = ⊤

module _ (program : Program) (page : ℕ) (input : List ℤ) where
  module _ (c : Control) (h : Stack) (un : IsUnshared h) where
    left : (r : Option (List Item)) → KeepsUnshared (leave c h r)
    left None = tt
    left (Some k) = un

    rules : (k : List Item) → MoveRules KeepsUnshared c h k
    rules k = record {
      none = tt;
      error = λ t. tt;
      goes = λ x y new may plain. with_change (top c.calls) x h un;
      called = λ f ws. un;
      spawns = λ f ws x may. (
        record { words = λ d s i. lent_part (lends x ws d s i) (h.words d s i) (un.words d s i); references = λ d s. tt },
        record { words = λ d s i. kept_part (lends x ws d s i) (h.words d s i) (un.words d s i); references = un.references },
      );
      ticks = λ y. un;
      prints = λ v. un;
      syncs = λ y. tt;
      leaves = left (rest_at_join k);
    }

    ended : (calls : List ℕ) (k : List Item) → KeepsUnshared (end_call program page input c h calls k)
    ended [] k = tt
    ended (f ∷ calls) k = without_frame h (length calls) un

    item_keeps : (i : Item) (k : List Item) → KeepsUnshared (item_step program page input c h i k)
    item_keeps end k = ended c.calls k
    item_keeps i k = move_law program page input KeepsUnshared c h k (rules k) i tt

    pushed : (f : ℕ) (ws : List Argument) (k : List Item) (y : Option (Function ℕ)) → KeepsUnshared (push_call program page input c h f ws k y)
    pushed f ws k None = tt
    pushed f ws k (Some y) = by (nat_le (call_bytes_in page (Some y)) c.account)
      where
        by : (b : Bool) → KeepsUnshared (if b then silent (control (f ∷ c.calls) (c.account - call_bytes_in page (Some y)) idle (body y.body ∷ fall ∷ join ∷ end ∷ k)) (push_frame h (length c.calls) ws) else traps kind.Stack)
        by true = with_frame h (length c.calls) ws un
        by false = tt

  steps : (calls : List ℕ) (account : ℕ) (y : Hand) (k : List Item) (h : Stack) → IsUnshared h → KeepsUnshared (step program page input (control calls account y k) h)
  steps calls account (entering f ws) k h un = un
  steps calls account (framing f ws) k h un = pushed (control calls account (framing f ws) k) h un f ws k (slice_get program.functions f)
  steps calls account idle [] h un = tt
  steps calls account (holds v) [] h un = tt
  steps calls account (returned v) [] h un = tt
  steps calls account idle (i ∷ k) h un = item_keeps (control calls account idle (i ∷ k)) h un i k
  steps calls account (holds v) (i ∷ k) h un = item_keeps (control calls account (holds v) (i ∷ k)) h un i k
  steps calls account (returned v) (i ∷ k) h un = item_keeps (control calls account (returned v) (i ∷ k)) h un i k

  at : (c : Control) (h : Stack) (x : Move) → step program page input c h ≡ x → IsUnshared h → KeepsUnshared x
  at c h x e un = subst KeepsUnshared e (steps c.calls c.account c.hand c.rest h un)

  -- ---- pieces

  -- what a child gave back by a value holds no part
  abbrev Unshared : Answer → Type 0
  Unshared awaited = ⊤
  Unshared (told (Done out v n) w) = IsUnshared w
  Unshared (told (Trapped out k n) w) = ⊤
  Unshared (told Spent w) = ⊤

  abbrev EachUnshared : List Note → Type 0
  EachUnshared [] = ⊤
  EachUnshared (printed v ∷ log) = EachUnshared log
  EachUnshared (child d own x joined q r ∷ log) = IsUnshared q.lent × Unshared r × EachUnshared log

  abbrev Stands : Piece → Type 0
  Stands p = IsUnshared p.held × EachUnshared p.log

  met : {d : ℕ} {log later : List Note} {h g : Stack} → Collects program page input d log h later g → IsUnshared h → EachUnshared log → IsUnshared g × EachUnshared later
  met pieces.none un all = (un, all)
  met (pieces.past j) un all = met j un all
  met (pieces.before j) un all = let x = met j un all.2 in (x.0, (all.0, all.1, x.1))
  met (pieces.other ne j) un all = let x = met j un all.2 in (x.0, (all.0, all.1, x.1))
  met (pieces.taken {x = x} {v = v} {w = w} {h = h} {i = i} s j) un all =
      let y = met j (unshared_sum h (settle x v w) i s un (unshared_settled x v w all.1)) all.2 in (y.0, (all.0, all.1, y.1))

  -- of what holds no part nothing comes back early
  early : {A : Type 0} (back rest given : Cell A) → ComesEarly back rest given → NoPart given → NoPart back × NoPart rest
  early back rest given (inl (none, same)) n = (subst NoPart (sym none) tt, subst NoPart (sym same) n)
  early back rest unset (inr (read, whole, same, none)) n = (subst NoPart (sym same) tt, subst NoPart (sym none) tt)
  early back rest absent (inr (read, whole, same, none)) n = (subst NoPart (sym same) tt, subst NoPart (sym none) tt)
  early back rest (present v) (inr (read, whole, same, none)) n = (subst NoPart (sym same) tt, subst NoPart (sym none) tt)
  early back rest (shared p v) (inr e) n = absurd n

  returned_back : {log later : List Note} {h g : Stack} → GivesBack program page input log h later g → IsUnshared h → EachUnshared log → IsUnshared g × EachUnshared later
  returned_back (pieces.GivesBack.this {given = given} {back = back} {rest = rest} {h = h} {g = g} y z) un all = (
    unshared_sum h back g z un (record {
      words = λ d s i. (early (back.words d s i) (rest.words d s i) (given.words d s i) (y.words d s i) (all.1.words d s i)).0;
      references = λ d s. subst NoPart (sym (y.references d s).0) tt;
    }),
    (
      all.0,
      record {
        words = λ d s i. (early (back.words d s i) (rest.words d s i) (given.words d s i) (y.words d s i) (all.1.words d s i)).1;
        references = λ d s. subst NoPart (sym (y.references d s).1) (all.1.references d s);
      },
      all.2,
    ),
  )
  returned_back (pieces.GivesBack.deeper {n = printed v} y) un all = returned_back y un all
  returned_back (pieces.GivesBack.deeper {n = child d own x joined q r} y) un all = let x = returned_back y un all.2 in (x.0, (all.0, all.1, x.1))

  mutual
    goes_on : {p q : Piece} → Goes program page input p q → Stands p → Stands q
    goes_on (pieces.silently {c = c} {h = h} e) s = (at c h _ e s.0, s.1)
    goes_on (pieces.ticking {c = c} {h = h} e k l) s = (at c h _ e s.0, s.1)
    goes_on (pieces.showing {c = c} {h = h} e) s = (at c h _ e s.0, s.1)
    goes_on (pieces.joining e j k l) s = met j s.0 s.1
    goes_on (pieces.parting {c = c} {h = h} e k) s = let y = at c h _ e s.0 in (y.1, (y.0, tt, s.1))
    goes_on (pieces.hearing y) s = (s.0, heard y s.1)
    goes_on (pieces.returning y) s = returned_back y s.0 s.1

    heard : {log later : List Note} → Hears program page input log later → EachUnshared log → EachUnshared later
    heard (pieces.Hears.this {e = e} f) all = (all.0, forked e f (all.0, tt), all.2)
    heard (pieces.Hears.deeper {n = printed v} y) all = heard y all
    heard (pieces.Hears.deeper {n = child d own x joined q r} y) all = (all.0, all.1, heard y all.2)

    forked : {p : Piece} (e : End) {w : Stack} → Fork program page input p e w → Stands p → Unshared (told e w)
    forked (Done out v n) (pieces.Fork.stops a b d g) s = subst IsUnshared (sym g) s.0
    forked (Done out v n) (pieces.Fork.goes r f) s = forked (Done out v n) f (goes_on r s)
    forked (Trapped out k n) f s = tt
    forked Spent f s = tt

  reached_stands : (ask : Ask) → IsUnshared ask.lent → (p : Piece) → Reached program page input (begun ask) p → Stands p
  reached_stands ask un _ pieces.itself = (un, tt)
  reached_stands ask un _ (pieces.Reached.then {p = p} r g) = goes_on g (reached_stands ask un p r)
  reached_stands ask un _ (pieces.its_child {p = p} r n) = (asked n (reached_stands ask un p r).1, tt)
    where
      asked : {log : List Note} {d own : ℕ} {x : Destination} {joined : Bool} {q : Ask} {r : Answer} → HasNote log (child d own x joined q r) → EachUnshared log → IsUnshared q.lent
      asked pieces.HasNote.here all = all.0
      asked (pieces.HasNote.deeper {m = printed v} n) all = asked n all
      asked (pieces.HasNote.deeper {m = child d own x joined q r} n) all = asked n all.2

  pub reached_unshared : (ask : Ask) → IsUnshared ask.lent → (p : Piece) → Reached program page input (begun ask) p → IsUnshared p.held
  reached_unshared ask un p r = (reached_stands ask un p r).0

  back : {log : List Note} {d own : ℕ} {x : Destination} {joined : Bool} {q : Ask} {out : List ℤ} {v : Option ℤ} {n : ℕ} {w : Stack} → HasNote log (child d own x joined q (told (Done out v n) w)) → EachUnshared log → IsUnshared w
  back pieces.HasNote.here all = all.1
  back (pieces.HasNote.deeper {m = printed v} n) all = back n all
  back (pieces.HasNote.deeper {m = child d own x joined q r} n) all = back n all.2

  pub reached_back : (ask : Ask) → IsUnshared ask.lent → (p : Piece) (d own : ℕ) (x : Destination) (joined : Bool) (q : Ask) (out : List ℤ) (v : Option ℤ) (n : ℕ) (w : Stack)
      → Reached program page input (begun ask) p → HasNote p.log (child d own x joined q (told (Done out v n) w)) → IsUnshared w
  reached_back ask un p d own x joined q out v n w r note = back note (reached_stands ask un p r).1
