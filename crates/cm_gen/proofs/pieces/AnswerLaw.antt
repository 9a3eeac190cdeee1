-- The children of a piece's log: each comes from a spawn at a formed state, and what it answers is made of words.
use Rattle.std.proofs.Common.{ℕ, List, [], ◌∷◌, Option, None, Some, sym, subst}
use Rattle.std.specs.Prelude.{Bool, true, false, ◌==◌, ◌&&◌, if◌then◌else◌, ℤ, ⊤, FitsSigned}
use Rattle.std.specs.Int.{w32}
use Rattle.cm_share.specs.Share.{Share, whole, part}
use Rattle.cm_syntax.specs.declared.stmt.Program.{Program}
use Rattle.cm_syntax.specs.Cell.{Cell, absent, unset, present, shared, with_share, settle_cell, CellSum}
use Rattle.cm_syntax.specs.Stack.{Stack, Destination, StackSum, SharesBack, settle}
use Rattle.cm_syntax.specs.Rest.{Control}
use Rattle.cm_syntax.specs.Step.{depth, step}
use Rattle.cm_meaning.specs.End.{End, Done, Trapped, Spent}
use Rattle.cm_meaning.specs.Piece.{Answer, awaited, told, printed, child, HasNote, here, Collects, none, past, before, other, taken, Hears, this, deeper}
use Rattle.cm_meaning.specs.Meaning.{Ask, Note, Fork, GivesBack, begun}
use Rattle.cm_meaning.proofs.SumLaw.{comm, back_sum}
use Rattle.cm_gen.specs.Formed.{Runs}
use Rattle.cm_gen.specs.Spawn.{ComesFromSpawn}
use Rattle.cm_gen.proofs.states.PartLaw.{CellFits, present_fits, StackFits, part_of_sum, part_fits}
use Rattle.cm_gen.proofs.pieces.SpawnLaw.{child_ends, value_fits}

-- ---- words

sum_fits : (a b c : Cell ℤ) → CellSum a b c → CellFits a → CellFits b → CellFits c
sum_fits absent b c s f g = subst CellFits (sym s) g
sum_fits unset absent c s f g = subst CellFits (sym s) f
sum_fits unset unset c s f g = absurd s
sum_fits unset (present w) c s f g = absurd s
sum_fits unset (shared q w) c s f g = absurd s
sum_fits (present v) absent c s f g = subst CellFits (sym s) f
sum_fits (present v) unset c s f g = absurd s
sum_fits (present v) (present w) c s f g = absurd s
sum_fits (present v) (shared q w) c s f g = absurd s
sum_fits (shared p v) absent c s f g = subst CellFits (sym s) f
sum_fits (shared p v) unset c s f g = absurd s
sum_fits (shared p v) (present w) c s f g = absurd s
sum_fits (shared p v) (shared q w) c s f g = subst CellFits (sym s.3) (by s.1)
  where
    by : (r : Share) → CellFits (with_share r v)
    by whole = f
    by (part t) = f

joined_stack : {a b c : Stack} → StackSum a b c → StackFits a → StackFits b → StackFits c
joined_stack {a = a} {b = b} {c = c} s f g d t i = sum_fits (a.words d t i) (b.words d t i) (c.words d t i) (s.words d t i) (f d t i) (g d t i)

settled_cell : (q : Bool) (c : Cell ℤ) (v : ℤ) → FitsSigned w32 v → CellFits c → CellFits (if q then settle_cell c v else c)
settled_cell false c v f g = g
settled_cell true absent v f g = g
settled_cell true unset v f g = present_fits v f
settled_cell true (present w) v f g = present_fits v f
settled_cell true (shared p w) v f g = g

-- a value that may be there is a word
abbrev ValueFits : Option ℤ → Type 0
ValueFits None = ⊤
ValueFits (Some v) = FitsSigned w32 v

settled_stack : (x : Destination) (v : Option ℤ) (w : Stack) → ValueFits v → StackFits w → StackFits (settle x v w)
settled_stack None v w f g = g
settled_stack (Some x) None w f g = g
settled_stack (Some x) (Some v) w f g = λ d s i. settled_cell (d == x.depth && (s == x.slot && i == 0)) (w.words d s i) v f (g d s i)

-- ---- logs

-- the words and the value of an answer are words
abbrev AnswerFits : Answer Control Stack Destination → Type 0
AnswerFits awaited = ⊤
AnswerFits (told (Done out v n) w) = StackFits w × ValueFits v
AnswerFits (told (Trapped out k n) w) = ⊤
AnswerFits (told Spent w) = ⊤

abbrev Log : Type 0
Log = List Note

module _ (program : Program) (page limit : ℕ) (input : List ℤ) (runs : Runs program page limit input) where
  -- what is known of the children of a log
  abbrev pub Children : Log → Type 0
  Children [] = ⊤
  Children (printed v ∷ log) = Children log
  Children (child d o x j q r ∷ log) = ComesFromSpawn program page limit input d x q × AnswerFits r × Children log

  pub note_child : {log : Log} {d o : ℕ} {x : Destination} {j : Bool} {q : Ask} {r : Answer Control Stack Destination} → HasNote Control Stack Destination log (child d o x j q r) → Children log → ComesFromSpawn program page limit input d x q
  note_child here k = k.0
  note_child (deeper {m = printed v} a) k = note_child a k
  note_child (deeper {m = child d o x j q r} a) k = note_child a k.2

  answer_fits : {d : ℕ} {x : Destination} {q : Ask} → ComesFromSpawn program page limit input d x q → (e : End) (w : Stack) → Fork program page input (begun q) e w → AnswerFits (told e w)
  answer_fits s (Done out None n) w f = ((child_ends program page limit input runs s f).formed.small, tt)
  answer_fits s (Done out (Some u) n) w f = let e = child_ends program page limit input runs s f in (e.formed.small, value_fits program page limit input runs s e)
  answer_fits s (Trapped out k n) w f = tt
  answer_fits s Spent w f = tt

  -- an answer comes
  pub heard : {log later : Log} → Hears Control Stack Destination StackSum SharesBack settle depth (step program page input) log later → Children log → Children later
  heard (this {e = e} {w = w} f) k = (k.0, answer_fits k.0 e w f, k.2)
  heard (deeper {n = printed v} a) k = heard a k
  heard (deeper {n = child d o x j q r} a) k = (k.0, k.1, heard a k.2)

  -- the words behind a join
  pub joined_words : {d : ℕ} {log later : Log} {h g : Stack} → Collects Control Stack Destination StackSum SharesBack settle depth (step program page input) d log h later g
      → Children log → StackFits h → StackFits g × Children later
  joined_words none k f = (f, tt)
  joined_words (past j) k f = joined_words j k f
  joined_words (before j) k f = let r = joined_words j k.2 f in (r.0, (k.0, k.1, r.1))
  joined_words (other ne j) k f = let r = joined_words j k.2 f in (r.0, (k.0, k.1, r.1))
  joined_words (taken {x = x} {v = v} {w = w} s j) k f = let r = joined_words j k.2 (joined_stack s f (settled_stack x v w k.1.1 k.1.0)) in (r.0, (k.0, k.1, r.1))

  -- and where a share came back early
  pub back_words : {log later : Log} {h g : Stack} → GivesBack program page input log h later g → Children log → StackFits h → StackFits g × Children later
  back_words (this {given = given} {back = back} {rest = rest} y s) k f =
      let p = back_sum y in
      (joined_stack s f (part_fits back given (part_of_sum back rest given p) k.1.0), (k.0, (part_fits rest given (part_of_sum rest back given (comm p)) k.1.0, k.1.1), k.2))
  back_words (deeper {n = printed v} y) k f = back_words y k f
  back_words (deeper {n = child d o x j q r} y) k f = let i = back_words y k.2 f in (i.0, (k.0, k.1, i.1))
