-- Each piece that the rules lead to is formed, and so were its children at their spawns.
use Rattle.std.proofs.Common.{◌≡◌, ℕ, ◌-◌, ◌+◌, ◌*◌, List, refl, subst}
use Rattle.std.specs.Prelude.{Bool, true, ℤ}
use Rattle.cm_syntax.specs.declared.stmt.Program.{Program}
use Rattle.cm_syntax.specs.Lending.{IsAccepted}
use Rattle.cm_syntax.specs.Stack.{Stack, Destination}
use Rattle.cm_syntax.specs.Rest.{Control}
use Rattle.cm_syntax.specs.Step.{Move, step}
use Rattle.cm_meaning.specs.Piece.{Answer, child, HasNote, silently, ticking, showing, joining, parting, hearing, returning, itself, then, its_child}
use Rattle.cm_meaning.specs.Meaning.{Ask, Piece, Limits, Goes, Reached, begun, main_ask}
use Rattle.cm_meaning.specs.TypedState.{TypedState}
use Rattle.cm_meaning.proofs.SumLaw.{assoc}
use Rattle.cm_meaning.proofs.GuardPieceLaw as guard
use Rattle.cm_meaning.proofs.CheckedLaw.{Fine, reached_fine}
use Rattle.cm_gen.specs.Formed.{Runs, Within, alone, before, within, Formed, KeepsFormed}
use Rattle.cm_gen.specs.Spawn.{ComesFromSpawn}
use Rattle.cm_gen.proofs.states.FormedLaw.{step_keeps, start_formed}
use Rattle.cm_gen.proofs.states.PartLaw.{StackFits, part_of_sum}
use Rattle.cm_gen.proofs.pieces.SpawnLaw.{spawned}
use Rattle.cm_gen.proofs.pieces.AnswerLaw.{Children, note_child, heard, joined_words, back_words}

-- where a piece stands in the whole, as the context of its state
abbrev context : guard.Around → Within
context guard.alone = alone
context (guard.called_by x k) = before x k

put_within : (a : guard.Around) (c : Control) → guard.put a c ≡ within (context a) c
put_within guard.alone c = refl
put_within (guard.called_by x k) c = refl

module _ (program : Program) (input : List ℤ) (limits : Limits) (runs : Runs program limits.page (limits.stack * limits.page) input) (accepted : IsAccepted program) where
  abbrev limit : ℕ
  limit = limits.stack * limits.page

  -- what is known of a piece
  abbrev Known : Piece → Type 0
  Known p = Formed program limits.page limit p.control p.held × Children program limits.page limit input runs p.log

  abbrev FinePiece : Piece → Type 0
  FinePiece = Fine program input limits runs.sound accepted

  -- with other words, which make a typed state with what children hold and what is outside
  placed : (p : Piece) (h : Stack) → FinePiece p → Formed program limits.page limit p.control h → StackFits p.held → Formed program limits.page limit p.control p.held
  placed p h o x small =
      let z = assoc o.inner o.sum in
      record {
        gives = true;
        context = context o.around;
        whole = o.whole;
        typed = subst (λ c. TypedState program true c o.whole) (put_within o.around p.control) o.typed_;
        is_part = part_of_sum p.held z.0 o.whole z.2;
        settled = o.settled;
        small = small;
        words = x.words;
        balance = x.balance;
        fits = x.fits;
        hand_fits = x.hand_fits;
      }

  -- the states that a step leads to
  steps_to : {c : Control} {h : Stack} {m : Move} → step program limits.page input c h ≡ m → Formed program limits.page limit c h → KeepsFormed program limits.page limit h m
  steps_to {c = c} {h = h} e x = subst (KeepsFormed program limits.page limit h) e (step_keeps program limits.page limit input runs c h x)

  goes_known : {p q : Piece} → Known p → FinePiece q → Goes program limits.page input p q → Known q
  goes_known k o (silently e) = (steps_to e k.0, k.1)
  goes_known k o (ticking e m l) = (steps_to e k.0, k.1)
  goes_known k o (showing e) = (steps_to e k.0, k.1)
  goes_known {q = q} k o (joining {h = h} e j m l) = let r = joined_words program limits.page limit input runs j k.1 k.0.small in (placed q h o (steps_to e k.0) r.0, r.1)
  goes_known k o (parting {start = start} {own = own} {m = m} e l) = ((steps_to e k.0).1, (spawned program limits.page limit input runs k.0 e (start - (own + m)), tt, k.1))
  goes_known k o (hearing a) = (k.0, heard program limits.page limit input runs a k.1)
  goes_known {q = q} k o (returning {h = h} y) = let r = back_words program limits.page limit input runs y k.1 k.0.small in (placed q h o k.0 r.0, r.1)

  reached_known : (p : Piece) → Reached program limits.page input (begun (main_ask program limits)) p → Known p
  reached_known _ itself = (start_formed program limits.page limit input runs, tt)
  reached_known _ (then {p = p} {q = q} r g) = goes_known (reached_known p r) (reached_fine program input limits runs.sound accepted q (then r g)) g
  reached_known _ (its_child {p = p} r n) = ((note_child program limits.page limit input runs n (reached_known p r).1).child, tt)

  pub reached_formed : (p : Piece) → Reached program limits.page input (begun (main_ask program limits)) p → Formed program limits.page limit p.control p.held
  reached_formed p r = (reached_known p r).0

  pub reached_child : (p : Piece) {d own : ℕ} {x : Destination} {joined : Bool} {ask : Ask} {r : Answer Control Stack Destination} → Reached program limits.page input (begun (main_ask program limits)) p
      → HasNote Control Stack Destination p.log (child d own x joined ask r) → ComesFromSpawn program limits.page limit input d x ask
  reached_child p r n = note_child program limits.page limit input runs n (reached_known p r).1
