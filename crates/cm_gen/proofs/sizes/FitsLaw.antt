-- An expression whose temporaries are within a frame and whose calls have few words of arguments fits.
use Rattle.std.proofs.Common.{◌≡◌, ℕ, ◌+◌, ◌≤◌, subst, arith, sym}
use Rattle.cm_syntax.specs.declared.expr.Op.TheVariants as op
use Rattle.cm_syntax.specs.declared.expr.Expr.{Expr}
use Rattle.cm_syntax.specs.declared.expr.Expr.TheVariants as expression
use Rattle.cm_syntax.specs.declared.expr.Arg.{Arg}
use Rattle.cm_syntax.specs.declared.expr.Arg.TheVariants as argument
use Rattle.cm_syntax.specs.declared.expr.Call.{Row_of-Arg, end_of-Arg, more_of-Arg}
use Rattle.cm_syntax.specs.Shape.{Joined, Prefixed, Element, InputAt}
use Rattle.cm_syntax.specs.Frame.{temporaries, arguments_temporaries, argument_temporaries, arguments_words, argument_words}
use Rattle.cm_syntax.specs.Limit.{max_frame_words}
use Rattle.cm_gen.specs.Fits.{max_argument_words, Fits, RowFits, ArgumentFits, HasShortCalls, RowHasShortCalls, ArgumentHasShortCalls}

mutual
  pub fits : (e : Expr ℕ) (d : ℕ) → HasShortCalls e → temporaries e d ≤ max_frame_words → Fits e d
  fits (expression.Number n) d short le = tt
  fits (expression.Scalar x) d short le = tt
  fits (Element a index) d short le = fits index d short le
  fits (expression.Len a) d short le = tt
  fits (InputAt index) d short le = fits index d short le
  fits expression.Inputs d short le = tt
  fits (Prefixed o e) d short le = fits e d short le
  fits (Joined op.Both l r) d short le = (fits l d short.0 (omega (arith, le)), fits r d short.1 (omega (arith, le)))
  fits (Joined op.Either l r) d short le = (fits l d short.0 (omega (arith, le)), fits r d short.1 (omega (arith, le)))
  fits (Joined _ l r) d short le = (fits l d short.0 (omega (arith, le)), omega (arith, le), fits r (d + 1) short.1 (omega (arith, le)))
  fits (expression.Call' f _ row) d short le =
      let here : d + 0 ≡ d = omega arith in
      row_fits row d 0 short.1 (subst (λ n. arguments_temporaries row n ≤ max_frame_words) (sym here) (omega (arith, le))) (omega (arith, le)) (omega (arith, short.0))

  row_fits : {n : _} (row : Row_of-Arg ℕ n) (d w : ℕ) → RowHasShortCalls row → arguments_temporaries row (d + w) ≤ max_frame_words
      → d + w + arguments_words row ≤ max_frame_words → w + arguments_words row ≤ max_argument_words → RowFits row d w
  row_fits end_of-Arg d w short le room few = (omega (arith, room), omega (arith, few))
  row_fits (more_of-Arg first more) d w short le room few =
      let place : d + w + argument_words first ≡ d + (w + argument_words first) = omega arith in (
        argument_fits first (d + w) short.0 (omega (arith, le)) (omega (arith, room)),
        row_fits more d (w + argument_words first) short.1 (subst (λ n. arguments_temporaries more n ≤ max_frame_words) place (omega (arith, le))) (omega (arith, room)) (omega (arith, few)),
      )

  argument_fits : (a : Arg ℕ) (j : ℕ) → ArgumentHasShortCalls a → argument_temporaries a j ≤ max_frame_words → j + argument_words a ≤ max_frame_words → ArgumentFits a j
  argument_fits (argument.Value e) j short le room = (fits e j short le, omega (arith, room))
  argument_fits (argument.Slice a) j short le room = omega (arith, room)
  argument_fits (argument.Address x) j short le room = omega (arith, room)
