use Rattle.std.proofs.Common.{sym, ap, ◌∙◌}
use Rattle.std.specs.Prelude.{map}
use Rattle.std.proofs.lemmas.List.{take_all}
use Rattle.cm_syntax.specs.declared.expr.Arg.TheVariants as argument
use Rattle.cm_syntax.specs.Resolution as resolution
use Rattle.cm_names.specs.Finding.{after_uses}
use Rattle.cm_names.specs.Argument.{uses_of_arguments}
use Rattle.cm_names.proofs.ExpressionLaw.{resolved-Index, resolved-Input, resolved-Unary, resolved-Binary, found-Index, found-Input, found-Unary, found-Binary, plain, resolves-more, resolved-Call, found-Call}
use Rattle.cm_names.proofs.expression.Resolver.+expression.Goals as goal

pub expression-returns-in_ok-index-in-Index : goal.expression-returns-in_ok-index-in-Index
expression-returns-in_ok-index-in-Index t c = record {
  resolved = λ visible shows. resolved-Index c.args.self.now.functions.now visible _ _ _ _ _ _ c.in-Index.is c.get.ensures
      (c.mention-name-in-Index.ensures.resolved visible shows) (c.in_ok-index-in-Index.ensures.resolved visible shows);
  found = λ visible shows. found-Index c.args.self.now.functions.now c.args.self.now.function.now visible _ _ _ _ _ _ _ c.in-Index.is c.get.ensures
      (c.mention-name-in-Index.ensures.found visible shows) (c.in_ok-index-in-Index.ensures.found visible shows);
}

pub expression-returns-in_ok-index-in-Input : goal.expression-returns-in_ok-index-in-Input
expression-returns-in_ok-index-in-Input t c = record {
  resolved = λ visible shows. resolved-Input c.args.self.now.functions.now visible _ _ _ _ c.in-Input.is c.get-in-Input.ensures (c.in_ok-index-in-Input.ensures.resolved visible shows);
  found = λ visible shows. found-Input c.args.self.now.functions.now c.args.self.now.function.now visible _ _ _ _ _ c.in-Input.is c.get-in-Input.ensures (c.in_ok-index-in-Input.ensures.found visible shows);
}

pub expression-returns-in_ok-operand-in-Unary : goal.expression-returns-in_ok-operand-in-Unary
expression-returns-in_ok-operand-in-Unary t c = record {
  resolved = λ visible shows. resolved-Unary c.args.self.now.functions.now visible _ _ _ _ _ c.in-Unary.is c.get-in-Unary.ensures (c.in_ok-operand-in-Unary.ensures.resolved visible shows);
  found = λ visible shows. found-Unary c.args.self.now.functions.now c.args.self.now.function.now visible _ _ _ _ _ _ c.in-Unary.is c.get-in-Unary.ensures (c.in_ok-operand-in-Unary.ensures.found visible shows);
}

pub expression-returns-in_ok-right-in-Binary : goal.expression-returns-in_ok-right-in-Binary
expression-returns-in_ok-right-in-Binary t c = record {
  resolved = λ visible shows. resolved-Binary c.args.self.now.functions.now visible _ _ _ _ _ _ _ _ c.in-Binary.is c.get-in-Binary.ensures c.get-in-Binary-2.ensures
      (c.in_ok-left-in-Binary.ensures.resolved visible shows) (c.in_ok-right-in-Binary.ensures.resolved visible shows);
  found = λ visible shows. found-Binary c.args.self.now.functions.now c.args.self.now.function.now visible _ _ _ _ _ _ _ _ _ c.in-Binary.is c.get-in-Binary.ensures c.get-in-Binary-2.ensures
      (c.in_ok-left-in-Binary.ensures.found visible shows) (c.in_ok-right-in-Binary.ensures.found visible shows);
}

pub call-returns : goal.call-returns
call-returns t c = record {
  resolved = λ visible shows. resolved-Call visible c.args.self.now.functions.now c.args.call.now c.items.result.now _ _ c.items.ensures
      c.function_mark.ensures (c.in_ok-arguments.ensures.resolved visible shows);
  found = λ visible shows. found-Call visible c.args.self.now.functions.now c.args.self.now.function.now c.args.call.now c.args.wanted c.items.result.now _ _ _ c.items.ensures
      (c.note_call.ensures visible shows) (c.in_ok-arguments.ensures.found visible shows);
}

pub arguments-loop-argument-preserved : goal.arguments-loop-argument-preserved
arguments-loop-argument-preserved t c =
    resolves-more c.args.self.now.functions.now c.args.self.now.function.now c.args.variables.now c.args.arguments.now c.loop-argument.argument-index c.argument-item.result
    c.loop-argument.resolved _ c.in_ok-argument.argument c.args.found.now c.loop-argument.found _ c.loop-argument-test.true c.argument-item.is c.loop-argument.invariant
    c.in_ok-argument.ensures.resolved c.in_ok-argument.ensures.found c.in_ok-push.ensures.ok

pub arguments-returns : goal.arguments-returns
arguments-returns t c =
    let whole = take_all c.loop-argument.argument-index c.args.arguments.now c.loop-argument-test.false in
    record {
      resolved = λ visible shows. c.loop-argument.invariant.made visible shows ∙ ap (map (resolution.resolve_argument c.args.self.now.functions.now visible)) whole;
      found = λ visible shows. c.loop-argument.invariant.found visible shows ∙
          ap (λ xs. after_uses c.args.self.now.functions.now c.args.self.now.function.now c.args.found.now (uses_of_arguments visible xs)) whole;
    }

pub argument-returns-in_ok-expression-in-None : goal.argument-returns-in_ok-expression-in-None
argument-returns-in_ok-expression-in-None t c = record {
  resolved = λ visible shows.
      ap argument.Value (c.in_ok-expression-in-None.ensures.resolved visible shows) ∙
      (sym (plain c.args.self.now.functions.now visible c.in-Value.value c.in-None.ensures).resolved ∙
      ap (resolution.resolve_argument c.args.self.now.functions.now visible) (sym c.in-Value.is));
  found = λ visible shows.
      c.in_ok-expression-in-None.ensures.found visible shows ∙
      ap (after_uses c.args.self.now.functions.now c.args.self.now.function.now c.args.found.now)
      (sym (plain c.args.self.now.functions.now visible c.in-Value.value c.in-None.ensures).uses ∙ ap (resolution.argument_uses visible) (sym c.in-Value.is));
}
