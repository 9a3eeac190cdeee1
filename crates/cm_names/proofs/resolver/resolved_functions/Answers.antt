use Rattle.std.proofs.Common.{◌≡◌, ◌++◌, take, ap, ◌∙◌, subst, arith}
use Rattle.std.specs.Prelude.{option_map}
use Rattle.cm_syntax.specs.Resolution.{resolve_function}
use Rattle.cm_syntax.specs.Fault.{function_faults}
use Rattle.cm_names.specs.Finding.{IsLeast, fault_of}
use Rattle.cm_names.proofs.ResolverLaw.{resolved-more}
use Rattle.cm_names.proofs.resolver.resolved_functions.Goals as goal

pub loop-index-preserved : goal.loop-index-preserved
loop-index-preserved c =
    let functions = c.args.functions.now in
    let f = c.function-item.result in
    let next = c.in_ok-next.next in
    let lt = rw c.items-function-items.ensures at c.loop-index-test.true in
    let here = rw c.items-function-items.ensures at c.function-item.is in
    let same : c.in-Ok.number ≡ c.loop-index.index = omega arith in
    resolved-more functions c.loop-index.index f c.loop-index.resolved _ next.function c.loop-index.least next.least lt here c.loop-index.invariant
    (c.in_ok-next.ensures.function ∙ ap (λ n. resolve_function functions n f) same)
    (λ earlier is. subst (λ n. IsLeast (option_map fault_of next.least) (earlier ++ function_faults functions (take n functions) n f)) same (c.in_ok-next.ensures.least earlier is))
    c.in_ok-push.ensures.ok
