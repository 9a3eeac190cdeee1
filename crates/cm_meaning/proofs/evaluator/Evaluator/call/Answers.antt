use Rattle.std.proofs.Common.{◌-◌, length, take, drop, refl, ap, ◌∙◌}
use Rattle.std.specs.Prelude.{slice_get}
use Rattle.std.proofs.lemmas.Option.{get_or_from_slice_get}
use Rattle.cm_meaning.proofs.CallLaw.{by_outcome, called_at, call_takes, call_does_by}
use Rattle.cm_meaning.proofs.evaluator.Evaluator.call.Goals as goal

pub push-requires-clause-takes : goal.push-requires-clause-takes
push-requires-clause-takes c =
    let known = c.saturating_sub-known.ensures ∙ ap (λ n. n - c.args.count) (c.len.ensures ∙ c.args.self.now.passed.ok.0) in
    call_takes c.args.self.now c.args.index c.args.count c.saturating_sub-known.result _ c.requires.ready c.requires.hand known
    (ap (λ l. take (length l - c.saturating_sub-known.result) (drop c.saturating_sub-known.result l)) c.deref.ensures.value)

pub returns : goal.returns
returns c =
    let known = c.saturating_sub-known.ensures ∙ ap (λ n. n - c.args.count) (c.len.ensures ∙ c.args.self.now.passed.ok.0) in
    let called = called_at c.args.self.now c.args.index c.args.count c.requires.ready.1 c.requires.hand c.requires.ready.2 in
    let found = get_or_from_slice_get c.items.result.now c.args.index called.0 c.index-items-index.result (ap (λ l. slice_get l c.args.index) c.items.ensures ∙ called.1) in
    by_outcome c.begin.result c.begin.ensures.going c.begin.ensures.put
    (λ o going puts. call_does_by c.args.self.now _ c.begin.new.self c.args.index c.args.count c.saturating_sub-known.result c.call_bytes-bytes.result o _ c.items-2.result called.0
    c.requires.ready c.requires.hand going called.1 (c.items-2.ensures ∙ ap (λ function. function.body) (c.index-items-index.is ∙ found)) c.call_bytes-bytes.ensures c.if-self-bytes.false refl
    known (ap (λ l. take (length l - c.saturating_sub-known.result) (drop c.saturating_sub-known.result l)) c.deref.ensures.value) c.truncate.ensures.items
    c.in_ok-push.ensures.laid c.in_ok-push.ensures.place c.in_ok-push.ensures.calls c.in_ok-push.ensures.shows puts)
