use Rattle.std.proofs.Common.{[], ◌∷◌, refl, arith}
use Rattle.std.specs.Prelude.{pos}
use Rattle.std.specs.Int.{w32}
use Rattle.std.proofs.lemmas.Int.{to_z-of_z, to_z_pos}
use Rattle.cm_meaning.specs.Layout.{reference_of}
use Rattle.cm_meaning.specs.declared.work.Hand.TheVariants as hands
use Rattle.cm_meaning.specs.declared.work.Purpose.TheVariants as purposes
use Rattle.cm_meaning.specs.declared.work.Work.TheVariants as works
use Rattle.cm_meaning.proofs.EvaluatorLaw.{put_does, hold_does}
use Rattle.cm_meaning.proofs.ExpressionLaw.{moves-Index, moves-Input, moves-Unary, moves-Binary, moves-Call, moves-Scalar, moves-Len, length-fits}
use Rattle.cm_meaning.proofs.evaluator.Evaluator.evaluate.Goals as goal

pub returns-in-Index : goal.returns-in-Index
returns-in-Index c = put_does c.args.self.now _ (works.Evaluate c.args.e) c.args.self.now.hand (works.Evaluate c.get.result ∷ works.Element c.in-Index.a.name ∷ []) hands.Idle
    c.then.result c.requires refl c.then.ensures.going c.then.ensures.put (λ h at. moves-Index c.args.self.now c.args.e c.in-Index.a c.in-Index.place c.get.result c.in-Index.is c.get.ensures h)

pub returns-in-Input : goal.returns-in-Input
returns-in-Input c = put_does c.args.self.now _ (works.Evaluate c.args.e) c.args.self.now.hand (works.Evaluate c.get-in-Input.result ∷ works.Read ∷ []) hands.Idle
    c.then-in-Input.result c.requires refl c.then-in-Input.ensures.going c.then-in-Input.ensures.put
    (λ h at. moves-Input c.args.self.now c.args.e c.in-Input.place c.get-in-Input.result c.in-Input.is c.get-in-Input.ensures h)

pub returns-in-Unary : goal.returns-in-Unary
returns-in-Unary c = put_does c.args.self.now _ (works.Evaluate c.args.e) c.args.self.now.hand (works.Evaluate c.get-in-Unary.result ∷ works.Prefix c.in-Unary.op ∷ []) hands.Idle
    c.then-in-Unary.result c.requires refl c.then-in-Unary.ensures.going c.then-in-Unary.ensures.put
    (λ h at. moves-Unary c.args.self.now c.args.e c.in-Unary.op c.in-Unary.operand c.get-in-Unary.result c.in-Unary.is c.get-in-Unary.ensures h)

pub returns-in-Binary : goal.returns-in-Binary
returns-in-Binary c = put_does c.args.self.now _ (works.Evaluate c.args.e) c.args.self.now.hand (works.Evaluate c.get-in-Binary-2.result ∷ c.behind_left-behind.result ∷ []) hands.Idle
    c.then-in-Binary.result c.requires refl c.then-in-Binary.ensures.going c.then-in-Binary.ensures.put
    (λ h at. moves-Binary c.args.self.now c.args.e c.in-Binary.op c.in-Binary.left c.in-Binary.right c.get-in-Binary-2.result c.get-in-Binary.result c.behind_left-behind.result
    c.in-Binary.is c.get-in-Binary-2.ensures c.get-in-Binary.ensures c.behind_left-behind.ensures h)

pub returns-in-Call : goal.returns-in-Call
returns-in-Call c = put_does c.args.self.now _ (works.Evaluate c.args.e) c.args.self.now.hand (works.Arguments purposes.Called c.in-Call.call.function.name 0 c.items.result ∷ works.TakeBack ∷ []) hands.Idle
    c.then-in-Call.result c.requires refl c.then-in-Call.ensures.going c.then-in-Call.ensures.put
    (λ h at. moves-Call c.args.self.now c.args.e c.in-Call.call c.items.result c.in-Call.is c.items.ensures h)

pub overflow_cast-row : goal.overflow_cast-row
overflow_cast-row c =
    let few = length-fits c.args.self.now c.args.e c.requires c.in-Len.a (reference_of c.row-row.result) c.in-Len.is c.row-row.ensures in
    record { sfits = omega (arith, few) }

pub returns-in-Scalar : goal.returns-in-Scalar
returns-in-Scalar c = hold_does c.args.self.now _ (works.Evaluate c.args.e) c.args.self.now.hand _ c.word-value.result
    c.hold-in-Scalar.result c.requires refl c.hold-in-Scalar.ensures.going c.hold-in-Scalar.ensures.put (to_z-of_z w32 c.word-value.result (record { sfits = c.word-value.type_inv }))
    (moves-Scalar c.args.self.now c.args.e c.requires c.in-Scalar.x c.top.result c.word-value.result c.in-Scalar.is c.top.ensures c.word-value.ensures)

pub returns-in-Len : goal.returns-in-Len
returns-in-Len c =
    let few = length-fits c.args.self.now c.args.e c.requires c.in-Len.a (reference_of c.row-row.result) c.in-Len.is c.row-row.ensures in
    hold_does c.args.self.now _ (works.Evaluate c.args.e) c.args.self.now.hand _ (pos c.row-row.result.length)
    c.hold-in-Len.result c.requires refl c.hold-in-Len.ensures.going c.hold-in-Len.ensures.put (to_z_pos w32 c.row-row.result.length (omega (arith, few)))
    (moves-Len c.args.self.now c.args.e c.requires c.in-Len.a (reference_of c.row-row.result) c.in-Len.is c.row-row.ensures)
