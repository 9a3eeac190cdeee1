use Rattle.std.proofs.Common.{◌≡◌, ◌%◌, ◌∙◌, ap, refl, rules, Ok, Err, Some, None, to_z, of_z, w64}
use Rattle.std.proofs.lemmas.Int.{to_z-of_z}
use Rattle.cm_asm.specs.declared.item.Item.TheVariants.{Plain, Label, Jump, Branch}
use Rattle.cm_asm.specs.declared.assembler.AsmRefusal.TheVariants as refusals
use Rattle.cm_asm.proofs.AssemblyLaw.{found-at, address-multiple, spot-multiple, gives-at, gives-doubled, gives-first, gives-none, gives-jump, gives-branch, gives-missing_jump, gives-missing_branch}
use Rattle.cm_asm.proofs.assembler.word_of.Goals as goal

pub distance_between-requires-clause-to : goal.distance_between-requires-clause-to
distance_between-requires-clause-to c =
    spot-multiple c.args.items.now c.in-Jump.label c.in-Some-get.spot.now (c.in-Some-get.ensures.value ∙ c.requires.labels c.in-Jump.label)

pub distance_between-requires-clause-from : goal.distance_between-requires-clause-from
distance_between-requires-clause-from c = ap (λ p. p % 4) c.requires.address ∙ address-multiple c.args.items.now c.args.at

pub distance_between-requires-in-Some-get-2-clause-to : goal.distance_between-requires-in-Some-get-2-clause-to
distance_between-requires-in-Some-get-2-clause-to c =
    spot-multiple c.args.items.now c.in-Branch.label c.in-Some-get-2.spot.now (c.in-Some-get-2.ensures.value ∙ c.requires.labels c.in-Branch.label)

pub distance_between-requires-in-Some-get-2-clause-from : goal.distance_between-requires-in-Some-get-2-clause-from
distance_between-requires-in-Some-get-2-clause-from c = ap (λ p. p % 4) c.requires.address ∙ address-multiple c.args.items.now c.args.at

pub returns-in-Plain : goal.returns-in-Plain
returns-in-Plain c =
    let found = found-at c.args.items.now c.args.at _ (Plain c.in-Plain.instr) c.requires.inside c.in-Plain.is in
    gives-at c.args.items.now c.args.at (Plain c.in-Plain.instr) (Ok (Some c.encode.result)) found (c.in-Plain.instr, refl, c.encode.ensures, λ refusal h. h)

pub returns-in-Some : goal.returns-in-Some
returns-in-Some c =
    let items = c.args.items.now in
    let n = c.in-Label.number in
    let found = found-at items c.args.at _ (Label n) c.requires.inside c.in-Label.is in
    gives-at items c.args.at (Label n) (Err (refusals.Label c.args.at)) found
    (gives-doubled items c.args.at n c.in-Some.first.now found (c.in-Some.ensures.value ∙ c.requires.labels n) c.if-first-index.true)

pub returns-in_default : goal.returns-in_default
returns-in_default c =
    let items = c.args.items.now in
    let n = c.in-Label.number in
    let found = found-at items c.args.at _ (Label n) c.requires.inside c.in-Label.is in
    gives-at items c.args.at (Label n) (Ok None) found
    (gives-first items c.args.at n c.in-Some.first.now (c.in-Some.ensures.value ∙ c.requires.labels n) c.if-first-index.false)

pub returns-in_default-2 : goal.returns-in_default-2
returns-in_default-2 c =
    let items = c.args.items.now in
    let n = c.in-Label.number in
    let found = found-at items c.args.at _ (Label n) c.requires.inside c.in-Label.is in
    let missing = rw c.in_default.is at c.get.ensures.value in
    gives-at items c.args.at (Label n) (Ok None) found (gives-none items c.args.at n (missing ∙ c.requires.labels n))

pub returns-in-Some-get : goal.returns-in-Some-get
returns-in-Some-get c =
    let items = c.args.items.now in
    let n = c.in-Jump.label in
    let found = found-at items c.args.at _ (Jump c.in-Jump.rd n) c.requires.inside c.in-Jump.is in
    let back : to_z w64 (of_z w64 c.distance_between.result) ≡ c.distance_between.result = search (rules, to_z-of_z) in
    gives-at items c.args.at (Jump c.in-Jump.rd n) c.jump.result found
    (gives-jump items c.args.at c.in-Jump.rd n c.args.address c.in-Some-get.spot.now (to_z w64 (of_z w64 c.distance_between.result)) c.jump.result
    (c.in-Some-get.ensures.value ∙ c.requires.labels n) c.requires.address (back ∙ c.distance_between.ensures.distance) c.jump.ensures)

pub returns-in-None : goal.returns-in-None
returns-in-None c =
    let items = c.args.items.now in
    let n = c.in-Jump.label in
    let found = found-at items c.args.at _ (Jump c.in-Jump.rd n) c.requires.inside c.in-Jump.is in
    gives-at items c.args.at (Jump c.in-Jump.rd n) (Err (refusals.Label c.args.at)) found (gives-missing_jump items c.args.at c.in-Jump.rd n (c.in-None.ensures.value ∙ c.requires.labels n))

pub returns-in-Some-get-2 : goal.returns-in-Some-get-2
returns-in-Some-get-2 c =
    let items = c.args.items.now in
    let b = c.in-Branch in
    let found = found-at items c.args.at _ (Branch b.kind b.rs1 b.rs2 b.label) c.requires.inside b.is in
    let far = c.distance_between-in-Some-get-2.result in
    let back : to_z w64 (of_z w64 far) ≡ far = search (rules, to_z-of_z) in
    gives-at items c.args.at (Branch b.kind b.rs1 b.rs2 b.label) c.branch-kind.result found
    (gives-branch items c.args.at b.kind b.rs1 b.rs2 b.label c.args.address c.in-Some-get-2.spot.now (to_z w64 (of_z w64 far)) c.branch-kind.result
    (c.in-Some-get-2.ensures.value ∙ c.requires.labels b.label) c.requires.address (back ∙ c.distance_between-in-Some-get-2.ensures.distance) c.branch-kind.ensures)

pub returns-in-None-get : goal.returns-in-None-get
returns-in-None-get c =
    let items = c.args.items.now in
    let b = c.in-Branch in
    let found = found-at items c.args.at _ (Branch b.kind b.rs1 b.rs2 b.label) c.requires.inside b.is in
    gives-at items c.args.at (Branch b.kind b.rs1 b.rs2 b.label) (Err (refusals.Label c.args.at)) found
    (gives-missing_branch items c.args.at b.kind b.rs1 b.rs2 b.label (c.in-None-get.ensures.value ∙ c.requires.labels b.label))
