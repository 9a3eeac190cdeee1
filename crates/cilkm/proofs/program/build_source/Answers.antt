use Rattle.std.proofs.Common.{arith, ℕ, List, length, ap, sym, subst}
use Rattle.cm_isa.specs.Address.{AreWordsOf}
use Rattle.cm_gen.specs.Image.{image_of}
use Rattle.cilkm.proofs.BuiltLaw.{as_many}
use Rattle.cilkm.proofs.program.build_source.Goals as goal

pub of-requires : goal.of-requires
of-requires c =
    let compiled = c.in_ok-image.ensures.compiled.compiled in
    let same = as_many _ _ compiled.made.words in
    let few = compiled.few in
    omega (arith, same, few)

pub returns-clause-image : goal.returns-clause-image
returns-clause-image c =
    let compiled = c.in_ok-image.ensures.compiled.compiled in
    let same = as_many _ _ compiled.made.words in
    let few = compiled.few in
    let words = c.of.ensures.words in (
      c.in_ok-image.field-0.made.value,
      c.in_ok-image.ensures.compiled.accepted,
      record {
        code = subst (λ (words : List ℕ). AreWordsOf words (image_of c.in_ok-image.field-0.made.value c.args.form c.args.page)) (sym words) compiled.made.words;
        each = c.of.ensures.each;
        few = let count = ap length words in omega (arith, few, same, count);
      },
    )
