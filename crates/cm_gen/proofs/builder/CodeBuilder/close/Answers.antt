use Rattle.std.proofs.Common.{◌<◌, ◌≤◌, ◌-◌, length, set, List, sym, ap, ◌∙◌, subst, arith}
use Rattle.std.proofs.lemmas.List.{length-set}
use Rattle.cm_gen.specs.declared.builder.Word.TheVariants as word
use Rattle.cm_gen.specs.Builder.{AreWithin, back}
use Rattle.cm_gen.specs.Part.{Part}
use Rattle.cm_gen.proofs.parts.BuilderLaw.{length_code, code_in_set, within_set}
use Rattle.cm_gen.proofs.builder.CodeBuilder.close.Goals as goal

pub invariant_of-self : goal.invariant_of-self
invariant_of-self c =
    let old = c.self.inside.words.items in
    let near : c.args.words ≤ length old = omega (arith, c.requires.reach, ap length c.self.view_is, length_code old) in
    let all = within_set (length old) old c.args.behind (word.Back c.args.words) c.self.invariant near in
    subst (λ n. AreWithin n (set old c.args.behind (word.Back c.args.words))) (sym (length-set old c.args.behind (word.Back c.args.words))) all

pub returns : goal.returns
returns c =
    let old = c.self.inside.words.items in
    let place : c.args.behind < length old = omega (arith, c.requires.place, ap length c.self.view_is, length_code old) in
    code_in_set old c.args.behind (word.Back c.args.words) place
    ∙ ap (λ (l : List Part). set l (length l - 1 - c.args.behind) (back c.args.words)) c.self.view_is
