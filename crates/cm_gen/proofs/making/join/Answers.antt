use Rattle.std.proofs.Common.{◌++◌, List, ℕ, sym, ap, ◌∙◌, subst}
use Rattle.cm_isa.specs.Address.{AreWordsOf}
use Rattle.cm_gen.specs.Part.{laid}
use Rattle.cm_gen.proofs.parts.LayingLaw.{words_append}
use Rattle.cm_gen.proofs.making.join.Goals as goal

pub returns : goal.returns
returns c =
    let code = laid c.args.start c.args.code.now in
    let front = subst (AreWordsOf c.in_ok-words.words) c.items.ensures c.in_ok-words.ensures in
    let all = words_append c.in_ok-words.words c.in_ok-later.later c.args.front.now.code code front c.in_ok-later.ensures in
    subst (λ (l : List ℕ). AreWordsOf l (c.args.front.now.code ++ code)) (sym (c.in_ok-append.ensures.ok ∙ ap (λ (l : List ℕ). c.in_ok-words.words ++ l) c.items-2.ensures)) all
