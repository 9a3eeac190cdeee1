use Rattle.std.proofs.Common.{◌≡◌, ◌+◌, ◌∷◌, [], ◌++◌, take, ap, sym, ◌∙◌, subst}
use Rattle.std.proofs.lemmas.List.{take_more}
use Rattle.cm_isa.specs.Address.{AreWordsOf}
use Rattle.cm_isa.proofs.Image.{AreWordsOf-push}
use Rattle.cm_gen.proofs.laying.assemble_code.Goals as goal

pub loop-instr-preserved : goal.loop-instr-preserved
loop-instr-preserved c =
    let code = c.args.code.now in
    let i = c.loop-instr.instr-index in
    let item = c.instr-item.result in
    let more : take (i + 1) code ≡ take i code ++ item ∷ [] =
    take_more code i item c.loop-instr-test.true ∙ ap (λ x. take i code ++ x ∷ []) (sym c.instr-item.is) in
    rw more (subst (λ words. AreWordsOf words (take i code ++ item ∷ [])) (sym c.in_ok-push.ensures.ok)
    (AreWordsOf-push c.loop-instr.words (take i code) c.encode.result item c.loop-instr.invariant c.encode.ensures))
