use Rattle.std.proofs.Common.{◌≡◌, ◌++◌, sym, ap, ◌∙◌, arith, take, drop}
use Rattle.std.proofs.lemmas.Grind.{common_steps}
use Rattle.std.proofs.lemmas.List.{nil_from_length}
use Rattle.cm_text.proofs.StreamLemmas.{left_split}
use Rattle.cm_text.proofs.in_memory.MemSourceSource.read.Goals as goal

pub returns-clause-bytes : goal.returns-clause-bytes
returns-clause-bytes c =
    let bytes = c.self.inside.bytes in
    let at = c.self.inside.at in
    let count = c.min-count.result in
    let into = c.copy_from_slice.new.self ++ drop count c.args.into.now in
    let left : c.args.self.now.left ≡ drop at bytes = sym (ap (λ s. s.left) c.self.view_is) in
    let front : take count into ≡ take count (drop at bytes) = grind (arith, common_steps) in
    (left ∙ left_split bytes into at count front, λ none room. nil_from_length _ (grind (arith, common_steps)))
