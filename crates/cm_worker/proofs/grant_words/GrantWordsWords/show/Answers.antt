use Rattle.std.proofs.Common.{◌∙◌, sym, arith}
use Rattle.cm_worker.proofs.WordsLaw.{no_place}
use Rattle.cm_worker.proofs.grant_words.GrantWordsWords.show.Goals as goal

pub returns-in-None : goal.returns-in-None
returns-in-None c = c.unmapped.ensures ∙ sym (no_place _ c.args.self.now.map.now _ (let h = c.if-address-ge-STACK_TOP.false in omega (arith, h)) c.in-None.ensures)
