use Rattle.std.proofs.Common.{◌∙◌, ◌≡◌, ◌++◌, sym, ap, subst}
use Rattle.cm_syntax.specs.Canonical.{functions_text, canonical}
use Rattle.cm_syntax.proofs.printing.ProgramPrinting.{canonical_reads_back}
use Rattle.cm_reader.specs.Spaced.{spaced}
use Rattle.cm_reader.specs.ReadBack.{ReadsBack}
use Rattle.cm_reader.proofs.PrinterLaw.{last_taken}
use Rattle.cm_reader.proofs.printer.write.Goals as goal

pub returns : goal.returns
returns c =
    let put = c.in_ok-put_functions.ensures ∙ (ap (λ text. text ++ spaced (functions_text c.items.result.now)) c.new-text.ensures ∙ ap (λ functions. spaced (functions_text functions)) c.items.ensures) in
    let text : c.pop.new.self ≡ canonical c.args.tree.now = last_taken _ _ _ _ put c.pop.ensures in
    record { text = text; again = λ sound. subst (λ bytes. ReadsBack bytes c.args.tree.now) (sym text) (canonical_reads_back c.args.tree.now sound) }
