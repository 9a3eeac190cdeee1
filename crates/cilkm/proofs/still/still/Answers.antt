use Rattle.std.proofs.Common.{Some, subst}
use Rattle.cilkm.specs.Asked.{texts}
use Rattle.cilkm.specs.Verdict.{IsCaused}
use Rattle.cilkm.specs.declared.command.Command.TheVariants.{Build, Serial, Mean}
use Rattle.cilkm.proofs.AskedLaw.{one_command}
use Rattle.cilkm.proofs.StillLaw.{answer_with_cause, says_decided, says_told_listing, says_told_short, says_told_served, says_told_served_short, says_told_end}
use Rattle.cilkm.proofs.still.still.Goals as goal

pub returns-clause-answered : goal.returns-clause-answered
returns-clause-answered g c =
    let cause = c.judge-verdict.ensures.cause in
    let said = answer_with_cause c.judge-verdict.result c.tell.result cause.0 _ _ _ _ _ _ _ cause.2 c.tell.ensures.told in
    (cause.0, said.0, cause.1, said.1, said.2)

pub returns-clause-exact : goal.returns-clause-exact
returns-clause-exact g c =
    let cause = c.judge-verdict.ensures.cause in
    says_decided (g.I.Source.left c.args.source.now) (texts c.args.words.now) cause.0 c.judge-verdict.result c.tell.result _ _ _ _ _ _ cause.1 cause.2 c.tell.ensures.told

pub returns-clause-build : goal.returns-clause-build
returns-clause-build g c = λ form page input text program well.
    let cause = c.judge-verdict.ensures.cause in
    says_told_listing (Some input) cause.0 form page c.judge-verdict.result c.tell.result _ _ _ _ _ _ (one_command (texts c.args.words.now) cause.0 (Some (Build form page)) cause.1 well.asked)
    (subst (λ told. IsCaused cause.0 told (g.I.Source.faults c.args.source.now) (g.I.Source.faults c.judge-verdict.new.source) c.judge-verdict.result) well.told_is cause.2) c.tell.ensures.told
    text program well.short well.cut well.accepted well.no_read_failed well.no_write_failed

pub returns-clause-short_sources_are_built : goal.returns-clause-short_sources_are_built
returns-clause-short_sources_are_built g c = λ form page input text program well short.
    let cause = c.judge-verdict.ensures.cause in
    says_told_short (Some input) cause.0 form page c.judge-verdict.result c.tell.result _ _ _ _ _ _ (one_command (texts c.args.words.now) cause.0 (Some (Build form page)) cause.1 well.asked)
    (subst (λ told. IsCaused cause.0 told (g.I.Source.faults c.args.source.now) (g.I.Source.faults c.judge-verdict.new.source) c.judge-verdict.result) well.told_is cause.2) c.tell.ensures.told
    text program well.short well.cut well.accepted short well.no_read_failed well.no_write_failed

pub returns-clause-serial : goal.returns-clause-serial
returns-clause-serial g c = λ limits stat input text program numbers well values.
    let cause = c.judge-verdict.ensures.cause in
    says_told_served (Some input) cause.0 limits stat c.judge-verdict.result c.tell.result _ _ _ _ _ _ (one_command (texts c.args.words.now) cause.0 (Some (Serial limits stat)) cause.1 well.asked)
    (subst (λ told. IsCaused cause.0 told (g.I.Source.faults c.args.source.now) (g.I.Source.faults c.judge-verdict.new.source) c.judge-verdict.result) well.told_is cause.2) c.tell.ensures.told
    text program numbers well.short well.cut well.accepted values well.no_read_failed well.no_write_failed

pub returns-clause-short_sources_are_run : goal.returns-clause-short_sources_are_run
returns-clause-short_sources_are_run g c = λ limits stat input text program numbers well values short.
    let cause = c.judge-verdict.ensures.cause in
    says_told_served_short (Some input) cause.0 limits stat c.judge-verdict.result c.tell.result _ _ _ _ _ _ (one_command (texts c.args.words.now) cause.0 (Some (Serial limits stat)) cause.1 well.asked)
    (subst (λ told. IsCaused cause.0 told (g.I.Source.faults c.args.source.now) (g.I.Source.faults c.judge-verdict.new.source) c.judge-verdict.result) well.told_is cause.2) c.tell.ensures.told
    text program numbers well.short well.cut well.accepted values short well.no_read_failed well.no_write_failed

pub returns-clause-mean : goal.returns-clause-mean
returns-clause-mean g c = λ limits input text program numbers well values.
    let cause = c.judge-verdict.ensures.cause in
    says_told_end (Some input) cause.0 limits c.judge-verdict.result c.tell.result _ _ _ _ _ _ (one_command (texts c.args.words.now) cause.0 (Some (Mean limits)) cause.1 well.asked)
    (subst (λ told. IsCaused cause.0 told (g.I.Source.faults c.args.source.now) (g.I.Source.faults c.judge-verdict.new.source) c.judge-verdict.result) well.told_is cause.2) c.tell.ensures.told
    text program numbers well.short well.cut well.accepted values well.no_read_failed well.no_write_failed
