use Rattle.std.proofs.Common.{◌+◌, sym, subst, arith}
use Rattle.cm_syntax.specs.declared.stmt.Program.{Program}
use Rattle.cm_gen.specs.Fits.{FunctionsFit}
use Rattle.cm_gen.proofs.images.ImageLaw.{room_of}
use Rattle.cm_gen.proofs.images.MakingLaw.{fits_of, few_of, counted, too_long, short_enough, fits_number, same_words}
use Rattle.cm_gen.proofs.making.make.Goals as goal

pub program_code-requires-clause-fits : goal.program_code-requires-clause-fits
program_code-requires-clause-fits c =
    subst (λ (p : Program). FunctionsFit p.functions) (sym c.program-value.ensures.program) (fits_of c.args.program.now c.program-value.ensures.sound)

pub overflow_cast-result : goal.overflow_cast-result
overflow_cast-result c =
    let p = c.args.program.now in
    let sum = counted p c.program-value.result.now c.args.form c.args.page c.len.result c.size.result c.in_ok-code.code c.program-value.ensures.program c.len.ensures c.size.ensures.value c.in_ok-code.ensures in
    omega (arith, fits_number p c.args.form c.args.page (2 + c.len.result + c.size.result) c.program-value.ensures.sound sum)

pub returns-then-words-clause-long : goal.returns-then-words-clause-long
returns-then-words-clause-long c = λ words is.
    let p = c.args.program.now in
    let sum = counted p c.program-value.result.now c.args.form c.args.page c.len.result c.size.result c.in_ok-code.code c.program-value.ensures.program c.len.ensures c.size.ensures.value c.in_ok-code.ensures in
    too_long p c.args.form c.args.page (2 + c.len.result + c.size.result) words sum (omega (arith, c.if-words.true)) (same_words is)

pub build_of-requires-clause-room : goal.build_of-requires-clause-room
build_of-requires-clause-room c =
    let p = c.args.program.now in
    let sum = counted p c.program-value.result.now c.args.form c.args.page c.len.result c.size.result c.in_ok-code.code c.program-value.ensures.program c.len.ensures c.size.ensures.value c.in_ok-code.ensures in
    room_of p c.args.form c.args.page (few_of p c.program-value.ensures.sound) (omega (arith, c.if-words.false, sum))

pub returns-clause-short : goal.returns-clause-short
returns-clause-short c =
    let p = c.args.program.now in
    let sum = counted p c.program-value.result.now c.args.form c.args.page c.len.result c.size.result c.in_ok-code.code c.program-value.ensures.program c.len.ensures c.size.ensures.value c.in_ok-code.ensures in
    short_enough p c.args.form c.args.page (2 + c.len.result + c.size.result) sum (omega (arith, c.if-words.false))
