-- A refusal is told by its number, since there is room for the totals.
use Rattle.std.proofs.Common.{length, Some, ◌∙◌, arith}
use Rattle.std.proofs.lemmas.Result.{err_from_is_err_and}
use Rattle.event_run.specs.Coded.{file_refusal_of}
use Rattle.carrier.specs.World.{three_lines}
use Rattle.charging.proofs.Answering.{told_number, totals_told}
use Rattle.charging.proofs.life.write_totals.Goals as goal

pub returns-in_err-life-clause-answer : goal.returns-in_err-life-clause-answer
returns-in_err-life-clause-answer g c =
    let p = err_from_is_err_and c.from_residual.result c.from_residual.ensures.1 in
    let f = c.in_err-life.field-0.0 in
    let told = totals_told (three_lines g.B.Book.CAPACITY) c.args.file.now (length c.args.out.now) (Some (file_refusal_of f)) (omega arith) c.in_err-life.ensures.refused in
    rw (p.1, p.2) (told_number f ∙ told)
