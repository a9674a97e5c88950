-- With room for a row for each record, what the run tells is answered.
use Rattle.std.proofs.Common.{length, ◌∙◌, arith}
use Rattle.carrier.specs.World.{three_lines}
use Rattle.charging.proofs.Answering.{postings-told}
use Rattle.charging.proofs.postings.write_postings.Goals as goal

pub returns-clause-answer : goal.returns-clause-answer
returns-clause-answer g c =
    let w = three_lines g.B.Book.CAPACITY in
    let trailer = c.in_ok-trailer.ensures in
    c.run_onto.ensures.answer ∙ postings-told w c.args.file.now (length c.args.out.now) trailer.right (omega (arith, trailer.value))
