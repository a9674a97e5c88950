-- What the run posts stands in the rows.
use Rattle.std.proofs.Common.{ap, ◌∙◌, arith}
use Rattle.event_run.specs.Postings.{file_postings}
use Rattle.totals.proofs.Sums.{postings-few, right_file}
use Rattle.carrier.specs.World.{three_lines}
use Rattle.charging.specs.Answers.{file_number}
use Rattle.charging.specs.Rows.{overlaid, posting_rows}
use Rattle.charging.proofs.PostingRows.{rows_taken}
use Rattle.charging.proofs.postings.run_onto.Goals as goal

pub returns : goal.returns
returns g c =
    let w = three_lines g.B.Book.CAPACITY in
    let file = c.args.file.now in
    let rows = c.args.rows.now in
    let ps = file_postings w file in
    let told = c.in_ok-post_file.ensures in
    let fits = c.requires.room (right_file w file told.refused) in
    let rowed = rows_taken rows ps c.post_file.new.journal (omega (arith, postings-few w file)) told.posted in
    record {
      answer = ap file_number told.refused;
      lent = rowed.same;
      long = rowed.long;
      rows = rowed.holds ∙ ap (λ i. overlaid i (posting_rows ps) rows.rows.now) c.requires.empty;
    }
