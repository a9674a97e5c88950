-- The six numbers of the account stand after the 24 of the receipts.
use Rattle.std.proofs.Common.{ap, ◌∙◌, arith}
use Rattle.receipt.specs.Columns.{receipt_of}
use Rattle.account.specs.Meaning.{account_of}
use Rattle.charging.specs.Rows.{overlaid, receipt_row, state_row}
use Rattle.charging.proofs.Overlays.{overlaid_next}
use Rattle.charging.proofs.life.put_life.Goals as goal

pub returns : goal.returns
returns g c =
    let out = c.args.out.now in
    let life = c.args.life.now in
    let first = receipt_row (receipt_of life.total) in
    let second = state_row (account_of g.B.Book.means life.account).state in
    c.put-2.ensures
    ∙ ap (λ xs. overlaid 24 c.state_row.result xs) c.put.ensures
    ∙ ap (λ row. overlaid 24 c.state_row.result (overlaid 0 row out)) c.receipt_row.ensures
    ∙ ap (λ row. overlaid 24 row (overlaid 0 first out)) c.state_row.ensures
    ∙ overlaid_next 0 first second out (omega arith)
