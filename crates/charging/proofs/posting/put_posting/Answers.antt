-- The four parts of a row stand one after another.
use Rattle.std.proofs.Common.{◌≡◌, ℕ, ◌+◌, List, [], ◌∷◌, ◌++◌, ap, ◌∙◌, append_assoc, arith, length-append}
use Rattle.receipt.specs.Columns.{receipt_of}
use Rattle.event_run.specs.Coded.{file_outcome_of}
use Rattle.charging.specs.Rows.{overlaid, receipt_row, outcome_row}
use Rattle.charging.proofs.Overlays.{overlaid-after}
use Rattle.charging.proofs.PostingRows.{outcome-long}
use Rattle.charging.proofs.posting.put_posting.Goals as goal

pub returns : goal.returns
returns c =
    let at = c.args.at in
    let out = c.args.out.now in
    let posted = c.args.posted in
    let a : List ℕ = posted.place.index ∷ posted.place.offset ∷ [] in
    let b = outcome_row (file_outcome_of posted.outcome) in
    let d = receipt_row (receipt_of posted.receipt) in
    let e : List ℕ = posted.balance.0 ∷ [] in
    let long = outcome-long (file_outcome_of posted.outcome) in
    let second : c.put-2.new.out ≡ overlaid at (a ++ b) out =
    c.put-2.ensures
    ∙ ap (λ row. overlaid (at + 2) row c.put.new.out) c.outcome_row.ensures
    ∙ ap (overlaid (at + 2) b) c.put.ensures
    ∙ overlaid-after at (at + 2) a b out (omega arith) (omega arith) in
    let third : c.put-3.new.out ≡ overlaid at ((a ++ b) ++ d) out =
    c.put-3.ensures
    ∙ ap (λ row. overlaid (at + 5) row c.put-2.new.out) c.receipt_row.ensures
    ∙ ap (overlaid (at + 5) d) second
    ∙ overlaid-after at (at + 5) (a ++ b) d out (omega (arith, length-append a b)) (omega arith) in
    c.put-4.ensures
    ∙ ap (overlaid (at + 29) e) third
    ∙ overlaid-after at (at + 29) ((a ++ b) ++ d) e out (omega (arith, length-append (a ++ b) d, length-append a b)) (omega arith)
    ∙ ap (λ row. overlaid at row out) (append_assoc (a ++ b) d e ∙ append_assoc a b (d ++ e))
