-- What the journal comes to by the postings still to come, it comes to from the start by all; the account goes on as it began.
use Rattle.std.proofs.Common.{◌≡◌}
use Rattle.account.specs.Meaning.{account_of, world}
use Rattle.event_file.specs.Reader.{coming, end}
use Rattle.event_run.specs.Postings.{postings, closing}
use Rattle.event_run.specs.Journals.{Taken}
use Rattle.event_run.proofs.journal_run.post_records.Given as goal

abbrev pub invariant-loop-part : goal.invariant-loop-part
invariant-loop-part g l =
    let w = world (g.L.Line.tariff l.initial.account.line) g.B.Book.CAPACITY in
    let means = g.B.Book.means in
    let takes = g.J.Journal.takes in
    let first = account_of means l.initial.account in
    let here = account_of means l.account in
    ((y : _) → Taken takes l.journal (postings w here (coming l.records)) y → Taken takes l.initial.journal (postings w first (coming l.fn.records)) y)
    × (closing w here (coming l.records) ≡ closing w first (coming l.fn.records))
    × (l.account.line ≡ l.initial.account.line)
    × (end l.records ≡ end l.fn.records)

abbrev pub decreases-loop-part : goal.decreases-loop-part
decreases-loop-part g l = l.records.left
