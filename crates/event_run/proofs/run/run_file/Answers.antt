-- The list has room for a posting of each record, so that the run loses none; what it hands back obeys the law.
use Rattle.std.proofs.Common.{◌∙◌, rules, arith}
use Rattle.account.specs.Meaning.{account_of, world}
use Rattle.event_file.specs.Reader.{coming}
use Rattle.event_file.proofs.Parts.{length-parts_from}
use Rattle.event_run.specs.Postings.{postings}
use Rattle.event_run.proofs.FileLaws.{law_of_file}
use Rattle.event_run.proofs.Listed.{listed, length-postings}
use Rattle.event_run.proofs.run.run_file.Goals as goal

pub returns-clause-posted : goal.returns-clause-posted
returns-clause-posted g c =
    let w = world (g.L.Line.tariff c.in_ok-account.account.line) g.B.Book.CAPACITY in
    let a = account_of g.B.Book.means c.in_ok-account.account in
    let r = c.in_ok-account.records in
    let many = length-postings w a (coming r) ∙ length-parts_from r.file.now r.first r.index r.left in
    let all = listed (record { list = c.in_ok-list.list }) (postings w a (coming r)) c.post_records.new.journal c.post_records.ensures.posted (omega (arith, many, c.len.ensures.value, c.in_ok-list.ensures.len, c.in_ok-list.ensures.capacity)) in
    let from_none = rw c.in_ok-list.ensures.items at all in
    search (rules, from_none)

pub returns-clause-law : goal.returns-clause-law
returns-clause-law g c =
    let w = world (g.L.Line.tariff c.args.provision.line) g.B.Book.CAPACITY in
    law_of_file w c.args.file.now _ _ (returns-clause-posted g c) (search rules)
