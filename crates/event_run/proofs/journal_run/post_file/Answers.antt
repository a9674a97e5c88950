-- What the run hands back and posts obeys the law.
use Rattle.std.proofs.Common.{refl, rules}
use Rattle.account.specs.Meaning.{world}
use Rattle.event_run.specs.Postings.{file_postings}
use Rattle.event_run.proofs.FileLaws.{law_of_file}
use Rattle.event_run.proofs.journal_run.post_file.Goals as goal

pub returns-clause-law : goal.returns-clause-law
returns-clause-law g c =
    let w = world (g.L.Line.tariff c.args.provision.line) g.B.Book.CAPACITY in
    let file = c.args.file.now in
    law_of_file w file (file_postings w file) _ refl (search rules)
