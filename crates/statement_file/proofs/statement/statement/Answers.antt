-- What the statement tells of obeys the law.
use Rattle.account.specs.Meaning.{world}
use Rattle.event_run.proofs.FileLaws.{obeys_law}
use Rattle.statement_file.proofs.statement.statement.Goals as goal

pub returns-clause-law : goal.returns-clause-law
returns-clause-law g c = obeys_law (world (g.L.Line.tariff c.args.provision.line) g.B.Book.CAPACITY) c.args.file.now
