-- What the host is told of obeys the law.
use Rattle.event_run.proofs.FileLaws.{obeys_law}
use Rattle.carrier.specs.World.{three_lines}
use Rattle.charging.proofs.export.charging_totals.Goals as goal

pub returns-clause-law : goal.returns-clause-law
returns-clause-law c = obeys_law (three_lines c.args.lots) c.args.file.now
