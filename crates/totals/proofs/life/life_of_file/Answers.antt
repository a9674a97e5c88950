-- The totals of a file are exact, since it has few enough records.
use Rattle.rules.proofs.Columns.{gregorian_years}
use Rattle.account.specs.Meaning.{world}
use Rattle.totals.proofs.Sums.{total_of_file}
use Rattle.totals.proofs.life.life_of_file.Goals as goal

pub returns-clause-total : goal.returns-clause-total
returns-clause-total g c =
    let w = world (g.L.Line.tariff c.args.provision.line) g.B.Book.CAPACITY in
    let told = c.in_ok-account.ensures in
    total_of_file w c.args.file.now _ c.post_file.new.journal gregorian_years c.nothing-totals.ensures told.refused told.posted
