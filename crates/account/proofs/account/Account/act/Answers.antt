-- The receipt of one call is within bounds, whatever the account.
use Rattle.std.proofs.Common.{sym, ap, subst}
use Rattle.rules.specs.Bounds.{most_column, ColumnsWithin}
use Rattle.rules.specs.Runs.{Answer}
use Rattle.account.specs.Meaning.{world}
use Rattle.account.proofs.Bounded.{columns_of, hundred_years}
use Rattle.account.proofs.account.Account.act.Goals as goal

pub returns : goal.returns
returns g c =
    let a = c.args.self.now in
    let w = world (g.L.Line.tariff a.line) g.B.Book.CAPACITY in
    let told = c.make.ensures in
    record {
      does = told.does;
      line = told.line;
      same = told.same;
      columns = subst (ColumnsWithin most_column) (sym (ap (λ (x : Answer). x.receipt) told.does))
          (columns_of g.B.Book.means g.B.Book.CAPACITY g.met.B.Book.kept w hundred_years c.args.event a);
    }
