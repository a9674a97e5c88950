-- Paying changes no book, so the plan can be left as before.
use Rattle.std.proofs.Common.{ap, ◌∙◌}
use Rattle.tariff.specs.Terms.{entry_of}
use Rattle.rules.specs.State.{Out}
use Rattle.rules.specs.Calls.{new_due}
use Rattle.rules.specs.Gregorian.{gregorian}
use Rattle.account.specs.Leaving.{leave_concern}
use Rattle.account.proofs.perform.enter.Goals as goal

pub leave_plan-left-requires : goal.leave_plan-left-requires
leave_plan-left-requires g c =
    let e = entry_of c.args.entry in
    ap (λ (o : Out). leave_concern g.B.Book.CAPACITY (new_due gregorian c.args.day.day.0) e o.state) c.pay_entry-paid.ensures.does ∙ c.requires
