-- A blocked account wakes where its balance reaches the fee.
use Rattle.std.proofs.Common.{◌+◌, sym, ap, ◌∙◌, rules}
use Rattle.rules.specs.State.{with_balance}
use Rattle.rules.specs.Gregorian.{gregorian}
use Rattle.rules.proofs.Waking.{wakes, stays_blocked, stays_active}
use Rattle.ledger.specs.Meaning.{state_of, out}
use Rattle.account.proofs.Judged.{reached, unreached}
use Rattle.account.proofs.perform.top_up.Goals as goal

pub returns-then-covers : goal.returns-then-covers
returns-then-covers g c =
    let a = c.args.ledger.now in
    let s = with_balance (a.balance.sums.0 + c.args.sums.0) (state_of g.B.Book.means a) in
    record {
      does = c.start_on.ensures.does ∙ sym (wakes gregorian c.args.day.day.0 s c.in-Blocked.is (reached _ _ (sym c.covers.ensures ∙ c.if-covers.true)));
      small = search rules;
    }

pub returns-else-covers : goal.returns-else-covers
returns-else-covers g c =
    let a = c.args.ledger.now in
    let s = with_balance (a.balance.sums.0 + c.args.sums.0) (state_of g.B.Book.means a) in
    record {
      does = ap (out s) c.nothing.ensures ∙ sym (stays_blocked gregorian c.args.day.day.0 s (unreached _ _ (sym c.covers.ensures ∙ c.if-covers.false)));
      small = search rules;
    }

pub returns-in-Active : goal.returns-in-Active
returns-in-Active g c =
    let a = c.args.ledger.now in
    let s = with_balance (a.balance.sums.0 + c.args.sums.0) (state_of g.B.Book.means a) in
    record {
      does = ap (out s) c.nothing-in-Active.ensures ∙ sym (stays_active gregorian c.args.day.day.0 s _ c.in-Active.is);
      small = search rules;
    }
