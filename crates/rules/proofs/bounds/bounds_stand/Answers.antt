-- The bounds, each from its proof.
use Rattle.rules.proofs.SoundRuns.{balance_bounded, blocked_empty, due_day_ahead}
use Rattle.rules.proofs.FeeDays.{due_days_bounded, gregorian_ends}
use Rattle.rules.proofs.FeesOfCalls.{fees_grant_in_full}
use Rattle.rules.proofs.Columns.{columns_bounded, gregorian_years}
use Rattle.rules.proofs.bounds.bounds_stand.Goals as goal

pub returns : goal.returns
returns c = record {
  balance = balance_bounded;
  blocked = blocked_empty;
  due = due_day_ahead;
  dues = due_days_bounded;
  january = gregorian_ends;
  grants = fees_grant_in_full;
  columns = columns_bounded;
  years = gregorian_years;
}
