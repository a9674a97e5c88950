-- The laws, each from its proof.
use Rattle.rules.proofs.Advance.{bring_up-joins}
use Rattle.rules.proofs.Steps.{refusal_changes_nothing}
use Rattle.rules.proofs.Marks.{day_mark_free}
use Rattle.rules.proofs.Closing.{money_closes, units_close}
use Rattle.rules.proofs.laws_stand.Goals as goal

pub returns : goal.returns
returns c = record { money = money_closes; units = units_close; marks = day_mark_free; joins = bring_up-joins; refusals = refusal_changes_nothing }
