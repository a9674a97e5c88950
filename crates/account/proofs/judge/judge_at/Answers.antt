-- What is judged alike on every line is so on this one.
use Rattle.std.proofs.Common.{sym, ap, ◌∙◌}
use Rattle.ledger.specs.Meaning.{state_of}
use Rattle.account.specs.Judging.{refusal_after_lapse}
use Rattle.account.specs.Meaning.{world}
use Rattle.account.proofs.judge.judge_at.Goals as goal

pub returns-in_default-TopUp : goal.returns-in_default-TopUp
returns-in_default-TopUp g c =
    let w = world (g.L.Line.tariff c.args.line.now) g.B.Book.CAPACITY in
    let s = state_of g.B.Book.means c.args.ledger.now in
    record { told = c.judge_top_up.ensures.told w ∙ ap (λ x. refusal_after_lapse w c.args.day.day.0 x s) (sym c.in_default-TopUp.is-1) }

pub returns-in_default-Use : goal.returns-in_default-Use
returns-in_default-Use g c =
    let w = world (g.L.Line.tariff c.args.line.now) g.B.Book.CAPACITY in
    let s = state_of g.B.Book.means c.args.ledger.now in
    record { told = c.judge_use.ensures.told w ∙ ap (λ x. refusal_after_lapse w c.args.day.day.0 x s) (sym c.in_default-Use.is-1) }
