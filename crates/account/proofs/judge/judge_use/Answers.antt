-- Each check of a use, in its order.
use Rattle.std.proofs.Common.{not, sym, ap, ◌∙◌}
use Rattle.std.proofs.lemmas.Bool.{cond-true, cond-false}
use Rattle.quantities.specs.Limits.{most_use}
use Rattle.rules.specs.DueDays.{lapse_all}
use Rattle.rules.specs.Calls.{charge}
use Rattle.ledger.specs.Meaning.{state_of}
use Rattle.account.proofs.Judged.{outside_bounds, inside_bounds, poor, rich, still_blocked, still_active, service_lapsed}
use Rattle.account.proofs.judge.judge_use.Goals as goal

pub returns-then-n-lt1 : goal.returns-then-n-lt1
returns-then-n-lt1 g c = record { told = λ _. sym (cond-true _ _ _ (outside_bounds 1 most_use c.args.n c.then-n-lt1.either)) }

pub returns-in-Blocked : goal.returns-in-Blocked
returns-in-Blocked g c =
    let s = (lapse_all c.args.day.day.0 (state_of g.B.Book.means c.args.ledger.now)).state in
    let amount = inside_bounds 1 most_use c.args.n c.if-n-lt1.false c.if-n-gt-MOST_USE.false in
    record { told = λ _. sym (cond-false _ _ _ amount ∙ cond-true _ _ _ (still_blocked s c.in-Blocked.is)) }

pub returns-then-not-offers : goal.returns-then-not-offers
returns-then-not-offers g c =
    let t = state_of g.B.Book.means c.args.ledger.now in
    let s = (lapse_all c.args.day.day.0 t).state in
    let amount = inside_bounds 1 most_use c.args.n c.if-n-lt1.false c.if-n-gt-MOST_USE.false in
    let awake = still_active s c.in_default.field-0 c.in_default.is in
    let offered = ap not (service_lapsed c.args.service c.args.day.day.0 t ∙ sym c.offers.ensures ∙ c.if-not-offers.true) in
    record { told = λ _. sym (cond-false _ _ _ amount ∙ cond-false _ _ _ awake ∙ cond-true _ _ _ offered) }

pub returns-then-runs_past : goal.returns-then-runs_past
returns-then-runs_past g c =
    let t = state_of g.B.Book.means c.args.ledger.now in
    let s = (lapse_all c.args.day.day.0 t).state in
    let amount = inside_bounds 1 most_use c.args.n c.if-n-lt1.false c.if-n-gt-MOST_USE.false in
    let awake = still_active s c.in_default.field-0 c.in_default.is in
    let offered = ap not (service_lapsed c.args.service c.args.day.day.0 t ∙ sym c.offers.ensures ∙ c.if-not-offers.false) in
    let past = sym c.runs_past.ensures ∙ c.if-runs_past.true in
    record { told = λ _. sym (cond-false _ _ _ amount ∙ cond-false _ _ _ awake ∙ cond-false _ _ _ offered ∙ cond-true _ _ _ past) }

pub returns-then-not-covers : goal.returns-then-not-covers
returns-then-not-covers g c =
    let t = state_of g.B.Book.means c.args.ledger.now in
    let s = (lapse_all c.args.day.day.0 t).state in
    let amount = inside_bounds 1 most_use c.args.n c.if-n-lt1.false c.if-n-gt-MOST_USE.false in
    let awake = still_active s c.in_default.field-0 c.in_default.is in
    let offered = ap not (service_lapsed c.args.service c.args.day.day.0 t ∙ sym c.offers.ensures ∙ c.if-not-offers.false) in
    let past = sym c.runs_past.ensures ∙ c.if-runs_past.false in
    let short = poor s.balance (charge c.args.service c.args.n s) c.charge.result.0 c.charge.ensures (sym c.covers.ensures ∙ c.if-not-covers.true) in
    record { told = λ _. sym (cond-false _ _ _ amount ∙ cond-false _ _ _ awake ∙ cond-false _ _ _ offered ∙ cond-false _ _ _ past ∙ cond-true _ _ _ short) }

pub returns : goal.returns
returns g c =
    let t = state_of g.B.Book.means c.args.ledger.now in
    let s = (lapse_all c.args.day.day.0 t).state in
    let amount = inside_bounds 1 most_use c.args.n c.if-n-lt1.false c.if-n-gt-MOST_USE.false in
    let awake = still_active s c.in_default.field-0 c.in_default.is in
    let offered = ap not (service_lapsed c.args.service c.args.day.day.0 t ∙ sym c.offers.ensures ∙ c.if-not-offers.false) in
    let past = sym c.runs_past.ensures ∙ c.if-runs_past.false in
    let enough = rich s.balance (charge c.args.service c.args.n s) c.charge.result.0 c.charge.ensures (sym c.covers.ensures ∙ c.if-not-covers.false) in
    record { told = λ _. sym (cond-false _ _ _ amount ∙ cond-false _ _ _ awake ∙ cond-false _ _ _ offered ∙ cond-false _ _ _ past ∙ cond-false _ _ _ enough) }
