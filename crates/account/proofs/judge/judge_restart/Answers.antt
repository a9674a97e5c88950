-- Each check of a Restart, in its order.
use Rattle.std.proofs.Common.{◌≡◌, Bool, [], ◌∷◌, refl, sym, ap, ◌∙◌}
use Rattle.quantities.specs.declared.unit.UnitKind.{UnitKind}
use Rattle.std.proofs.lemmas.Bool.{cond-true, cond-false}
use Rattle.rules.specs.State.{awaited_fee}
use Rattle.tariff.specs.Terms.{Tariff, restart_wipes_unit}
use Rattle.rules.specs.DueDays.{lapse_all}
use Rattle.rules.specs.Calls.{new_due}
use Rattle.rules.specs.Gregorian.{gregorian}
use Rattle.rules.specs.Checks.{check_books, first_refusal, refusing, first_concern, aside_refusal}
use Rattle.ledger.specs.Meaning.{state_of}
use Rattle.account.specs.Leaving.{keep_concern}
use Rattle.account.specs.Meaning.{world}
use Rattle.account.proofs.Judged.{poor, rich, still_blocked, still_active, refusing_active}
use Rattle.account.proofs.judge.judge_restart.Goals as goal

pub returns-in_default : goal.returns-in_default
returns-in_default g c =
    let s = (lapse_all c.args.day.day.0 (state_of g.B.Book.means c.args.ledger.now)).state in
    record { told = λ _. sym (cond-true _ _ _ (still_blocked s c.in_default.is)) }

pub returns-then-fee_taken_on : goal.returns-then-fee_taken_on
returns-then-fee_taken_on g c =
    let s = (lapse_all c.args.day.day.0 (state_of g.B.Book.means c.args.ledger.now)).state in
    let awake = still_active s c.in-Active.due c.in-Active.is in
    let taken = sym c.fee_taken_on.ensures ∙ c.if-fee_taken_on.true in
    record { told = λ _. sym (cond-false _ _ _ awake ∙ cond-true _ _ _ taken) }

pub returns-then-not-covers : goal.returns-then-not-covers
returns-then-not-covers g c =
    let s = (lapse_all c.args.day.day.0 (state_of g.B.Book.means c.args.ledger.now)).state in
    let awake = still_active s c.in-Active.due c.in-Active.is in
    let taken = sym c.fee_taken_on.ensures ∙ c.if-fee_taken_on.false in
    let short = poor s.balance (awaited_fee s) (awaited_fee s) refl (sym c.covers.ensures ∙ c.if-not-covers.true) in
    record { told = λ _. sym (cond-false _ _ _ awake ∙ cond-false _ _ _ taken ∙ cond-true _ _ _ short) }

pub returns : goal.returns
returns g c =
    let s = (lapse_all c.args.day.day.0 (state_of g.B.Book.means c.args.ledger.now)).state in
    let awake = still_active s c.in-Active.due c.in-Active.is in
    let taken = sym c.fee_taken_on.ensures ∙ c.if-fee_taken_on.false in
    let enough = rich s.balance (awaited_fee s) (awaited_fee s) refl (sym c.covers.ensures ∙ c.if-not-covers.false) in
    let wipes : UnitKind → Bool = λ k. restart_wipes_unit k s.terms in
    let books : (t : Tariff) → first_refusal (check_books (refusing (world t g.B.Book.CAPACITY) wipes c.args.day.day.0 s) ∷ [])
    ≡ first_refusal (check_books (first_concern (aside_refusal (world t g.B.Book.CAPACITY) wipes c.in-Active.due.0 c.args.day.day.0 s)) ∷ []) =
    λ t. ap (λ o. first_refusal (check_books o ∷ [])) (refusing_active (world t g.B.Book.CAPACITY) wipes c.args.day.day.0 s c.in-Active.due c.in-Active.is) in
    let kept = ap (λ x. first_refusal (check_books (keep_concern g.B.Book.CAPACITY c.in-Active.due.0 (new_due gregorian c.args.day.day.0) x s.books) ∷ [])) c.wiped_by_restart.ensures in
    record { told = λ t. c.judge_books.ensures.told ∙ kept ∙ sym (cond-false _ _ _ awake ∙ cond-false _ _ _ taken ∙ cond-false _ _ _ enough ∙ books t) }
