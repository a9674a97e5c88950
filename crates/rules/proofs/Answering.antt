-- For the code of a call: when what it did is what the rules say.
use Rattle.std.proofs.Common.{◌≡◌, ℕ, ◌≤◌, None, sym, ap, ◌∙◌}
use Rattle.std.proofs.lemmas.Bool.{le-ltb}
use Rattle.quantities.specs.Limits.{last_moment}
use Rattle.rules.specs.declared.call.Event.{Event}
use Rattle.rules.specs.Receipt.{Receipt, ◌⊕◌}
use Rattle.rules.specs.State.{World, State, Account, Out, after, then}
use Rattle.rules.specs.DueDays.{bring_up}
use Rattle.rules.specs.Calls.{perform}
use Rattle.rules.specs.Checks.{first_refusal, checks, refusal, brought, day_of}
use Rattle.rules.specs.Runs.{Answer, step}
use Rattle.rules.proofs.Steps.{step_accepts}

abbrev made : State → Receipt → Out
made s r = record { state = s; receipt = r }

-- a moment on day D that is neither too late nor too early leaves the call's own checks
pub in_time : (w : World) (a : Account) (e : Event) (D : ℕ) → D ≡ day_of e.moment.0 → e.moment.0 ≤ last_moment → a.latest ≤ e.moment.0 →
    refusal w a e ≡ first_refusal (checks w D e.call (bring_up w.calendar D a.state).state)
in_time w a e D on p q =
    let x = le-ltb last_moment e.moment.0 p in
    let y = le-ltb e.moment.0 a.latest q in
    let own : refusal w a e ≡ first_refusal (checks w (day_of e.moment.0) e.call (brought w e.moment.0 a).state) = cc in
    own ∙ sym (ap (λ d. first_refusal (checks w d e.call (bring_up w.calendar d a.state).state)) on)

-- t is the account brought up to day D, with the receipt p; u the account after the call, with q
pub accepted-from : (w : World) (a : Account) (e : Event) (D : ℕ) → D ≡ day_of e.moment.0 → (t u : State) (p q r : Receipt) →
    made t p ≡ bring_up w.calendar D a.state → made u q ≡ perform w D e.call t → r ≡ p ⊕ q → refusal w a e ≡ None →
    let b : Answer = record { outcome = None; account = record { latest = e.moment.0; state = u }; receipt = r } in b ≡ step w a e
accepted-from w a e D on t u p q r up done sum h =
    let told : Out → Answer = λ o. record { outcome = None; account = record { latest = e.moment.0; state = o.state }; receipt = o.receipt } in
    ap (λ x. told (made u x)) sum
    ∙ ap (λ o. told (after p o)) done
    ∙ ap (λ o. told (then o (perform w D e.call))) up
    ∙ ap (λ d. told (then (bring_up w.calendar d a.state) (perform w d e.call))) on
    ∙ sym (step_accepts w a e h)
