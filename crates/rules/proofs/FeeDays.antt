-- No fee is taken after the last day on which a call can be dated, so that every due day lies in the month after it.
use Rattle.std.proofs.Common.{◌≡◌, ℕ, zero, suc, ◌+◌, ◌≤◌, Bool, true, false, cond, ◌&&◌, leb, ◌⊎◌, List, [], ◌∷◌, Some, None, Option, sym, refl, ap, ◌∙◌, subst, inl, inr, ⊎_elim, arith}
use Rattle.std.proofs.lemmas.Bool.{ltb-false}
use Rattle.quantities.specs.Limits.{last_moment, last_call_day}
use Rattle.quantities.specs.declared.time.Day.{Day}
use Rattle.calendar.specs.Due.{month_of}
use Rattle.calendar.proofs.Months.{next, first_monotone, month_of-within}
use Rattle.calendar.proofs.Due.{due_next_month, month_of_before}
use Rattle.tariff.specs.Terms.{Terms, Entry}
use Rattle.rules.specs.declared.call.Call.{Call}
use Rattle.rules.specs.declared.call.Call.TheVariants.{TopUp as top_up, Use as use_of, Restart as restart, Switch as switch, MegabyteOption as option, DayMark as day_mark}
use Rattle.rules.specs.declared.call.Event.{Event}
use Rattle.rules.specs.declared.call.Status.TheVariants.{Blocked as blocked, Active as active}
use Rattle.rules.specs.State.{Calendar, World, State, Account, Out, awaited_fee, same, with_balance}
use Rattle.rules.specs.DueDays.{start_on, renew, block, handle, settle}
use Rattle.rules.specs.Calls.{is_blocked, wake_if_paid, restarted, switched, switch_to, perform}
use Rattle.rules.specs.Checks.{Refusal, all_checks, day_of, brought, refusal}
use Rattle.rules.specs.Runs.{Answer, step, run, opened}
use Rattle.rules.specs.Gregorian.{gregorian}
use Rattle.rules.specs.Bounds.{DuesEnd, DueDaysBounded}
use Rattle.rules.proofs.Advance.{Rests, Due, look, settle_rests, settle-due}
use Rattle.rules.proofs.Steps.{step_accepts, step_refuses, told, passed}
use Rattle.rules.proofs.Closing.{stands}
use Rattle.rules.proofs.SoundRuns.{reached}

-- the last fee, if there was one, was taken on day E or before
abbrev PaidBy : ℕ → State → Type 0
PaidBy E s = (d : Day) → s.last_fee ≡ Some d → d.0 ≤ E

paid_on : (E d : ℕ) (s : State) → s.last_fee ≡ Some (record { 0 = d }) → d ≤ E → PaidBy E s
paid_on E d s e l x f = let q : d ≡ x.0 = cc in omega arith

-- ## Due days

paid_handle : (w : Calendar) (E d : ℕ) (s : State) → d ≤ E → PaidBy E s → PaidBy E (handle w d s).state
paid_handle w E d s l h = go (leb (awaited_fee s) s.balance)
  where
    go : (t : Bool) → PaidBy E (cond t (renew w d s) (block s)).state
    go true = paid_on E d (renew w d s).state refl l
    go false = h

paid_settle : (w : Calendar) (E n D : ℕ) (s : State) → D ≤ E → PaidBy E s → PaidBy E (settle w n D s).state
unfolding Rests Due
paid_settle w E zero D s l h = h
paid_settle w E (suc n) D s l h =
    elim (look D s) [
      | inl r ↦ subst (λ (o : Out). PaidBy E o.state) (sym (settle_rests w D s r (suc n))) h
      | inr x ↦
          let (d, e, i) = x in
          subst (λ (o : Out). PaidBy E o.state) (sym (settle-due w D s d e i n))
          (paid_settle w E n D (handle w d.0 s).state l (paid_handle w E d.0 s (omega arith) h))
    ]

-- ## Calls

-- a call leaves the last fee day, or makes its own day the last fee day
abbrev FeeDay : ℕ → State → Out → Type 0
FeeDay D s o = (o.state.last_fee ≡ s.last_fee) ⊎ (o.state.last_fee ≡ Some (record { 0 = D }))

fee_day_top_up : (w : Calendar) (D n : ℕ) (s : State) → FeeDay D s (wake_if_paid w D (with_balance (s.balance + n) s))
fee_day_top_up w D n s = go (is_blocked s && leb (awaited_fee s) (s.balance + n))
  where
    s⁺ : State
    s⁺ = with_balance (s.balance + n) s

    go : (t : Bool) → let o = cond t (start_on w D s⁺) (same s⁺) in (o.state.last_fee ≡ s.last_fee) ⊎ (o.state.last_fee ≡ Some (record { 0 = D }))
    go true = inr refl
    go false = inl refl

fee_day_restart : (w : Calendar) (D : ℕ) (s : State) → FeeDay D s (restarted w D s)
fee_day_restart w D s = ⊎_elim idle busy (stands s)
  where
    idle : s.status ≡ blocked → FeeDay D s (restarted w D s)
    idle e = let p : same s ≡ restarted w D s = cc in inl (ap (λ (o : Out). o.state.last_fee) (sym p))

    busy : (d : Day) × (s.status ≡ active d) → FeeDay D s (restarted w D s)
    busy x = let (d, e) = x in let p : (restarted w D s).state.last_fee ≡ Some (record { 0 = D }) = cc in inr p

fee_day_switch : (w : World) (D c : ℕ) (s : State) → FeeDay D s (switch_to w D c s)
fee_day_switch w D c s = go (w.terms c) (w.entry s.plan c) refl refl
  where
    go : (t : Option Terms) (e : Option Entry) → w.terms c ≡ t → w.entry s.plan c ≡ e → FeeDay D s (switch_to w D c s)
    go None e p q = let x : same s ≡ switch_to w D c s = cc in inl (ap (λ (o : Out). o.state.last_fee) (sym x))
    go (Some t) None p q = let x : same s ≡ switch_to w D c s = cc in inl (ap (λ (o : Out). o.state.last_fee) (sym x))
    go (Some t) (Some e) p q =
        let x : switched w.calendar D c t e s ≡ switch_to w D c s = cc in inr (ap (λ (o : Out). o.state.last_fee) (sym x))

fee_day : (w : World) (D : ℕ) (c : Call) (s : State) → FeeDay D s (perform w D c s)
fee_day w D (top_up n) s = fee_day_top_up w.calendar D n.0 s
fee_day w D (use_of v n) s = inl refl
fee_day w D restart s = fee_day_restart w.calendar D s
fee_day w D (switch c) s = fee_day_switch w D c.0 s
fee_day w D option s = inl refl
fee_day w D day_mark s = inl refl

paid_perform : (w : World) (E D : ℕ) (c : Call) (s : State) → D ≤ E → PaidBy E s → PaidBy E (perform w D c s).state
paid_perform w E D c s l h = ⊎_elim (λ e d f. h d (sym e ∙ f)) (λ e. paid_on E D (perform w D c s).state e l) (fee_day w D c s)

-- ## Every call and every run

paid_step : (w : World) (a : Account) (e : Event) → PaidBy last_call_day a.state → PaidBy last_call_day (step w a e).account.state
paid_step w a e h = ⊎_elim accept refuse (told w a e)
  where
    D : ℕ
    D = day_of e.moment.0

    accept : refusal w a e ≡ None → PaidBy last_call_day (step w a e).account.state
    accept z =
        let early = ltb-false last_moment e.moment.0 (passed (all_checks w a e) z).0 in
        let l : D ≤ last_call_day = omega arith in
        subst (λ (x : Answer). PaidBy last_call_day x.account.state) (sym (step_accepts w a e z))
        (paid_perform w last_call_day D e.call (brought w e.moment.0 a).state l (paid_settle w.calendar last_call_day (suc D) D a.state l h))

    refuse : (f : Refusal) × (refusal w a e ≡ Some f) → PaidBy last_call_day (step w a e).account.state
    refuse n = subst (λ (x : Answer). PaidBy last_call_day x.account.state) (sym (step_refuses w a e n.0 n.1)) h

paid_run : (w : World) (a : Account) (es : List Event) → PaidBy last_call_day a.state → PaidBy last_call_day (run w a es).account.state
paid_run w a [] h = h
paid_run w a (e ∷ es) h = paid_run w (step w a e).account es (paid_step w a e h)

never_paid : (c : ℕ) (t : Terms) (m : ℕ) → PaidBy last_call_day (opened c t m).state
never_paid c t m d e = let z : ◌≡◌ {A = ℕ} 0 1 = cc in absurd (omega arith)

pub due_days_bounded : DueDaysBounded
due_days_bounded w c t m h es ends d e =
    let due = (reached w c t m h es).sound.due d e in
    let paid = paid_run w (opened c t m) es (never_paid c t m) due.fee_day due.has_fee_day in
    let next = due.is_next in
    omega (arith, ends due.fee_day.0 due.day_of_month.0 paid)

-- ## The Gregorian calendar

pub gregorian_ends : DuesEnd gregorian
gregorian_ends d a h =
    let due = gregorian.due_after d a in
    let early = month_of_before d 1200 (omega arith) in
    let month = due_next_month d a in
    let within = month_of-within due in
    let step = next (month_of due) in
    omega (arith, first_monotone (month_of due + 1) 1201 (omega arith))
