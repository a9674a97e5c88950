-- No sum and no unit comes from nowhere or is lost: what each step keeps, and what a run keeps.
use Rattle.std.proofs.Common.{◌≡◌, ℕ, zero, suc, ◌+◌, ◌≤◌, Bool, true, false, cond, ◌&&◌, leb, ◌⊎◌, List, [], ◌∷◌, Some, None, Option, sym, refl, subst, inl, inr, ⊎_elim, zero-add, arith}
use Rattle.std.specs.List.{AllByRecursion}
use Rattle.std.proofs.lemmas.Bool.{leb-true, ltb-false, and_parts}
use Rattle.quantities.specs.Units.{of}
use Rattle.quantities.specs.declared.unit.PerUnit.{PerUnit}
use Rattle.quantities.specs.declared.unit.UnitKind.{UnitKind}
use Rattle.quantities.specs.declared.unit.UnitKind.TheVariants.{Minutes, Megabytes, Messages}
use Rattle.tariff.specs.Terms.{Terms, Entry, carries_unit, restart_wipes_unit}
use Rattle.book.specs.Allowance.{Allowance, units, left, empty, ended, lapsed, drawn, draw_answer, aside}
use Rattle.rules.specs.declared.call.Status.{Status}
use Rattle.rules.specs.declared.call.Status.TheVariants.{Blocked as blocked, Active as active}
use Rattle.rules.specs.declared.call.Service.{Service}
use Rattle.rules.specs.declared.call.Service.TheVariants.{Counted as counted, International as international}
use Rattle.rules.specs.declared.call.Call.{Call}
use Rattle.rules.specs.declared.call.Call.TheVariants.{TopUp as top_up, Use as use_of, Restart as restart, Switch as switch, MegabyteOption as option, DayMark as day_mark}
use Rattle.rules.specs.declared.call.Event.{Event}
use Rattle.quantities.specs.declared.time.Day.{Day}
use Rattle.rules.specs.Receipt.{Tally, none, granting, used, ending, wiping_by_restart, wiping_by_switch}
use Rattle.rules.specs.State.{Calendar, World, State, Account, Out, awaited_fee, awaited_grant, money_charged, same, then, with_balance, with_plan, with_anchor}
use Rattle.rules.specs.DueDays.{refilled, granted, next_due, take_fee, start_on, closed, closing, close_month, renew, block, handle, settle, lapse_all, bring_up}
use Rattle.rules.specs.Calls.{is_blocked, wake_if_paid, beyond, charge, serve, new_due, wipe_or_keep, restarted, switch_wipes_unit, leave_plan, pay_entry, switched, switch_to, perform}
use Rattle.rules.specs.Checks.{Refusal, checks, all_checks, switch_takes, day_of, brought, refusal}
use Rattle.rules.specs.Runs.{Answer, accepted, step, run, opened}
use Rattle.rules.specs.Laws.{paid_in, paid_by, topped_up, MoneyCloses, UnitsClose}
use Rattle.rules.proofs.Advance.{Rests, Due, look, settle_rests, settle-due}
use Rattle.rules.proofs.Steps.{step_accepts, step_refuses, told, passed}
use Rattle.rules.proofs.Flow.{flow_fill, flow_lapse, flow_close, flow_block, flow_draw, by_restart, by_switch, flow_wipe_or_keep, flows_then, flows_none, flows_each, flows_at, Wiping, Flows}

-- ## A step from a balance and books, with n paid in

pub record Closes (n : ℕ) (balance : ℕ) (books : PerUnit Allowance) (o : Out) : Type 0 where
  pub money : balance + n ≡ o.state.balance + money_charged o.receipt
  pub units : Flows books o.state.books o.receipt.units

closes_then : {n m : ℕ} {b : ℕ} {bs : PerUnit Allowance} (o : Out) (f : State → Out) →
    Closes n b bs o → Closes m o.state.balance o.state.books (f o.state) → Closes (n + m) b bs (then o f)
closes_then o f p q = record {
  money = let x = p.money in let y = q.money in omega arith;
  units = flows_then _ _ _ _ _ p.units q.units;
}

closes_same : (s : State) → Closes 0 s.balance s.books (same s)
closes_same s = record { money = omega arith; units = flows_none s.books }

closes_fee : (w : Calendar) (d : ℕ) (s : State) → awaited_fee s ≤ s.balance → Closes 0 s.balance s.books (take_fee w d s)
closes_fee w d s h = record {
  money = omega arith;
  units = flows_each (λ k b. refilled (awaited_grant k s) b) (λ k b. granting (granted (awaited_grant k s) b)) (λ k b. flow_fill (awaited_grant k s) b) s.books;
}

closes_close : (e : ℕ) (s : State) → Closes 0 s.balance s.books (close_month e s)
closes_close e s = record {
  money = omega arith;
  units = flows_each (λ k b. closed (carries_unit k s.terms) e b) (λ k b. closing (carries_unit k s.terms) b) (λ k b. flow_close (carries_unit k s.terms) e b) s.books;
}

closes_block : (s : State) → Closes 0 s.balance s.books (block s)
closes_block s = record {
  money = omega arith;
  units = flows_each (λ k b. empty) (λ k b. ending (units b.lots) b.fresh) (λ k b. flow_block b) s.books;
}

closes_handle : (w : Calendar) (d : ℕ) (s : State) → Closes 0 s.balance s.books (handle w d s)
closes_handle w d s = go (leb (awaited_fee s) s.balance) refl
  where
    go : (t : Bool) → leb (awaited_fee s) s.balance ≡ t → Closes 0 s.balance s.books (cond t (renew w d s) (block s))
    go true e =
        let o = close_month (next_due w d s) s in
        closes_then o (take_fee w d) (closes_close (next_due w d s) s)
        (closes_fee w d o.state (leb-true (awaited_fee s) s.balance e))
    go false e = closes_block s

closes_settle : (w : Calendar) (n D : ℕ) (s : State) → Closes 0 s.balance s.books (settle w n D s)
unfolding Rests Due
closes_settle w zero D s = closes_same s
closes_settle w (suc n) D s =
    elim (look D s) [
      | inl r ↦ subst (Closes 0 s.balance s.books) (sym (settle_rests w D s r (suc n))) (closes_same s)
      | inr x ↦
          let (d, e, l) = x in
          subst (Closes 0 s.balance s.books) (sym (settle-due w D s d e l n))
          (closes_then (handle w d.0 s) (settle w n D) (closes_handle w d.0 s) (closes_settle w n D (handle w d.0 s).state))
    ]

closes_lapse : (D : ℕ) (s : State) → Closes 0 s.balance s.books (lapse_all D s)
closes_lapse D s = record {
  money = omega arith;
  units = flows_each (λ k b. lapsed D b) (λ k b. ending (units (ended D b.lots)) 0) (λ k b. flow_lapse D b) s.books;
}

pub closes_bring_up : (w : Calendar) (D : ℕ) (s : State) → Closes 0 s.balance s.books (bring_up w D s)
closes_bring_up w D s =
    let o = settle w (suc D) D s in
    closes_then o (lapse_all D) (closes_settle w (suc D) D s) (closes_lapse D o.state)

-- ## The calls

closes_start : (w : Calendar) (D : ℕ) (s : State) → awaited_fee s ≤ s.balance → Closes 0 s.balance s.books (start_on w D s)
closes_start w D s l = closes_fee w D (with_anchor (w.month_day D) s) l

closes_top_up : (w : Calendar) (D n : ℕ) (s : State) → Closes n s.balance s.books (wake_if_paid w D (with_balance (s.balance + n) s))
closes_top_up w D n s = go (is_blocked s && leb (awaited_fee s) (s.balance + n)) refl
  where
    s⁺ : State
    s⁺ = with_balance (s.balance + n) s

    more : (o : Out) → Closes 0 (s.balance + n) s.books o → Closes n s.balance s.books o
    more o k = record { money = let x = k.money in omega arith; units = k.units }

    go : (t : Bool) → (is_blocked s && leb (awaited_fee s) (s.balance + n)) ≡ t → Closes n s.balance s.books (cond t (start_on w D s⁺) (same s⁺))
    go true e =
        let (b, l) = and_parts (is_blocked s) (leb (awaited_fee s) (s.balance + n)) e in
        more (start_on w D s⁺) (closes_start w D s⁺ (leb-true (awaited_fee s) (s.balance + n) l))
    go false e = more (same s⁺) (closes_same s⁺)

closes_wipe_or_keep : (wiped : ℕ → Tally) → Wiping wiped → (wipes : UnitKind → Bool) (e c : ℕ) (s : State) →
    Closes 0 s.balance s.books (wipe_or_keep wiped wipes e c s)
closes_wipe_or_keep wiped h wipes e c s = record {
  money = omega arith;
  units = flows_each (λ k b. cond (wipes k) empty (aside e c b)) (λ k b. cond (wipes k) (wiped (left b)) none) (λ k b. flow_wipe_or_keep wiped h (wipes k) e c b) s.books;
}

closes_serve : (v : Option Service) (n : ℕ) (s : State) → charge v n s ≤ s.balance → Closes 0 s.balance s.books (serve v n s)
closes_serve None n s l = record { money = omega arith; units = flows_none s.books }
closes_serve (Some (counted k)) n s l = record {
  money = omega arith;
  units = flows_at k (drawn n) (used (draw_answer n (of k s.books)) (beyond k n s)) s.books (flow_draw n (beyond k n s) (of k s.books));
}
closes_serve (Some international) n s l = record { money = omega arith; units = flows_none s.books }

-- an account is blocked, or active
pub stands : (s : State) → (s.status ≡ blocked) ⊎ ((d : Day) × (s.status ≡ active d))
stands s = go s.status refl
  where
    go : (t : Status) → s.status ≡ t → (s.status ≡ blocked) ⊎ ((d : Day) × (s.status ≡ active d))
    go blocked e = inl e
    go (active d) e = inr (d, e)

closes_restart : (w : Calendar) (D : ℕ) (s : State) → awaited_fee s ≤ s.balance → Closes 0 s.balance s.books (restarted w D s)
closes_restart w D s l = ⊎_elim idle busy (stands s)
  where
    idle : s.status ≡ blocked → Closes 0 s.balance s.books (restarted w D s)
    idle e = let p : same s ≡ restarted w D s = cc in subst (Closes 0 s.balance s.books) p (closes_same s)

    busy : (d : Day) × (s.status ≡ active d) → Closes 0 s.balance s.books (restarted w D s)
    busy x =
        let (d, e) = x in
        let o = wipe_or_keep wiping_by_restart (λ k. restart_wipes_unit k s.terms) d.0 (new_due w D) s in
        let p : then o (start_on w D) ≡ restarted w D s = cc in
        subst (Closes 0 s.balance s.books) p
        (closes_then o (start_on w D) (closes_wipe_or_keep wiping_by_restart by_restart (λ k. restart_wipes_unit k s.terms) d.0 (new_due w D) s)
        (closes_start w D o.state l))

-- a plan is left: the balance stays
record Leaves (s : State) (o : Out) : Type 0 where
  closes : Closes 0 s.balance s.books o
  balance : o.state.balance ≡ s.balance

closes_leave : (w : Calendar) (D : ℕ) (e : Entry) (s : State) → Leaves s (leave_plan w D e s)
closes_leave w D e s = ⊎_elim idle busy (stands s)
  where
    idle : s.status ≡ blocked → Leaves s (leave_plan w D e s)
    idle b = let p : same s ≡ leave_plan w D e s = cc in subst (Leaves s) p (record { closes = closes_same s; balance = refl })

    busy : (d : Day) × (s.status ≡ active d) → Leaves s (leave_plan w D e s)
    busy x =
        let (d, a) = x in
        let wipes = switch_wipes_unit e s.terms in
        let p : wipe_or_keep wiping_by_switch wipes d.0 (new_due w D) s ≡ leave_plan w D e s = cc in
        subst (Leaves s) p (record { closes = closes_wipe_or_keep wiping_by_switch by_switch wipes d.0 (new_due w D) s; balance = refl })

closes_entry : (e : Entry) (s : State) → e.price ≤ s.balance → Closes 0 s.balance s.books (pay_entry e s)
closes_entry e s l = record { money = omega arith; units = flows_none s.books }

closes_switch : (w : Calendar) (D c : ℕ) (t : Terms) (e : Entry) (s : State) → e.price + t.fee ≤ s.balance → Closes 0 s.balance s.books (switched w D c t e s)
closes_switch w D c t e s l =
    let o₁ = pay_entry e s in
    let o₂ = leave_plan w D e o₁.state in
    let q = closes_leave w D e o₁.state in
    let enough : t.fee ≤ o₂.state.balance = omega (arith, q.balance) in
    let start : State → Out = λ s₂. start_on w D (with_plan c t s₂) in
    closes_then o₁ (λ s₁. then (leave_plan w D e s₁) start) (closes_entry e s (omega arith))
    (closes_then o₂ start q.closes (closes_start w D (with_plan c t o₂.state) enough))

-- what a call takes from the balance
abbrev pub takes : World → Call → State → ℕ
takes w (top_up n) s = 0
takes w (use_of v n) s = charge v n s
takes w restart s = awaited_fee s
takes w (switch c) s = switch_takes (w.terms c.0) (w.entry s.plan c.0)
takes w option s = 0
takes w day_mark s = 0

closes_perform : (w : World) (D : ℕ) (c : Call) (s : State) → takes w c s ≤ s.balance → Closes (paid_in c) s.balance s.books (perform w D c s)
closes_perform w D (top_up n) s l = closes_top_up w.calendar D n.0 s
closes_perform w D (use_of v n) s l = closes_serve v n s l
closes_perform w D restart s l = closes_restart w.calendar D s l
closes_perform w D (switch c) s l = go (w.terms c.0) (w.entry s.plan c.0) refl refl
  where
    go : (t : Option Terms) (e : Option Entry) → w.terms c.0 ≡ t → w.entry s.plan c.0 ≡ e → Closes 0 s.balance s.books (switch_to w D c.0 s)
    go None e p q = let r : same s ≡ switch_to w D c.0 s = cc in subst (Closes 0 s.balance s.books) r (closes_same s)
    go (Some t) None p q = let r : same s ≡ switch_to w D c.0 s = cc in subst (Closes 0 s.balance s.books) r (closes_same s)
    go (Some t) (Some e) p q =
        let r : switched w.calendar D c.0 t e s ≡ switch_to w D c.0 s = cc in
        let x : e.price + t.fee ≡ takes w (switch c) s = cc in
        subst (Closes 0 s.balance s.books) r (closes_switch w.calendar D c.0 t e s (omega arith))
closes_perform w D option s l = record { money = omega arith; units = flows_none s.books }
closes_perform w D day_mark s l = closes_same s

-- ## A call, and a run of calls

affords_call : (w : World) (D : ℕ) (c : Call) (s : State) → AllByRecursion (λ x. x.fails ≡ false) (checks w D c s) → takes w c s ≤ s.balance
affords_call w D (top_up n) s h = omega arith
affords_call w D (use_of v n) s h = ltb-false s.balance (charge v n s) h.1.1.1.1.0
affords_call w D restart s h = ltb-false s.balance (awaited_fee s) h.1.1.0
affords_call w D (switch c) s h = ltb-false s.balance (switch_takes (w.terms c.0) (w.entry s.plan c.0)) h.1.1.0
affords_call w D option s h = omega arith
affords_call w D day_mark s h = omega arith

-- what an accepted call takes is there
pub affords : (w : World) (a : Account) (e : Event) → refusal w a e ≡ None →
    let s = (brought w e.moment.0 a).state in
    takes w e.call s ≤ s.balance
affords w a e z =
    affords_call w (day_of e.moment.0) e.call (brought w e.moment.0 a).state (passed (all_checks w a e) z).1.1

abbrev pub out_of : Answer → Out
out_of x = record { state = x.account.state; receipt = x.receipt }

pub closes_step : (w : World) (a : Account) (e : Event) →
    Closes (paid_by e.call (step w a e).outcome) a.state.balance a.state.books (out_of (step w a e))
closes_step w a e = ⊎_elim accept refuse (told w a e)
  where
    K : ℕ → Answer → Type 0
    K n x = Closes n a.state.balance a.state.books (out_of x)

    accept : refusal w a e ≡ None → K (paid_by e.call (step w a e).outcome) (step w a e)
    accept z =
        let D = day_of e.moment.0 in
        let up = bring_up w.calendar D a.state in
        let p = closes_bring_up w.calendar D a.state in
        let q = closes_perform w D e.call up.state (affords w a e z) in
        let r : K (0 + paid_in e.call) (accepted w a e) = closes_then up (perform w D e.call) p q in
        subst (λ x. K (paid_by e.call x.outcome) x) (sym (step_accepts w a e z)) (rw zero-add at r)

    refuse : (f : Refusal) × (refusal w a e ≡ Some f) → K (paid_by e.call (step w a e).outcome) (step w a e)
    refuse n =
        subst (λ x. K (paid_by e.call x.outcome) x) (sym (step_refuses w a e n.0 n.1)) (closes_same a.state)

pub closes_run : (w : World) (a : Account) (es : List Event) →
    let r = run w a es in
    Closes (topped_up es r.outcomes) a.state.balance a.state.books (record { state = r.account.state; receipt = r.total })
closes_run w a [] = closes_same a.state
closes_run w a (e ∷ es) =
    let x = step w a e in
    let p = closes_step w a e in
    let r = run w x.account es in
    closes_then (out_of x) (λ _. record { state = r.account.state; receipt = r.total }) p (closes_run w x.account es)

pub money_closes : MoneyCloses
money_closes w c t m es = omega (arith, (closes_run w (opened c t m) es).money)

pub units_close : UnitsClose
units_close w c t m es Minutes = omega (arith, (closes_run w (opened c t m) es).units Minutes)
units_close w c t m es Megabytes = omega (arith, (closes_run w (opened c t m) es).units Megabytes)
units_close w c t m es Messages = omega (arith, (closes_run w (opened c t m) es).units Messages)
