-- Each call takes at most one fee beside renewals, and in a run each fee grants in full.
use Rattle.std.proofs.Common.{◌≡◌, ℕ, ◌+◌, ◌≤◌, Bool, true, false, cond, ◌&&◌, leb, ◌⊎◌, Some, None, Option, sym, refl, ap, ◌∙◌, subst, inl, inr, ⊎_elim, arith}
use Rattle.std.specs.List.{AllByRecursion}
use Rattle.std.proofs.lemmas.Bool.Decides.{nat_tests}
use Rattle.quantities.specs.Limits.{most_grant}
use Rattle.quantities.specs.Units.{of}
use Rattle.quantities.specs.declared.unit.UnitKind.{UnitKind}
use Rattle.quantities.specs.declared.unit.UnitKind.TheVariants.{Minutes, Megabytes, Messages}
use Rattle.quantities.specs.declared.time.Day.{Day}
use Rattle.tariff.specs.Terms.{Terms, Entry, WithinLimits, amount, restart_wipes_unit}
use Rattle.book.specs.Allowance.{Allowance, left, empty, aside}
use Rattle.rules.specs.declared.call.Status.TheVariants.{Blocked as blocked, Active as active}
use Rattle.rules.specs.declared.call.Service.{Service}
use Rattle.rules.specs.declared.call.Service.TheVariants.{Counted as counted, International as international}
use Rattle.rules.specs.declared.call.Call.{Call}
use Rattle.rules.specs.declared.call.Call.TheVariants.{TopUp as top_up, Use as use_of, Restart as restart, Switch as switch, MegabyteOption as option, DayMark as day_mark}
use Rattle.rules.specs.declared.call.Event.{Event}
use Rattle.rules.specs.Receipt.{Tally, Receipt, none, wiping_by_restart, wiping_by_switch, ◌⊕◌, nothing}
use Rattle.rules.specs.State.{Calendar, World, State, Account, Out, awaited_fee, awaited_grant, same, then, with_balance, with_plan, with_anchor}
use Rattle.rules.specs.DueDays.{granted, start_on}
use Rattle.rules.specs.Calls.{is_blocked, wake_if_paid, serve, new_due, wipe_or_keep, restarted, switch_wipes_unit, leave_plan, pay_entry, switched, switch_to, perform}
use Rattle.rules.specs.Checks.{Refusal, checks, all_checks, day_of, brought, refusal}
use Rattle.rules.specs.Runs.{Answer, step, run, opened}
use Rattle.rules.specs.Bounds.{entered, InFull, FeesGrantInFull}
use Rattle.rules.proofs.Receipts.{⊕_assoc, nothing-⊕}
use Rattle.rules.proofs.Steps.{step_accepts, step_refuses, told, not_both, passed}
use Rattle.rules.proofs.Closing.{stands}
use Rattle.rules.proofs.Fees.{Taken, Feeless, NoFresh, taken_then, taken_fee, Plain, feeless_from, feeless_units, feeless_nothing, feeless_then, renews_bring_up}
use Rattle.rules.proofs.SoundRuns.{ReadyAccount, ready_brought, reached}

-- a blocked account has no fresh amount
abbrev pub Emptied : State → Type 0
Emptied s = s.status ≡ blocked → NoFresh s.books

-- From s a step does what has no fee, and then takes one on day D and the terms t; it has wiped or set aside the fresh
-- amounts, unless the account was blocked.
pub record Starts (w : Calendar) (D : ℕ) (t : Terms) (s : State) (r : Receipt) : Type 0 where
  pub from : State
  pub before : Receipt
  pub feeless : Feeless before
  pub terms : from.terms ≡ t
  pub unfilled : Emptied s → NoFresh from.books
  pub then_starts : before ⊕ (start_on w D from).receipt ≡ r

abbrev pub OneFee : Calendar → ℕ → Terms → State → Receipt → Type 0
OneFee w D t s r = Feeless r ⊎ Starts w D t s r

-- ## Each call

pub fee_top_up : (w : Calendar) (D n : ℕ) (s : State) → OneFee w D s.terms s (wake_if_paid w D (with_balance (s.balance + n) s)).receipt
fee_top_up w D n s = go (is_blocked s) refl (leb (awaited_fee s) (s.balance + n))
  where
    s⁺ : State
    s⁺ = with_balance (s.balance + n) s

    asleep : is_blocked s ≡ true → s.status ≡ blocked
    asleep b = ⊎_elim (λ e. e) (λ x. let (d, e) = x in let z : ◌≡◌ {A = ℕ} 0 1 = cc in absurd (omega arith)) (stands s)

    go : (b : Bool) → is_blocked s ≡ b → (t : Bool) → OneFee w D s.terms s (cond (b && t) (start_on w D s⁺) (same s⁺)).receipt
    go true e true = inr (record { from = s⁺; before = nothing; feeless = feeless_nothing; terms = refl; unfilled = λ h. h (asleep e); then_starts = nothing-⊕ (start_on w D s⁺).receipt })
    go true e false = inl feeless_nothing
    go false e t = inl feeless_nothing

-- a use takes no fee and grants nothing
pub ungranted_serve : (v : Option Service) (n : ℕ) (s : State) (k : UnitKind) → (of k (serve v n s).receipt.units).granted ≡ 0
ungranted_serve None n s = elim [ Minutes ↦ refl | Megabytes ↦ refl | Messages ↦ refl ]
ungranted_serve (Some (counted Minutes)) n s = elim [ Minutes ↦ refl | Megabytes ↦ refl | Messages ↦ refl ]
ungranted_serve (Some (counted Megabytes)) n s = elim [ Minutes ↦ refl | Megabytes ↦ refl | Messages ↦ refl ]
ungranted_serve (Some (counted Messages)) n s = elim [ Minutes ↦ refl | Megabytes ↦ refl | Messages ↦ refl ]
ungranted_serve (Some international) n s = elim [ Minutes ↦ refl | Megabytes ↦ refl | Messages ↦ refl ]

-- books wiped or set aside
module _ (wiped : ℕ → Tally) (wipes : UnitKind → Bool) (e c : ℕ) (s : State) where
  feeless_wipe_or_keep : ((n : ℕ) → Plain (wiped n)) → Feeless (wipe_or_keep wiped wipes e c s).receipt
  feeless_wipe_or_keep h = feeless_units (λ k b. cond (wipes k) (wiped (left b)) none) s.books (λ k b. go (wipes k) b)
    where
      go : (x : Bool) (b : Allowance) → Plain (cond x (wiped (left b)) none)
      go true b = h (left b)
      go false b = (refl, refl)

  unfilled_wipe_or_keep : NoFresh (wipe_or_keep wiped wipes e c s).state.books
  unfilled_wipe_or_keep = elim [ Minutes ↦ go (wipes Minutes) s.books.minutes | Megabytes ↦ go (wipes Megabytes) s.books.megabytes | Messages ↦ go (wipes Messages) s.books.messages ]
    where
      go : (x : Bool) (b : Allowance) → (cond x empty (aside e c b)).fresh ≡ 0
      go true b = refl
      go false b = refl

pub fee_restart : (w : Calendar) (D : ℕ) (s : State) → OneFee w D s.terms s (restarted w D s).receipt
fee_restart w D s = ⊎_elim idle busy (stands s)
  where
    idle : s.status ≡ blocked → OneFee w D s.terms s (restarted w D s).receipt
    idle e = let p : same s ≡ restarted w D s = cc in inl (subst (λ (o : Out). Feeless o.receipt) p feeless_nothing)

    busy : (d : Day) × (s.status ≡ active d) → OneFee w D s.terms s (restarted w D s).receipt
    busy x =
        let (d, e) = x in
        let wipes : UnitKind → Bool = λ k. restart_wipes_unit k s.terms in
        let o = wipe_or_keep wiping_by_restart wipes d.0 (new_due w D) s in
        let p : then o (start_on w D) ≡ restarted w D s = cc in
        inr (record {
          from = o.state;
          before = o.receipt;
          feeless = feeless_wipe_or_keep wiping_by_restart wipes d.0 (new_due w D) s (λ n. (refl, refl));
          terms = refl;
          unfilled = λ h. unfilled_wipe_or_keep wiping_by_restart wipes d.0 (new_due w D) s;
          then_starts = ap (λ (o : Out). o.receipt) p;
        })

record LeavesUnfilled (s : State) (o : Out) : Type 0 where
  feeless : Feeless o.receipt
  unfilled : Emptied s → NoFresh o.state.books

leave_unfilled : (w : Calendar) (D : ℕ) (e : Entry) (s : State) → LeavesUnfilled s (leave_plan w D e s)
leave_unfilled w D e s = ⊎_elim idle busy (stands s)
  where
    idle : s.status ≡ blocked → LeavesUnfilled s (leave_plan w D e s)
    idle b = let p : same s ≡ leave_plan w D e s = cc in subst (LeavesUnfilled s) p (record { feeless = feeless_nothing; unfilled = λ h. h b })

    busy : (d : Day) × (s.status ≡ active d) → LeavesUnfilled s (leave_plan w D e s)
    busy x =
        let (d, a) = x in
        let wipes = switch_wipes_unit e s.terms in
        let p : wipe_or_keep wiping_by_switch wipes d.0 (new_due w D) s ≡ leave_plan w D e s = cc in
        subst (LeavesUnfilled s) p (record {
          feeless = feeless_wipe_or_keep wiping_by_switch wipes d.0 (new_due w D) s (λ n. (refl, refl));
          unfilled = λ h. unfilled_wipe_or_keep wiping_by_switch wipes d.0 (new_due w D) s;
        })

feeless_entry : (e : Entry) (s : State) → Feeless (pay_entry e s).receipt
feeless_entry e s = feeless_from (pay_entry e s).receipt refl (refl, refl) (refl, refl) (refl, refl)

pub starts_switch : (w : Calendar) (D c : ℕ) (t : Terms) (e : Entry) (s : State) → Starts w D t s (switched w D c t e s).receipt
starts_switch w D c t e s =
    let o₁ = pay_entry e s in
    let o₂ = leave_plan w D e o₁.state in
    let l = leave_unfilled w D e o₁.state in
    let new = with_plan c t o₂.state in
    record {
      from = new;
      before = o₁.receipt ⊕ o₂.receipt;
      feeless = feeless_then o₁.receipt o₂.receipt (feeless_entry e s) l.feeless;
      terms = refl;
      unfilled = l.unfilled;
      then_starts = ⊕_assoc o₁.receipt o₂.receipt (start_on w D new).receipt;
    }

-- ## Its grant

module _ (w : Calendar) (D : ℕ) (t : Terms) (s : State) (r : Receipt) (h : WithinLimits t) where
  -- in full, where a blocked account has no fresh amount
  taken_start : Emptied s → Starts w D t s r → Taken 1 t r
  taken_start empties x =
      let f = taken_fee w D (with_anchor (w.month_day D) x.from) (subst WithinLimits (sym x.terms) h) (x.unfilled empties) in
      subst (Taken 1 t) x.then_starts (taken_then x.before (start_on w D x.from).receipt (x.feeless t) (subst (λ u. Taken 1 u (start_on w D x.from).receipt) x.terms f))

  taken_once : Emptied s → OneFee w D t s r → (n : ℕ) × Taken n t r
  taken_once empties (inl f) = (0, f t)
  taken_once empties (inr x) = (1, taken_start empties x)

granted-most : (n : ℕ) (b : Allowance) → granted n b ≤ n
granted-most n b = grind (arith, nat_tests)

-- at most in full, for any account
module _ (w : Calendar) (D : ℕ) (t : Terms) (s : State) (r : Receipt) (h : WithinLimits t) where
  start_most : (x : Starts w D t s r) (k : UnitKind) → granted (awaited_grant k x.from) (of k x.from.books) ≤ most_grant
  start_most x k =
      let p : amount k x.from.terms ≡ amount k t = ap (amount k) x.terms in
      omega (arith, granted-most (awaited_grant k x.from) (of k x.from.books), h.amounts k)

  pub granted_once : OneFee w D t s r → (k : UnitKind) → ((of k r.units).granted ≤ most_grant) × ((of k r.units).beyond ≡ 0)
  granted_once (inl f) = λ k. (omega (arith, (f t).grants k), (f t).unused k)
  granted_once (inr x) =
      let f = x.feeless t in
      subst (λ (r : Receipt). (k : UnitKind) → ((of k r.units).granted ≤ most_grant) × ((of k r.units).beyond ≡ 0)) x.then_starts
      (elim [
        | Minutes ↦ (omega (arith, f.grants Minutes, start_most x Minutes), omega (arith, f.unused Minutes))
        | Megabytes ↦ (omega (arith, f.grants Megabytes, start_most x Megabytes), omega (arith, f.unused Megabytes))
        | Messages ↦ (omega (arith, f.grants Messages, start_most x Messages), omega (arith, f.unused Messages))
      ])

-- ## A call after n renewals

module _ (w : World) (D n : ℕ) (s : State) (r : Receipt) (h : WithinLimits s.terms) (empties : Emptied s) (renewed : Taken n s.terms r) where
  full_stay : (x : Receipt) → OneFee w.calendar D s.terms s x → (m : ℕ) × InFull m s.terms None (r ⊕ x)
  full_stay x f =
      let (m, q) = taken_once w.calendar D s.terms s x h empties f in
      let p = taken_then r x renewed q in
      (n + m, (p.fees, p.grants))

  full_enter : (t : Terms) (x : Receipt) → WithinLimits t → Starts w.calendar D t s x → (m : ℕ) × InFull m s.terms (Some t) (r ⊕ x)
  full_enter t x l f =
      let q = taken_start w.calendar D t s x l empties f in
      let a = renewed.fees in
      let b = q.fees in (
        n,
        (
          omega arith,
          elim [
            | Minutes ↦ omega (arith, renewed.grants Minutes, q.grants Minutes)
            | Megabytes ↦ omega (arith, renewed.grants Megabytes, q.grants Megabytes)
            | Messages ↦ omega (arith, renewed.grants Messages, q.grants Messages)
          ],
        ),
      )

  full_use : (v : Option Service) (k : ℕ) → (m : ℕ) × InFull m s.terms None (r ⊕ (serve v k s).receipt)
  full_use v k =
      let f = renewed.fees in (
        n,
        (
          omega arith,
          elim [
            | Minutes ↦ omega (arith, renewed.grants Minutes, ungranted_serve v k s Minutes)
            | Megabytes ↦ omega (arith, renewed.grants Megabytes, ungranted_serve v k s Megabytes)
            | Messages ↦ omega (arith, renewed.grants Messages, ungranted_serve v k s Messages)
          ],
        ),
      )

  full_call : (c : Call) → AllByRecursion (λ x. x.fails ≡ false) (checks w D c s) → (m : ℕ) × InFull m s.terms (entered w c) (r ⊕ (perform w D c s).receipt)
  full_call (top_up k) p = full_stay _ (fee_top_up w.calendar D k.0 s)
  full_call (use_of v k) p = full_use v k
  full_call restart p = full_stay _ (fee_restart w.calendar D s)
  full_call (switch c) p = go (w.terms c.0) (w.entry s.plan c.0) refl refl
    where
      Full : Option Terms → Out → Type 0
      Full t o = (m : ℕ) × InFull m s.terms t (r ⊕ o.receipt)

      go : (t : Option Terms) (e : Option Entry) → w.terms c.0 ≡ t → w.entry s.plan c.0 ≡ e → Full (w.terms c.0) (switch_to w D c.0 s)
      go None e i j = let f = p.0 in let z : ◌≡◌ {A = ℕ} 0 1 = cc in absurd (omega arith)
      go (Some t) None i j = let f = p.1.0 in let z : ◌≡◌ {A = ℕ} 0 1 = cc in absurd (omega arith)
      go (Some t) (Some e) i j =
          let x : switched w.calendar D c.0 t e s ≡ switch_to w D c.0 s = cc in
          subst (λ u. Full u (switch_to w D c.0 s)) (sym i)
          (subst (Full (Some t)) x (full_enter t _ (w.lawful.within c.0 t i) (starts_switch w.calendar D c.0 t e s)))
  full_call option p = full_stay _ (inl feeless_nothing)
  full_call day_mark p = full_stay _ (inl feeless_nothing)

pub full_step : (w : World) (a : Account) (e : Event) → ReadyAccount w a → (step w a e).outcome ≡ None →
    (n : ℕ) × InFull n a.state.terms (entered w e.call) (step w a e).receipt
full_step w a e h z = ⊎_elim accept refuse (told w a e)
  where
    D : ℕ
    D = day_of e.moment.0

    accept : refusal w a e ≡ None → (n : ℕ) × InFull n a.state.terms (entered w e.call) (step w a e).receipt
    accept p =
        let up = brought w e.moment.0 a in
        let r = renews_bring_up w.calendar D a.state h.sound.fit.limits in
        let ready = (ready_brought w e.moment.0 a h.sound).sound in
        let renewed : Taken r.count up.state.terms up.receipt = subst (λ t. Taken r.count t up.receipt) (sym r.terms) r.taken in
        let full =
        full_call w D r.count up.state up.receipt ready.fit.limits (λ b k. ap (λ (x : Allowance). x.fresh) (ready.emptied b k))
        renewed e.call (passed (all_checks w a e) p).1.1 in
        subst (λ (x : Answer). (n : ℕ) × InFull n a.state.terms (entered w e.call) x.receipt) (sym (step_accepts w a e p))
        (subst (λ t. (n : ℕ) × InFull n t (entered w e.call) (up.receipt ⊕ (perform w D e.call up.state).receipt)) r.terms full)

    refuse : (f : Refusal) × (refusal w a e ≡ Some f) → (n : ℕ) × InFull n a.state.terms (entered w e.call) (step w a e).receipt
    refuse x = absurd (not_both x.0 (sym (ap (λ (y : Answer). y.outcome) (step_refuses w a e x.0 x.1)) ∙ z))

pub fees_grant_in_full : FeesGrantInFull
fees_grant_in_full w c t m h es e z = full_step w (run w (opened c t m) es).account e (reached w c t m h es) z
