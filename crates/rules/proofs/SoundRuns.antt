-- Every call, and so every run, keeps an account sound, with its due day after the day of its latest call.
use Rattle.std.proofs.Common.{◌≡◌, ℕ, ◌+◌, ◌-◌, ◌<◌, ◌≤◌, Bool, true, false, cond, ◌&&◌, leb, List, [], ◌∷◌, is_some, Some, None, Option, sym, refl, ap, ◌∙◌, subst, ⊎_elim, arith}
use Rattle.std.specs.List.{AllByRecursion}
use Rattle.std.proofs.lemmas.Bool.{leb-false, ltb-false, and_cases}
use Rattle.quantities.specs.Limits.{most_balance}
use Rattle.quantities.specs.Units.{of}
use Rattle.quantities.specs.declared.unit.PerUnit.{PerUnit}
use Rattle.quantities.specs.declared.unit.UnitKind.{UnitKind}
use Rattle.quantities.specs.declared.unit.UnitKind.TheVariants.{Minutes, Megabytes, Messages}
use Rattle.quantities.specs.declared.time.Day.{Day}
use Rattle.tariff.specs.Terms.{Terms, Entry, WithinLimits, restart_wipes_unit}
use Rattle.book.specs.declared.fault.BookFault.{BookFault}
use Rattle.book.specs.Allowance.{Allowance, empty, aside}
use Rattle.rules.specs.declared.call.Status.TheVariants.{Blocked as blocked, Active as active}
use Rattle.rules.specs.declared.call.Service.{Service}
use Rattle.rules.specs.declared.call.Service.TheVariants.{Counted as counted, International as international}
use Rattle.rules.specs.declared.call.Call.{Call}
use Rattle.rules.specs.declared.call.Call.TheVariants.{TopUp as top_up, Use as use_of, Restart as restart, Switch as switch, MegabyteOption as option, DayMark as day_mark}
use Rattle.rules.specs.declared.call.Event.{Event}
use Rattle.rules.specs.Receipt.{Tally, wiping_by_restart, wiping_by_switch}
use Rattle.rules.specs.State.{Calendar, World, State, Account, Out, awaited_fee, same, then, with_balance, with_plan}
use Rattle.rules.specs.DueDays.{start_on}
use Rattle.rules.specs.Calls.{is_blocked, wake_if_paid, used_books, serve, new_due, wipe_or_keep, restarted, switch_wipes_unit, leave_plan, pay_entry, switched, switch_to, perform}
use Rattle.rules.specs.Checks.{Concern, Refusal, aside_refusal, concern_of, first_concern, refusing, entry_refusing, checks, all_checks, day_of, brought, refusal}
use Rattle.rules.specs.Runs.{Answer, step, run, opened}
use Rattle.rules.specs.Bounds.{BalanceBounded, BlockedEmpty, DueDayAhead}
use Rattle.rules.proofs.Advance.{Rests}
use Rattle.rules.proofs.Steps.{step_accepts, step_refuses, told, passed}
use Rattle.rules.proofs.Closing.{stands}
use Rattle.rules.proofs.Held.{held-empty, held_draw, held-aside}
use Rattle.rules.proofs.Sound.{AllHeld, held-each, Fit, Sound, never, sound_start, sound_bring_up, rests_after}

-- an account that is sound, and has no due day at or before the day D
pub record Ready (w : Calendar) (D : ℕ) (s : State) : Type 0 where
  pub sound : Sound w s
  pub rests : Rests D s

ready_start : (w : Calendar) (D : ℕ) (s : State) → Fit s → Ready w D (start_on w D s).state
unfolding Rests
ready_start w D s h = record { sound = sound_start w D s h; rests = λ d e. let q : new_due w D ≡ d.0 = cc in omega (arith, w.due_later D (w.month_day D)) }

-- ## A book that is asked to be set aside and doesn't refuse

concerns : (k : UnitKind) (o : Option BookFault) (c : Option Concern) → is_some (concern_of k o c) ≡ false → (o ≡ None) × (is_some c ≡ false)
concerns k None c h = (refl, h)
concerns k (Some f) c h = let z : ◌≡◌ {A = ℕ} 0 1 = cc in absurd (omega arith)

unconcerned : (f : UnitKind → Option BookFault) → is_some (first_concern f) ≡ false → (k : UnitKind) → f k ≡ None
unconcerned f h =
    let (a, p) = concerns Minutes (f Minutes) _ h in
    let (b, q) = concerns Megabytes (f Megabytes) _ p in
    let (c, r) = concerns Messages (f Messages) None q in
    all a b c
  where
    all : f Minutes ≡ None → f Megabytes ≡ None → f Messages ≡ None → (k : UnitKind) → f k ≡ None
    all a b c Minutes = a
    all a b c Megabytes = b
    all a b c Messages = c

fit_wipe_or_keep : (w : World) (wiped : ℕ → Tally) (wipes : UnitKind → Bool) (d : Day) (D : ℕ) (s : State) → s.status ≡ active d →
    is_some (refusing w wipes D s) ≡ false → Fit s → Fit (wipe_or_keep wiped wipes d.0 (new_due w.calendar D) s).state
fit_wipe_or_keep w wiped wipes d D s e r h =
    let p : first_concern (aside_refusal w wipes d.0 D s) ≡ refusing w wipes D s = cc in
    let q = unconcerned (aside_refusal w wipes d.0 D s) (ap is_some p ∙ r) in
    let c = new_due w.calendar D in
    record {
      limits = h.limits;
      balance = h.balance;
      anchor = h.anchor;
      books = held-each (λ k b. cond (wipes k) empty (aside d.0 c b)) s.books (λ k. held-aside w.capacity (wipes k) d.0 c (of k s.books) (q k));
    }

-- ## The calls

fit_balance : (n : ℕ) (s : State) → n ≤ most_balance → Fit s → Fit (with_balance n s)
fit_balance n s l h = record { limits = h.limits; balance = l; anchor = h.anchor; books = h.books }

fit_plan : (c : ℕ) (t : Terms) (s : State) → WithinLimits t → Fit s → Fit (with_plan c t s)
fit_plan c t s l h = record { limits = l; balance = h.balance; anchor = h.anchor; books = h.books }

held-used : (v : Option Service) (n : ℕ) (bs : PerUnit Allowance) → AllHeld bs → AllHeld (used_books v n bs)
held-used None n bs h = h
held-used (Some (counted Minutes)) n bs h = elim [ Minutes ↦ held_draw n bs.minutes (h Minutes) | Megabytes ↦ h Megabytes | Messages ↦ h Messages ]
held-used (Some (counted Megabytes)) n bs h = elim [ Minutes ↦ h Minutes | Megabytes ↦ held_draw n bs.megabytes (h Megabytes) | Messages ↦ h Messages ]
held-used (Some (counted Messages)) n bs h = elim [ Minutes ↦ h Minutes | Megabytes ↦ h Megabytes | Messages ↦ held_draw n bs.messages (h Messages) ]
held-used (Some international) n bs h = h

awake : {A : Type 0} (s : State) → is_blocked s ≡ false → s.status ≡ blocked → A
awake s h e = let z : ◌≡◌ {A = ℕ} 0 1 = cc in absurd (omega arith)

ready_top_up : (w : Calendar) (D n : ℕ) (s : State) → s.balance + n ≤ most_balance → Ready w D s →
    Ready w D (wake_if_paid w D (with_balance (s.balance + n) s)).state
unfolding Rests
ready_top_up w D n s l h = go (is_blocked s && leb (awaited_fee s) (s.balance + n)) refl
  where
    s⁺ : State
    s⁺ = with_balance (s.balance + n) s

    waits : (is_blocked s && leb (awaited_fee s) (s.balance + n)) ≡ false → s.status ≡ blocked → s.balance + n < awaited_fee s
    waits f e =
        ⊎_elim (λ a. awake s a e) (λ p. leb-false (awaited_fee s) (s.balance + n) p)
        (and_cases (is_blocked s) (leb (awaited_fee s) (s.balance + n)) f)

    go : (t : Bool) → (is_blocked s && leb (awaited_fee s) (s.balance + n)) ≡ t → Ready w D (cond t (start_on w D s⁺) (same s⁺)).state
    go true e = ready_start w D s⁺ (fit_balance (s.balance + n) s l h.sound.fit)
    go false e = record {
      sound = record { fit = fit_balance (s.balance + n) s l h.sound.fit; waits = waits e; emptied = h.sound.emptied; due = h.sound.due };
      rests = h.rests;
    }

ready_serve : (w : Calendar) (D : ℕ) (v : Option Service) (n : ℕ) (s : State) → is_blocked s ≡ false → Ready w D s → Ready w D (serve v n s).state
unfolding Rests
ready_serve w D v n s a h = record {
  sound = record {
    fit = record {
      limits = h.sound.fit.limits;
      balance = let b = h.sound.fit.balance in omega arith;
      anchor = h.sound.fit.anchor;
      books = held-used v n s.books h.sound.fit.books;
    };
    waits = λ e. awake s a e;
    emptied = λ e. awake s a e;
    due = h.sound.due;
  };
  rests = h.rests;
}

ready_restart : (w : World) (D : ℕ) (s : State) → is_blocked s ≡ false → is_some (refusing w (λ k. restart_wipes_unit k s.terms) D s) ≡ false →
    Ready w.calendar D s → Ready w.calendar D (restarted w.calendar D s).state
ready_restart w D s a r h = ⊎_elim (λ e. awake s a e) busy (stands s)
  where
    busy : (d : Day) × (s.status ≡ active d) → Ready w.calendar D (restarted w.calendar D s).state
    busy x =
        let (d, e) = x in
        let wipes : UnitKind → Bool = λ k. restart_wipes_unit k s.terms in
        let o = wipe_or_keep wiping_by_restart wipes d.0 (new_due w.calendar D) s in
        let p : then o (start_on w.calendar D) ≡ restarted w.calendar D s = cc in
        subst (λ (o : Out). Ready w.calendar D o.state) p
        (ready_start w.calendar D o.state (fit_wipe_or_keep w wiping_by_restart wipes d D s e r h.sound.fit))

fit_leave : (w : World) (D : ℕ) (e : Entry) (s : State) → is_some (refusing w (switch_wipes_unit e s.terms) D s) ≡ false → Fit s →
    Fit (leave_plan w.calendar D e s).state
fit_leave w D e s r h = ⊎_elim idle busy (stands s)
  where
    idle : s.status ≡ blocked → Fit (leave_plan w.calendar D e s).state
    idle b = let p : same s ≡ leave_plan w.calendar D e s = cc in subst (λ (o : Out). Fit o.state) p h

    busy : (d : Day) × (s.status ≡ active d) → Fit (leave_plan w.calendar D e s).state
    busy x =
        let (d, a) = x in
        let wipes = switch_wipes_unit e s.terms in
        let p : wipe_or_keep wiping_by_switch wipes d.0 (new_due w.calendar D) s ≡ leave_plan w.calendar D e s = cc in
        subst (λ (o : Out). Fit o.state) p (fit_wipe_or_keep w wiping_by_switch wipes d D s a r h)

ready_perform : (w : World) (D : ℕ) (c : Call) (s : State) → AllByRecursion (λ x. x.fails ≡ false) (checks w D c s) → Ready w.calendar D s →
    Ready w.calendar D (perform w D c s).state
unfolding Rests
ready_perform w D (top_up n) s h r = ready_top_up w.calendar D n.0 s (ltb-false most_balance (s.balance + n.0) h.1.0) r
ready_perform w D (use_of v n) s h r = ready_serve w.calendar D v n s h.1.0 r
ready_perform w D restart s h r = ready_restart w D s h.0 h.1.1.1.0 r
ready_perform w D (switch c) s h r = go (w.terms c.0) (w.entry s.plan c.0) refl refl
  where
    go : (t : Option Terms) (e : Option Entry) → w.terms c.0 ≡ t → w.entry s.plan c.0 ≡ e → Ready w.calendar D (switch_to w D c.0 s).state
    go None e p q = let x : same s ≡ switch_to w D c.0 s = cc in subst (λ (o : Out). Ready w.calendar D o.state) x r
    go (Some t) None p q = let x : same s ≡ switch_to w D c.0 s = cc in subst (λ (o : Out). Ready w.calendar D o.state) x r
    go (Some t) (Some e) p q =
        let x : switched w.calendar D c.0 t e s ≡ switch_to w D c.0 s = cc in
        let willing : is_some (refusing w (switch_wipes_unit e s.terms) D s) ≡ false =
        subst (λ y. is_some (entry_refusing w y D s) ≡ false) q h.1.1.1.0 in
        let paid = (pay_entry e s).state in
        let fit = fit_leave w D e paid willing (fit_balance (s.balance - e.price) s (let b = r.sound.fit.balance in omega arith) r.sound.fit) in
        subst (λ (o : Out). Ready w.calendar D o.state) x
        (ready_start w.calendar D (with_plan c.0 t (leave_plan w.calendar D e paid).state) (fit_plan c.0 t _ (w.lawful.within c.0 t p) fit))
ready_perform w D option s h r = record {
  sound = record {
    fit = record { limits = r.sound.fit.limits; balance = r.sound.fit.balance; anchor = r.sound.fit.anchor; books = r.sound.fit.books };
    waits = r.sound.waits;
    emptied = r.sound.emptied;
    due = r.sound.due;
  };
  rests = r.rests;
}
ready_perform w D day_mark s h r = r

-- ## Every call and every run

-- an account, brought up to the day of a moment
pub ready_brought : (w : World) (m : ℕ) (a : Account) → Sound w.calendar a.state → Ready w.calendar (day_of m) (brought w m a).state
ready_brought w m a h = record { sound = sound_bring_up w.calendar (day_of m) a.state h; rests = rests_after w.calendar (day_of m) a.state }

abbrev pub ReadyAccount : World → Account → Type 0
ReadyAccount w a = Ready w.calendar (day_of a.latest) a.state

pub ready_step : (w : World) (a : Account) (e : Event) → ReadyAccount w a → ReadyAccount w (step w a e).account
ready_step w a e h = ⊎_elim accept refuse (told w a e)
  where
    accept : refusal w a e ≡ None → ReadyAccount w (step w a e).account
    accept z =
        let m = e.moment.0 in
        subst (λ (x : Answer). ReadyAccount w x.account) (sym (step_accepts w a e z))
        (ready_perform w (day_of m) e.call (brought w m a).state (passed (all_checks w a e) z).1.1 (ready_brought w m a h.sound))

    refuse : (f : Refusal) × (refusal w a e ≡ Some f) → ReadyAccount w (step w a e).account
    refuse n = subst (λ (x : Answer). ReadyAccount w x.account) (sym (step_refuses w a e n.0 n.1)) h

ready_run : (w : World) (a : Account) (es : List Event) → ReadyAccount w a → ReadyAccount w (run w a es).account
ready_run w a [] h = h
ready_run w a (e ∷ es) h = ready_run w (step w a e).account es (ready_step w a e h)

pub ready_opened : (w : World) (c : ℕ) (t : Terms) (m : ℕ) → WithinLimits t → ReadyAccount w (opened c t m)
unfolding Rests
ready_opened w c t m h = record {
  sound = record {
    fit = record { limits = h; balance = omega arith; anchor = λ a e. (let z : ◌≡◌ {A = ℕ} 0 1 = cc in absurd (omega arith)); books = elim [ Minutes ↦ held-empty | Megabytes ↦ held-empty | Messages ↦ held-empty ] };
    waits = λ e. h.fee_least;
    emptied = λ e. elim [ Minutes ↦ refl | Megabytes ↦ refl | Messages ↦ refl ];
    due = λ d e. never d (sym e);
  };
  rests = λ d e. never d (sym e);
}

-- an account that calls lead to from a new one
pub reached : (w : World) (c : ℕ) (t : Terms) (m : ℕ) → w.terms c ≡ Some t → (es : List Event) → ReadyAccount w (run w (opened c t m) es).account
reached w c t m h es = ready_run w (opened c t m) es (ready_opened w c t m (w.lawful.within c t h))

pub balance_bounded : BalanceBounded
balance_bounded w c t m h es = let r = (reached w c t m h es).sound in (r.fit.balance, r.waits)

pub blocked_empty : BlockedEmpty
blocked_empty w c t m h es = (reached w c t m h es).sound.emptied

pub due_day_ahead : DueDayAhead
unfolding Rests
due_day_ahead w c t m h es = let r = reached w c t m h es in (λ d e. (r.sound.due d e, r.rests d e), r.sound.fit.anchor)
