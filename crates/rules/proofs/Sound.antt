-- What each step of an account keeps: limits, an empty book where it is blocked, and a due day by the anchor.
use Rattle.std.proofs.Common.{◌≡◌, ℕ, zero, suc, ◌<◌, ◌≤◌, Bool, true, false, cond, leb, Some, sym, refl, ap, ◌∙◌, subst, inl, inr, arith}
use Rattle.std.proofs.lemmas.Bool.{leb-false}
use Rattle.quantities.specs.Limits.{most_balance}
use Rattle.quantities.specs.Units.{of, each, every}
use Rattle.quantities.specs.declared.unit.PerUnit.{PerUnit}
use Rattle.quantities.specs.declared.unit.UnitKind.{UnitKind}
use Rattle.quantities.specs.declared.unit.UnitKind.TheVariants.{Minutes, Megabytes, Messages}
use Rattle.quantities.specs.declared.time.Day.{Day}
use Rattle.calendar.specs.declared.anchor.Anchor.{Anchor}
use Rattle.tariff.specs.Terms.{WithinLimits, carries_unit}
use Rattle.book.specs.Allowance.{Allowance, empty, lapsed}
use Rattle.rules.specs.declared.call.Status.TheVariants.{Blocked as blocked, Active as active}
use Rattle.rules.specs.State.{Calendar, State, Out, awaited_fee, awaited_grant, anchor_day, with_anchor}
use Rattle.rules.specs.DueDays.{refilled, next_due, take_fee, start_on, closed, close_month, renew, block, handle, settle, lapse_all, bring_up}
use Rattle.rules.specs.Bounds.{DueBy, AnchorWithin}
use Rattle.rules.proofs.Advance.{Rests, Due, Enough, look, settle_rests, settle-due, enough_next}
use Rattle.rules.proofs.Held.{Held, held-empty, held_fill, held_lapse, held_close}

-- ## The three books

abbrev pub AllHeld : PerUnit Allowance → Type 0
AllHeld bs = (k : UnitKind) → Held (of k bs)

pub held-each : (f : UnitKind → Allowance → Allowance) (bs : PerUnit Allowance) →
    ((k : UnitKind) → Held (f k (of k bs))) → AllHeld (each f bs)
held-each f bs h Minutes = h Minutes
held-each f bs h Megabytes = h Megabytes
held-each f bs h Messages = h Messages

-- ## An account within the limits, and one whose status fits the rest

pub record Fit (s : State) : Type 0 where
  pub limits : WithinLimits s.terms
  pub balance : s.balance ≤ most_balance
  pub anchor : AnchorWithin s
  pub books : AllHeld s.books

pub record Sound (w : Calendar) (s : State) : Type 0 where
  pub fit : Fit s
  pub waits : s.status ≡ blocked → s.balance < awaited_fee s
  pub emptied : s.status ≡ blocked → (k : UnitKind) → of k s.books ≡ empty
  pub due : (d : Day) → s.status ≡ active d → DueBy w s.last_fee s.anchor d.0

pub never : {A : Type 0} (d : Day) → active d ≡ blocked → A
never d e = let z : ◌≡◌ {A = ℕ} 0 1 = cc in absurd (omega arith)

-- ## Fees

pub sound_fee : (w : Calendar) (d : ℕ) (s : State) (a : Anchor) → s.anchor ≡ Some a → Fit s → Sound w (take_fee w d s).state
sound_fee w d s a e h = record {
  fit = record {
    limits = h.limits;
    balance = let b = h.balance in omega arith;
    anchor = h.anchor;
    books = held-each (λ k b. refilled (awaited_grant k s) b) s.books (λ k. held_fill (awaited_grant k s) (of k s.books) (h.books k));
  };
  waits = λ p. never _ p;
  emptied = λ p. never _ p;
  due = λ x p. record {
    fee_day = record { 0 = d };
    day_of_month = a;
    has_fee_day = refl;
    has_anchor = e;
    is_next = let q : x.0 ≡ w.due_after d (anchor_day s.anchor) = cc in q ∙ ap (λ o. w.due_after d (anchor_day o)) e;
    is_later = let q : x.0 ≡ w.due_after d (anchor_day s.anchor) = cc in omega (arith, w.due_later d (anchor_day s.anchor));
  };
}

fit_anchor : (w : Calendar) (D : ℕ) (s : State) → Fit s → Fit (with_anchor (w.month_day D) s)
fit_anchor w D s h = record {
  limits = h.limits;
  balance = h.balance;
  anchor = λ a e. let q : w.month_day D ≡ a.0 = cc in omega (arith, w.month_day_least D, w.month_day_most D);
  books = h.books;
}

pub sound_start : (w : Calendar) (D : ℕ) (s : State) → Fit s → Sound w (start_on w D s).state
sound_start w D s h = sound_fee w D (with_anchor (w.month_day D) s) (record { 0 = w.month_day D }) refl (fit_anchor w D s h)

-- ## Due days

fit_close : (e : ℕ) (s : State) → Fit s → Fit (close_month e s).state
fit_close e s h = record {
  limits = h.limits;
  balance = h.balance;
  anchor = h.anchor;
  books = held-each (λ k b. closed (carries_unit k s.terms) e b) s.books (λ k. held_close (carries_unit k s.terms) e (of k s.books) (h.books k));
}

sound_block : (w : Calendar) (s : State) → s.balance < awaited_fee s → Fit s → Sound w (block s).state
sound_block w s l h = record {
  fit = record { limits = h.limits; balance = h.balance; anchor = h.anchor; books = held-each (λ k b. empty) s.books (λ k. held-empty) };
  waits = λ e. l;
  emptied = λ e. all_empty;
  due = λ d e. never d (sym e);
}
  where
    all_empty : (k : UnitKind) → of k (every empty) ≡ empty
    all_empty Minutes = refl
    all_empty Megabytes = refl
    all_empty Messages = refl

sound_handle : (w : Calendar) (s : State) (d : Day) → s.status ≡ active d → Sound w s → Sound w (handle w d.0 s).state
sound_handle w s d e h = go (leb (awaited_fee s) s.balance) refl
  where
    go : (t : Bool) → leb (awaited_fee s) s.balance ≡ t → Sound w (cond t (renew w d.0 s) (block s)).state
    go true p =
        let a = h.due d e in
        sound_fee w d.0 (close_month (next_due w d.0 s) s).state a.day_of_month a.has_anchor (fit_close (next_due w d.0 s) s h.fit)
    go false p = sound_block w s (leb-false (awaited_fee s) s.balance p) h.fit

sound_settle : (w : Calendar) (n D : ℕ) (s : State) → Sound w s → Sound w (settle w n D s).state
unfolding Rests Due
sound_settle w zero D s h = h
sound_settle w (suc n) D s h =
    elim (look D s) [
      | inl r ↦ subst (λ (o : Out). Sound w o.state) (sym (settle_rests w D s r (suc n))) h
      | inr x ↦
          let (d, e, l) = x in
          subst (λ (o : Out). Sound w o.state) (sym (settle-due w D s d e l n)) (sound_settle w n D (handle w d.0 s).state (sound_handle w s d e h))
    ]

sound_lapse : (w : Calendar) (D : ℕ) (s : State) → Sound w s → Sound w (lapse_all D s).state
sound_lapse w D s h = record {
  fit = record {
    limits = h.fit.limits;
    balance = h.fit.balance;
    anchor = h.fit.anchor;
    books = held-each (λ k b. lapsed D b) s.books (λ k. held_lapse D (of k s.books) (h.fit.books k));
  };
  waits = h.waits;
  emptied = λ e. empties e;
  due = h.due;
}
  where
    empties : s.status ≡ blocked → (k : UnitKind) → of k (lapse_all D s).state.books ≡ empty
    empties e Minutes = ap (lapsed D) (h.emptied e Minutes)
    empties e Megabytes = ap (lapsed D) (h.emptied e Megabytes)
    empties e Messages = ap (lapsed D) (h.emptied e Messages)

pub sound_bring_up : (w : Calendar) (D : ℕ) (s : State) → Sound w s → Sound w (bring_up w D s).state
sound_bring_up w D s h = sound_lapse w D (settle w (suc D) D s).state (sound_settle w (suc D) D s h)

-- ## No due day is left at or before the day

settle_reaches : (w : Calendar) (n D : ℕ) (s : State) → Enough n D s → Rests D (settle w n D s).state
unfolding Rests Due Enough
settle_reaches w zero D s h = λ d e. omega (arith, h d e)
settle_reaches w (suc n) D s h =
    elim (look D s) [
      | inl r ↦ subst (λ (o : Out). Rests D o.state) (sym (settle_rests w D s r (suc n))) r
      | inr x ↦
          let (d, e, l) = x in
          subst (λ (o : Out). Rests D o.state) (sym (settle-due w D s d e l n))
          (settle_reaches w n D (handle w d.0 s).state (enough_next w n D s d e h))
    ]

pub rests_after : (w : Calendar) (D : ℕ) (s : State) → Rests D (bring_up w D s).state
unfolding Rests Enough
rests_after w D s = settle_reaches w (suc D) D s (λ d e. omega arith)
