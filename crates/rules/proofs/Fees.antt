-- How many fees a call takes, and that each grants in full.
use Rattle.std.proofs.Common.{◌≡◌, ℕ, zero, suc, ◌+◌, ◌-◌, ◌*◌, ◌≤◌, Bool, true, false, cond, leb, sym, refl, ap, subst, inl, inr, add-zero, add-mul, zero-add, arith}
use Rattle.std.proofs.lemmas.Bool.Decides.{nat_tests}
use Rattle.quantities.specs.Limits.{most_grant}
use Rattle.quantities.specs.Units.{of, each}
use Rattle.quantities.specs.declared.unit.PerUnit.{PerUnit}
use Rattle.quantities.specs.declared.unit.UnitKind.{UnitKind}
use Rattle.quantities.specs.declared.unit.UnitKind.TheVariants.{Minutes, Megabytes, Messages}
use Rattle.quantities.specs.declared.time.Day.{Day}
use Rattle.tariff.specs.Terms.{Terms, WithinLimits, amount, carries_unit}
use Rattle.book.specs.Allowance.{Allowance, units, ended}
use Rattle.rules.specs.declared.call.Status.TheVariants.{Blocked as blocked, Active as active}
use Rattle.rules.specs.Receipt.{Tally, Receipt, ending, ◌⊕◌, nothing, units_only}
use Rattle.rules.specs.State.{Calendar, State, Out, awaited_fee, awaited_grant, anchor_day, same, then}
use Rattle.rules.specs.DueDays.{granted, next_due, take_fee, closed, closing, close_month, renew, block, handle, settle, lapse_all, bring_up}
use Rattle.rules.proofs.Advance.{Rests, Due, look, settle_rests, settle-due}

-- a receipt with n fees on the terms t, each with its grant in full, and with no use beyond an allowance
pub record Taken (n : ℕ) (t : Terms) (r : Receipt) : Type 0 where
  pub fees : r.fees ≡ n * t.fee
  pub grants : (k : UnitKind) → (of k r.units).granted ≡ n * amount k t
  pub unused : (k : UnitKind) → (of k r.units).beyond ≡ 0

-- no fee and no grant
abbrev pub Feeless : Receipt → Type 0
Feeless r = (t : Terms) → Taken 0 t r

joined : (n m f a b : ℕ) → a ≡ n * f → b ≡ m * f → a + b ≡ (n + m) * f
joined n m f a b p q = omega (arith, add-mul n m f)

pub taken_then : {n m : ℕ} {t : Terms} (r s : Receipt) → Taken n t r → Taken m t s → Taken (n + m) t (r ⊕ s)
taken_then {n} {m} {t} r s p q = record {
  fees = joined n m t.fee r.fees s.fees p.fees q.fees;
  grants = elim [
    | Minutes ↦ joined n m (amount Minutes t) r.units.minutes.granted s.units.minutes.granted (p.grants Minutes) (q.grants Minutes)
    | Megabytes ↦ joined n m (amount Megabytes t) r.units.megabytes.granted s.units.megabytes.granted (p.grants Megabytes) (q.grants Megabytes)
    | Messages ↦ joined n m (amount Messages t) r.units.messages.granted s.units.messages.granted (p.grants Messages) (q.grants Messages)
  ];
  unused = elim [
    | Minutes ↦ omega (arith, p.unused Minutes, q.unused Minutes)
    | Megabytes ↦ omega (arith, p.unused Megabytes, q.unused Megabytes)
    | Messages ↦ omega (arith, p.unused Messages, q.unused Messages)
  ];
}

granted_full : (n : ℕ) (b : Allowance) → b.fresh ≡ 0 → n ≤ most_grant → granted n b ≡ n
granted_full n b z l = grind (arith, nat_tests)

-- no fresh amount is left in any book
abbrev pub NoFresh : PerUnit Allowance → Type 0
NoFresh bs = (k : UnitKind) → (of k bs).fresh ≡ 0

pub taken_fee : (w : Calendar) (d : ℕ) (s : State) → WithinLimits s.terms → NoFresh s.books → Taken 1 s.terms (take_fee w d s).receipt
taken_fee w d s h z = record {
  fees = omega arith;
  grants = elim [ Minutes ↦ full Minutes | Megabytes ↦ full Megabytes | Messages ↦ full Messages ];
  unused = elim [ Minutes ↦ refl | Megabytes ↦ refl | Messages ↦ refl ];
}
  where
    full : (k : UnitKind) → granted (awaited_grant k s) (of k s.books) ≡ 1 * amount k s.terms
    full k = omega (arith, granted_full (awaited_grant k s) (of k s.books) (z k) (h.amounts k))

-- ## Steps without a fee

-- a tally without a grant or a use beyond the allowance
abbrev pub Plain : Tally → Type 0
Plain t = (t.granted ≡ 0) × (t.beyond ≡ 0)

pub feeless_from : (r : Receipt) → r.fees ≡ 0 → Plain r.units.minutes → Plain r.units.megabytes → Plain r.units.messages → Feeless r
feeless_from r f a b c t = record {
  fees = omega arith;
  grants = elim [ Minutes ↦ omega arith | Megabytes ↦ omega arith | Messages ↦ omega arith ];
  unused = elim [ Minutes ↦ omega arith | Megabytes ↦ omega arith | Messages ↦ omega arith ];
}

pub feeless_units : (f : UnitKind → Allowance → Tally) (bs : PerUnit Allowance) → ((k : UnitKind) (b : Allowance) → Plain (f k b)) → Feeless (units_only (each f bs))
feeless_units f bs h = feeless_from (units_only (each f bs)) refl (h Minutes bs.minutes) (h Megabytes bs.megabytes) (h Messages bs.messages)

pub feeless_nothing : Feeless nothing
feeless_nothing = feeless_from nothing refl (refl, refl) (refl, refl) (refl, refl)

pub feeless_then : (r s : Receipt) → Feeless r → Feeless s → Feeless (r ⊕ s)
feeless_then r s p q t = taken_then r s (p t) (q t)

feeless_close : (e : ℕ) (s : State) → Feeless (close_month e s).receipt
feeless_close e s = feeless_units (λ k b. closing (carries_unit k s.terms) b) s.books (λ k b. (refl, refl))

feeless_block : (s : State) → Feeless (block s).receipt
feeless_block s = feeless_units (λ k b. ending (units b.lots) b.fresh) s.books (λ k b. (refl, refl))

feeless_lapse : (D : ℕ) (s : State) → Feeless (lapse_all D s).receipt
feeless_lapse D s = feeless_units (λ k b. ending (units (ended D b.lots)) 0) s.books (λ k b. (refl, refl))

-- ## Renewals

closed-fresh : (c : Bool) (e : ℕ) (b : Allowance) → (closed c e b).fresh ≡ 0
closed-fresh true e b = refl
closed-fresh false e b = refl

taken_renew : (w : Calendar) (d : ℕ) (s : State) → WithinLimits s.terms → Taken 1 s.terms (renew w d s).receipt
taken_renew w d s h =
    let o = close_month (next_due w d s) s in
    taken_then o.receipt (take_fee w d o.state).receipt (feeless_close (next_due w d s) s s.terms)
    (taken_fee w d o.state h (elim [ Minutes ↦ none Minutes s.books.minutes | Megabytes ↦ none Megabytes s.books.megabytes | Messages ↦ none Messages s.books.messages ]))
  where
    none : (k : UnitKind) (b : Allowance) → (closed (carries_unit k s.terms) (next_due w d s) b).fresh ≡ 0
    none k b = closed-fresh (carries_unit k s.terms) (next_due w d s) b

handle-terms : (w : Calendar) (d : ℕ) (s : State) → (handle w d s).state.terms ≡ s.terms
handle-terms w d s = go (leb (awaited_fee s) s.balance)
  where
    go : (t : Bool) → (cond t (renew w d s) (block s)).state.terms ≡ s.terms
    go true = refl
    go false = refl

-- What bringing up to day D renews: some number of fees, each in a month of its own from the due day's to D's.
pub record Renews (w : Calendar) (D : ℕ) (s : State) (o : Out) : Type 0 where
  pub count : ℕ
  pub taken : Taken count s.terms o.receipt
  pub terms : o.state.terms ≡ s.terms
  pub months : (d : Day) → s.status ≡ active d → count ≤ w.month_of D + 1 - w.month_of d.0
  pub idle : s.status ≡ blocked → count ≡ 0

module _ (w : Calendar) (D : ℕ) (s : State) (h : WithinLimits s.terms) where
  renews_same : Renews w D s (same s)
  renews_same = record { count = 0; taken = feeless_nothing s.terms; terms = refl; months = λ d e. omega arith; idle = λ e. refl }

  -- the due day d is handled, and then others
  renews_on : (d : Day) → s.status ≡ active d → d.0 ≤ D → (f : State → Out) → Renews w D (handle w d.0 s).state (f (handle w d.0 s).state) →
      Renews w D s (then (handle w d.0 s) f)
  renews_on d e l f = go (leb (awaited_fee s) s.balance)
    where
      due : (d' : Day) → s.status ≡ active d' → d.0 ≡ d'.0
      due d' e' = cc

      awake : s.status ≡ blocked → ⊥
      awake e' = let z : ◌≡◌ {A = ℕ} 0 1 = cc in omega arith

      go : (t : Bool) → let o = cond t (renew w d.0 s) (block s) in Renews w D o.state (f o.state) → Renews w D s (then o f)
      go true r = record {
        count = 1 + r.count;
        taken = taken_then _ _ (taken_renew w d.0 s h) r.taken;
        terms = r.terms;
        months = λ d' e'.
            let q = ap w.month_of (due d' e') in
            let m = r.months (record { 0 = next_due w d.0 s }) refl in
            let n = w.due_next_month d.0 (anchor_day s.anchor) in
            let v = w.month_of_monotone d.0 D l in
            omega arith;
        idle = λ e'. absurd (awake e');
      }
      go false r = record {
        count = r.count;
        taken = let z = r.idle refl in subst (λ c. Taken c s.terms _) (zero-add r.count) (taken_then _ _ (feeless_block s s.terms) r.taken);
        terms = r.terms;
        months = λ d' e'. let z = r.idle refl in omega arith;
        idle = λ e'. absurd (awake e');
      }

renews_settle : (w : Calendar) (n D : ℕ) (s : State) → WithinLimits s.terms → Renews w D s (settle w n D s)
unfolding Rests Due
renews_settle w zero D s h = renews_same w D s h
renews_settle w (suc n) D s h =
    elim (look D s) [
      | inl r ↦ subst (Renews w D s) (sym (settle_rests w D s r (suc n))) (renews_same w D s h)
      | inr x ↦
          let (d, e, l) = x in
          let same_terms = handle-terms w d.0 s in
          subst (Renews w D s) (sym (settle-due w D s d e l n))
          (renews_on w D s h d e l (settle w n D) (renews_settle w n D (handle w d.0 s).state (subst WithinLimits (sym same_terms) h)))
    ]

pub renews_bring_up : (w : Calendar) (D : ℕ) (s : State) → WithinLimits s.terms → Renews w D s (bring_up w D s)
renews_bring_up w D s h =
    let o = settle w (suc D) D s in
    let r = renews_settle w (suc D) D s h in
    record {
      count = r.count;
      taken = subst (λ c. Taken c s.terms (bring_up w D s).receipt) (add-zero r.count) (taken_then o.receipt (lapse_all D o.state).receipt r.taken (feeless_lapse D o.state s.terms));
      terms = r.terms;
      months = r.months;
      idle = r.idle;
    }
