-- To bring an account up to a day, and then to a later one, is to bring it up to the later one.
use Rattle.std.proofs.Common.{◌≡◌, ℕ, zero, suc, ◌+◌, ◌<◌, ◌≤◌, Bool, true, false, cond, leb, ◌⊎◌, sym, refl, ap, ◌∙◌, inl, inr, ⊎_elim, zero-add, arith}
use Rattle.std.proofs.lemmas.Bool.{cases_lt, lt-leb, le-leb}
use Rattle.quantities.specs.Units.{each}
use Rattle.quantities.specs.declared.time.Day.{Day}
use Rattle.tariff.specs.Terms.{carries_unit}
use Rattle.book.specs.Allowance.{Allowance, units, left, ended, lasting}
use Rattle.book.proofs.Lots.{units-parts, lasting_again, ended_again}
use Rattle.rules.specs.declared.call.Status.{Status}
use Rattle.rules.specs.declared.call.Status.TheVariants.{Blocked as blocked, Active as active}
use Rattle.rules.specs.Receipt.{◌⊞◌, ending, units_only}
use Rattle.rules.specs.State.{Calendar, State, Out, awaited_fee, anchor_day, same, after, then, with_books}
use Rattle.rules.specs.DueDays.{next_due, take_fee, close_month, handle, renew, block, settle, lapse_all, bring_up}
use Rattle.rules.specs.Laws.{BringingUpJoins}
use Rattle.rules.proofs.Receipts.{after_nothing, then_assoc, then_by}

-- ## Due days rise

-- a due day is handled: the next is later
pub handle_later : (w : Calendar) (d : ℕ) (s : State) (e : Day) → (handle w d s).state.status ≡ active e → d < e.0
handle_later w d s e = go (leb (awaited_fee s) s.balance)
  where
    go : (t : Bool) → (cond t (renew w d s) (block s)).state.status ≡ active e → d < e.0
    go true h =
        let p : next_due w d s ≡ e.0 = cc in
        omega (arith, w.due_later d (anchor_day s.anchor))
    go false h = let z : ◌≡◌ {A = ℕ} 0 1 = cc in omega arith

-- either no due day stands at or before D, or the next one does
unfoldable pub Rests : ℕ → State → Type 0
Rests D s = (d : Day) → s.status ≡ active d → D < d.0

unfoldable pub Due : ℕ → State → Type 0
Due D s = (d : Day) × (s.status ≡ active d) × (d.0 ≤ D)

pub look : (D : ℕ) (s : State) → Rests D s ⊎ Due D s
unfolding Rests Due
look D s = go s.status refl
  where
    go : (t : Status) → s.status ≡ t → ((d : Day) → s.status ≡ active d → D < d.0) ⊎ ((d : Day) × (s.status ≡ active d) × (d.0 ≤ D))
    go blocked e = inl (λ d f. let z : ◌≡◌ {A = ℕ} 0 1 = cc in omega arith)
    go (active k) e =
        ⊎_elim (λ l. inl (λ d f. let z : k.0 ≡ d.0 = cc in omega arith)) (λ l. inr (k, e, l)) (cases_lt D k.0)

pub settle_rests : (w : Calendar) (D : ℕ) (s : State) → Rests D s → (n : ℕ) → settle w n D s ≡ same s
unfolding Rests
settle_rests w D s r zero = refl
settle_rests w D s r (suc n) = go s.status refl
  where
    go : (t : Status) → s.status ≡ t → settle w (suc n) D s ≡ same s
    go blocked e = cc
    go (active d) e = let f = lt-leb d.0 D (r d e) in cc

pub settle-due : (w : Calendar) (D : ℕ) (s : State) (d : Day) → s.status ≡ active d → d.0 ≤ D → (n : ℕ) →
    settle w (suc n) D s ≡ then (handle w d.0 s) (settle w n D)
settle-due w D s d e h n = let f = le-leb d.0 D h in cc

-- n turns suffice for the due days at or before D
unfoldable pub Enough : ℕ → ℕ → State → Type 0
Enough n D s = (d : Day) → s.status ≡ active d → D < d.0 + n

pub enough_next : (w : Calendar) (n D : ℕ) (s : State) (d : Day) → s.status ≡ active d → Enough (suc n) D s → Enough n D (handle w d.0 s).state
unfolding Enough
enough_next w n D s d e h d' e' = omega (arith, h d e, handle_later w d.0 s d' e')

settle_enough : (w : Calendar) (n m D : ℕ) (s : State) → Enough n D s → Enough m D s → settle w n D s ≡ settle w m D s
unfolding Enough Rests Due
settle_enough w zero zero D s h k = refl
settle_enough w zero (suc m) D s h k =
    elim (look D s) [ inl r ↦ sym (settle_rests w D s r (suc m)) | inr x ↦ let z : D < x.0.0 + 0 = h x.0 x.1 in let y = x.2 in absurd (omega arith) ]
settle_enough w (suc n) zero D s h k =
    elim (look D s) [ inl r ↦ settle_rests w D s r (suc n) | inr x ↦ let z : D < x.0.0 + 0 = k x.0 x.1 in let y = x.2 in absurd (omega arith) ]
settle_enough w (suc n) (suc m) D s h k =
    elim (look D s) [
      | inl r ↦ settle_rests w D s r (suc n) ∙ sym (settle_rests w D s r (suc m))
      | inr x ↦
          let (d, e, l) = x in
          settle-due w D s d e l n
          ∙ then_by (handle w d.0 s) (settle w n D) (settle w m D)
          (settle_enough w n m D (handle w d.0 s).state (enough_next w n D s d e h) (enough_next w m D s d e k))
          ∙ sym (settle-due w D s d e l m)
    ]

enough_more : (n D : ℕ) (s : State) → Enough n D s → Enough (suc n) D s
unfolding Enough
enough_more n D s h d e = omega (arith, h d e)

settle_join : (w : Calendar) (n m D E : ℕ) → D ≤ E → (s : State) → Enough m E s → then (settle w n D s) (settle w m E) ≡ settle w m E s
unfolding Enough Rests Due
settle_join w zero m D E l s h = after_nothing (settle w m E s)
settle_join w (suc n) m D E l s h =
    elim (look D s) [
      | inl r ↦ ap (λ o. then o (settle w m E)) (settle_rests w D s r (suc n)) ∙ after_nothing (settle w m E s)
      | inr x ↦
          let (d, e, y) = x in
          let f = settle w m E in
          let o = handle w d.0 s in
          let less : d.0 ≤ E = omega arith in
          ap (λ p. then p f) (settle-due w D s d e y n)
          ∙ then_assoc o (settle w n D) f
          ∙ then_by o (λ t. then (settle w n D t) f) f
          (settle_join w n m D E l o.state (enough_next w m E s d e (enough_more m E s h)))
          ∙ sym (settle-due w E s d e less m)
          ∙ settle_enough w (suc m) m E s (enough_more m E s h) h
    ]

-- ## A lapse before the rest changes nothing

ended-then : (a b c l : ℕ) → a + b ≡ c → ending a 0 ⊞ ending b l ≡ ending c l
ended-then a b c l e = λ i. record { granted = 0; within = 0; beyond = 0; ended = e i; late = zero-add l i; restart_wiped = 0; switch_wiped = 0 }

closed-sum : (c : Bool) (D : ℕ) (b : Allowance) →
    units (ended D b.lots) + cond c (units (lasting D b.lots)) (b.fresh + units (lasting D b.lots)) ≡ cond c (units b.lots) (left b)
closed-sum true D b = units-parts D b.lots
closed-sum false D b = omega (arith, units-parts D b.lots)

module _ (D : ℕ) (s : State) where
  close_absorbs : (e : ℕ) → then (lapse_all D s) (close_month e) ≡ close_month e s
  close_absorbs e = λ i. record {
    state = (close_month e s).state;
    receipt = units_only (each (λ k b. ended-then _ _ _ 0 (closed-sum (carries_unit k s.terms) D b) i) s.books);
  }

  block_absorbs : then (lapse_all D s) block ≡ block s
  block_absorbs = λ i. record {
    state = (block s).state;
    receipt = units_only (each (λ k b. ended-then _ _ _ b.fresh (units-parts D b.lots) i) s.books);
  }

  lapse_absorbs : (E : ℕ) → D ≤ E → then (lapse_all D s) (lapse_all E) ≡ lapse_all E s
  lapse_absorbs E l = λ i. record {
    state = with_books (each (λ k b. record { fresh = b.fresh; lots = lasting_again D E b.lots l i }) s.books) s;
    receipt = units_only (each (λ k b. ended-then _ _ _ 0 (ended_again D E b.lots l) i) s.books);
  }

  handle_absorbs : (w : Calendar) (d : ℕ) → then (lapse_all D s) (handle w d) ≡ handle w d s
  handle_absorbs w d = go (leb (awaited_fee s) s.balance)
    where
      s⁻ : State
      s⁻ = (lapse_all D s).state

      go : (t : Bool) → after (lapse_all D s).receipt (cond t (renew w d s⁻) (block s⁻)) ≡ cond t (renew w d s) (block s)
      go true =
          sym (then_assoc (lapse_all D s) (close_month (next_due w d s)) (take_fee w d))
          ∙ ap (λ o. then o (take_fee w d)) (close_absorbs (next_due w d s))
      go false = block_absorbs

bring_up_rests : (w : Calendar) (D : ℕ) (s : State) → Rests D s → bring_up w D s ≡ lapse_all D s
bring_up_rests w D s r = ap (λ o. then o (lapse_all D)) (settle_rests w D s r (suc D)) ∙ after_nothing (lapse_all D s)

bring_up-due : (w : Calendar) (D : ℕ) (s : State) (d : Day) → s.status ≡ active d → d.0 ≤ D →
    bring_up w D s ≡ then (handle w d.0 s) (λ t. then (settle w D D t) (lapse_all D))
bring_up-due w D s d e l = ap (λ o. then o (lapse_all D)) (settle-due w D s d e l D) ∙ then_assoc (handle w d.0 s) (settle w D D) (lapse_all D)

bring_up_absorbs : (w : Calendar) (D E : ℕ) (s : State) → D ≤ E → then (lapse_all D s) (bring_up w E) ≡ bring_up w E s
unfolding Rests Due
bring_up_absorbs w D E s l =
    let o = lapse_all D s in
    elim (look E s) [
      | inl r ↦
          then_by o (bring_up w E) (lapse_all E) (bring_up_rests w E o.state r)
          ∙ lapse_absorbs D s E l
          ∙ sym (bring_up_rests w E s r)
      | inr x ↦
          let (d, e, h) = x in
          let k : State → Out = λ t. then (settle w E E t) (lapse_all E) in
          then_by o (bring_up w E) (λ t. then (handle w d.0 t) k) (bring_up-due w E o.state d e h)
          ∙ sym (then_assoc o (handle w d.0) k)
          ∙ ap (λ p. then p k) (handle_absorbs D s w d.0)
          ∙ sym (bring_up-due w E s d e h)
    ]

pub bring_up-joins : BringingUpJoins
unfolding Enough
bring_up-joins w D E s l =
    let o = settle w (suc D) D s in
    let up = bring_up w E in
    then_assoc o (lapse_all D) up
    ∙ then_by o (λ t. then (lapse_all D t) up) up (bring_up_absorbs w D E o.state l)
    ∙ sym (then_assoc o (settle w (suc E) E) (lapse_all E))
    ∙ ap (λ p. then p (lapse_all E)) (settle_join w (suc D) (suc E) D E l s (λ d e. omega arith))

-- for a loop over due days: one more turn
pub settle_turn : (w : Calendar) (D : ℕ) (s : State) (d : Day) → s.status ≡ active d → d.0 ≤ D →
    settle w (suc D) D s ≡ then (handle w d.0 s) (settle w (suc D) D)
unfolding Enough
settle_turn w D s d e l =
    let o = handle w d.0 s in
    settle-due w D s d e l D
    ∙ then_by o (settle w D D) (settle w (suc D) D)
    (settle_enough w D (suc D) D o.state (enough_next w D D s d e (λ d' e'. omega arith)) (λ d' e'. omega arith))
