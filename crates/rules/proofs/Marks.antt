-- One more day mark changes no other outcome, nor the account at the end, nor a total.
use Rattle.std.proofs.Common.{◌≡◌, ℕ, ◌≤◌, Bool, ltb, List, [], ◌∷◌, ◌++◌, length, take, drop, Some, None, Option, sym, refl, ap, ◌∙◌, subst, ap₂, subst₂, ⊎_elim, arith}
use Rattle.std.specs.List.{AllByRecursion}
use Rattle.std.proofs.lemmas.Bool.{le-ltb, ltb-false}
use Rattle.quantities.specs.Limits.{last_moment}
use Rattle.rules.specs.declared.call.Event.{Event}
use Rattle.rules.specs.Receipt.{Receipt, ◌⊕◌}
use Rattle.rules.specs.State.{World, State, Account, Out, then}
use Rattle.rules.specs.DueDays.{bring_up}
use Rattle.rules.specs.Calls.{perform}
use Rattle.rules.specs.Checks.{Refusal, check, first_refusal, checks, all_checks, day_of, brought, refusal}
use Rattle.rules.specs.Runs.{Answer, Run, accepted, refused, step, onward, run, opened}
use Rattle.rules.specs.Laws.{marked_at, OneAccepted, DayMarkFree}
use Rattle.rules.proofs.Receipts.{then_assoc, ⊕_assoc, ⊕-nothing, nothing-⊕}
use Rattle.rules.proofs.Advance.{bring_up-joins}
use Rattle.rules.proofs.Steps.{step_accepts, step_refuses, told, not_both, passed}

-- two runs: the same outcomes and account, and totals that differ by r
abbrev Agree : Receipt → Run → Run → Type 0
Agree r x y = (x.outcomes ≡ y.outcomes) × (x.account ≡ y.account) × (r ⊕ x.total ≡ y.total)

-- an account as it stands, and the same account after an accepted mark at m, which no later call is before
module _ (w : World) (a : Account) (m : ℕ) (known : a.latest ≤ m) where
  up : Out
  up = bring_up w.calendar (day_of m) a.state

  marked : Account
  unfolding up
  marked = record { latest = m; state = up.state }

  joins : (x : ℕ) → m ≤ x → then up (bring_up w.calendar (day_of x)) ≡ bring_up w.calendar (day_of x) a.state
  unfolding up
  joins x h = bring_up-joins w.calendar (day_of m) (day_of x) a.state (omega arith)

  same-refusal : (e : Event) → m ≤ e.moment.0 → refusal w marked e ≡ refusal w a e
  unfolding up marked
  same-refusal e h =
      let x = e.moment.0 in
      let tells : Bool → State → Option Refusal = λ early s. first_refusal (check 1 (ltb last_moment x) ∷ check 2 early ∷ checks w (day_of x) e.call s) in
      ap₂ tells (le-ltb x m h ∙ sym (le-ltb x a.latest (omega arith))) (ap (λ (o : Out). o.state) (joins x h))

  same_out : (e : Event) → m ≤ e.moment.0 →
      then up (λ s. then (bring_up w.calendar (day_of e.moment.0) s) (perform w (day_of e.moment.0) e.call))
      ≡ then (brought w e.moment.0 a) (perform w (day_of e.moment.0) e.call)
  same_out e h =
      let p = perform w (day_of e.moment.0) e.call in
      sym (then_assoc up (bring_up w.calendar (day_of e.moment.0)) p) ∙ ap (λ o. then o p) (joins e.moment.0 h)

  same-account : (e : Event) → m ≤ e.moment.0 → (accepted w marked e).account ≡ (accepted w a e).account
  unfolding up marked
  same-account e h = ap (λ (o : Out). let b : Account = record { latest = e.moment.0; state = o.state } in b) (same_out e h)

  same_total : (e : Event) → m ≤ e.moment.0 → up.receipt ⊕ (accepted w marked e).receipt ≡ (accepted w a e).receipt
  unfolding up marked
  same_total e h = ap (λ (o : Out). o.receipt) (same_out e h)

  -- a call is accepted: from there on the two runs are one
  taken : (e : Event) (es : List Event) → m ≤ e.moment.0 → refusal w a e ≡ None → Agree up.receipt (run w marked (e ∷ es)) (run w a (e ∷ es))
  taken e es h z =
      let on : Answer → Run = λ x. onward x (run w x.account es) in
      let here = accepted w a e in
      let there = accepted w marked e in
      let p : on here ≡ run w a (e ∷ es) = ap on (sym (step_accepts w a e z)) in
      let q : on there ≡ run w marked (e ∷ es) = ap on (sym (step_accepts w marked e (same-refusal e h ∙ z))) in
      let rest = ap (λ b. run w b es) (same-account e h) in
      let agree : Agree up.receipt (on there) (on here) = (
        ap (λ (r : Run). None ∷ r.outcomes) rest,
        ap (λ (r : Run). r.account) rest,
        sym (⊕_assoc up.receipt there.receipt (run w there.account es).total)
            ∙ ap₂ ◌⊕◌ (same_total e h) (ap (λ (r : Run). r.total) rest),
      ) in
      subst₂ (Agree up.receipt) q p agree

  -- a call is refused: both accounts stay
  turned : (e : Event) (es : List Event) (f : Refusal) → m ≤ e.moment.0 → refusal w a e ≡ Some f →
      (OneAccepted (run w a es).outcomes → Agree up.receipt (run w marked es) (run w a es)) →
      OneAccepted (run w a (e ∷ es)).outcomes →
      Agree up.receipt (run w marked (e ∷ es)) (run w a (e ∷ es))
  turned e es f h z ih one =
      let on : Answer → Run = λ x. onward x (run w x.account es) in
      let here = refused f a in
      let there = refused f marked in
      let p : on here ≡ run w a (e ∷ es) = ap on (sym (step_refuses w a e f z)) in
      let q : on there ≡ run w marked (e ∷ es) = ap on (sym (step_refuses w marked e f (same-refusal e h ∙ z))) in
      let one' : OneAccepted (on here).outcomes = subst (λ (r : Run). OneAccepted r.outcomes) (sym p) one in
      let (same_outcomes, same_end, totals) = ih (⊎_elim (λ n. absurd (not_both f n)) (λ o. o) one') in
      let agree : Agree up.receipt (on there) (on here) = (
        ap (λ os. Some f ∷ os) same_outcomes,
        same_end,
        ap (λ r. up.receipt ⊕ r) (nothing-⊕ (run w marked es).total) ∙ totals ∙ sym (nothing-⊕ (run w a es).total),
      ) in
      subst₂ (Agree up.receipt) q p agree

  later_runs : (es : List Event) → AllByRecursion (λ e. m ≤ e.moment.0) es → OneAccepted (run w a es).outcomes → Agree up.receipt (run w marked es) (run w a es)
  later_runs [] h one = absurd one
  later_runs (e ∷ es) h one =
      ⊎_elim (taken e es h.0) (λ n. turned e es n.0 h.0 n.1 (later_runs es h.1) one) (told w a e)

-- the mark's place among the outcomes, the account and the totals of two runs
abbrev Inserted : ℕ → Run → Run → Type 0
Inserted n marked plain =
    ((x : Option Refusal) × (marked.outcomes ≡ take n plain.outcomes ++ (x ∷ drop n plain.outcomes)))
    × (marked.account ≡ plain.account)
    × (marked.total ≡ plain.total)

pub not_before : (w : World) (a : Account) (e : Event) → refusal w a e ≡ None → a.latest ≤ e.moment.0
not_before w a e z = ltb-false e.moment.0 a.latest (passed (all_checks w a e) z).1.0

-- a mark first: refused, it changes nothing; accepted, what it does is done by the next accepted call otherwise
mark_first : (w : World) (a : Account) (m : ℕ) (es : List Event) → AllByRecursion (λ e. m ≤ e.moment.0) es → OneAccepted (run w a es).outcomes →
    Inserted 0 (run w a (marked_at m ∷ es)) (run w a es)
unfolding up marked
mark_first w a m es h one = ⊎_elim accept refuse (told w a (marked_at m))
  where
    on : Answer → Run
    on x = onward x (run w x.account es)

    accept : refusal w a (marked_at m) ≡ None → Inserted 0 (run w a (marked_at m ∷ es)) (run w a es)
    accept z =
        let known : a.latest ≤ m = not_before w a (marked_at m) z in
        let (same_outcomes, same_end, totals) = later_runs w a m known es h one in
        subst (λ x. Inserted 0 (on x) (run w a es)) (sym (step_accepts w a (marked_at m) z))
        ((None, ap (λ os. None ∷ os) same_outcomes), same_end, ap (λ r. r ⊕ (run w (marked w a m known) es).total) (⊕-nothing (up w a m known).receipt) ∙ totals)

    refuse : (f : Refusal) × (refusal w a (marked_at m) ≡ Some f) → Inserted 0 (run w a (marked_at m ∷ es)) (run w a es)
    refuse x =
        subst (λ y. Inserted 0 (on y) (run w a es)) (sym (step_refuses w a (marked_at m) x.0 x.1))
        ((Some x.0, refl), refl, nothing-⊕ (run w a es).total)

-- from any account
pub mark_free : (w : World) (a : Account) (before later : List Event) (m : ℕ) →
    AllByRecursion (λ e. m ≤ e.moment.0) later →
    OneAccepted (drop (length before) (run w a (before ++ later)).outcomes) →
    Inserted (length before) (run w a (before ++ (marked_at m ∷ later))) (run w a (before ++ later))
mark_free w a [] later m h one = mark_first w a m later h one
mark_free w a (e ∷ before) later m h one =
    let x = step w a e in
    let ((n, same_outcomes), same_end, totals) = mark_free w x.account before later m h one in
    ((n, ap (λ os. x.outcome ∷ os) same_outcomes), same_end, ap (λ r. x.receipt ⊕ r) totals)

pub day_mark_free : DayMarkFree
day_mark_free w c t opening before later m h one = mark_free w (opened c t opening) before later m h one
