-- One turn of the loop over due days.
use mathlib.Core.Path.{◌≡◌, refl, ap, sym, ◌∙◌}
use Prim.Native.Nat.{ℕ, suc, ◌+◌, ◌≤◌, ◌<◌, min}
use native.Mathlib.Omega.{arith}
use Rattle.quantities.specs.declared.time.Day.{Day}
use Rattle.rules.specs.declared.call.Status.{Status}
use Rattle.rules.specs.declared.call.Status.TheVariants.{Blocked, Active}
use Rattle.rules.specs.Receipt.{Tally, Receipt, ◌⊞◌, ◌⊕◌}
use Rattle.rules.specs.State.{Calendar, State, Out, after, then}
use Rattle.rules.specs.DueDays.{handle, settle}
use Rattle.rules.proofs.Receipts.{⊕_assoc}
use Rattle.rules.proofs.Advance.{settle_turn, handle_later}
use Rattle.receipt.specs.Columns.{Below, AllBelow}
use Rattle.ledger.specs.Meaning.{out, reached}

module _ (w : Calendar) (D : ℕ) (d : Day) (s t : State) (r : Receipt) (on : s.status ≡ Active d) (due : d.0 ≤ D) (done : out t r ≡ handle w d.0 s) where
  -- the receipts so far and the rest of the due days are still the whole
  pub whole_again : (start : State) (total sum : Receipt) →
      let whole = settle w (suc D) D in
      after total (whole s) ≡ whole start → sum ≡ total ⊕ r → after sum (whole t) ≡ whole start
  whole_again start total sum inv e =
      let whole = settle w (suc D) D in
      let regroup : after (total ⊕ r) (whole t) ≡ after total (then (out t r) whole) =
      λ i. record { state = (whole t).state; receipt = ⊕_assoc total r (whole t).receipt i } in
      ap (λ x. after x (whole t)) e ∙ regroup ∙ ap (λ o. after total (then o whole)) done ∙ ap (after total) (sym (settle_turn w D s d on due)) ∙ inv

  pub further : reached s.status D < reached t.status D
  further = go t.status refl
    where
      here : reached s.status D ≡ min d.0 (D + 1)
      here = ap (λ x. reached x D) on

      go : (x : Status) → t.status ≡ x → reached s.status D < reached t.status D
      go Blocked e =
          let h = here in
          let there : reached t.status D ≡ D + 1 = ap (λ x. reached x D) e in
          omega arith
      go (Active e) p =
          let h = here in
          let there : reached t.status D ≡ min e.0 (D + 1) = ap (λ x. reached x D) p in
          let up : d.0 < e.0 = handle_later w d.0 s e (sym (ap (λ (o : Out). o.state.status) done) ∙ p) in
          omega arith

below_sum : (m n k : ℕ) → m + n ≤ k → (t u : Tally) → Below m t → Below n u → Below k (t ⊞ u)
below_sum m n k h t u p q = omega arith

pub all_below_sum : (m n k : ℕ) → m + n ≤ k → (t u : Receipt) → AllBelow m t → AllBelow n u → AllBelow k (t ⊕ u)
all_below_sum m n k h t u p q = record {
  fees = omega arith;
  use_charges = omega arith;
  switch_charges = omega arith;
  minutes = below_sum m n k h _ _ p.minutes q.minutes;
  megabytes = below_sum m n k h _ _ p.megabytes q.megabytes;
  messages = below_sum m n k h _ _ p.messages q.messages;
}

below_more : (m n : ℕ) → m ≤ n → (t : Tally) → Below m t → Below n t
below_more m n h t p = omega arith

pub all_below_more : (m n : ℕ) → m ≤ n → (t : Receipt) → AllBelow m t → AllBelow n t
all_below_more m n h t p = record {
  fees = omega arith;
  use_charges = omega arith;
  switch_charges = omega arith;
  minutes = below_more m n h _ p.minutes;
  megabytes = below_more m n h _ p.megabytes;
  messages = below_more m n h _ p.messages;
}
