-- Receipts add up as numbers do, column by column; steps follow one another in any grouping.
use Rattle.std.proofs.Common.{◌≡◌, ap, add-zero, add_assoc, zero-add}
use Rattle.quantities.specs.Units.{of, each}
use Rattle.rules.specs.Receipt.{Tally, Receipt, ◌⊞◌, none, ◌⊕◌, nothing}
use Rattle.rules.specs.State.{State, Out, after, then}

⊞_assoc : (s t u : Tally) → s ⊞ t ⊞ u ≡ s ⊞ (t ⊞ u)
⊞_assoc s t u = λ i. record {
  granted = add_assoc s.granted t.granted u.granted i;
  within = add_assoc s.within t.within u.within i;
  beyond = add_assoc s.beyond t.beyond u.beyond i;
  ended = add_assoc s.ended t.ended u.ended i;
  late = add_assoc s.late t.late u.late i;
  restart_wiped = add_assoc s.restart_wiped t.restart_wiped u.restart_wiped i;
  switch_wiped = add_assoc s.switch_wiped t.switch_wiped u.switch_wiped i;
}

none-⊞ : (t : Tally) → none ⊞ t ≡ t
none-⊞ t = λ i. record {
  granted = zero-add t.granted i;
  within = zero-add t.within i;
  beyond = zero-add t.beyond i;
  ended = zero-add t.ended i;
  late = zero-add t.late i;
  restart_wiped = zero-add t.restart_wiped i;
  switch_wiped = zero-add t.switch_wiped i;
}

⊞-none : (t : Tally) → t ⊞ none ≡ t
⊞-none t = λ i. record {
  granted = add-zero t.granted i;
  within = add-zero t.within i;
  beyond = add-zero t.beyond i;
  ended = add-zero t.ended i;
  late = add-zero t.late i;
  restart_wiped = add-zero t.restart_wiped i;
  switch_wiped = add-zero t.switch_wiped i;
}

pub ⊕_assoc : (r s t : Receipt) → r ⊕ s ⊕ t ≡ r ⊕ (s ⊕ t)
⊕_assoc r s t = λ i. record {
  fees = add_assoc r.fees s.fees t.fees i;
  use_charges = add_assoc r.use_charges s.use_charges t.use_charges i;
  switch_charges = add_assoc r.switch_charges s.switch_charges t.switch_charges i;
  units = each (λ k u. ⊞_assoc u (of k s.units) (of k t.units) i) r.units;
}

pub nothing-⊕ : (r : Receipt) → nothing ⊕ r ≡ r
nothing-⊕ r = λ i. record {
  fees = zero-add r.fees i;
  use_charges = zero-add r.use_charges i;
  switch_charges = zero-add r.switch_charges i;
  units = each (λ k u. none-⊞ u i) r.units;
}

pub ⊕-nothing : (r : Receipt) → r ⊕ nothing ≡ r
⊕-nothing r = λ i. record {
  fees = add-zero r.fees i;
  use_charges = add-zero r.use_charges i;
  switch_charges = add-zero r.switch_charges i;
  units = each (λ k u. ⊞-none u i) r.units;
}

pub after_nothing : (o : Out) → after nothing o ≡ o
after_nothing o = λ i. record { state = o.state; receipt = nothing-⊕ o.receipt i }

pub then_assoc : (o : Out) (f g : State → Out) → then (then o f) g ≡ then o (λ s. then (f s) g)
then_assoc o f g = λ i. record {
  state = (g (f o.state).state).state;
  receipt = ⊕_assoc o.receipt (f o.state).receipt (g (f o.state).state).receipt i;
}

pub then_by : (o : Out) (f g : State → Out) → f o.state ≡ g o.state → then o f ≡ then o g
then_by o f g e = ap (after o.receipt) e
