-- The worked examples, computed.
use Rattle.std.proofs.Common.{◌≡◌, ℕ, ◌≤◌, Bool, true, false, cond, ◌&&◌, eqb, is_some, Some, None, Option, refl, subst, arith}
use Rattle.std.proofs.lemmas.Bool.Decides.{nat_tests}
use Rattle.quantities.specs.Limits.{most_fee, most_grant, most_entry_price}
use Rattle.quantities.specs.declared.unit.UnitKind.TheVariants.{Minutes, Megabytes, Messages}
use Rattle.calendar.specs.Due.{month_of, month_day, due_after}
use Rattle.tariff.specs.Terms.{Terms, Entry, WithinLimits, Lawful}
use Rattle.tariff.specs.declared.terms.Fate.TheVariants.{Kept}
use Rattle.rules.specs.Gregorian.{gregorian}
use Rattle.rules.specs.Examples.{plan, plans, entries, Worked, Examples}

plan_within : (fee n : ℕ) → 1 ≤ fee → fee ≤ most_fee → n ≤ most_grant → WithinLimits (plan fee n)
plan_within fee n a b c = record {
  fee_least = a;
  fee_most = b;
  amounts = elim [ Minutes ↦ c | Megabytes ↦ c | Messages ↦ c ];
  prices = elim [ Minutes ↦ omega arith | Megabytes ↦ omega arith | Messages ↦ omega arith ];
  abroad = omega arith;
}

plans_within : (x y : Bool) (t : Terms) → cond x (Some (plan 10 5)) (cond y (Some (plan 20 7)) None) ≡ Some t → WithinLimits t
plans_within true y t e = let p : plan 10 5 ≡ t = cc in subst WithinLimits p (plan_within 10 5 (omega arith) (omega arith) (omega arith))
plans_within false true t e = let p : plan 20 7 ≡ t = cc in subst WithinLimits p (plan_within 20 7 (omega arith) (omega arith) (omega arith))
plans_within false false t e = let z : ◌≡◌ {A = ℕ} 0 1 = cc in absurd (omega arith)

entry_free : (x : Bool) (e : Entry) → cond x (Some (record { price = 0; fate = Kept })) None ≡ Some e → e.price ≤ most_entry_price
entry_free true e p = let q : 0 ≡ e.price = cc in omega arith
entry_free false e p = let z : ◌≡◌ {A = ℕ} 0 1 = cc in absurd (omega arith)

lawful : Lawful plans entries
lawful = record {
  within = λ c t e. plans_within (eqb c 1) (eqb c 2) t e;
  prices = λ a b e p. entry_free (eqb a 1 && eqb b 2) e p;
  none_at_zero = refl;
  apart = λ a. grind (arith, nat_tests);
  leads = λ a b. leads (eqb a 1) (eqb b 1) (eqb b 2);
}
  where
    leads : (x y z : Bool) → is_some (cond {A = Option Entry} (x && z) (Some (record { price = 0; fate = Kept })) None) ≡ true →
        is_some (cond {A = Option Terms} y (Some (plan 10 5)) (cond z (Some (plan 20 7)) None)) ≡ true
    leads x true z h = refl
    leads x false true h = refl
    leads true false false h = h
    leads false false false h = h

worked : Worked (record { calendar = gregorian; terms = plans; entry = entries; capacity = 31; lawful = lawful })
unfolding month_of month_day due_after
worked = record {
  late_status = refl;
  late_anchor = refl;
  late_units = refl;
  late_fee = refl;
  restart_paid = refl;
  restart_unpaid = refl;
  option_on = refl;
  option_off = refl;
  kept-lowered = refl;
}

pub examples : Examples
examples = (lawful, worked)
