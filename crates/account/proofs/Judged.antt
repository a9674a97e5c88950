-- What the checks of a use and of a Restart ask, of an account after a lapse.
use Rattle.std.proofs.Common.{◌≡◌, ℕ, ◌<◌, ◌≤◌, nat_le, nat_lt, ◌⊎◌, Bool, true, false, Some, None, Option, refl, ap, arith}
use Rattle.std.proofs.lemmas.Bool.Decides.{nat_tests}
use Rattle.quantities.specs.declared.time.Day.{Day}
use Rattle.quantities.specs.declared.unit.UnitKind.{UnitKind}
use Rattle.rules.specs.declared.call.Status.TheVariants.{Blocked as blocked, Active as active}
use Rattle.rules.specs.declared.call.Service.{Service}
use Rattle.rules.specs.declared.call.Service.TheVariants.{Counted as counted, International as international}
use Rattle.rules.specs.State.{World, State}
use Rattle.rules.specs.DueDays.{lapse_all}
use Rattle.rules.specs.Calls.{is_blocked}
use Rattle.rules.specs.Checks.{outside, has_service, aside_refusal, first_concern, refusing}

pub outside_bounds : (a b n : ℕ) → (n < a) ⊎ ((a ≤ n) × (b < n)) → outside a b n ≡ true
outside_bounds a b n h = grind (arith, nat_tests)

pub inside_bounds : (a b n : ℕ) → a ≤ n → n ≤ b → outside a b n ≡ false
inside_bounds a b n h k = grind (arith, nat_tests)

-- a charge x that the balance b covers, or doesn't
pub poor : (b c x : ℕ) → x ≡ c → nat_le x b ≡ false → nat_lt b c ≡ true
poor b c x e h = grind (arith, nat_tests)

pub rich : (b c x : ℕ) → x ≡ c → nat_le x b ≡ true → nat_lt b c ≡ false
rich b c x e h = grind (arith, nat_tests)

pub reached : (x b : ℕ) → nat_le x b ≡ true → x ≤ b
reached x b h = grind (arith, nat_tests)

pub unreached : (x b : ℕ) → nat_le x b ≡ false → b < x
unreached x b h = grind (arith, nat_tests)

pub still_blocked : (s : State) → s.status ≡ blocked → is_blocked s ≡ true
still_blocked s e = ap (λ x. elim x [ blocked ↦ true | active d ↦ false ]) e

pub still_active : (s : State) (d : Day) → s.status ≡ active d → is_blocked s ≡ false
still_active s d e = ap (λ x. elim x [ blocked ↦ true | active d ↦ false ]) e

-- a lapse changes no terms
pub service_lapsed : (v : Option Service) (D : ℕ) (s : State) → has_service v (lapse_all D s).state ≡ has_service v s
service_lapsed None D s = refl
service_lapsed (Some (counted k)) D s = refl
service_lapsed (Some international) D s = refl

-- the books that an active account asks, with its due day
pub refusing_active : (w : World) (wipes : UnitKind → Bool) (D : ℕ) (s : State) (d : Day) → s.status ≡ active d →
    refusing w wipes D s ≡ first_concern (aside_refusal w wipes d.0 D s)
refusing_active w wipes D s d e = ap (λ x. elim x [ blocked ↦ None | active b ↦ first_concern (aside_refusal w wipes b.0 D s) ]) e
