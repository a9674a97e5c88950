-- A call is accepted where no check fails, and refused as the first that fails is told.
use Rattle.std.proofs.Common.{◌≡◌, ℕ, Bool, true, false, ◌⊎◌, List, [], ◌∷◌, Some, None, Option, sym, refl, ap, inl, inr, arith}
use Rattle.std.specs.List.{AllByRecursion}
use Rattle.rules.specs.declared.call.Event.{Event}
use Rattle.rules.specs.State.{World, Account}
use Rattle.rules.specs.Checks.{Refusal, Check, first_refusal, refusal}
use Rattle.rules.specs.Runs.{accepted, refused, answered, step}
use Rattle.rules.specs.Laws.{RefusalChangesNothing}

pub step_accepts : (w : World) (a : Account) (e : Event) → refusal w a e ≡ None → step w a e ≡ accepted w a e
step_accepts w a e h = ap (λ o. answered o w a e) h

pub step_refuses : (w : World) (a : Account) (e : Event) (f : Refusal) → refusal w a e ≡ Some f → step w a e ≡ refused f a
step_refuses w a e f h = ap (λ o. answered o w a e) h

-- a call is accepted, or refused
pub told : (w : World) (a : Account) (e : Event) → (refusal w a e ≡ None) ⊎ ((f : Refusal) × (refusal w a e ≡ Some f))
told w a e = go (refusal w a e) refl
  where
    go : (o : Option Refusal) → refusal w a e ≡ o → (refusal w a e ≡ None) ⊎ ((f : Refusal) × (refusal w a e ≡ Some f))
    go None p = inl p
    go (Some f) p = inr (f, p)

pub not_both : (f : Refusal) → ◌≡◌ {A = Option Refusal} (Some f) None → ⊥
not_both f e = let z : ◌≡◌ {A = ℕ} 0 1 = cc in omega arith

-- where nothing is told, each check passes
pub passed : (cs : List Check) → first_refusal cs ≡ None → AllByRecursion (λ c. c.fails ≡ false) cs
passed [] e = tt
passed (c ∷ cs) e = go (passed cs) c.fails refl
  where
    go : (first_refusal cs ≡ None → AllByRecursion (λ c. c.fails ≡ false) cs) → (t : Bool) → c.fails ≡ t → (c.fails ≡ false) × AllByRecursion (λ c. c.fails ≡ false) cs
    go ih true f = let z : Some c.told ≡ None = cc in absurd (not_both c.told z)
    go ih false f = let z : first_refusal cs ≡ None = cc in (f, ih z)

pub refusal_changes_nothing : RefusalChangesNothing
refusal_changes_nothing w a e f h = go (refusal w a e) h
  where
    go : (o : Option Refusal) → (answered o w a e).outcome ≡ Some f → (answered o w a e).account ≡ a
    go None p = absurd (not_both f (sym p))
    go (Some g) p = refl
