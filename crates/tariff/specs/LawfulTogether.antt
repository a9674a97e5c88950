-- Two lines together are again a line: what is listed in both keeps to the limits.
use Rattle.std.specs.Prelude.{◌≡◌, ℕ, Bool, true, false, cond, is_some, Some, None, Option, refl}
use Rattle.std.proofs.Common.{sym, ⊎_elim}
use Rattle.std.proofs.lemmas.Bool.{cases_cond}
use Rattle.tariff.specs.Terms.{Terms, Entry, Lawful, Tariff}
use Rattle.tariff.specs.Together.{joined_terms, joined_entry}

both_none : {A : Type 0} (b : Bool) (x y : Option A) → x ≡ None → y ≡ None → cond b x y ≡ None
both_none true x y p q = p
both_none false x y p q = q

leads_on : {A B : Type 0} (x y : Option A) (e f : Option B) →
    (is_some e ≡ true → is_some x ≡ true) → (is_some f ≡ true → is_some y ≡ true) →
    is_some (cond (is_some x) e f) ≡ true → is_some (cond (is_some x) x y) ≡ true
leads_on (Some t) y e f p q h = refl
leads_on None y e f p q h = q h

pub joined_lawful : (f g : ℕ → Option Terms) (e h : ℕ → ℕ → Option Entry) → Lawful f e → Lawful g h →
    Lawful (joined_terms f g) (joined_entry f e h)
joined_lawful f g e h p q = record {
  within = λ c t i. ⊎_elim (λ k. p.within c t (sym k)) (λ k. q.within c t (sym k)) (cases_cond (is_some (f c)) (f c) (g c) (Some t) (sym i));
  prices = λ a b x i. ⊎_elim (λ k. p.prices a b x (sym k)) (λ k. q.prices a b x (sym k)) (cases_cond (is_some (f b)) (e a b) (h a b) (Some x) (sym i));
  none_at_zero = both_none (is_some (f 0)) (f 0) (g 0) p.none_at_zero q.none_at_zero;
  apart = λ a. both_none (is_some (f a)) (e a a) (h a a) (p.apart a) (q.apart a);
  leads = λ a b. leads_on (f b) (g b) (e a b) (h a b) (p.leads a b) (q.leads a b);
}

-- the first line that has terms for the code answers; entry goes to the line that answers for the target
abbrev pub joined : Tariff → Tariff → Tariff
joined x y = record {
  terms = joined_terms x.terms y.terms;
  entry = joined_entry x.terms x.entry y.entry;
  lawful = joined_lawful x.terms y.terms x.entry y.entry x.lawful y.lawful;
}
