-- A line of two tables that pass the test is lawful: the proof that the member `lawful` of such a line hands over.
use Rattle.std.specs.Prelude.{◌≡◌, ℕ, zero, suc, ◌+◌, ◌-◌, ◌<◌, ◌≤◌, true, ◌||◌, ltb, List, [], ◌∷◌, is_some, Some, None, Option, ◌==◌, nat_le, nat_lt, refl}
use Rattle.std.proofs.Common.{sym, subst, ◌∙◌, ⊎_elim, arith}
use Rattle.std.proofs.lemmas.Bool.{and_parts, or_cases, leb-true, ltb-true, cond_both, cond-false, ne_eqb, cases_eq, false≢true}
use Rattle.quantities.specs.Limits.{most_fee, most_grant, most_price, most_entry_price}
use Rattle.quantities.specs.declared.unit.UnitKind.TheVariants.{Minutes, Megabytes, Messages}
use Rattle.tariff.specs.Terms.{UnitTerms, Entry, WithinLimits, Lawful}
use Rattle.tariff.specs.Tables.{Plan, Way, Direction, upward, downward, anyhow, listed_terms, listed_entry, among, goes, joins, unit_within, plan_within, plans_within, way_apart, all_listed, way_within, ways_within, lawful_tables}

-- what is shown of an answer, where there is one
abbrev Of : {A : Type 0} → (A → Type 0) → Option A → Type 0
Of P None = Unit {0}
Of P (Some a) = P a

of_some : {A : Type 0} (P : A → Type 0) (o : Option A) (a : A) → Of P o → o ≡ Some a → P a
of_some P o a p e = subst (Of P) e p

-- ## Plans

unit_limits : (u : UnitTerms) → unit_within u ≡ true → (u.amount ≤ most_grant) × (u.beyond ≤ most_price)
unit_limits u e =
    let p = and_parts (nat_le u.amount most_grant) (nat_le u.beyond most_price) e
    in (leb-true u.amount most_grant p.0, leb-true u.beyond most_price p.1)

-- The test of a plan, taken apart.
record Tested (p : Plan) : Type 0 where
  code_least : 1 ≤ p.code
  limits : WithinLimits p.terms

plan_tested : (p : Plan) → plan_within p ≡ true → Tested p
plan_tested p e =
    let t = p.terms
    in let a = and_parts (nat_le 1 p.code) _ e
    in let b = and_parts (nat_le 1 t.fee) _ a.1
    in let c = and_parts (nat_le t.fee most_fee) _ b.1
    in let d = and_parts (nat_le t.abroad_price most_price) _ c.1
    in let m = and_parts (unit_within t.units.minutes) _ d.1
    in let n = and_parts (unit_within t.units.megabytes) (unit_within t.units.messages) m.1
    in let x = unit_limits t.units.minutes m.0
    in let y = unit_limits t.units.megabytes n.0
    in let z = unit_limits t.units.messages n.1
    in record {
      code_least = leb-true 1 p.code a.0;
      limits = record {
        fee_least = leb-true 1 t.fee b.0;
        fee_most = leb-true t.fee most_fee c.0;
        amounts = elim [ Minutes ↦ x.0 | Megabytes ↦ y.0 | Messages ↦ z.0 ];
        prices = elim [ Minutes ↦ x.1 | Megabytes ↦ y.1 | Messages ↦ z.1 ];
        abroad = leb-true t.abroad_price most_price d.0;
      };
    }

terms_within : (ps : List Plan) (c : ℕ) → plans_within ps ≡ true → Of WithinLimits (listed_terms ps c)
terms_within [] c e = tt
terms_within (p ∷ ps) c e =
    let h = and_parts (plan_within p) (plans_within ps) e
    in cond_both (c == p.code) (Some p.terms) (listed_terms ps c) (Of WithinLimits)
    (λ _. (plan_tested p h.0).limits) (λ _. terms_within ps c h.1)

none_at_zero : (ps : List Plan) → plans_within ps ≡ true → listed_terms ps 0 ≡ None
none_at_zero [] e = refl
none_at_zero (p ∷ ps) e =
    let h = and_parts (plan_within p) (plans_within ps) e
    in let q = (plan_tested p h.0).code_least
    in cond-false (0 == p.code) (Some p.terms) (listed_terms ps 0) (ne_eqb 0 p.code (λ z. omega arith)) ∙ none_at_zero ps h.1

-- ## Ways

-- The test of a way, taken apart.
record Passed (ps : List Plan) (w : Way) : Type 0 where
  price : w.takes.price ≤ most_entry_price
  lies_apart : way_apart w ≡ true
  listed : all_listed ps w.to.least (suc w.to.most - w.to.least) ≡ true

way_passed : (ps : List Plan) (w : Way) → way_within ps w ≡ true → Passed ps w
way_passed ps w e =
    let a = and_parts (nat_le w.takes.price most_entry_price) _ e
    in let b = and_parts (way_apart w) (all_listed ps w.to.least (suc w.to.most - w.to.least)) a.1
    in record { price = leb-true w.takes.price most_entry_price a.0; lies_apart = b.0; listed = b.1 }

prices_within : (ps : List Plan) (ws : List Way) (a b : ℕ) → ways_within ps ws ≡ true → Of (λ e. e.price ≤ most_entry_price) (listed_entry ws a b)
prices_within ps [] a b e = tt
prices_within ps (w ∷ ws) a b e =
    let h = and_parts (way_within ps w) (ways_within ps ws) e
    in cond_both (joins w a b) (Some w.takes) (listed_entry ws a b) (Of (λ x. x.price ≤ most_entry_price))
    (λ _. (way_passed ps w h.0).price) (λ _. prices_within ps ws a b h.1)

-- what it says that a way joins two codes
record Joined (w : Way) (a b : ℕ) : Type 0 where
  from_least : w.from.least ≤ a
  from_most : a ≤ w.from.most
  to_least : w.to.least ≤ b
  to_most : b ≤ w.to.most
  direction : goes w.direction a b ≡ true

joined : (w : Way) (a b : ℕ) → joins w a b ≡ true → Joined w a b
joined w a b e =
    let f = and_parts (among w.from a) _ e
    in let t = and_parts (among w.to b) (goes w.direction a b) f.1
    in let x = and_parts (nat_le w.from.least a) (nat_le a w.from.most) f.0
    in let y = and_parts (nat_le w.to.least b) (nat_le b w.to.most) t.0
    in record {
      from_least = leb-true w.from.least a x.0;
      from_most = leb-true a w.from.most x.1;
      to_least = leb-true w.to.least b y.0;
      to_most = leb-true b w.to.most y.1;
      direction = t.1;
    }

-- a direction, or ranges that lie apart, keep a code from itself
turned : (d : Direction) (f g l m a : ℕ) → f ≤ a → a ≤ g → l ≤ a → a ≤ m → goes d a a ≡ true →
    elim d [ upward ↦ true | downward ↦ true | anyhow ↦ nat_lt g l || ltb m f ] ≡ true → ⊥
turned upward f g l m a p q r s e h = omega (arith, ltb-true a a e)
turned downward f g l m a p q r s e h = omega (arith, ltb-true a a e)
turned anyhow f g l m a p q r s e h = ⊎_elim (λ k. omega (arith, ltb-true g l k)) (λ k. omega (arith, ltb-true m f k)) (or_cases (nat_lt g l) (nat_lt m f) h)

never_to_itself : (ps : List Plan) (ws : List Way) (a : ℕ) → ways_within ps ws ≡ true → listed_entry ws a a ≡ None
never_to_itself ps [] a e = refl
never_to_itself ps (w ∷ ws) a e =
    let h = and_parts (way_within ps w) (ways_within ps ws) e
    in cond_both (joins w a a) (Some w.takes) (listed_entry ws a a) (λ o. o ≡ None)
    (λ k. let j = joined w a a k in absurd (turned w.direction w.from.least w.from.most w.to.least w.to.most a j.from_least j.from_most j.to_least j.to_most j.direction (way_passed ps w h.0).lies_apart))
    (λ _. never_to_itself ps ws a h.1)

-- each of the n codes from c on has terms
listed_at : (ps : List Plan) (c n k : ℕ) → all_listed ps c n ≡ true → k < n → is_some (listed_terms ps (c + k)) ≡ true
listed_at ps c zero k e h = absurd (omega arith)
listed_at ps c (suc n) k e h =
    let p = and_parts (is_some (listed_terms ps (c + n))) (all_listed ps c n) e
    in ⊎_elim (λ (q : k ≡ n). subst (λ m. is_some (listed_terms ps (c + m)) ≡ true) (sym q) p.0)
    (λ q. listed_at ps c n k p.1 (omega arith)) (cases_eq k n)

listed_among : (ps : List Plan) (l m b : ℕ) → all_listed ps l (suc m - l) ≡ true → l ≤ b → b ≤ m → is_some (listed_terms ps b) ≡ true
listed_among ps l m b e p q =
    let s : l + (b - l) ≡ b = omega arith
    in subst (λ x. is_some (listed_terms ps x) ≡ true) s (listed_at ps l (suc m - l) (b - l) e (omega arith))

only_to_plans : (ps : List Plan) (ws : List Way) (a b : ℕ) → ways_within ps ws ≡ true → is_some (listed_entry ws a b) ≡ true → is_some (listed_terms ps b) ≡ true
only_to_plans ps [] a b e = λ h. absurd (false≢true h)
only_to_plans ps (w ∷ ws) a b e =
    let t = and_parts (way_within ps w) (ways_within ps ws) e
    in cond_both (joins w a b) (Some w.takes) (listed_entry ws a b) (λ o. is_some o ≡ true → is_some (listed_terms ps b) ≡ true)
    (λ k _. let j = joined w a b k in listed_among ps w.to.least w.to.most b (way_passed ps w t.0).listed j.to_least j.to_most)
    (λ _. only_to_plans ps ws a b t.1)

-- ## The two tables

pub tables_lawful : (ps : List Plan) (ws : List Way) → lawful_tables ps ws ≡ true → Lawful (listed_terms ps) (listed_entry ws)
tables_lawful ps ws e =
    let h = and_parts (plans_within ps) (ways_within ps ws) e
    in record {
      within = λ c t i. of_some WithinLimits (listed_terms ps c) t (terms_within ps c h.0) i;
      prices = λ a b x i. of_some (λ (y : Entry). y.price ≤ most_entry_price) (listed_entry ws a b) x (prices_within ps ws a b h.1) i;
      none_at_zero = none_at_zero ps h.0;
      apart = λ a. never_to_itself ps ws a h.1;
      leads = λ a b. only_to_plans ps ws a b h.1;
    }
