-- Months and their first days, and how years and months of a date meet them.
use Rattle.std.proofs.Common.{◌≡◌, ℕ, zero, suc, ◌+◌, ◌-◌, ◌*◌, ◌/◌, ◌%◌, ◌<◌, ◌≤◌, Bool, true, false, cond, eqb, ltb, refl, ap, ◌∙◌, subst, inl, inr, add-zero, add-suc, mod-lt, suc-mul, div-add-mod', zero-add, add-one, arith, lit<}
use native.Mathlib.Nat.{lt-mul-div-succ}
use lib.Arith.{digits_div, digits_mod}
use Rattle.std.proofs.lemmas.Bool.{ltb-true, ltb-false, cases_lt, cases_order, cond_both}
use Rattle.calendar.specs.declared.date.Date.{Date}
use Rattle.calendar.specs.Gregorian.{leap, has_thirty, days_in, year_length, days_of_years, days_of_months, year_of, month_of_year, month_length, first}
use Rattle.calendar.specs.Dates.{number}
use Rattle.calendar.specs.Due.{month_from, month_of}

-- ## Lengths of months

lengths : (second leaps thirty : Bool) → (28 ≤ cond second (cond leaps 29 28) (cond thirty 30 31)) × (cond second (cond leaps 29 28) (cond thirty 30 31) ≤ 31)
lengths true true s = omega arith
lengths true false s = omega arith
lengths false l true = omega arith
lengths false l false = omega arith

pub days_least : (y m : ℕ) → 28 ≤ days_in y m
days_least y m = (lengths (eqb m 2) (leap y) (has_thirty m)).0

pub days_most : (y m : ℕ) → days_in y m ≤ 31
days_most y m = (lengths (eqb m 2) (leap y) (has_thirty m)).1

pub length-least : (k : ℕ) → 28 ≤ month_length k
length-least k = days_least (year_of k) (month_of_year k)

pub length_most : (k : ℕ) → month_length k ≤ 31
length_most k = days_most (year_of k) (month_of_year k)

-- ## First days

pub next : (k : ℕ) → first (k + 1) ≡ first k + month_length k
next k = ap first (add-one k)

far : (i n : ℕ) → first (suc i) ≤ first (suc i + n)
far i zero = omega (arith, ap first (add-zero (suc i)))
far i (suc n) = omega (arith, far i n, ap first (add-suc (suc i) n))

pub before : (i j : ℕ) → i < j → first i + month_length i ≤ first j
before i j h =
    let e : suc i + (j - (i + 1)) ≡ j = omega arith in
    omega (arith, far i (j - (i + 1)), ap first e)

-- no later month begins earlier
pub first_monotone : (i j : ℕ) → i ≤ j → first i ≤ first j
first_monotone i j h =
    elim (cases_lt i j) [
      | inl lt ↦ omega (arith, before i j lt)
      | inr ge ↦ (let e : i ≡ j = omega arith in omega (arith, ap first e))
    ]

-- a day lies in one month only
same_month : (i j a b : ℕ) → a < month_length i → b < month_length j → first i + a ≡ first j + b → i ≡ j
same_month i j a b p q e =
    elim (cases_order i j) [
      | inl h ↦ h
      | inr h ↦ elim h [ inl lt ↦ absurd (let k = before i j lt in omega arith) | inr gt ↦ absurd (let k = before j i gt in omega arith) ]
    ]

-- ## The first day of a month is the days of the years and of the months before it

length_in : (n j : ℕ) → j < 12 → month_length (n * 12 + j) ≡ days_in (2000 + n) (j + 1)
length_in n j h = ap (λ x. days_in (2000 + x) ((n * 12 + j) % 12 + 1)) (digits_div n h) ∙ ap (λ x. days_in (2000 + n) (x + 1)) (digits_mod n h)

within_year : (n j : ℕ) → j ≤ 12 → first (n * 12 + j) ≡ first (n * 12) + days_of_months (2000 + n) j
within_year n zero h = omega (arith, ap first (add-zero (n * 12)))
within_year n (suc j) h = omega (arith, ap first (add-suc (n * 12) j), within_year n j (omega arith), length_in n j (omega arith))

twelve : (y : ℕ) → days_of_months y 12 ≡ year_length y
twelve y = by (leap y) where
  by : (b : Bool) → 0 + 31 + cond b 29 28 + 31 + 30 + 31 + 30 + 31 + 31 + 30 + 31 + 30 + 31 ≡ cond b 366 365
  by true = refl
  by false = refl

of_years : (n : ℕ) → first (n * 12) ≡ days_of_years n
of_years zero = refl
of_years (suc n) = omega (arith, ap first (suc-mul n 12), within_year n 12 (omega arith), twelve (2000 + n), of_years n)

pub first_in : (n j : ℕ) → j ≤ 12 → first (n * 12 + j) ≡ days_of_years n + days_of_months (2000 + n) j
first_in n j h = omega (arith, within_year n j h, of_years n)

abbrev pub dated : ℕ → ℕ → ℕ → Date
dated y m d = record { year = y; month = m; day = d }

pub number-first : (y m d : ℕ) → 2000 ≤ y → 1 ≤ m → m ≤ 12 → number (dated y m d) ≡ first ((y - 2000) * 12 + (m - 1)) + (d - 1)
number-first y m d a b c =
    let e : 2000 + (y - 2000) ≡ y = omega arith in
    let f = first_in (y - 2000) (m - 1) (omega arith) in
    omega (arith, ap (λ x. days_of_months x (m - 1)) e)

-- the number of a date in month k
pub number_in : (k d : ℕ) → number (dated (year_of k) (month_of_year k) d) ≡ first k + (d - 1)
number_in k d =
    let s = div-add-mod' k 12 in
    let r = mod-lt k {m = 12} (lit< tt) in
    let e : (2000 + k / 12 - 2000) * 12 + (k % 12 + 1 - 1) ≡ k = omega arith in
    omega (arith, number-first (year_of k) (month_of_year k) d (omega arith) (omega arith) (omega arith), ap first e)

-- ## The month of a day

-- day d is one of month k
abbrev pub Within : ℕ → ℕ → Type 0
Within k d = (first k ≤ d) × (d < first k + month_length k)

found : (n k left : ℕ) → left < 28 * n → Within (month_from n k left) (first k + left)
found zero k left h = absurd (omega arith)
found (suc n) k left h =
    cond_both (ltb left (month_length k)) k (month_from n (k + 1) (left - month_length k)) (λ x. Within x (first k + left))
    (λ e. let lt = ltb-true left (month_length k) e in omega arith)
    (λ e.
    let ge = ltb-false left (month_length k) e in
    let least = length-least k in
    let on = next k in
    let same : first (k + 1) + (left - month_length k) ≡ first k + left = omega arith in
    let less : left - month_length k < 28 * n = omega arith in
    subst (Within (month_from n (k + 1) (left - month_length k))) same (found n (k + 1) (left - month_length k) less))

pub month_of-within : (d : ℕ) → Within (month_of d) d
unfolding month_of
month_of-within d = subst (Within (month_from (d / 28 + 1) 0 d)) (zero-add d) (found (d / 28 + 1) 0 d (lt-mul-div-succ d (lit< tt)))

-- a day of month k lies in month k
pub month_of_is : (k d : ℕ) → Within k d → month_of d ≡ k
month_of_is k d w =
    let v = month_of-within d in
    same_month (month_of d) k (d - first (month_of d)) (d - first k) (omega arith) (omega arith) (omega arith)
