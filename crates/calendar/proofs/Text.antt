-- The text that is printed for a date is that of its digits.
use Rattle.std.proofs.Common.{◌≡◌, ℕ, ◌+◌, ◌-◌, ◌^◌, ◌/◌, ◌%◌, ◌<◌, ◌≤◌, false, [], ◌∷◌, ◌++◌, length, replicate, decimal, refl, sym, inl, inr, ap, ◌∙◌, append_assoc, append-nil, arith, length-append}
use Rattle.std.proofs.lemmas.Bool.{cases_lt}
use Rattle.std.proofs.lemmas.Fmt.{decimal_digit, decimal_step}
use Rattle.std.proofs.lemmas.List.{replicate_more}
use Rattle.std.specs.Fmt.{padded_integral, char_count, format_spec}
use Rattle.calendar.specs.declared.date.Date.{Date}
use Rattle.calendar.specs.Dates.{DateOfDay}
use Rattle.calendar.specs.Text.{two_digits, zero_padded, date_text, any_date_text, DatesWritten}
use Rattle.calendar.proofs.Months.{days_most}
use Rattle.calendar.proofs.Dates.{parts}

-- what `{:02}` and `{:04}` write
pub zeros_before : (width n : ℕ) → padded_integral (format_spec 32 0 4 width (2 ^ 64 - 1)) false [] (decimal n) ≡ zero_padded width n
unfolding padded_integral char_count
zeros_before width n =
    let short : width - length (decimal n) - 0 - 0 ≡ width - length (decimal n) = omega arith in
    rw (short, append-nil (decimal n)) refl

one : (n : ℕ) → n < 10 → zero_padded 1 n ≡ (48 + n) ∷ []
one n h = rw (decimal_digit n h) refl

short : (k n : ℕ) → n < 10 → zero_padded (k + 2) n ≡ zero_padded (k + 1) 0 ++ ((48 + n) ∷ [])
short k n h =
    let a : k + 2 - 1 ≡ k + 1 = omega arith in
    let b : k + 1 - 1 ≡ k = omega arith in
    rw (decimal_digit n h, decimal_digit 0 (omega arith), a, b, replicate_more {X = ℕ} k 48) refl

long : (k n : ℕ) → 10 ≤ n → n < 2 ^ 64 → zero_padded (k + 2) n ≡ zero_padded (k + 1) (n / 10) ++ ((48 + n % 10) ∷ [])
long k n ge h =
    let ds = decimal (n / 10) in
    let e : k + 2 - length (ds ++ ((48 + n % 10) ∷ [])) ≡ k + 1 - length ds = omega (arith, length-append ds ((48 + n % 10) ∷ [])) in
    rw (decimal_step n ge h, e) (sym (append_assoc (replicate (k + 1 - length ds) 48) ds ((48 + n % 10) ∷ [])))

-- the last digit stands behind the others
more : (k n : ℕ) → n < 2 ^ 64 → zero_padded (k + 2) n ≡ zero_padded (k + 1) (n / 10) ++ ((48 + n % 10) ∷ [])
more k n h =
    elim (cases_lt n 10) [
      | inl lt ↦ (let q : n / 10 ≡ 0 = omega arith in let r : n % 10 ≡ n = omega arith in rw (q, r) (short k n lt))
      | inr ge ↦ long k n ge h
    ]

two : (n : ℕ) → n < 100 → zero_padded 2 n ≡ two_digits n
two n h =
    let e : n / 10 ≡ n / 10 % 10 = omega arith in
    more 0 n (omega arith) ∙ ap (λ front. front ++ ((48 + n % 10) ∷ [])) (one (n / 10) (omega arith)) ∙ ap (λ d. (48 + d) ∷ ((48 + n % 10) ∷ [])) e

four : (n : ℕ) → n < 10_000 → zero_padded 4 n ≡ two_digits (n / 100) ++ two_digits (n % 100)
four n h =
    let front = more 1 (n / 10) (omega arith) ∙ ap (λ x. x ++ ((48 + n / 10 % 10) ∷ [])) (two (n / 10 / 10) (omega arith)) in
    let a : n / 10 / 10 ≡ n / 100 = omega arith in
    let b : n / 10 % 10 ≡ n % 100 / 10 % 10 = omega arith in
    let c : n % 10 ≡ n % 100 % 10 = omega arith in
    more 2 n (omega arith) ∙ ap (λ x. x ++ ((48 + n % 10) ∷ [])) front ∙ rw (a, b, c) refl

pub dates_written : DatesWritten
dates_written t y m d = rw (four t.year y, two t.month m, two t.day d) refl

-- the text of the date of a day
pub date_written : (d : ℕ) (t : Date) → DateOfDay d t → any_date_text t ≡ date_text t
date_written d t of =
    let p = parts t of.real in
    dates_written t (omega arith) (omega arith) (omega (arith, days_most t.year t.month))
