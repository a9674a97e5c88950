-- The dates of the calendar, and that each day has one and one only.
use Rattle.std.proofs.Common.{◌≡◌, ℕ, ◌+◌, ◌-◌, ◌*◌, ◌/◌, ◌%◌, ◌<◌, ◌≤◌, true, sym, ap, ◌∙◌, mod-lt, div-add-mod', arith, lit<}
use lib.Arith.{digits_div, digits_mod}
use Rattle.std.proofs.lemmas.Bool.{and_parts, and_from, leb-true, le-leb}
use Rattle.calendar.specs.declared.date.Date.{Date}
use Rattle.calendar.specs.Gregorian.{first, month_length, year_of, month_of_year, days_in}
use Rattle.calendar.specs.Dates.{has_month, exists, number, last_day, months}
use Rattle.calendar.specs.Due.{month_of, month_day, date_of}
use Rattle.calendar.specs.Agreement.{DaysHaveDates, DatesHaveDays}
use Rattle.calendar.proofs.Months.{dated, before, number-first, number_in, month_of-within, month_of_is}
use Rattle.calendar.proofs.Due.{month_of-calendar}

-- ## The tests that a date passes

-- a month of the calendar
pub record Month (y m : ℕ) : Type 0 where
  pub early : 2000 ≤ y
  pub late : y ≤ 2100
  pub one : 1 ≤ m
  pub twelve : m ≤ 12

pub month_parts : (y m : ℕ) → has_month y m ≡ true → Month y m
month_parts y m v =
    let a = and_parts _ _ v in
    let b = and_parts _ _ a.1 in
    let c = and_parts _ _ b.1 in
    record { early = leb-true _ _ a.0; late = leb-true _ _ b.0; one = leb-true _ _ c.0; twelve = leb-true _ _ c.1 }

pub month_whole : (y m : ℕ) → Month y m → has_month y m ≡ true
month_whole y m p = and_from _ _ (le-leb _ _ p.early) (and_from _ _ (le-leb _ _ p.late) (and_from _ _ (le-leb _ _ p.one) (le-leb _ _ p.twelve)))

pub record Parts (t : Date) : Type 0 where
  pub month : Month t.year t.month
  pub low : 1 ≤ t.day
  pub high : t.day ≤ days_in t.year t.month

pub parts : (t : Date) → exists t ≡ true → Parts t
parts t v =
    let a = and_parts _ _ v in
    let b = and_parts _ _ a.1 in
    record { month = month_parts t.year t.month a.0; low = leb-true _ _ b.0; high = leb-true _ _ b.1 }

pub whole : (t : Date) → Parts t → exists t ≡ true
whole t p = and_from _ _ (month_whole t.year t.month p.month) (and_from _ _ (le-leb _ _ p.low) (le-leb _ _ p.high))

-- ## A month of a year, counted from January 2000

abbrev pub place : ℕ → ℕ → ℕ
place y m = (y - 2000) * 12 + (m - 1)

pub record Placed (y m : ℕ) : Type 0 where
  pub year : year_of (place y m) ≡ y
  pub month : month_of_year (place y m) ≡ m
  pub length : month_length (place y m) ≡ days_in y m
  pub within : place y m < months

pub placed : (y m : ℕ) → Month y m → Placed y m
placed y m p =
    let h : m - 1 < 12 = omega arith in
    let d : place y m / 12 ≡ y - 2000 = digits_div (y - 2000) h in
    let r : place y m % 12 ≡ m - 1 = digits_mod (y - 2000) h in
    let y' : year_of (place y m) ≡ y = omega arith in
    let m' : month_of_year (place y m) ≡ m = omega arith in
    record { year = y'; month = m'; length = ap (λ x. days_in x (month_of_year (place y m))) y' ∙ ap (days_in y) m'; within = omega arith }

-- ## Day to date and date to day

pub number-date_of : (d : ℕ) → number (date_of d) ≡ d
unfolding month_day
number-date_of d =
    let w = month_of-within d in
    omega (arith, number_in (month_of d) (month_day d))

exists-date_of : (d : ℕ) → d ≤ last_day → exists (date_of d) ≡ true
unfolding month_day
exists-date_of d h =
    let k = month_of d in
    let b = month_of-calendar d h in
    let w = month_of-within d in
    let s = div-add-mod' k 12 in
    let r = mod-lt k {m = 12} (lit< tt) in
    whole (date_of d) record {
      month = record { early = omega arith; late = omega arith; one = omega arith; twelve = omega arith };
      low = omega arith;
      high = omega arith;
    }

pub dates_have_days : DatesHaveDays
unfolding month_day
dates_have_days t v =
    let p = parts t v in
    let q = placed t.year t.month p.month in
    let k = place t.year t.month in
    let n = number-first t.year t.month t.day p.month.early p.month.one p.month.twelve in
    let b : first k + month_length k ≤ 36890 = before k months q.within in
    let e : month_of (number t) ≡ k = month_of_is k (number t) (omega arith) in
    let y : year_of (month_of (number t)) ≡ t.year = ap year_of e ∙ q.year in
    let m : month_of_year (month_of (number t)) ≡ t.month = ap month_of_year e ∙ q.month in
    let f = ap first e in
    let d : month_day (number t) ≡ t.day = omega arith in (
      omega arith,
      ap (λ x. dated x (month_of_year (month_of (number t))) (month_day (number t))) y
          ∙ ap (λ x. dated t.year x (month_day (number t))) m
          ∙ ap (dated t.year t.month) d,
    )

pub days_have_dates : DaysHaveDates
days_have_dates d h =
    record {
      real = exists-date_of d h;
      right = number-date_of d;
      only = λ u v e. sym (dates_have_days u v).1 ∙ ap date_of e;
    }
