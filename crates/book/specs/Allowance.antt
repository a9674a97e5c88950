-- The meaning of an allowance book, and what each operation makes of it.
use Rattle.std.specs.Prelude.{◌≡◌, ℕ, ◌+◌, ◌-◌, ◌≤◌, min, Bool, true, cond, not, ◌&&◌, leb, List, [], ◌∷◌, ◌++◌, length, Ok, Err, fold, filter, Result, ◌==◌, nat_le, nat_lt}
use Rattle.quantities.specs.Limits.{most_grant, most_old_units}
use Rattle.book.specs.declared.fault.BookFault.{BookFault}
use Rattle.book.specs.declared.fault.BookFault.TheVariants.{NotEmpty, TooLarge, TooManyLots, TooManyUnits}
use Rattle.book.specs.declared.lot.Lot.{Lot}

-- What is left of one unit: the fresh amount, which the latest fee granted, and old lots, left of earlier fees.
pub record Allowance : Type 0 where
  pub fresh : ℕ
  pub lots : List Lot

-- the sum of some lots
abbrev pub units : List Lot → ℕ
units [] = 0
units (l ∷ ls) = l.amount + units ls

-- all that is left
abbrev pub left : Allowance → ℕ
left b = b.fresh + units b.lots

-- Each lot has at least one unit, their ends rise strictly, and the first end is at least d.
abbrev pub rising : ℕ → List Lot → Bool
rising d [] = true
rising d (l ∷ ls) = nat_le 1 l.amount && (nat_le d l.end.0 && rising (l.end.0 + 1) ls)

-- What holds of every book with room for C old lots.
pub record Kept (C : ℕ) (b : Allowance) : Type 0 where
  pub fresh : b.fresh ≤ most_grant
  pub few : length b.lots ≤ C
  pub sum : units b.lots ≤ most_old_units
  pub ordered : rising 0 b.lots ≡ true

abbrev pub empty : Allowance
empty = record { fresh = 0; lots = [] }

-- an amount as a lot ending on day e: 0 makes none
abbrev pub as_lot : ℕ → ℕ → List Lot
as_lot n e = cond (n == 0) [] (record { amount = n; end = record { 0 = e } } ∷ [])

-- Fill n makes the fresh amount n; it is refused where a fresh amount is left or n is over the limit.
abbrev pub fill_answer : ℕ → Allowance → Result Unit BookFault
fill_answer n b = cond (b.fresh == 0) (cond (nat_le n most_grant) (Ok tt) (Err TooLarge)) (Err NotEmpty)

abbrev pub filled : ℕ → Allowance → Allowance
filled n b = record { fresh = n; lots = b.lots }

-- Draw n takes the smaller of n and all that is left: old lots first, by end, then fresh.
abbrev pub undrawn : ℕ → List Lot → List Lot
undrawn n [] = []
undrawn n (l ∷ ls) = cond (nat_lt n l.amount) (record { amount = l.amount - n; end = l.end } ∷ ls) (undrawn (n - l.amount) ls)

abbrev pub drawn : ℕ → Allowance → Allowance
drawn n b = record { fresh = b.fresh - (n - units b.lots); lots = undrawn n b.lots }

abbrev pub draw_answer : ℕ → Allowance → ℕ
draw_answer n b = min n (left b)

-- Lapse on day x removes the old lots that end at or before x.
abbrev pub ended : ℕ → List Lot → List Lot
ended x ls = filter (λ l. leb l.end.0 x) ls

abbrev pub lasting : ℕ → List Lot → List Lot
lasting x ls = filter (λ l. not (nat_le l.end.0 x)) ls

abbrev pub lapsed : ℕ → Allowance → Allowance
lapsed x b = record { fresh = b.fresh; lots = lasting x b.lots }

-- Carry to day e removes all old lots, and the fresh amount becomes the one old lot, ending on e.
abbrev pub carried : ℕ → Allowance → Allowance
carried e b = record { fresh = 0; lots = as_lot b.fresh e }

-- One lot more among lots in the order of their ends, joined with one of equal end.
abbrev pub with_lot : Lot → List Lot → List Lot
with_lot l [] = l ∷ []
with_lot l (k ∷ ks) =
    cond (nat_lt k.end.0 l.end.0) (k ∷ with_lot l ks)
    (cond (k.end.0 == l.end.0) (record { amount = k.amount + l.amount; end = k.end } ∷ ks) (l ∷ k ∷ ks))

-- the same with the lot's end lowered to c where it is past c
abbrev pub with_capped : ℕ → List Lot → Lot → List Lot
with_capped c ks l = with_lot (record { amount = l.amount; end = record { 0 = min c l.end.0 } }) ks

-- lots put together one after another
abbrev pub gathered : ℕ → List Lot → List Lot
gathered c ls = fold (with_capped c) [] ls

-- Set aside with end e and cap c makes the fresh amount an old lot ending on e, lowers each end past c to c, and
-- joins lots of equal end.
abbrev pub aside : ℕ → ℕ → Allowance → Allowance
aside e c b = record { fresh = 0; lots = gathered c (b.lots ++ as_lot b.fresh e) }

-- It is refused where more than C old lots, or more old units than a book may hold, would stand.
abbrev pub aside_answer : ℕ → ℕ → ℕ → Allowance → Result Unit BookFault
aside_answer C e c b =
    cond (nat_lt C (length (aside e c b).lots)) (Err TooManyLots)
    (cond (nat_lt most_old_units (units (aside e c b).lots)) (Err TooManyUnits) (Ok tt))
