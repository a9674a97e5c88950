-- The laws of the allowance book.
use Rattle.std.proofs.Common.{◌≡◌, ℕ, ◌+◌, ◌-◌, ◌≤◌, true, not, leb, List, [], ◌∷◌, length, Ok, refl, ap, arith}
use Rattle.std.proofs.lemmas.Bool.Decides.{nat_tests}
use Rattle.quantities.specs.Limits.{most_grant, most_old_units}
use Rattle.book.specs.declared.lot.Lot.{Lot}
use Rattle.book.specs.Allowance.{Allowance, units, rising, as_lot, lasting, fill_answer, aside, aside_answer}
use Rattle.book.specs.Laws
use Rattle.book.proofs.Lots.{parts, units_lot, units-parts, units-undrawn, length-undrawn, length_kept, none-undrawn, rising_lot, rising-undrawn, rising_kept, lasting_again, ended_again, ended-undrawn}
use Rattle.book.proofs.Gathering.{units-aside, length-aside-none, rising-aside}
use Rattle.book.proofs.Days.{aside_past_cap}

pub fill_sum : Laws.FillSum
fill_sum n b z = omega arith

pub draw_sum : Laws.DrawSum
draw_sum n b = let h = units-undrawn n b.lots in omega arith

pub lapse_sum : Laws.LapseSum
lapse_sum x b = let h = units-parts x b.lots in omega arith

pub carry_sum : Laws.CarrySum
carry_sum e b = let h = units_lot b.fresh e in omega arith

pub clear_sum : Laws.ClearSum
clear_sum b = omega arith

pub aside-sum : Laws.AsideSum
aside-sum e c b = let h = units-aside b.fresh e c b.lots in omega arith

pub lapse_twice : Laws.LapseTwice
lapse_twice x y b h = ap (λ ls. record { fresh = b.fresh; lots = ls }) (lasting_again x y b.lots h)

pub ended_twice : Laws.EndedTwice
ended_twice x y b h = ended_again x y b.lots h

pub lapse_carry : Laws.LapseCarry
lapse_carry x e b = refl

pub ended_all : Laws.EndedAll
ended_all x b = units-parts x b.lots

pub draw_all : Laws.DrawAll
draw_all n b h = let z : b.fresh - (n - units b.lots) ≡ 0 = omega arith in let e = none-undrawn n b.lots (omega arith) in cc

pub draw_first : Laws.DrawFirst
draw_first n x b s = ended-undrawn x 0 n b.lots s

pub draw_last : Laws.DrawLast
draw_last n b = refl

pub empty_kept : Laws.EmptyKept
empty_kept C = record { fresh = omega arith; few = omega arith; sum = omega arith; ordered = refl }

-- a fill that is not refused is small
small_fill : (n : ℕ) (b : Allowance) → fill_answer n b ≡ Ok tt → n ≤ most_grant
small_fill n b e = grind (arith, nat_tests)

pub fill_kept : Laws.FillKept
fill_kept C n b k e = let s = small_fill n b e in record { fresh = s; few = k.few; sum = k.sum; ordered = k.ordered }

pub draw_kept : Laws.DrawKept
draw_kept C n b k =
    let u = units-undrawn n b.lots in
    let m = length-undrawn n b.lots in
    record { fresh = omega arith; few = omega arith; sum = omega arith; ordered = rising-undrawn 0 n b.lots k.ordered }

pub lapse_kept : Laws.LapseKept
lapse_kept C x b k =
    let u = units-parts x b.lots in
    let m = length_kept (λ l. not (leb l.end.0 x)) b.lots in
    record { fresh = k.fresh; few = omega arith; sum = omega arith; ordered = rising_kept 0 (λ l. not (leb l.end.0 x)) b.lots k.ordered }

few_lot : (n e : ℕ) → length (as_lot n e) ≤ 1
few_lot n e = grind (arith, nat_tests)

pub carry_kept : Laws.CarryKept
carry_kept C e b r k =
    let u = units_lot b.fresh e in
    let m = few_lot b.fresh e in
    record { fresh = omega arith; few = omega arith; sum = omega arith; ordered = rising_lot 0 b.fresh e (omega arith) }

few-aside : (C e c : ℕ) (b : Allowance) → aside_answer C e c b ≡ Ok tt → length (aside e c b).lots ≤ C
few-aside C e c b h = grind (arith, nat_tests)

small_aside : (C e c : ℕ) (b : Allowance) → aside_answer C e c b ≡ Ok tt → units (aside e c b).lots ≤ most_old_units
small_aside C e c b h = grind (arith, nat_tests)

pub aside_kept : Laws.AsideKept
aside_kept C e c b k h =
    record { fresh = omega arith; few = few-aside C e c b h; sum = small_aside C e c b h; ordered = rising-aside 0 b.fresh e c b.lots (omega arith) (omega arith) k.ordered }

-- with few lots and units nothing is refused
not_refused : (C e c : ℕ) (b : Allowance) → length (aside e c b).lots ≤ C → units (aside e c b).lots ≤ most_old_units → aside_answer C e c b ≡ Ok tt
not_refused C e c b h k = grind (arith, nat_tests)

pub aside-nothing : Laws.AsideNothing
aside-nothing C e c b k z =
    let m = length-aside-none b.fresh e c b.lots z in
    let u = units-aside b.fresh e c b.lots in
    not_refused C e c b (omega arith) (omega arith)

-- lots that all end from d to c are at most one for each of these days
few_days : (d c : ℕ) (ls : List Lot) → rising d ls ≡ true → units (lasting c ls) ≡ 0 → length ls ≤ c + 1 - d
few_days d c [] s z = omega arith
few_days d c (l ∷ ls) s z =
    let p = parts d l ls s in
    let here : l.end.0 ≤ c = grind (arith, nat_tests) in
    let rest : units (lasting c ls) ≡ 0 = grind (arith, nat_tests) in
    let h = few_days (l.end.0 + 1) c ls p.2 rest in
    omega arith

pub aside_room : Laws.AsideRoom
aside_room C d e c b s h k m =
    let f = few_days d c (aside e c b).lots (rising-aside d b.fresh e c b.lots h k s) (aside_past_cap e c c b (omega arith)) in
    omega arith
