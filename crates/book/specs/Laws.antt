-- The laws of the allowance book, in the subject's words.
use Rattle.std.specs.Prelude.{◌≡◌, ℕ, ◌+◌, ◌-◌, ◌<◌, ◌≤◌, true, cond, List, ◌++◌, length, Ok, nat_lt}
use Rattle.book.specs.declared.lot.Lot.{Lot}
use Rattle.book.specs.Allowance.{Allowance, Kept, units, left, rising, empty, as_lot, fill_answer, filled, draw_answer, drawn, ended, lasting, lapsed, carried, aside, aside_answer}
use Rattle.book.specs.Days.{ending_on, capped_on}

-- Nothing is lost or made: what is left before and after differs by what is filled, or by what is answered.
abbrev pub FillSum : Type 0
FillSum = (n : ℕ) (b : Allowance) → b.fresh ≡ 0 → left (filled n b) ≡ left b + n

abbrev pub DrawSum : Type 0
DrawSum = (n : ℕ) (b : Allowance) → left (drawn n b) + draw_answer n b ≡ left b

abbrev pub LapseSum : Type 0
LapseSum = (x : ℕ) (b : Allowance) → left (lapsed x b) + units (ended x b.lots) ≡ left b

abbrev pub CarrySum : Type 0
CarrySum = (e : ℕ) (b : Allowance) → left (carried e b) + units b.lots ≡ left b

abbrev pub ClearSum : Type 0
ClearSum = (b : Allowance) → left empty + (units b.lots + b.fresh) ≡ left b

abbrev pub AsideSum : Type 0
AsideSum = (e c : ℕ) (b : Allowance) → left (aside e c b) ≡ left b

-- A lapse before a lapse on the same or a later day changes neither what is left in the end nor the total that ended.
abbrev pub LapseTwice : Type 0
LapseTwice = (x y : ℕ) (b : Allowance) → x ≤ y → lapsed y (lapsed x b) ≡ lapsed y b

abbrev pub EndedTwice : Type 0
EndedTwice = (x y : ℕ) (b : Allowance) → x ≤ y → units (ended x b.lots) + units (ended y (lapsed x b).lots) ≡ units (ended y b.lots)

-- A lapse before a carry doesn't change what the carry leaves.
abbrev pub LapseCarry : Type 0
LapseCarry = (x e : ℕ) (b : Allowance) → carried e (lapsed x b) ≡ carried e b

-- A lapse before a carry or a clear changes no total: what the lapse ends, and the old units that are removed after it,
-- are the old units that would be removed without it.
abbrev pub EndedAll : Type 0
EndedAll = (x : ℕ) (b : Allowance) → units (ended x b.lots) + units (lapsed x b).lots ≡ units b.lots

-- A draw leaves no unit while more is asked.
abbrev pub DrawAll : Type 0
DrawAll = (n : ℕ) (b : Allowance) → draw_answer n b < n → drawn n b ≡ empty

-- A draw takes what ends first: of what ends by any day it leaves all but n, and of the fresh amount all but what the
-- old lots lack.
abbrev pub DrawFirst : Type 0
DrawFirst = (n x : ℕ) (b : Allowance) → rising 0 b.lots ≡ true → units (ended x (drawn n b).lots) ≡ units (ended x b.lots) - n

abbrev pub DrawLast : Type 0
DrawLast = (n : ℕ) (b : Allowance) → (drawn n b).fresh ≡ b.fresh - (n - units b.lots)

-- After Set aside there ends on each day what was to end then, the fresh amount on e, with ends lowered to c.
abbrev pub AsideByDays : Type 0
AsideByDays = (e c d : ℕ) (b : Allowance) → ending_on d (aside e c b).lots ≡ capped_on c d (b.lots ++ as_lot b.fresh e)

-- That decides the lots, since they are in order and none is empty.
abbrev pub DecidedByDays : Type 0
DecidedByDays = (ks ls : List Lot) → rising 0 ks ≡ true → rising 0 ls ≡ true → ((d : ℕ) → ending_on d ks ≡ ending_on d ls) → ks ≡ ls

-- Set aside lengthens no lot's life: past a day before the cap there lasts what lasted before, with the fresh amount
-- where e is past that day; past any other day nothing lasts.
abbrev pub AsideBeforeCap : Type 0
AsideBeforeCap = (e c x : ℕ) (b : Allowance) → x < c → units (lasting x (aside e c b).lots) ≡ units (lasting x b.lots) + cond (nat_lt x e) b.fresh 0

abbrev pub AsidePastCap : Type 0
AsidePastCap = (e c x : ℕ) (b : Allowance) → c ≤ x → units (lasting x (aside e c b).lots) ≡ 0

abbrev pub AsideNoLonger : Type 0
AsideNoLonger = (e c x : ℕ) (b : Allowance) → units (lasting x (aside e c b).lots) ≤ units (lasting x b.lots) + cond (nat_lt x e) b.fresh 0

-- Without a fresh amount Set aside is never refused.
abbrev pub AsideNothing : Type 0
AsideNothing = (C e c : ℕ) (b : Allowance) → Kept C b → b.fresh ≡ 0 → aside_answer C e c b ≡ Ok tt

-- Where all ends lie from day d on and the cap is among the C days from d on, the lots find room.
abbrev pub AsideRoom : Type 0
AsideRoom = (C d e c : ℕ) (b : Allowance) → rising d b.lots ≡ true → d ≤ e → d ≤ c → c < d + C → length (aside e c b).lots ≤ C

-- What holds of every book is kept by every operation that isn't refused.
abbrev pub EmptyKept : Type 0
EmptyKept = (C : ℕ) → Kept C empty

abbrev pub FillKept : Type 0
FillKept = (C n : ℕ) (b : Allowance) → Kept C b → fill_answer n b ≡ Ok tt → Kept C (filled n b)

abbrev pub DrawKept : Type 0
DrawKept = (C n : ℕ) (b : Allowance) → Kept C b → Kept C (drawn n b)

abbrev pub LapseKept : Type 0
LapseKept = (C x : ℕ) (b : Allowance) → Kept C b → Kept C (lapsed x b)

abbrev pub CarryKept : Type 0
CarryKept = (C e : ℕ) (b : Allowance) → 1 ≤ C → Kept C b → Kept C (carried e b)

abbrev pub AsideKept : Type 0
AsideKept = (C e c : ℕ) (b : Allowance) → Kept C b → aside_answer C e c b ≡ Ok tt → Kept C (aside e c b)
