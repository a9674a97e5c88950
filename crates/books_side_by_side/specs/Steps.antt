-- What a step answers and makes of a book with room for C old lots, and what a book tells when asked.
use Rattle.std.specs.Prelude.{ℕ, cond, is_ok, Ok, Err, Result}
use Rattle.book.specs.declared.fault.BookFault.{BookFault}
use Rattle.book.specs.Allowance.{Allowance, units, empty, fill_answer, filled, draw_answer, drawn, ended, lapsed, carried, aside, aside_answer}
use Rattle.books_side_by_side.specs.declared.steps.Step.{Step}
use Rattle.books_side_by_side.specs.declared.steps.Step.TheVariants.{Fill, Draw, Lapse, Carry, Clear, SetAside}
use Rattle.books_side_by_side.specs.declared.steps.Told.{Told}
use Rattle.books_side_by_side.specs.declared.steps.Told.TheVariants.{Accepted, Units, Emptied}
use Rattle.books_side_by_side.specs.declared.steps.Look.{Look}

-- A book that accepts a step and has nothing to count tells that it accepted it.
abbrev pub told : Result Unit BookFault → Result Told BookFault
told (Ok u) = Ok Accepted
told (Err f) = Err f

abbrev pub answered : ℕ → Step → Allowance → Result Told BookFault
answered C (Fill n) b = told (fill_answer n b)
answered C (Draw n) b = Ok (Units (draw_answer n b))
answered C (Lapse d) b = Ok (Units (units (ended d.0 b.lots)))
answered C (Carry e) b = Ok (Units (units b.lots))
answered C Clear b = Ok (Emptied (record { old = units b.lots; fresh = b.fresh }))
answered C (SetAside e c) b = told (aside_answer C e.0 c.0 b)

abbrev pub performed : ℕ → Step → Allowance → Allowance
performed C (Fill n) b = cond (is_ok (fill_answer n b)) (filled n b) b
performed C (Draw n) b = drawn n b
performed C (Lapse d) b = lapsed d.0 b
performed C (Carry e) b = carried e.0 b
performed C Clear b = empty
performed C (SetAside e c) b = cond (is_ok (aside_answer C e.0 c.0 b)) (aside e.0 c.0 b) b

-- asked on days 0, 44 and 110
abbrev pub seen : Allowance → Look
seen b = record {
  fresh = b.fresh;
  old = units (lapsed 0 b).lots;
  old_later = units (lapsed 44 b).lots;
  old_last = units (lapsed 110 b).lots;
}

-- set aside with end 45 and cap 90 after a lapse on day 44
abbrev pub asked : ℕ → Allowance → Result Told BookFault
asked C b = told (aside_answer C 45 90 (lapsed 44 b))
