-- The text of a step, and of one book's side after it.
use Rattle.std.specs.Prelude.{List, ℕ, ◌++◌, Ok, Err, Result, codes, decimal}
use Rattle.book.specs.Fault.{fault_number, reason}
use Rattle.book.specs.declared.fault.BookFault.{BookFault}
use Rattle.books_side_by_side.specs.declared.steps.Step.{Step}
use Rattle.books_side_by_side.specs.declared.steps.Step.TheVariants.{Fill, Draw, Lapse, Carry, Clear, SetAside}
use Rattle.books_side_by_side.specs.declared.steps.Told.{Told}
use Rattle.books_side_by_side.specs.declared.steps.Told.TheVariants.{Accepted, Units, Emptied}
use Rattle.books_side_by_side.specs.declared.steps.Look.{Look}
use Rattle.books_side_by_side.specs.declared.steps.Side.{Side}

-- A step is told by its name, with its number of units or its days.
abbrev pub step_text : Step → List ℕ
step_text (Fill n) = codes "fill " ++ decimal n
step_text (Draw n) = codes "draw " ++ decimal n
step_text (Lapse d) = codes "lapse " ++ decimal d.0
step_text (Carry e) = codes "carry " ++ decimal e.0
step_text Clear = codes "clear"
step_text (SetAside e c) = codes "set-aside " ++ (decimal e.0 ++ (codes " " ++ decimal c.0))

-- What is emptied is told as its old units and its fresh amount.
abbrev pub told_text : Told → List ℕ
told_text Accepted = codes "ok"
told_text (Units n) = decimal n
told_text (Emptied c) = decimal c.old ++ (codes " " ++ decimal c.fresh)

-- A refusal is told by its number and its reason.
abbrev pub answer_text : Result Told BookFault → List ℕ
answer_text (Ok t) = told_text t
answer_text (Err f) = codes "refused " ++ (decimal (fault_number f) ++ (codes " " ++ reason f))

-- The fresh amount, and the old units after a lapse on each of three days.
abbrev pub look_text : Look → List ℕ
look_text l =
    codes "fresh "
    ++ (decimal l.fresh
    ++ (codes " old " ++ (decimal l.old ++ (codes " " ++ (decimal l.old_later ++ (codes " " ++ decimal l.old_last))))))

-- The answer, the look, and what set aside would answer.
abbrev pub side_text : Side → List ℕ
side_text s = answer_text s.answer ++ (codes " " ++ (look_text s.look ++ (codes " aside " ++ answer_text s.aside)))
