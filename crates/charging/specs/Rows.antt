-- Rows of numbers, as a host reads them.
use Rattle.std.specs.Prelude.{ℕ, ◌+◌, List, [], ◌∷◌, ◌++◌, length, take, drop, Some, None, Option}
use Rattle.quantities.specs.declared.unit.UnitKind.{UnitKind}
use Rattle.quantities.specs.declared.unit.UnitKind.TheVariants.{Minutes, Megabytes, Messages}
use Rattle.book.specs.declared.fault.BookFault.{BookFault}
use Rattle.book.specs.declared.fault.BookFault.TheVariants.{NotEmpty, TooLarge, TooManyLots, TooManyUnits}
use Rattle.book.specs.Allowance.{left}
use Rattle.rules.specs.declared.call.Status.{Status}
use Rattle.rules.specs.declared.call.Status.TheVariants.{Blocked, Active}
use Rattle.rules.specs.Receipt.{Tally, Receipt}
use Rattle.rules.specs.State.{State}
use Rattle.rules.specs.Checks.{Concern}
use Rattle.event_run.specs.Postings.{PlacedRefusal, Posting}

-- What stands from place i on in a list is overlaid by a row.
abbrev pub overlaid : ℕ → List ℕ → List ℕ → List ℕ
overlaid i row xs = take i xs ++ (row ++ drop (i + length row) xs)

-- The seven columns of a unit.
abbrev pub tally_row : Tally → List ℕ
tally_row t = t.granted ∷ t.within ∷ t.beyond ∷ t.ended ∷ t.late ∷ t.restart_wiped ∷ t.switch_wiped ∷ []

-- The 24 columns of a receipt: fees, use charges, switch charges, and seven for each unit.
abbrev pub receipt_row : Receipt → List ℕ
receipt_row r =
    (r.fees ∷ r.use_charges ∷ r.switch_charges ∷ [])
    ++ (tally_row r.units.minutes ++ (tally_row r.units.megabytes ++ tally_row r.units.messages))

-- Whether an account is active, 1 or 0, and the day on which it is due, 0 while it is blocked.
abbrev pub status_row : Status → List ℕ
status_row Blocked = 0 ∷ 0 ∷ []
status_row (Active d) = 1 ∷ d.0 ∷ []

-- How an account stands: its balance, its status, and what is left of each unit.
abbrev pub state_row : State → List ℕ
state_row s =
    (s.balance ∷ [])
    ++ (status_row s.status ++ (left s.books.minutes ∷ left s.books.megabytes ∷ left s.books.messages ∷ []))

-- ## What became of a record

-- A unit is told as 1, 2 or 3, and a book's reason as 1, 2, 3 or 4; where no book refuses, both are 0.
abbrev pub unit_number : UnitKind → ℕ
unit_number Minutes = 1
unit_number Megabytes = 2
unit_number Messages = 3

abbrev pub reason_number : BookFault → ℕ
reason_number NotEmpty = 1
reason_number TooLarge = 2
reason_number TooManyLots = 3
reason_number TooManyUnits = 4

abbrev pub concern_row : Option Concern → List ℕ
concern_row None = 0 ∷ 0 ∷ []
concern_row (Some c) = unit_number c.unit ∷ reason_number c.fault ∷ []

-- The number of a refusal, with the book's unit and reason; three zeros where the call was accepted.
abbrev pub outcome_row : Option PlacedRefusal → List ℕ
outcome_row None = 0 ∷ 0 ∷ 0 ∷ []
outcome_row (Some f) = f.refusal.number ∷ concern_row f.refusal.concern

-- The index and the offset of a record, its outcome, its receipt, and the balance after it: 30 numbers.
abbrev pub posting_row : Posting → List ℕ
posting_row p =
    (p.place.index ∷ p.place.offset ∷ [])
    ++ (outcome_row p.outcome ++ (receipt_row p.receipt ++ (p.balance ∷ [])))

-- One row after another.
abbrev pub posting_rows : List Posting → List ℕ
posting_rows [] = []
posting_rows (p ∷ ps) = posting_row p ++ posting_rows ps
