-- The run over an event file: each record's call is made one after another, and posted with its place.
use Rattle.std.specs.Prelude.{ℕ, if◌then◌else◌, List, [], ◌∷◌, Some, None, Option}
use Rattle.rules.specs.declared.call.Event.{Event}
use Rattle.rules.specs.Receipt.{Receipt}
use Rattle.rules.specs.State.{World, Account}
use Rattle.rules.specs.Checks.{Refusal}
use Rattle.rules.specs.Runs.{Answer, refused, step, opening, opening_refusal}
use Rattle.event_file.specs.declared.file_fault.Place.{Place}
use Rattle.event_file.specs.Layout.{file_right, opening_plan, opening_moment}
use Rattle.event_file.specs.Parts.{Placed, parts}
use Rattle.event_file.specs.Records.{decoded}

-- a refusal, with the place that the file adds to it
pub record PlacedRefusal : Type 0 where
  pub refusal : Refusal
  pub place : Place

-- What is told of one record: its place, how its call came out, the receipt, and the balance after it.
pub record Posting : Type 0 where
  pub place : Place
  pub outcome : Option PlacedRefusal
  pub receipt : Receipt
  pub balance : ℕ

-- a wrong record makes no call
abbrev pub wrong_record : Refusal
wrong_record = record { number = 14; concern = None }

-- what a record comes to: the answer of its call, or the refusal of a wrong record
abbrev pub answer_to : Option Event → World → Account → Answer
answer_to None w a = refused wrong_record a
answer_to (Some e) w a = step w a e

abbrev pub answer_at : World → Account → Placed → Answer
answer_at w a p = answer_to (decoded p.bytes) w a

abbrev pub placed_outcome : Option Refusal → Place → Option PlacedRefusal
placed_outcome None p = None
placed_outcome (Some f) p = Some (record { refusal = f; place = p })

abbrev pub posting : Placed → Answer → Posting
posting p x = record { place = p.place; outcome = placed_outcome x.outcome p.place; receipt = x.receipt; balance = x.account.state.balance }

-- the postings of all records, in their order: a refused record doesn't stop the run
abbrev pub postings : World → Account → List Placed → List Posting
postings w a [] = []
postings w a (p ∷ ps) = posting p (answer_at w a p) ∷ postings w (answer_at w a p).account ps

-- the account after the last record
abbrev pub closing : World → Account → List Placed → Account
closing w a [] = a
closing w a (p ∷ ps) = closing w (answer_at w a p).account ps

-- ## A whole file

-- A wrong file is told as 13, and a refused opening as the account tells it, both at index 0 and offset 0.
abbrev pub no_place : Place
no_place = record { index = 0; offset = 0 }

abbrev pub wrong_file : PlacedRefusal
wrong_file = record { refusal = record { number = 13; concern = None }; place = no_place }

abbrev pub refused_file : World → List ℕ → Option PlacedRefusal
refused_file w file =
    if file_right file then placed_outcome (opening_refusal w (opening_plan file) (opening_moment file)) no_place else Some wrong_file

-- the account that a file names, newly opened
abbrev pub opened_by : World → List ℕ → Option Account
opened_by w file = opening w (opening_plan file) (opening_moment file)

abbrev pub postings_from : Option Account → World → List ℕ → List Posting
postings_from None w file = []
postings_from (Some a) w file = postings w a (parts file)

abbrev pub closing_from : Option Account → World → List ℕ → Option Account
closing_from None w file = None
closing_from (Some a) w file = Some (closing w a (parts file))

-- the postings of a file's records, and the account after the last one
abbrev pub file_postings : World → List ℕ → List Posting
file_postings w file = postings_from (opened_by w file) w file

abbrev pub file_closing : World → List ℕ → Option Account
file_closing w file = closing_from (opened_by w file) w file
