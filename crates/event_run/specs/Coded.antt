-- What the postings of the code mean.
use Rattle.std.specs.Prelude.{Some, None, Ok, Err, Option, Result}
use Rattle.fault.specs.Faults.{refusal_of}
use Rattle.receipt.specs.Columns.{receipt_of}
use Rattle.event_file.specs.declared.file_fault.FileFault.{FileFault}
use Rattle.event_file.specs.declared.file_fault.FileFault.TheVariants.{WrongFile, WrongRecord, Account}
use Rattle.event_run.specs.declared.posted.Posted.{Posted}
use Rattle.event_run.specs.declared.stopped.Stopped.{Stopped}
use Rattle.event_run.specs.declared.stopped.Stopped.TheVariants.{Refused, NoMemory}
use Rattle.event_run.specs.Postings.{PlacedRefusal, Posting, wrong_record, wrong_file}

-- A wrong file is 13, told at index 0 and offset 0.
abbrev pub file_refusal_of : FileFault → PlacedRefusal
file_refusal_of WrongFile = wrong_file
file_refusal_of (WrongRecord p) = record { refusal = wrong_record; place = p }
file_refusal_of (Account f p) = record { refusal = refusal_of f; place = p }

abbrev pub file_outcome_of : {A : Type 0} → Result A FileFault → Option PlacedRefusal
file_outcome_of (Ok x) = None
file_outcome_of (Err f) = Some (file_refusal_of f)

abbrev pub posting_of : Posted → Posting
posting_of p = record { place = p.place; outcome = file_outcome_of p.outcome; receipt = receipt_of p.receipt; balance = p.balance.0 }

-- the refusal of a file that a run tells, if it tells one
abbrev pub file_refusal_told : {A : Type 0} → Result A Stopped → Option PlacedRefusal
file_refusal_told (Ok x) = None
file_refusal_told (Err (Refused f)) = Some (file_refusal_of f)
file_refusal_told (Err NoMemory) = None
