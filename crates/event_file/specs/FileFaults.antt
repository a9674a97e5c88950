-- The number, the layer and the place of each refusal of a file.
use Rattle.std.specs.Prelude.{ℕ}
use Rattle.fault.specs.Faults as account
use Rattle.fault.specs.declared.account.Layer.{Layer}
use Rattle.fault.specs.declared.account.Layer.TheVariants.{File}
use Rattle.event_file.specs.declared.file_fault.Place.{Place}
use Rattle.event_file.specs.declared.file_fault.FileFault.{FileFault}
use Rattle.event_file.specs.declared.file_fault.FileFault.TheVariants.{WrongFile, WrongRecord, Account}

-- A wrong file or trailer has number 13, a wrong record 14; an account's refusal keeps its own.
abbrev pub number_of : FileFault → ℕ
number_of WrongFile = 13
number_of (WrongRecord p) = 14
number_of (Account f p) = account.number_of f

-- 13 and 14 are the file's own; an account's refusal keeps its layer.
abbrev pub layer_of : FileFault → Layer
layer_of WrongFile = File
layer_of (WrongRecord p) = File
layer_of (Account f p) = account.layer_of f

-- A refusal tells the record's index and offset; a wrong file has no record, and tells 0 and 0.
abbrev pub place_of : FileFault → Place
place_of WrongFile = record { index = 0; offset = 0 }
place_of (WrongRecord p) = p
place_of (Account f p) = p
