-- The number, the layer and the meaning of each refusal of an account.
use Rattle.std.specs.Prelude.{ℕ, Some, None, Ok, Err, Option, Result}
use Rattle.rules.specs.Checks.{Concern, Refusal}
use Rattle.fault.specs.declared.account.Layer.{Layer}
use Rattle.fault.specs.declared.account.Layer.TheVariants as layer
use Rattle.fault.specs.declared.account.Fault.{Fault}
use Rattle.fault.specs.declared.account.Fault.TheVariants.{PastLastMoment, BeforeLatestMoment, AmountOutOfRange, NoTerms, NoEntry, Blocked, NotOffered, FeeTakenThatDay, MegabytesPastAllowance, BalanceTooLow, BalanceTooHigh, Book}

abbrev pub number_of : Fault → ℕ
number_of PastLastMoment = 1
number_of BeforeLatestMoment = 2
number_of AmountOutOfRange = 3
number_of NoTerms = 4
number_of NoEntry = 5
number_of Blocked = 6
number_of NotOffered = 7
number_of FeeTakenThatDay = 8
number_of MegabytesPastAllowance = 9
number_of BalanceTooLow = 10
number_of BalanceTooHigh = 11
number_of (Book u) = 12

-- A book's refusal is the book's, carried by the account.
abbrev pub layer_of : Fault → Layer
layer_of PastLastMoment = layer.Account
layer_of BeforeLatestMoment = layer.Account
layer_of AmountOutOfRange = layer.Account
layer_of NoTerms = layer.Account
layer_of NoEntry = layer.Account
layer_of Blocked = layer.Account
layer_of NotOffered = layer.Account
layer_of FeeTakenThatDay = layer.Account
layer_of MegabytesPastAllowance = layer.Account
layer_of BalanceTooLow = layer.Account
layer_of BalanceTooHigh = layer.Account
layer_of (Book u) = layer.Book

-- the book's refusal that a fault carries, with its unit
abbrev pub concern_of : Fault → Option Concern
concern_of PastLastMoment = None
concern_of BeforeLatestMoment = None
concern_of AmountOutOfRange = None
concern_of NoTerms = None
concern_of NoEntry = None
concern_of Blocked = None
concern_of NotOffered = None
concern_of FeeTakenThatDay = None
concern_of MegabytesPastAllowance = None
concern_of BalanceTooLow = None
concern_of BalanceTooHigh = None
concern_of (Book u) = Some (record { unit = u.unit; fault = u.fault })

abbrev pub refusal_of : Fault → Refusal
refusal_of f = record { number = number_of f; concern = concern_of f }

-- how a call came out: accepted, or refused so
abbrev pub outcome_of : {A : Type 0} → Result A Fault → Option Refusal
outcome_of (Ok x) = None
outcome_of (Err f) = Some (refusal_of f)
