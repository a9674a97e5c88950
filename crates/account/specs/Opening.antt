-- What the answer of an opening means.
use Rattle.std.specs.Prelude.{◌≡◌, Some, None, Ok, Err, Option, Result}
use Rattle.book.specs.Allowance.{Allowance}
use Rattle.rules.specs.State.{Account as Meant}
use Rattle.rules.specs.Checks.{Refusal}
use Rattle.fault.specs.Faults.{refusal_of}
use Rattle.account.specs.declared.account.Account.{Account}
use Rattle.account.specs.declared.provision.Provision.{Provision}
use Rattle.account.specs.declared.refused.RefusedOpening.{RefusedOpening}
use Rattle.account.specs.Meaning.{account_of}

abbrev pub refusal_told : {L B : Type 0} → Result (Account L B) (RefusedOpening L B) → Option Refusal
refusal_told (Ok a) = None
refusal_told (Err x) = Some (refusal_of x.fault)

abbrev pub account_told : {L B : Type 0} → (B → Allowance) → Result (Account L B) (RefusedOpening L B) → Option Meant
account_told means (Ok a) = Some (account_of means a)
account_told means (Err x) = None

-- an account keeps its line; a refused opening hands line and books back
abbrev pub Handed : {L B : Type 0} → Provision L B → Result (Account L B) (RefusedOpening L B) → Type 0
Handed p (Ok a) = a.line ≡ p.line
Handed p (Err x) = x.provision ≡ p
