-- What a record's 16 bytes say.
use Rattle.std.specs.Prelude.{◌≡◌, ℕ, Bool, true, false, if◌then◌else◌, ◌&&◌, List, Some, None, Option, Result, ◌==◌, slice_index}
use Rattle.std.specs.Option.{ok_or}
use Rattle.quantities.specs.declared.unit.UnitKind.TheVariants.{Minutes, Megabytes, Messages}
use Rattle.rules.specs.declared.call.Service.{Service}
use Rattle.rules.specs.declared.call.Service.TheVariants.{Counted, International}
use Rattle.rules.specs.declared.call.Call.{Call}
use Rattle.rules.specs.declared.call.Call.TheVariants as call
use Rattle.rules.specs.declared.call.Event.{Event}
use Rattle.event_file.specs.declared.record.Kind.{Kind}
use Rattle.event_file.specs.declared.record.UnknownKind.{UnknownKind}
use Rattle.event_file.specs.declared.record.Kind.TheVariants.{TopUp, Use, Restart, Switch, MegabyteOption, DayMark}
use Rattle.event_file.specs.Layout.{le32}

-- Byte 0 tells the kind: 1 a top-up, 2 a use, 3 a Restart, 4 a switch, 5 the option, 6 a day mark.
abbrev pub kind_of : ℕ → Option Kind
kind_of b =
    if b == 1 then Some TopUp else
    if b == 2 then Some Use else
    if b == 3 then Some Restart else
    if b == 4 then Some Switch else
    if b == 5 then Some MegabyteOption else
    if b == 6 then Some DayMark else None

-- The result is the kind that the byte names, or the byte, which names none.
abbrev pub NamesKind : ℕ → Result Kind UnknownKind → Type 0
NamesKind b r = r ≡ ok_or (kind_of b) (record { 0 = b })

-- Byte 1 tells the service of a use: 1 minutes, 2 megabytes, 3 messages, 4 messages abroad; no service has another code.
abbrev pub service_of : ℕ → Option Service
service_of b =
    if b == 1 then Some (Counted Minutes) else
    if b == 2 then Some (Counted Megabytes) else
    if b == 3 then Some (Counted Messages) else
    if b == 4 then Some International else None

-- Bytes 4 to 7 tell the amount, and bytes 8 to 11 the moment.
abbrev pub amount : List ℕ → ℕ
amount bytes = le32 bytes 4

abbrev pub moment : List ℕ → ℕ
moment bytes = le32 bytes 8

-- Bytes 2 and 3, and 12 to 15, are zero in every record.
abbrev pub spare_right : List ℕ → Bool
spare_right bytes =
    (slice_index bytes 2 == 0)
    && (slice_index bytes 3 == 0
    && (slice_index bytes 12 == 0 && (slice_index bytes 13 == 0 && (slice_index bytes 14 == 0 && slice_index bytes 15 == 0))))

abbrev pub no_code : List ℕ → Bool
no_code bytes = slice_index bytes 1 == 0

abbrev pub no_amount : List ℕ → Bool
no_amount bytes = amount bytes == 0

-- Byte 1 is zero except in a use and a switch, and the amount except in a top-up and a use.
abbrev pub unused_right : Kind → List ℕ → Bool
unused_right TopUp bytes = no_code bytes
unused_right Use bytes = true
unused_right Restart bytes = no_code bytes && no_amount bytes
unused_right Switch bytes = no_amount bytes
unused_right MegabyteOption bytes = no_code bytes && no_amount bytes
unused_right DayMark bytes = no_code bytes && no_amount bytes

-- The call of a kind, from the bytes.
abbrev pub call_of : Kind → List ℕ → Call
call_of TopUp bytes = call.TopUp (record { 0 = amount bytes })
call_of Use bytes = call.Use (service_of (slice_index bytes 1)) (amount bytes)
call_of Restart bytes = call.Restart
call_of Switch bytes = call.Switch (record { 0 = slice_index bytes 1 })
call_of MegabyteOption bytes = call.MegabyteOption
call_of DayMark bytes = call.DayMark

-- A record is right if its kind is one of the six and what must be zero is; no value of a right record is out of range here.
abbrev pub right_as : Option Kind → List ℕ → Bool
right_as None bytes = false
right_as (Some k) bytes = spare_right bytes && unused_right k bytes

abbrev pub record_right : List ℕ → Bool
record_right bytes = right_as (kind_of (slice_index bytes 0)) bytes

-- What a record says: nothing if it is wrong, and else its call with its moment.
abbrev pub decoded_as : Option Kind → List ℕ → Option Event
decoded_as None bytes = None
decoded_as (Some k) bytes = if right_as (Some k) bytes then Some (record { moment = record { 0 = moment bytes }; call = call_of k bytes }) else None

abbrev pub decoded : List ℕ → Option Event
decoded bytes = decoded_as (kind_of (slice_index bytes 0)) bytes
