-- What the conversions from a day to its date and back give.
use Rattle.std.specs.Prelude.{◌≡◌, ◌<◌, cond, nat_le, Result, Ok, Err, MatchResult}
use Rattle.quantities.specs.declared.time.Day.{Day}
use Rattle.calendar.specs.declared.date.Date.{Date}
use Rattle.calendar.specs.declared.days.PastCalendar.{PastCalendar}
use Rattle.calendar.specs.declared.days.NoSuchDate.{NoSuchDate}
use Rattle.calendar.specs.Dates.{last_day, exists, number, DateOfDay}
use Rattle.calendar.specs.Due.{date_of}

-- Exactly the days of the calendar have a date, which exists, has the day as its number, and is the only one.
pub record GivesDate (day : Day) (result : Result Date PastCalendar) : Type 0 where
  pub value : result ≡ cond (nat_le day.0 last_day) (Ok (date_of day.0)) (Err (record { 0 = day }))
  pub date : MatchResult result (DateOfDay day.0) (λ _. last_day < day.0)

-- Exactly the dates that exist have a day, which is their number.
abbrev pub GivesDay : Date → Result Day NoSuchDate → Type 0
GivesDay date result = result ≡ cond (exists date) (Ok (record { 0 = number date })) (Err (record { 0 = date }))
