-- The calendar that accounts go by: the Gregorian one, from 1 January 2000 on.
use Rattle.calendar.specs.Due.{month_day, month_of, due_after}
use Rattle.calendar.proofs.Due.{due_later, due_next_month, month_of_monotone, month_day_least, month_day_most}
use Rattle.rules.specs.State.{Calendar}

-- Days, months and due days are those of the Gregorian calendar.
abbrev pub gregorian : Calendar
gregorian = record {
  month_day = month_day;
  month_of = month_of;
  due_after = due_after;
  due_later = due_later;
  due_next_month = due_next_month;
  month_of_monotone = month_of_monotone;
  month_day_least = month_day_least;
  month_day_most = month_day_most;
}
