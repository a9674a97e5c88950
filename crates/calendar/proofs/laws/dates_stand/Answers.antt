-- The laws are lemmas of proofs/Dates.antt and proofs/Text.antt.
use Rattle.calendar.proofs.Dates.{days_have_dates, dates_have_days}
use Rattle.calendar.proofs.Text.{dates_written}
use Rattle.calendar.proofs.laws.dates_stand.Goals as goal

pub returns : goal.returns
returns c = record { days = days_have_dates; dates = dates_have_days; written = dates_written }
