-- Each law is a lemma of proofs/Due.antt.
use Rattle.calendar.proofs.Due.{due_later, due-within, due_next_month, due-dated, month_of_monotone, month_of_before, month_day_least, month_day_most}
use Rattle.calendar.proofs.laws.due_laws_stand.Goals as goal

pub returns : goal.returns
returns c =
    record { later = due_later; within = due-within; month = due_next_month; dated = due-dated; monotone = month_of_monotone; before = month_of_before; least = month_day_least; most = month_day_most }
