-- Each law by its proof.
use Rattle.book.proofs.Laws.{fill_sum, draw_sum, lapse_sum, carry_sum, clear_sum, aside-sum}
use Rattle.book.proofs.Laws.{lapse_twice, ended_twice, lapse_carry, ended_all, draw_all, draw_first, draw_last, aside-nothing, aside_room}
use Rattle.book.proofs.Laws.{empty_kept, fill_kept, draw_kept, lapse_kept, carry_kept, aside_kept}
use Rattle.book.proofs.Days.{aside_by_days, decided_by_days, aside_before_cap, aside_past_cap, aside_no_longer}
use Rattle.book.proofs.theorems.book_laws_stand.Goals as goal

pub returns : goal.returns
returns c = record {
  sums = (fill_sum, draw_sum, lapse_sum, carry_sum, clear_sum, aside-sum);
  lapses = (lapse_twice, ended_twice, lapse_carry, ended_all);
  draws = (draw_all, draw_first, draw_last);
  days = (aside_by_days, decided_by_days, aside_before_cap, aside_past_cap, aside_no_longer);
  room = (aside-nothing, aside_room);
  limits = (empty_kept, fill_kept, draw_kept, lapse_kept, carry_kept, aside_kept);
}
