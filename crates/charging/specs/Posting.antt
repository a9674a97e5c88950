-- What a posting makes of the rows that a host lends.
use Rattle.std.specs.Prelude.{◌≡◌, ◌+◌, ◌≤◌, length}
use Rattle.event_run.specs.Postings.{Posting}
use Rattle.charging.specs.declared.rows.Rows.{Rows}
use Rattle.charging.specs.Rows.{overlaid, posting_row}
use Rattle.charging.specs.Answers.{posting_columns}

-- It is still the host's memory, and as long; where a row finds room it stands after those before it.
pub record Takes (x : Rows) (p : Posting) (y : Rows) : Type 0 where
  pub same : y.rows.ghost_name ≡ x.rows.ghost_name
  pub long : length y.rows.now ≡ length x.rows.now
  pub puts : x.used + posting_columns ≤ length x.rows.now →
      (y.used ≡ x.used + posting_columns) × (y.rows.now ≡ overlaid x.used (posting_row p) x.rows.now)
