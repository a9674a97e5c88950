-- Zeros stand before a short number.
use Rattle.std.proofs.Common.{◌≡◌, ℕ, List, ◌++◌, codes, subst, ap, ◌∙◌}
use Rattle.std.specs.Fmt.{styled_decimal, HasWritten}
use Rattle.calendar.specs.Text.{zero_padded}
use Rattle.calendar.proofs.Text.{zeros_before}
use Rattle.calendar.proofs.date.DateDisplay.fmt.Goals as goal

pub returns-clause-writes : goal.returns-clause-writes
returns-clause-writes g c plain ok =
    let date = c.args.self.now in
    let year : styled_decimal c.laid_out.result date.year ≡ zero_padded 4 date.year = ap (λ s. styled_decimal s date.year) c.laid_out.ensures ∙ zeros_before 4 date.year in
    let month : styled_decimal c.laid_out-2.result date.month ≡ zero_padded 2 date.month = ap (λ s. styled_decimal s date.month) c.laid_out-2.ensures ∙ zeros_before 2 date.month in
    let day : styled_decimal c.laid_out-3.result date.day ≡ zero_padded 2 date.day = ap (λ s. styled_decimal s date.day) c.laid_out-3.ensures ∙ zeros_before 2 date.day in
    let written = λ (bytes : List ℕ). HasWritten g.W.Write.write_str_gives c.args.f.now bytes c.write.new.self in
    subst written (λ t. year t ++ (codes "-" ++ (month t ++ (codes "-" ++ day t)))) (c.write.ensures.writes plain ok)
