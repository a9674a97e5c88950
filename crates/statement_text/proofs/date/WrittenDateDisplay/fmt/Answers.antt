-- The last digits of a number are those of its rest.
use Rattle.std.proofs.Common.{◌≡◌, ℕ, ◌/◌, ◌%◌, List, refl, subst, ◌∙◌, arith}
use Rattle.std.specs.Fmt.{HasWritten}
use Rattle.calendar.specs.declared.date.Date.{Date}
use Rattle.calendar.specs.Text.{any_date_text, date_text}
use Rattle.calendar.proofs.Text.{dates_written}
use Rattle.statement_text.proofs.date.WrittenDateDisplay.fmt.Goals as goal

-- a date whose numbers are cut to their last digits
cut_text : (t : Date) → any_date_text (record { year = t.year % 10_000; month = t.month % 100; day = t.day % 100 }) ≡ date_text t
cut_text t =
    let a : t.year % 10_000 / 100 / 10 % 10 ≡ t.year / 100 / 10 % 10 = omega arith in
    let b : t.year % 10_000 / 100 % 10 ≡ t.year / 100 % 10 = omega arith in
    let c : t.year % 10_000 % 100 / 10 % 10 ≡ t.year % 100 / 10 % 10 = omega arith in
    let d : t.year % 10_000 % 100 % 10 ≡ t.year % 100 % 10 = omega arith in
    let e : t.month % 100 / 10 % 10 ≡ t.month / 10 % 10 = omega arith in
    let f : t.month % 100 % 10 ≡ t.month % 10 = omega arith in
    let g : t.day % 100 / 10 % 10 ≡ t.day / 10 % 10 = omega arith in
    let h : t.day % 100 % 10 ≡ t.day % 10 = omega arith in
    dates_written (record { year = t.year % 10_000; month = t.month % 100; day = t.day % 100 }) (omega arith) (omega arith) (omega arith)
    ∙ rw (a, b, c, d, e, f, g, h) refl

pub returns-clause-writes : goal.returns-clause-writes
returns-clause-writes g c plain ok =
    let written = λ (bytes : List ℕ). HasWritten g.W.Write.write_str_gives c.args.f.now bytes c.write.new.self in
    subst written (cut_text c.args.self.now.date) (c.write.ensures.writes plain ok)
