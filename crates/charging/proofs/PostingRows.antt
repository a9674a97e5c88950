-- The rows of postings: each has 30 numbers, and they stand one after another.
use Rattle.std.proofs.Common.{◌≡◌, ℕ, ◌+◌, ◌*◌, ◌≤◌, List, [], ◌∷◌, ◌++◌, length, take, drop, Some, None, Option, sym, refl, ap, ◌∙◌, arith, length-append, take-append-drop}
use Rattle.rules.specs.Checks.{Concern}
use Rattle.event_run.specs.Postings.{PlacedRefusal, Posting}
use Rattle.event_run.specs.Journals.{Taken}
use Rattle.charging.specs.declared.rows.Rows.{Rows}
use Rattle.charging.specs.Rows.{overlaid, receipt_row, concern_row, outcome_row, posting_row, posting_rows}
use Rattle.charging.specs.Answers.{posting_columns}
use Rattle.charging.specs.Posting.{Takes}
use Rattle.charging.proofs.Overlays.{overlaid-after}

concern-long : (c : Option Concern) → length (concern_row c) ≡ 2
concern-long None = refl
concern-long (Some c) = refl

pub outcome-long : (o : Option PlacedRefusal) → length (outcome_row o) ≡ 3
outcome-long None = refl
outcome-long (Some f) = omega (arith, concern-long f.refusal.concern)

posting-long : (p : Posting) → length (posting_row p) ≡ posting_columns
posting-long p = omega (arith, length-append (outcome_row p.outcome) (receipt_row p.receipt ++ (p.balance ∷ [])), outcome-long p.outcome)

overlaid-nothing : (i : ℕ) (xs : List ℕ) → overlaid i [] xs ≡ xs
overlaid-nothing i xs = let e : i + 0 ≡ i = omega arith in ap (λ n. take i xs ++ drop n xs) e ∙ take-append-drop i xs

-- what the rows come to that take postings and have room for them
pub record Rowed (x : Rows) (ps : List Posting) (y : Rows) : Type 0 where
  pub same : y.rows.ghost_name ≡ x.rows.ghost_name
  pub long : length y.rows.now ≡ length x.rows.now
  pub holds : y.rows.now ≡ overlaid x.used (posting_rows ps) x.rows.now

pub rows_taken : (x : Rows) (ps : List Posting) (y : Rows) → x.used + posting_columns * length ps ≤ length x.rows.now → Taken Takes x ps y → Rowed x ps y
rows_taken x [] y room h = record {
  same = ap (λ (r : Rows). r.rows.ghost_name) h;
  long = ap (λ (r : Rows). length r.rows.now) h;
  holds = ap (λ (r : Rows). r.rows.now) h ∙ sym (overlaid-nothing x.used x.rows.now);
}
rows_taken x (p ∷ ps) y room h =
    let (z, one, rest) = h in
    let (used, put) = one.puts (omega arith) in
    let more : Rowed z ps y = rows_taken z ps y (omega (arith, one.long)) rest in
    let xs = x.rows.now in
    record {
      same = more.same ∙ one.same;
      long = more.long ∙ one.long;
      holds = more.holds
          ∙ ap (λ ys. overlaid z.used (posting_rows ps) ys) put
          ∙ overlaid-after x.used z.used (posting_row p) (posting_rows ps) xs (omega (arith, posting-long p)) (omega arith);
    }
