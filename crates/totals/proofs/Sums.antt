-- Totals of a run are exact: no column of a receipt passes what 32 bits hold, and there are few enough receipts.
use Rattle.std.proofs.Common.{◌≡◌, ℕ, ◌+◌, ◌-◌, ◌*◌, ◌^◌, ◌<◌, ◌≤◌, Bool, true, false, cond, leb, List, [], ◌∷◌, length, Some, None, Option, sym, refl, ap, ◌∙◌, subst, arith}
use Rattle.std.proofs.lemmas.Bool.{and_parts, leb-true, eqb-true}
use Rattle.quantities.specs.declared.unit.UnitKind.TheVariants.{Minutes, Megabytes, Messages}
use Rattle.rules.specs.Receipt.{Receipt, nothing, ◌⊕◌}
use Rattle.rules.specs.State.{World, Account}
use Rattle.rules.specs.Runs.{opening_refusal}
use Rattle.rules.specs.Bounds.{most_column, ColumnsWithin, HundredYears}
use Rattle.rules.proofs.Receipts.{⊕_assoc, nothing-⊕, ⊕-nothing}
use Rattle.rules.proofs.Columns.{columns_nothing}
use Rattle.receipt.specs.Columns.{receipt_of, AllBelow}
use Rattle.event_file.specs.Layout.{most_bytes, first_offset, count, opening_plan, opening_moment, spare_right, file_right}
use Rattle.event_file.specs.Parts.{parts}
use Rattle.event_file.proofs.Parts.{length-parts_from}
use Rattle.event_run.specs.Postings.{Posting, placed_outcome, postings_from, no_place, wrong_file, refused_file, opened_by, file_postings}
use Rattle.event_run.specs.Journals.{Taken}
use Rattle.event_run.specs.FileLaw.{total}
use Rattle.event_run.proofs.Listed.{length-postings}
use Rattle.event_run.proofs.FileBounds.{AllWithin, file_within}
use Rattle.totals.specs.declared.totals.Totals.{Totals}
use Rattle.totals.specs.Adding.{Adds}

-- ## How many there are

length_from : (o : Option Account) (w : World) (file : List ℕ) → length (postings_from o w file) ≤ length (parts file)
length_from None w file = omega arith
length_from (Some a) w file = omega (arith, length-postings w a (parts file))

-- a file has at most as many postings as records
pub postings-few : (w : World) (file : List ℕ) → length (file_postings w file) ≤ count file
postings-few w file = omega (arith, length_from (opened_by w file) w file, length-parts_from file (first_offset file) 0 (count file))

-- a file that isn't refused is a right one
pub right_file : (w : World) (file : List ℕ) → None ≡ refused_file w file → file_right file ≡ true
right_file w file h = go (file_right file) h
  where
    go : (b : Bool) → None ≡ cond b (placed_outcome (opening_refusal w (opening_plan file) (opening_moment file)) no_place) (Some wrong_file) → b ≡ true
    go true e = refl
    go false e = let z : ◌≡◌ {A = ℕ} 0 1 = cc in absurd (omega arith)

-- as many receipts as can be added
abbrev pub most_receipts : ℕ
most_receipts = 2 ^ 28

columns_below : (n : ℕ) (r : Receipt) → n < 2 ^ 63 → ColumnsWithin n r → AllBelow (2 ^ 63) r
columns_below n r l h =
    let a = h.units Minutes in
    let b = h.units Megabytes in
    let c = h.units Messages in
    let f = h.fees in
    let u = h.use_charges in
    let s = h.switch_charges in
    record { fees = omega arith; use_charges = omega arith; switch_charges = omega arith; minutes = omega arith; megabytes = omega arith; messages = omega arith }

columns_more : (m n : ℕ) (r s : Receipt) → ColumnsWithin m r → ColumnsWithin n s → ColumnsWithin (m + n) (r ⊕ s)
columns_more m n r s h k = record {
  fees = let a = h.fees in let b = k.fees in omega arith;
  use_charges = let a = h.use_charges in let b = k.use_charges in omega arith;
  switch_charges = let a = h.switch_charges in let b = k.switch_charges in omega arith;
  units = elim [
    | Minutes ↦ (let a = h.units Minutes in let b = k.units Minutes in omega arith)
    | Megabytes ↦ (let a = h.units Megabytes in let b = k.units Megabytes in omega arith)
    | Messages ↦ (let a = h.units Messages in let b = k.units Messages in omega arith)
  ];
}

-- the total so far is within n receipts, and with those to come there are few enough
pub total_taken : (x : Totals) (ps : List Posting) (y : Totals) (n : ℕ) → ColumnsWithin (n * most_column) (receipt_of x.receipt) → n + length ps ≤ most_receipts →
    AllWithin ps → Taken Adds x ps y → receipt_of y.receipt ≡ receipt_of x.receipt ⊕ total ps
total_taken x [] y n h few within taken = ap (λ (t : Totals). receipt_of t.receipt) taken ∙ sym (⊕-nothing (receipt_of x.receipt))
total_taken x (p ∷ ps) y n h few within taken =
    let (z, one, rest) = taken in
    let (first, others) = within in
    let added : receipt_of z.receipt ≡ receipt_of x.receipt ⊕ p.receipt =
    one (columns_below (n * most_column) (receipt_of x.receipt) (omega arith) h) (columns_below most_column p.receipt (omega arith) first) in
    let more : ColumnsWithin ((n + 1) * most_column) (receipt_of z.receipt) =
    subst (ColumnsWithin ((n + 1) * most_column)) (sym added) (subst (λ k. ColumnsWithin k (receipt_of x.receipt ⊕ p.receipt)) (omega arith) (columns_more (n * most_column) most_column (receipt_of x.receipt) p.receipt h first)) in
    total_taken z ps y (n + 1) more (omega arith) others rest
    ∙ ap (λ r. r ⊕ total ps) added
    ∙ ⊕_assoc (receipt_of x.receipt) p.receipt (total ps)

-- ## From nothing

none_within : ColumnsWithin (0 * most_column) nothing
none_within = columns_nothing (0 * most_column)

pub few_in_file : (w : World) (file : List ℕ) → None ≡ refused_file w file → length (parts file) ≤ most_receipts
few_in_file w file h =
    let right = right_file w file h in
    let (long, rest) = and_parts (leb 16 (length file)) _ right in
    let (short, others) = and_parts (leb (length file) most_bytes) _ rest in
    let (spare, filled) = and_parts (spare_right file) _ others in
    omega (arith, leb-true (length file) most_bytes short, eqb-true (first_offset file + 16 * count file) (length file - 16) filled, length-parts_from file (first_offset file) 0 (count file))

-- the totals of a file's records
pub total_of_file : (w : World) (file : List ℕ) (x y : Totals) → HundredYears w.calendar → receipt_of x.receipt ≡ nothing → None ≡ refused_file w file →
    Taken Adds x (file_postings w file) y → receipt_of y.receipt ≡ total (file_postings w file)
total_of_file w file x y years none right taken =
    let posted = file_postings w file in
    let start : ColumnsWithin (0 * most_column) (receipt_of x.receipt) = subst (ColumnsWithin (0 * most_column)) (sym none) none_within in
    let few = few_in_file w file right in
    total_taken x posted y 0 start (omega (arith, length_from (opened_by w file) w file)) (file_within w years file) taken
    ∙ ap (λ r. r ⊕ total posted) none
    ∙ nothing-⊕ (total posted)
