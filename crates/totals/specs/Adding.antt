-- What a posting makes of totals.
use Rattle.std.specs.Prelude.{◌≡◌, ◌^◌}
use Rattle.rules.specs.Receipt.{◌⊕◌}
use Rattle.receipt.specs.Columns.{receipt_of, AllBelow}
use Rattle.event_run.specs.Postings.{Posting}
use Rattle.totals.specs.declared.totals.Totals.{Totals}

-- Its receipt is added, exactly where both are below 2⁶³ in every column.
abbrev pub Adds : Totals → Posting → Totals → Type 0
Adds x p y =
    AllBelow (2 ^ 63) (receipt_of x.receipt) → AllBelow (2 ^ 63) p.receipt → receipt_of y.receipt ≡ receipt_of x.receipt ⊕ p.receipt
