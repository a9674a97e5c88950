-- One thing for each unit, and what is done for each.
use Rattle.quantities.specs.declared.unit.UnitKind.{UnitKind}
use Rattle.quantities.specs.declared.unit.UnitKind.TheVariants.{Minutes, Megabytes, Messages}
use Rattle.quantities.specs.declared.unit.PerUnit.{PerUnit}

-- the thing for the unit k
abbrev pub of : {A : Type 0} → UnitKind → PerUnit A → A
of Minutes t = t.minutes
of Megabytes t = t.megabytes
of Messages t = t.messages

-- for each unit what f makes of its thing
abbrev pub each : {A B : Type 0} → (UnitKind → A → B) → PerUnit A → PerUnit B
each f t = record { minutes = f Minutes t.minutes; megabytes = f Megabytes t.megabytes; messages = f Messages t.messages }

-- the same thing for every unit
abbrev pub every : {A : Type 0} → A → PerUnit A
every x = record { minutes = x; megabytes = x; messages = x }

-- a thing for one unit, another for the others
abbrev pub only : {A : Type 0} → UnitKind → A → A → PerUnit A
only Minutes x y = record { minutes = x; megabytes = y; messages = y }
only Megabytes x y = record { minutes = y; megabytes = x; messages = y }
only Messages x y = record { minutes = y; megabytes = y; messages = x }

-- a change at one unit
abbrev pub at : {A : Type 0} → UnitKind → (A → A) → PerUnit A → PerUnit A
at Minutes f t = record { minutes = f t.minutes; megabytes = t.megabytes; messages = t.messages }
at Megabytes f t = record { minutes = t.minutes; megabytes = f t.megabytes; messages = t.messages }
at Messages f t = record { minutes = t.minutes; megabytes = t.megabytes; messages = f t.messages }
