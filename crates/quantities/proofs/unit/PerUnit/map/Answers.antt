-- Each thing is what the closure makes of the one at its unit.
use Rattle.std.proofs.Common.{refl}
use Rattle.quantities.proofs.unit.PerUnit.map.Goals as goal

pub returns-clause-minutes : goal.returns-clause-minutes
returns-clause-minutes g c = record { shown = _; shows = refl; says = record { met = c.f.ensures } }

pub returns-clause-megabytes : goal.returns-clause-megabytes
returns-clause-megabytes g c = record { shown = _; shows = refl; says = record { met = c.f-2.ensures } }

pub returns-clause-messages : goal.returns-clause-messages
returns-clause-messages g c = record { shown = _; shows = refl; says = record { met = c.f-3.ensures } }
