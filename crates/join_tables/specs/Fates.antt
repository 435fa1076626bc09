-- What becomes of a release, as contracts see it.
use Rattle.std.specs.Prelude.{◌≡◌}
use Rattle.journal_rules.specs.declared.entry.Why.{Why}
use Rattle.journal_rules.specs.declared.entry.DropWhy.{DropWhy}
use Rattle.join_tables.specs.declared.fates.Fate.{Fate}
use Rattle.join_tables.specs.declared.fates.Fate.TheVariants.{Faulted, Dropped}
use Rattle.join_tables.specs.States.{TurnState, RunningState}

-- this start faulted, for this reason
abbrev pub FaultedAs : {V : Type 0} → RunningState V → Why → Fate V → Type 0
FaultedAs r why (Faulted f) = (f.task ≡ r.task) × (f.cause ≡ r.cause) × (f.start ≡ r.place) × (f.found.ins.value ≡ r.ins) × (f.why ≡ why)
FaultedAs r why _ = ⊥

-- this release was dropped, for this reason
abbrev pub DroppedAs : {V : Type 0} → TurnState → DropWhy → Fate V → Type 0
DroppedAs t why (Dropped d) = (d.task ≡ t.task) × (d.cause ≡ t.cause) × (d.why ≡ why)
DroppedAs t why _ = ⊥
