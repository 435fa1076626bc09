use Rattle.std.proofs.Common.{◌≡◌, length}
use Rattle.std.specs.Arc.{arc_value}
use Rattle.join_tables.specs.inside.Sharing.{AreParcelsOf}
use Rattle.join_tables.proofs.shares.parcels.Given as goal

abbrev pub invariant-loop : goal.invariant-loop
invariant-loop g l = AreParcelsOf (arc_value l.value) l.parcels × (length l.parcels ≡ l.counter)
