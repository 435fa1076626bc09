use Rattle.std.proofs.Common.{◌≡◌, ◌≤◌, length}
use Rattle.std.specs.Vec.{vec_capacity}
use Rattle.std.specs.Arc.{arc_value}
use Rattle.join_tables.specs.inside.Sharing.{AreOwnersOf}
use Rattle.join_tables.proofs.shares.owners.Given as goal

abbrev pub invariant-loop : goal.invariant-loop
invariant-loop g l = AreOwnersOf (arc_value l.value) l.owners.items × (length l.owners.items ≡ l.counter) × (l.count ≤ vec_capacity l.owners)
