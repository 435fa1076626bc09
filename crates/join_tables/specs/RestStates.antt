-- The state of a rest.
use Rattle.std.specs.Prelude.{ℕ, Bool, List, Option}
use Rattle.atomic_table.specs.Seated.{TableId}
use Rattle.journal_rules.specs.declared.entry.Cause.{Cause}
use Rattle.join_tables.specs.declared.rests.Parked.{Parked}
use Rattle.join_tables.specs.declared.fates.Dropping.{Dropping}

-- A rest: its table where it has a turn, how many turns it has room for, its turns in the order in which it took them
-- in, and the Drops that it drew. Where it is known to be alone: whether the journal has a Fault, and which semaphores
-- have no unit. Then the numbers that the steps of its seat found, the newest first. Its seat is that of the first turn
-- that it took in, while it has a turn.
pub record RestState : Type 0 where
  pub table : Option TableId
  pub room : ℕ
  pub turns : List Parked
  pub dropped : List Dropping
  pub alone : Option Bool
  pub full : List ℕ
  pub found : List ℕ

abbrev pub rest_with : Option TableId → ℕ → List Parked → List Dropping → Option Bool → List ℕ → List ℕ → RestState
rest_with table room turns dropped alone full found = record { table = table; room = room; turns = turns; dropped = dropped; alone = alone; full = full; found = found }

abbrev pub parked_as : ℕ → Cause → Parked
parked_as task cause = record { task = task; cause = cause }
