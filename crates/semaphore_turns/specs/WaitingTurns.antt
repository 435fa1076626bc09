-- What waits in a yard of turns.
use Rattle.std.specs.Prelude.{◌≡◌, ℕ, [], None, length, IsTrue}
use Rattle.journal_rules.specs.SemaphoreRule.{takes}
use Rattle.join_tables.specs.States.{TableState, TurnState, FreshState, fresh_state}
use Rattle.semaphore_park.specs.Parking.{YardKey}

-- A turn waits for a unit of a semaphore that its task takes. It is of the table, wasn't refused and holds no unit.
pub record WaitsAt (turn : TurnState) (table : TableState) (sem : ℕ) : Type 0 where
  pub table_is : turn.table ≡ table.table
  pub refused : turn.refused ≡ None
  pub held : turn.held ≡ []
  pub takes : IsTrue (takes table.net sem turn.task)

-- the key of a yard for the turns of a table
abbrev pub yard_of : TableState → YardKey TableState
yard_of table = record { home = table; sems = length table.net.sems }

-- the release that a turn uses
abbrev pub release_of : TurnState → FreshState
release_of turn = fresh_state turn.table turn.task turn.cause
