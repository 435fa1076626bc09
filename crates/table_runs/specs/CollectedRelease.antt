-- A release that has collected its tokens.
use Rattle.std.specs.Prelude.{◌≡◌, [], None}
use Rattle.atomic_table.specs.Seated.{TableId}
use Rattle.join_tables.specs.States.{FreshState}
use Rattle.table_runs.specs.Attempts.{IsAgain}
use Rattle.table_runs.specs.declared.table_run.TakenUp.{TakenUp}

-- It is of the table, and neither refused nor with a unit.
pub record TakesUp {V : Type 0} (n : TableId) (fresh : FreshState) (taken : TakenUp V) : Type 0 where
  pub table : taken.turn.table ≡ n
  pub task : taken.turn.task ≡ fresh.task
  pub cause : taken.turn.cause ≡ fresh.cause
  pub refused : taken.turn.refused ≡ None
  pub held : taken.turn.held ≡ []
  pub again : IsAgain n fresh.task fresh.cause taken.again
