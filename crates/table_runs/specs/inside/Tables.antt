-- The table of a run.
use Rattle.std.specs.Prelude.{◌≡◌}
use Rattle.join_tables.specs.States.{TableState}
use Rattle.run_frame.specs.Meaning.{Meaning}

-- a table is that of a job
pub record RunsJob {J V : Type 0} (meaning : Meaning J V) (job : J) (table : TableState) : Type 0 where
  pub net : table.net ≡ meaning.net job
  pub limit : table.limit ≡ meaning.limit job
