-- How a run over a table begins.
use Rattle.std.specs.Prelude.{◌≡◌, [], length}
use Rattle.join_tables.specs.FirstCauses.{first_fresh}
use Rattle.join_tables.specs.Keeping.{TellsRun, entries_told}
use Rattle.run_frame.specs.Meaning.{Meaning}
use Rattle.table_runs.specs.RunKeys.{key_of}
use Rattle.table_runs.specs.Runs.{AreOf}
use Rattle.table_runs.specs.Spans.{spans_kept}
use Rattle.table_runs.specs.declared.table_run.Begun.{Begun}

-- A run of a job has begun: its first releases are of its table, and so is its keeper, which has taken in nothing.
-- Where there is no release, the run is finished.
pub record Begins {J V : Type 0} (meaning : Meaning J V) (job : J) (begun : Begun J V) : Type 0 where
  pub job_is : begun.run.job ≡ job
  pub first : begun.fresh.items ≡ first_fresh begun.run.table (meaning.net job) 0 (length (meaning.net job).tasks)
  pub fresh : AreOf begun.run.table begun.fresh.items
  pub kept : key_of begun.kept ≡ begun.run
  pub no_spans : spans_kept begun.kept ≡ 0
  pub nothing : begun.fresh.items ≡ [] → TellsRun (meaning.net begun.kept.job) (meaning.limit begun.kept.job) (entries_told begun.kept.keeper.fates)
