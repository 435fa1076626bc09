-- What a run by one thread leads to.
use Rattle.std.specs.Prelude.{◌≡◌, ℕ, Option, Some}
use Rattle.nested_runs.specs.Totals.{all_spans}
use Rattle.run_frame.specs.Legal.{IsKept}
use Rattle.run_frame.specs.Meaning.{Meaning}
use Rattle.run_frame.specs.NestedRule.{job_of}
use Rattle.table_frames.specs.Frames.{root_job}
use Rattle.table_frames.specs.declared.level.Next.{Next}
use Rattle.table_frames.specs.declared.level.Next.TheVariants.{Level, Run}

-- The outermost run has this job. It goes on, or it is over and may be kept.
abbrev pub IsNext : {J V : Type 0} → Meaning J V → Option J → Next J V → Type 0
IsNext meaning root (Level level) = root_job level.frames ≡ root
IsNext meaning root (Run run) = IsKept meaning run × (root ≡ Some (job_of run))

-- the spans that the runs have then
abbrev pub spans_next : {J V : Type 0} → Next J V → ℕ
spans_next (Level level) = level.spans
spans_next (Run run) = all_spans run
