-- Which job is run after some rounds.
use Rattle.std.specs.Prelude.{◌≡◌, List, Option, Some, None, IfSome}
use Rattle.run_frame.specs.declared.run.FrameRun.{FrameRun}
use Rattle.run_frame.specs.Meaning.{Meaning}
use Rattle.run_frame.specs.NestedRule.{job_of, journal_of}
use Rattle.run_frame.specs.Runs.{IsFine}
use Rattle.nested_runs.specs.Rounds.{last_run}

-- the first job before any run, or one that follows the last
abbrev pub FollowsLast : {J V : Type 0} → Meaning J V → J → Option (FrameRun J V) → J → Type 0
FollowsLast meaning first None job = job ≡ first
FollowsLast meaning first (Some run) job = meaning.follows (job_of run) run job

-- nothing was cut short in the last of these runs
abbrev pub IsLastFine : {J V : Type 0} → List (FrameRun J V) → Type 0
IsLastFine runs = IfSome (last_run runs) (λ run. IsFine (journal_of run))
