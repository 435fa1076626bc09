-- The pipelines of texts among the runs inside a run.
use Rattle.std.specs.Prelude.{◌≡◌, ℕ, ◌<◌, List, [], ◌∷◌, length, true, Option, Some, slice_get}
use Rattle.std.specs.Option.{option_and_then}
use Rattle.run_frame.specs.declared.run.FrameRun.{FrameRun}
use Rattle.run_frame.specs.Runs.{IsFine, values_of}
use Rattle.run_frame.specs.NestedRule.{job_of, journal_of}
use Rattle.run_frame.specs.Legal.{inner_at}
use Rattle.text_tasks.specs.declared.item.Item.{Item}
use Rattle.text_tasks.specs.declared.job.TextJob.{TextJob}
use Rattle.text_tasks.specs.declared.job.TextJob.TheVariants.{Graph, Parts, Pipe}
use Rattle.text_tasks.specs.PipeWork.{PipeWork, pipeline_of}
use Rattle.pipe_laws.specs.Turns.{IsInOrder, TakesTurns}
use Rattle.pipe_laws.specs.Laws.{StartsAll}

-- The run at a path: from a run into the one that an End or Fault at this place of its journal closed, and so on.
abbrev pub run_at : {J V : Type 0} → FrameRun J V → List ℕ → Option (FrameRun J V)
run_at run [] = Some run
run_at run (n ∷ path) = option_and_then (λ inner. run_at inner path) (inner_at run n)

-- Each serial pipe starts the tokens in the order in which they pass, and at each pipe the lines take turns with the
-- places of that order; where nothing was cut short all tokens pass all pipes.
pub record StartsInOrder (work : PipeWork) (run : FrameRun TextJob Item) : Type 0 where
  pub serial : (p : ℕ) → slice_get work.spec.serial p ≡ Some true → IsInOrder (pipeline_of work) (values_of run) p (journal_of run)
  pub turns : (l p : ℕ) → l < work.spec.lines → p < length work.spec.serial → TakesTurns (pipeline_of work) (values_of run) l p (journal_of run)
  pub all : IsFine (journal_of run) → StartsAll run (pipeline_of work)

-- So it is in a run of this job, if that is a pipeline.
abbrev pub KeepsOrder : TextJob → FrameRun TextJob Item → Type 0
KeepsOrder (Graph work) run = Unit {0}
KeepsOrder (Parts work) run = Unit {0}
KeepsOrder (Pipe work) run = StartsInOrder work run

-- So it is in each pipeline's run inside a run, directly or through others.
abbrev pub PipesInOrder : FrameRun TextJob Item → Type 0
PipesInOrder run = (path : List ℕ) (inner : FrameRun TextJob Item) → run_at run path ≡ Some inner → KeepsOrder (job_of inner) inner
