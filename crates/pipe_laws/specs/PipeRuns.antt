-- Legal runs of pipelines.
use Rattle.std.specs.Prelude.{◌≡◌, ◌≤◌, true, Some, slice_get}
use Rattle.run_frame.specs.declared.run.FrameRun.{FrameRun}
use Rattle.run_frame.specs.Meaning.{Meaning}
use Rattle.run_frame.specs.NestedRule.{job_of}
use Rattle.run_frame.specs.Legal.{Legal}
use Rattle.run_laws.specs.OneThreadValue.{OneAnswer}
use Rattle.run_laws.specs.OneAnswer.{AllowsOne}
use Rattle.text_tasks.specs.Cells.{Pipeline, pipeline_net}
use Rattle.pipe_laws.specs.Cells.{AreCells}

-- A legal run of the net of a pipeline with a line and a serial first pipe, whose job's meaning allows this one answer,
-- that of cells.
pub record IsPipeRun {J V : Type 0} (meaning : Meaning J V) (run : FrameRun J V) (pipeline : Pipeline V) (one : OneAnswer V) : Type 0 where
  pub some_lines : 1 ≤ pipeline.lines
  pub first_serial : slice_get pipeline.serials 0 ≡ Some true
  pub net : meaning.net (job_of run) ≡ pipeline_net pipeline
  pub cells : AreCells pipeline one
  pub one_answer : AllowsOne meaning (job_of run) one
  pub legal : Legal meaning run
