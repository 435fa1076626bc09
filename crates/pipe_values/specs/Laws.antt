-- The law of what pipelines come to.
use Rattle.std.specs.Prelude.{◌≡◌, ◌≤◌, length}
use Rattle.run_frame.specs.declared.run.FrameRun.{FrameRun}
use Rattle.run_frame.specs.Legal.{IsKept}
use Rattle.run_frame.specs.NestedRule.{job_of}
use Rattle.text_tasks.specs.declared.item.Item.{Item}
use Rattle.text_tasks.specs.declared.job.TextJob.{TextJob}
use Rattle.text_tasks.specs.declared.job.TextJob.TheVariants.{Pipe}
use Rattle.text_tasks.specs.JobMeaning.{text_job}
use Rattle.text_tasks.specs.PipeWork.{IsPipeWork, PipeWork}
use Rattle.run_laws.specs.PlainJobs.{LeadsTo}
use Rattle.pipe_values.specs.PipeValue.{pipe_value}

-- Each kept run of a pipeline comes to that value. No more tokens pass than there are parts: the limit of starts is by
-- the number of parts.
abbrev pub ComesToPipeValue : FrameRun TextJob Item → Type 0
ComesToPipeValue run =
    (work : PipeWork) → job_of run ≡ Pipe work → IsPipeWork work → length work.order.passed ≤ length work.parts → IsKept text_job run → LeadsTo text_job run (pipe_value work)
