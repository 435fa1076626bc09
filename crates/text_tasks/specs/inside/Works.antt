-- What jobs are to their callers, from their fields.
use Rattle.std.specs.Prelude.{◌≡◌, length}
use Rattle.std.specs.Arc.{arc_value}
use Rattle.graph_plans.specs.PlanRows.{plan_rows}
use Rattle.nested_runs.specs.Spreads.{IsSpreadNet}
use Rattle.pipe_lines.specs.PipeNet.{along_pipes, pipe_net}
use Rattle.text_tasks.specs.declared.graph_job.GraphJob.TheInside as graph
use Rattle.text_tasks.specs.declared.parts_job.PartsJob.TheInside as parts
use Rattle.text_tasks.specs.declared.pipe_job.PipeJob.TheInside as pipe
use Rattle.text_tasks.specs.GraphWork.{GraphWork}
use Rattle.text_tasks.specs.PartsWork.{PartsWork}
use Rattle.text_tasks.specs.PipeWork.{IsPipeWork, PipeWork}

-- of a graph
abbrev pub graph_work_of : graph.Inside → GraphWork
graph_work_of job = record {
  plan = plan_rows (arc_value job.plan);
  texts = arc_value job.texts;
  «module» = job.«module»;
  input = job.input;
  limit = job.limit;
}

-- of parts
abbrev pub parts_work_of : parts.Inside → PartsWork
parts_work_of job = record { parts = job.parts; op = job.op }

-- the net is that of so many parts
abbrev pub HasPartsNet : parts.Inside → Type 0
HasPartsNet job = IsSpreadNet (length job.parts) (arc_value job.net)

-- of a pipeline
abbrev pub pipe_work_of : pipe.Inside → PipeWork
pipe_work_of job = record { spec = job.spec; ops = job.ops; parts = job.parts; order = job.order }

-- the net is that of the lines and pipes, and the tags are those of its edges
pub record IsPipeInside (job : pipe.Inside) : Type 0 where
  pub work : IsPipeWork (pipe_work_of job)
  pub net : arc_value job.net ≡ pipe_net job.spec.lines job.spec.serial
  pub along : job.along_pipe ≡ along_pipes job.spec.lines job.spec.serial
