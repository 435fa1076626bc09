-- The report of a graph without conditions, worked out by a recursion over its net.
use Rattle.std.specs.Prelude.{◌≡◌, ◌↔◌, ℕ, zero, suc, ◌≤◌, true, false, List, [], length, All, Option, Some, None, IfSome, IsSomeAnd, slice_get, slice_index_or}
use Rattle.std.specs.List.{flat_map, range_with_len}
use Rattle.std.specs.Option.{option_and_then, option_map_or}
use Rattle.task_graph.specs.NetRows.{NetRows}
use Rattle.task_graph.specs.Net.{IsNet, chooses}
use Rattle.task_graph.specs.declared.net.EdgeRow.{EdgeRow}
use Rattle.task_graph.specs.declared.net.TaskRow.{TaskRow}
use Rattle.run_frame.specs.declared.run.FrameRun.{FrameRun}
use Rattle.run_frame.specs.Legal.{IsKept}
use Rattle.run_frame.specs.NestedRule.{job_of}
use Rattle.nested_runs.specs.Reasons.{run_reason}
use Rattle.nested_runs.specs.declared.reasons.Reason.TheVariants.{Fine}
use Rattle.run_laws.specs.OneThreadValue.{OneAnswer}
use Rattle.graph_plans.specs.Operations.{IsPipePlan}
use Rattle.graph_plans.specs.PlanRows.{GraphRows, PlanRows, depth_limit}
use Rattle.pipe_lines.specs.Pipelines.{IsPipeline}
use Rattle.graph_plans.specs.declared.ops.Op.{Op}
use Rattle.graph_plans.specs.declared.ops.Op.TheVariants.{Module, Spread, Pipe as PipeOp}
use Rattle.text_tasks.specs.declared.item.Item.{Item}
use Rattle.text_tasks.specs.declared.job.TextJob.{TextJob}
use Rattle.text_tasks.specs.declared.job.TextJob.TheVariants.{Graph, Parts, Pipe}
use Rattle.text_tasks.specs.GraphWork.{graph_of}
use Rattle.text_tasks.specs.Items.{item_text}
use Rattle.text_tasks.specs.JobMeaning.{JobFollows, gathered_text, net_of, names_of, limit_of, text_job}
use Rattle.text_tasks.specs.PartsWork.{IsPartsWork}
use Rattle.text_tasks.specs.PipeWork.{IsPipeWork}
use Rattle.text_tasks.specs.Sinks.{last_sink}
use Rattle.report_laws.specs.Output.{report_of, task_report}
use Rattle.run_laws.specs.PlainJobs.{PlainJobs, plain_answer, plain_value, runs_through}
use Rattle.run_laws.specs.TextAnswers.{IsPlanned, as_value, text_does}
use Rattle.pipe_values.specs.PipeValue.{pipe_value}

-- Nothing in a graph leaves open what its tasks hand on: none chooses among its successors, and each puts just the
-- semaphores that it takes.
pub record IsPlainGraph (graph : GraphRows) : Type 0 where
  pub no_condition : All (λ (row : TaskRow). chooses row.shape ≡ false) graph.net.tasks
  pub returns : All (λ (row : TaskRow). row.takes ≡ row.puts) graph.net.tasks

-- what holds of the graph of the module, among these, that the task of an operation runs
abbrev pub OfModule : (Option GraphRows → Type 0) → List GraphRows → Op → Type 0
OfModule Holds modules (Module m) = Holds (slice_get modules m)
OfModule Holds modules op = Unit {0}

-- So it is in the graph and in each module that it uses, directly or through others, to a depth.
abbrev pub UsesPlain : ℕ → PlanRows → GraphRows → Type 0
UsesPlain zero plan graph = IsPlainGraph graph
UsesPlain (suc d) plan graph = IsPlainGraph graph × All (OfModule (λ used. IfSome used (UsesPlain d plan)) plan.modules) graph.ops

-- a job without conditions, also in the modules that it uses
abbrev pub IsPlainJob : TextJob → Type 0
IsPlainJob (Graph work) = UsesPlain depth_limit work.plan (graph_of work)
IsPlainJob (Parts work) = ⊥
IsPlainJob (Pipe work) = ⊥

-- ---- jobs inside jobs

-- an operation whose pipes, if it has some, are a pipeline
abbrev pub HasSoundPipes : Op → Type 0
HasSoundPipes (PipeOp plan) = IsPipePlan plan × IsPipeline plan.spec
HasSoundPipes op = Unit {0}

-- a plain graph whose net is well formed and begins without tokens
pub record IsSoundGraph (graph : GraphRows) : Type 0 where
  pub is_net : IsNet graph.net
  pub no_first_tokens : All (λ (row : EdgeRow). row.start ≡ false) graph.net.edges
  pub pipes : All HasSoundPipes graph.ops
  pub plain : IsPlainGraph graph

-- an operation whose task opens no run inside its own
abbrev pub OpensNone : Op → Type 0
OpensNone (Spread n each) = ⊥
OpensNone (Module m) = ⊥
OpensNone (PipeOp plan) = ⊥
OpensNone op = Unit {0}

-- The graphs that a graph's tasks run are there and are such ones, and so are those inside these, to a depth.
abbrev pub NestsPlainly : ℕ → PlanRows → GraphRows → Type 0
NestsPlainly zero plan graph = All OpensNone graph.ops
NestsPlainly (suc d) plan graph = All (OfModule (λ used. IsSomeAnd used (λ g. IsSoundGraph g × NestsPlainly d plan g)) plan.modules) graph.ops

-- a plain job, with runs inside runs to a depth
abbrev pub IsPlainTo : ℕ → TextJob → Type 0
IsPlainTo d (Graph work) = IsSoundGraph (graph_of work) × NestsPlainly d work.plan (graph_of work)
IsPlainTo d (Parts work) = IsPartsWork work
IsPlainTo d (Pipe work) = IsPipeWork work × (length work.order.passed ≤ length work.parts)

-- A pipeline's net goes round. What it comes to is worked out token by token.
abbrev pub known_value : TextJob → Option (Option Item)
known_value (Graph work) = None
known_value (Parts work) = None
known_value (Pipe work) = Some (pipe_value work)

-- What text jobs come to.
abbrev pub text_plain : PlainJobs TextJob Item
text_plain = record {
  does = text_does;
  gathered = λ job values. as_value (gathered_text job values);
  alone = known_value;
  is_plain = IsPlainTo;
}

-- the most runs inside runs of a graph file: modules, and a spread or a pipeline in the last of them
abbrev pub greatest_depth : ℕ
greatest_depth = 9

-- the one answer of each task
abbrev pub text_answer : TextJob → OneAnswer Item
text_answer job = plain_answer text_job text_plain greatest_depth job

-- The report by one thread: of each task that leads to no other its last value below its name, or its name alone.
abbrev pub plain_report : TextJob → List ℕ
plain_report job =
    flat_map (λ t. task_report (net_of job) t (slice_index_or (names_of job) t []) (plain_value (net_of job) (text_answer job) t)) (range_with_len 0 (length (net_of job).tasks))

-- what is handed to the next round by one thread, and the job of that round
abbrev pub plain_feedback : TextJob → List ℕ
plain_feedback job = option_map_or item_text (option_and_then (plain_value (net_of job) (text_answer job)) (last_sink (net_of job))) []

abbrev pub plain_next : TextJob → TextJob
plain_next (Graph work) = Graph (record work { input = plain_feedback (Graph work) })
plain_next (Parts work) = Parts work
plain_next (Pipe work) = Pipe work

-- no task faults by one thread, and no more tasks start than the limit
abbrev pub RunsWell : TextJob → Type 0
RunsWell job = runs_through (net_of job) (limit_of job) (text_answer job) ≡ true

-- Each run that is kept of a job without conditions is fine exactly where the values by one thread run through, its
-- report is then that of one thread, and so is the job of the next round.
pub record HasSameReport (run : FrameRun TextJob Item) : Type 0 where
  pub fine : (run_reason text_job run ≡ Fine) ↔ RunsWell (job_of run)
  pub report : run_reason text_job run ≡ Fine → report_of run ≡ plain_report (job_of run)
  pub next : run_reason text_job run ≡ Fine → (job : TextJob) → JobFollows (job_of run) run job → job ≡ plain_next (job_of run)

abbrev pub ReportsPlainly : FrameRun TextJob Item → Type 0
ReportsPlainly run = IsPlainJob (job_of run) → IsPlanned (job_of run) → IsKept text_job run → HasSameReport run
