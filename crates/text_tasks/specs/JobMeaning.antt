-- What the tasks of graph files answer, and what their runs are gathered to.
use Rattle.std.specs.Prelude.{◌≡◌, ℕ, max, ◌+◌, ◌*◌, ◌<◌, ◌≤◌, List, [], length, slice_get, Option, Some, None, IsSomeAnd}
use Rattle.std.specs.Option.{option_map, option_map_or, option_and_then}
use Rattle.task_graph.specs.NetRows.{NetRows}
use Rattle.journal_rules.specs.declared.entry.Why.{Why}
use Rattle.journal_rules.specs.declared.entry.Why.TheVariants.{Long, Wide, Unmet, Inner, OverRelease}
use Rattle.join_words.specs.Ins.{InputValue}
use Rattle.run_frame.specs.declared.job.Answer.TheVariants.{All as Each}
use Rattle.run_frame.specs.declared.job.Done.{Done}
use Rattle.run_frame.specs.declared.job.Done.TheVariants.{Value, Inner as InnerJob}
use Rattle.run_frame.specs.declared.run.FrameRun.{FrameRun}
use Rattle.run_frame.specs.Meaning.{Meaning}
use Rattle.run_frame.specs.Runs.{values_of}
use Rattle.run_frame.specs.NestedRule.{job_of, journal_of}
use Rattle.run_frame.specs.LastEnds.{last_value}
use Rattle.graph_plans.specs.PlanRows.{PlanRows}
use Rattle.nested_runs.specs.Spreads.{spread_net}
use Rattle.pipe_lines.specs.PipeNet.{pipe_net}
use Rattle.text_ops.specs.Values.{value_limit}
use Rattle.text_tasks.specs.declared.item.Item.{Item}
use Rattle.text_tasks.specs.declared.item.Item.TheVariants.{Text, Cell}
use Rattle.text_tasks.specs.declared.job.TextJob.{TextJob}
use Rattle.text_tasks.specs.declared.job.TextJob.TheVariants.{Graph, Parts, Pipe}
use Rattle.text_tasks.specs.GraphWork.{IsWork, graph_of}
use Rattle.text_tasks.specs.PartsWork.{IsPartsWork}
use Rattle.text_tasks.specs.PipeWork.{IsPipeWork}
use Rattle.text_tasks.specs.PipeEnds.{pipe_text}
use Rattle.text_tasks.specs.CellMeaning.{cell_meaning, pipe_of}
use Rattle.text_tasks.specs.Items.{item_text}
use Rattle.text_tasks.specs.OpMeaning.{OpMeaning, hands_over, moves_on, never_passes, op_meaning, runs, text_op_value, too_wide}
use Rattle.text_tasks.specs.Sinks.{last_sink, sink_texts, task_values}

-- ---- what tasks do

-- What the task of a number does on what it finds. The task of a graph does the work of its operation; that of a part
-- puts the part through the operation of all parts; a cell of a pipeline does what is done at its pipe.
abbrev pub task_meaning : TextJob → ℕ → List (InputValue Item) → Option OpMeaning
task_meaning (Graph work) task found = option_map (op_meaning work found) (slice_get (graph_of work).ops task)
task_meaning (Parts work) task found = option_map (λ part. hands_over (text_op_value work.op part) Each) (slice_get work.parts task)
task_meaning (Pipe work) task found = option_map (cell_meaning work task found) (slice_get work.ops (pipe_of work task))

-- A value that is handed on is answered as it is, where it isn't too long. A job that is run is answered.
abbrev pub AnswersAs : OpMeaning → Done TextJob Item → Type 0
AnswersAs (hands_over text chosen) (Value item answer) = (item ≡ Text text) × (answer ≡ chosen) × (length text ≤ value_limit)
AnswersAs (hands_over text chosen) (InnerJob job) = ⊥
AnswersAs (moves_on cell chosen) (Value item answer) = (item ≡ Cell cell) × (answer ≡ chosen) × (length cell.text ≤ value_limit)
AnswersAs (moves_on cell chosen) (InnerJob job) = ⊥
AnswersAs (runs inner) (Value item answer) = ⊥
AnswersAs (runs inner) (InnerJob job) = job ≡ inner
AnswersAs (too_wide parts) done = ⊥
AnswersAs (never_passes token) done = ⊥

-- A text that would be too long for a value is a fault that tells its length.
abbrev pub FaultsLong : List ℕ → Why → Type 0
FaultsLong text (Long n) = (n ≡ length text) × (value_limit < n)
FaultsLong text (Wide n) = ⊥
FaultsLong text (Unmet k) = ⊥
FaultsLong text Inner = ⊥
FaultsLong text (OverRelease s) = ⊥

-- Too many parts are a fault that tells their number.
abbrev pub FaultsWide : ℕ → Why → Type 0
FaultsWide parts (Long n) = ⊥
FaultsWide parts (Wide n) = n ≡ parts
FaultsWide parts (Unmet k) = ⊥
FaultsWide parts Inner = ⊥
FaultsWide parts (OverRelease s) = ⊥

-- A token that never passes is a fault that names it.
abbrev pub FaultsUnmet : ℕ → Why → Type 0
FaultsUnmet token (Long n) = ⊥
FaultsUnmet token (Wide n) = ⊥
FaultsUnmet token (Unmet k) = k ≡ token
FaultsUnmet token Inner = ⊥
FaultsUnmet token (OverRelease s) = ⊥

abbrev pub FaultsAs : OpMeaning → Why → Type 0
FaultsAs (hands_over text chosen) why = FaultsLong text why
FaultsAs (moves_on cell chosen) why = FaultsLong cell.text why
FaultsAs (runs inner) why = ⊥
FaultsAs (too_wide parts) why = FaultsWide parts why
FaultsAs (never_passes token) why = FaultsUnmet token why

-- A task answers and faults by what it does.
abbrev pub JobAnswers : TextJob → ℕ → List (InputValue Item) → Done TextJob Item → Type 0
JobAnswers job task found done = IsSomeAnd (task_meaning job task found) (λ meaning. AnswersAs meaning done)

abbrev pub JobFaults : TextJob → ℕ → List (InputValue Item) → Why → Type 0
JobFaults job task found why = IsSomeAnd (task_meaning job task found) (λ meaning. FaultsAs meaning why)

-- ---- jobs

-- that of a graph; a task for each part, without edges; the cells of lines and pipes
abbrev pub net_of : TextJob → NetRows
net_of (Graph work) = (graph_of work).net
net_of (Parts work) = spread_net (length work.parts)
net_of (Pipe work) = pipe_net work.spec.lines work.spec.serial

-- the names of the tasks, by their numbers; parts and cells have none
abbrev pub names_of : TextJob → List (List ℕ)
names_of (Graph work) = (graph_of work).names
names_of (Parts work) = []
names_of (Pipe work) = []

-- the plan, one of whose graphs is run; parts and cells have none
abbrev pub job_plan : TextJob → Option PlanRows
job_plan (Graph work) = Some work.plan
job_plan (Parts work) = None
job_plan (Pipe work) = None

-- each part has a start; so has each token at each pipe, and what is behind the last one
abbrev pub limit_of : TextJob → ℕ
limit_of (Graph work) = work.limit
limit_of (Parts work) = max (length work.parts) 1
limit_of (Pipe work) = length work.parts * length work.spec.serial + 1

-- ---- what runs come to

-- The text to which the run of a graph or of parts is gathered, by what its tasks ended with: of those that lead to no
-- other, in their order.
abbrev pub gathered_text : TextJob → List (Option Item) → List ℕ
gathered_text job values = sink_texts (net_of job) 0 values

-- the text to which a run is gathered; that of a pipeline is what the last pipe ends with
abbrev pub text_gathered : TextJob → FrameRun TextJob Item → List ℕ
text_gathered (Graph work) run = gathered_text (Graph work) (task_values (net_of (Graph work)) run)
text_gathered (Parts work) run = gathered_text (Parts work) (task_values (net_of (Parts work)) run)
text_gathered (Pipe work) run = pipe_text work run

-- what a run hands to the next round: the value of the last End of the last task that leads to no other, or the empty
-- text
abbrev pub feedback_of : FrameRun TextJob Item → List ℕ
feedback_of run = option_map_or item_text (option_and_then (last_value (journal_of run) (values_of run)) (last_sink (net_of (job_of run)))) []

-- The next round is of the same graph, with that text as its input. Parts and pipelines have no next round.
abbrev pub JobFollows : TextJob → FrameRun TextJob Item → TextJob → Type 0
JobFollows (Graph work) run next = next ≡ Graph (record work { input = feedback_of run })
JobFollows (Parts work) run next = ⊥
JobFollows (Pipe work) run next = ⊥

-- graphs are run again, parts and pipelines aren't
abbrev pub IsGraphJob : TextJob → Type 0
IsGraphJob (Graph work) = Unit {0}
IsGraphJob (Parts work) = ⊥
IsGraphJob (Pipe work) = ⊥

-- What text jobs may answer, and what their runs may be gathered to.
abbrev pub text_job : Meaning TextJob Item
text_job = record {
  net = net_of;
  limit = limit_of;
  answers = JobAnswers;
  faults = JobFaults;
  gathers = λ job run item. (item ≡ Text (text_gathered job run)) × (length (text_gathered job run) ≤ value_limit);
  gather_faults = λ job run why. FaultsLong (text_gathered job run) why;
  follows = JobFollows;
}

-- what holds of each text job
abbrev pub IsTextJob : TextJob → Type 0
IsTextJob (Graph work) = IsWork work
IsTextJob (Parts work) = IsPartsWork work
IsTextJob (Pipe work) = IsPipeWork work
