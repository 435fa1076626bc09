-- The laws that text jobs keep.
use Rattle.std.specs.Prelude.{◌≡◌, ℕ, zero, suc, ◌*◌, ◌<◌, ◌==◌, Bool, true, false, cond, List, length, replicate, Option, Some, None, slice_get, IfSome, IsSomeAnd, nat_le, refl}
use Rattle.std.specs.Option.{option_map}
use Rattle.std.proofs.Common.{subst, sym, ◌∙◌, ap, arith}
use Rattle.std.proofs.lemmas.List.{length-map}
use Rattle.std.proofs.lemmas.Option.{same_Some, slice_get-map}
use Rattle.task_graph.specs.declared.net.Shape.{Shape}
use Rattle.task_graph.specs.declared.net.Shape.TheVariants.{Plain, Choice, Many, Nested}
use Rattle.task_graph.specs.declared.net.TaskRow.{TaskRow}
use Rattle.journal_rules.specs.declared.entry.Why.{Why}
use Rattle.journal_rules.specs.declared.entry.Why.TheVariants.{Long, Wide, Unmet, Inner, OverRelease}
use Rattle.join_words.specs.Ins.{InputValue}
use Rattle.run_frame.specs.declared.job.Answer.{Answer}
use Rattle.run_frame.specs.declared.job.Answer.TheVariants.{All as Each, None as NoneOf}
use Rattle.run_frame.specs.declared.job.Done.{Done}
use Rattle.run_frame.specs.declared.job.Done.TheVariants.{Value, Inner as InnerJob}
use Rattle.run_frame.specs.declared.run.FrameRun.{FrameRun}
use Rattle.run_frame.specs.Meaning.{AnswerFits, DoneFits, FitsShape, IsOwnWhy}
use Rattle.graph_plans.specs.declared.ops.Op.{Op}
use Rattle.graph_plans.specs.declared.ops.Op.TheVariants.{Input, Read, Text, Match, Back, IfMore, IfHas, Route, Spread, Module, Pipe as PipeOp}
use Rattle.graph_plans.specs.declared.pipes.LineOp.{LineOp}
use Rattle.graph_plans.specs.Operations.{shape_of}
use Rattle.graph_plans.specs.PlanRows.{IsGraph, IsPlan, PlanRows}
use Rattle.nested_runs.specs.Spreads.{part_limit, part_row}
use Rattle.pipe_lines.specs.declared.order.Passed.{Passed}
use Rattle.pipe_lines.specs.declared.order.Passed.TheVariants.{Token, Stop, Unmet as UnmetToken}
use Rattle.pipe_lines.specs.DeferRows.{token_limit}
use Rattle.pipe_lines.specs.PipeNet.{cell_row}
use Rattle.text_ops.specs.LineParts.{part_count}
use Rattle.text_ops.specs.TextMeaning.{has_word}
use Rattle.text_ops.specs.Values.{value_limit}
use Rattle.text_tasks.specs.declared.item.CellItem.{CellItem}
use Rattle.text_tasks.specs.declared.item.Item.{Item}
use Rattle.text_tasks.specs.declared.job.TextJob.{TextJob}
use Rattle.text_tasks.specs.declared.job.TextJob.TheVariants.{Graph, Parts, Pipe}
use Rattle.text_tasks.specs.GraphWork.{GraphWork, IsWork, graph_in, graph_of}
use Rattle.text_tasks.specs.PartsWork.{PartsWork}
use Rattle.text_tasks.specs.PipeWork.{PipeWork}
use Rattle.text_tasks.specs.CellMeaning.{cell_meaning, enters, goes_on, pipe_of}
use Rattle.text_tasks.specs.FoundTexts.{text_found}
use Rattle.text_tasks.specs.OpMeaning.{OpMeaning, hands_over, moves_on, never_passes, runs, too_wide, op_meaning, first_one, second_one, has_more, text_op_value}
use Rattle.text_tasks.specs.JobMeaning.{AnswersAs, FaultsAs, FaultsLong, FaultsUnmet, FaultsWide, JobAnswers, JobFaults, IsTextJob, net_of, task_meaning, text_job}

-- each graph of a plan keeps the rules of graphs
pub graph_in_plan : (plan : PlanRows) (g : Option ℕ) → IsPlan plan → IfSome g (λ m. m < length plan.modules) → IsGraph (length plan.texts) (length plan.modules) (graph_in plan g)
graph_in_plan plan None keeps there = keeps.graphs 0 plan.top (omega arith)
graph_in_plan plan (Some m) keeps there = keeps.graphs (suc m) plan.top (omega (arith, there))

-- so does the graph that is run
pub graph_of_work : (work : GraphWork) → IsWork work → IsGraph (length work.plan.texts) (length work.plan.modules) (graph_of work)
graph_of_work work keeps = graph_in_plan work.plan work.«module» keeps.plan keeps.in_plan

-- there is an operation for each task
pub op_count : (work : GraphWork) → IsWork work → length (graph_of work).ops ≡ length (graph_of work).net.tasks
op_count work keeps =
    sym (length-map (graph_of work).ops shape_of) ∙ ap length (sym (graph_of_work work keeps).shapes) ∙ length-map (graph_of work).net.tasks (λ (row : TaskRow). row.shape)

-- the shapes of tasks are those of their operations
shape_at : (work : GraphWork) (task : ℕ) (row : TaskRow) → IsWork work → slice_get (graph_of work).net.tasks task ≡ Some row → Some row.shape ≡ option_map shape_of (slice_get (graph_of work).ops task)
shape_at work task row keeps row_is =
    sym (ap (option_map (λ (r : TaskRow). r.shape)) row_is)
    ∙ sym (slice_get-map (λ (r : TaskRow). r.shape) (graph_of work).net.tasks task)
    ∙ ap (λ shapes. slice_get shapes task) (graph_of_work work keeps).shapes
    ∙ slice_get-map shape_of (graph_of work).ops task

op_shape : (work : GraphWork) (task : ℕ) (row : TaskRow) (op : Op) → IsWork work → slice_get (graph_of work).net.tasks task ≡ Some row → slice_get (graph_of work).ops task ≡ Some op → row.shape ≡ shape_of op
op_shape work task row op keeps row_is op_is =
    let both : Some row.shape ≡ Some (shape_of op) = shape_at work task row keeps row_is ∙ ap (option_map shape_of) op_is in
    cc

-- a value fits where its answer does
value_fits : (shape : Shape) (text : List ℕ) (chosen : Answer) (done : Done TextJob Item) → FitsShape shape chosen → AnswersAs (hands_over text chosen) done → DoneFits shape done
value_fits shape text chosen (Value item answer) fits answers = subst (FitsShape shape) (sym answers.1) fits
value_fits shape text chosen (InnerJob job) fits answers = absurd answers

-- so does a cell's
cell_fits : (shape : Shape) (cell : CellItem) (chosen : Answer) (done : Done TextJob Item) → FitsShape shape chosen → AnswersAs (moves_on cell chosen) done → DoneFits shape done
cell_fits shape cell chosen (Value item answer) fits answers = subst (FitsShape shape) (sym answers.1) fits
cell_fits shape cell chosen (InnerJob job) fits answers = absurd answers

-- a job fits a task that may have one
job_fits : (inner : TextJob) (done : Done TextJob Item) → AnswersAs (runs inner) done → DoneFits Nested done
job_fits inner (Value item answer) answers = absurd answers
job_fits inner (InnerJob job) answers = refl

spread_fits : (few : Bool) (inner : TextJob) (parts : ℕ) (done : Done TextJob Item) → AnswersAs (cond few (runs inner) (too_wide parts)) done → DoneFits Nested done
spread_fits true inner parts done answers = job_fits inner done answers
spread_fits false inner parts done answers = absurd answers

module_fits : (short : Bool) (inner : TextJob) (text : List ℕ) (done : Done TextJob Item) → AnswersAs (cond short (runs inner) (hands_over text Each)) done → DoneFits Nested done
module_fits true inner text done answers = job_fits inner done answers
module_fits false inner text done answers = value_fits Nested text Each done tt answers

one_fits : (b : Bool) → FitsShape Choice (cond b first_one second_one)
one_fits true = refl
one_fits false = refl

-- what an operation answers fits its shape
op_fits : (work : GraphWork) (found : List (InputValue Item)) (op : Op) (done : Done TextJob Item) → AnswersAs (op_meaning work found op) done → DoneFits (shape_of op) done
op_fits work found Input done answers = value_fits Plain _ _ done tt answers
op_fits work found (Read number) done answers = value_fits Plain _ _ done tt answers
op_fits work found (Text op) done answers = value_fits Plain _ _ done tt answers
op_fits work found Match done answers = value_fits Plain _ _ done tt answers
op_fits work found Back done answers = value_fits Choice _ _ done refl answers
op_fits work found (IfMore n) done answers = value_fits Choice _ _ done (one_fits (has_more n (text_found found))) answers
op_fits work found (IfHas word) done answers = value_fits Choice _ _ done (one_fits (has_word word (text_found found))) answers
op_fits work found (Route words) done answers = value_fits Many _ _ done tt answers
op_fits work found (Spread n each) done answers = spread_fits (nat_le (part_count n (text_found found)) part_limit) _ _ done answers
op_fits work found (Module m) done answers = module_fits (nat_le (length (text_found found)) value_limit) _ _ done answers
op_fits work found (PipeOp plan) done answers = spread_fits (nat_le (part_count plan.chunk (text_found found)) token_limit) _ _ done answers

task_fits : (work : GraphWork) (task : ℕ) (found : List (InputValue Item)) (done : Done TextJob Item) → IsWork work → (row : Option TaskRow) (op : Option Op) → slice_get (graph_of work).net.tasks task ≡ row → slice_get (graph_of work).ops task ≡ op → IsSomeAnd (option_map (op_meaning work found) op) (λ meaning. AnswersAs meaning done) → IfSome row (λ (r : TaskRow). DoneFits r.shape done)
task_fits work task found done keeps None op row_is op_is answers = tt
task_fits work task found done keeps (Some row) None row_is op_is answers = absurd answers
task_fits work task found done keeps (Some row) (Some op) row_is op_is answers = subst (λ shape. DoneFits shape done) (sym (op_shape work task row op keeps row_is op_is)) (op_fits work found op done answers)

-- each of so many rows that are the same is that one
row_at : (each : TaskRow) (count task : ℕ) (row : TaskRow) → slice_get (replicate count each) task ≡ Some row → row ≡ each
row_at each zero task row is = absurd (cc)
row_at each (suc count) zero row is = sym (same_Some _ _ is)
row_at each (suc count) (suc task) row is = row_at each count task row is

part_fits : (work : PartsWork) (task : ℕ) (done : Done TextJob Item) (row : Option TaskRow) (part : Option (List ℕ)) → slice_get (replicate (length work.parts) part_row) task ≡ row → IsSomeAnd (option_map (λ p. hands_over (text_op_value work.op p) Each) part) (λ meaning. AnswersAs meaning done) → IfSome row (λ (r : TaskRow). DoneFits r.shape done)
part_fits work task done None part row_is answers = tt
part_fits work task done (Some row) None row_is answers = absurd answers
part_fits work task done (Some row) (Some part) row_is answers = subst (λ (r : TaskRow). DoneFits r.shape done) (sym (row_at part_row (length work.parts) task row row_is)) (value_fits Plain _ _ done tt answers)

-- what a cell answers fits a plain task
entering_fits : (work : PipeWork) (op : LineOp) (place : ℕ) (passed : Passed) (done : Done TextJob Item) → AnswersAs (enters work op place passed) done → DoneFits Plain done
entering_fits work op place (Token k) done answers = cell_fits Plain _ Each done tt answers
entering_fits work op place Stop done answers = cell_fits Plain _ NoneOf done tt answers
entering_fits work op place (UnmetToken k) done answers = absurd answers

at_pipe_fits : (work : PipeWork) (op : LineOp) (place token before : ℕ) (passed : Passed) (text : List ℕ) (is_first : Bool) (done : Done TextJob Item) → AnswersAs (cond is_first (enters work op place passed) (goes_on op token before text)) done → DoneFits Plain done
at_pipe_fits work op place token before passed text true done answers = entering_fits work op place passed done answers
at_pipe_fits work op place token before passed text false done answers = cell_fits Plain _ Each done tt answers

pipe_fits : (work : PipeWork) (task : ℕ) (found : List (InputValue Item)) (done : Done TextJob Item) (row : Option TaskRow) (op : Option LineOp) → slice_get (net_of (Pipe work)).tasks task ≡ row → IsSomeAnd (option_map (cell_meaning work task found) op) (λ meaning. AnswersAs meaning done) → IfSome row (λ (r : TaskRow). DoneFits r.shape done)
pipe_fits work task found done None op row_is answers = tt
pipe_fits work task found done (Some row) None row_is answers = absurd answers
pipe_fits work task found done (Some row) (Some op) row_is answers =
    subst (λ (r : TaskRow). DoneFits r.shape done) (sym (row_at cell_row (work.spec.lines * length work.spec.serial) task row row_is))
    (at_pipe_fits work op _ _ _ _ _ (pipe_of work task == 0) done answers)

-- an answer fits its task
pub text_answers_fit : (job : TextJob) (task : ℕ) (found : List (InputValue Item)) (done : Done TextJob Item) → IsTextJob job → JobAnswers job task found done → AnswerFits (net_of job) task done
text_answers_fit (Graph work) task found done keeps answers = task_fits work task found done keeps _ _ refl refl answers
text_answers_fit (Parts work) task found done keeps answers = part_fits work task done _ _ refl answers
text_answers_fit (Pipe work) task found done keeps answers = pipe_fits work task found done _ _ refl answers

long_why : (text : List ℕ) (why : Why) → FaultsLong text why → IsOwnWhy why
long_why text (Long n) faults = tt
long_why text (Wide n) faults = tt
long_why text (Unmet k) faults = tt
long_why text Inner faults = faults
long_why text (OverRelease s) faults = faults

wide_why : (parts : ℕ) (why : Why) → FaultsWide parts why → IsOwnWhy why
wide_why parts (Long n) faults = tt
wide_why parts (Wide n) faults = tt
wide_why parts (Unmet k) faults = tt
wide_why parts Inner faults = faults
wide_why parts (OverRelease s) faults = faults

unmet_why : (token : ℕ) (why : Why) → FaultsUnmet token why → IsOwnWhy why
unmet_why token (Long n) faults = tt
unmet_why token (Wide n) faults = tt
unmet_why token (Unmet k) faults = tt
unmet_why token Inner faults = faults
unmet_why token (OverRelease s) faults = faults

meaning_why : (meaning : OpMeaning) (why : Why) → FaultsAs meaning why → IsOwnWhy why
meaning_why (hands_over text chosen) why faults = long_why text why faults
meaning_why (moves_on cell chosen) why faults = long_why cell.text why faults
meaning_why (runs inner) why faults = absurd faults
meaning_why (too_wide parts) why faults = wide_why parts why faults
meaning_why (never_passes token) why faults = unmet_why token why faults

task_why : (meaning : Option OpMeaning) (why : Why) → IsSomeAnd meaning (λ m. FaultsAs m why) → IsOwnWhy why
task_why None why faults = absurd faults
task_why (Some meaning) why faults = meaning_why meaning why faults

-- and a fault is the work's own
pub text_faults_own : (job : TextJob) (task : ℕ) (found : List (InputValue Item)) (why : Why) → IsTextJob job → JobFaults job task found why → IsOwnWhy why
text_faults_own job task found why keeps faults = task_why (task_meaning job task found) why faults

-- so is one of gathering a run
pub text_gather_faults_own : (job : TextJob) (run : FrameRun TextJob Item) (why : Why) → IsTextJob job → text_job.gather_faults job run why → IsOwnWhy why
text_gather_faults_own job run why keeps faults = long_why _ why faults
