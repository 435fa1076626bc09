-- The definitions of jobs of pipelines, computed on a small one.
use Rattle.std.proofs.Common.{◌≡◌, ℕ, true, false, List, [], ◌∷◌, length, Some, None, refl, arith, codes, ap}
use Rattle.std.specs.Prelude.{nat_le, if◌then◌else◌}
use Rattle.std.specs.Int.{div_ceil}
use Rattle.std.specs.Fmt.{digits}
use Rattle.std.specs.Ptr.{Ptr}
use Rattle.task_graph.specs.Net.{strong_in}
use Rattle.journal_rules.specs.declared.entry.Cause.TheVariants.{Strong}
use Rattle.journal_rules.specs.declared.entry.Entry.{Entry}
use Rattle.journal_rules.specs.declared.entry.Entry.TheVariants.{Start, End}
use Rattle.journal_rules.specs.declared.entry.Why.TheVariants.{Long, Wide, Unmet as UnmetWhy, Inner, OverRelease}
use Rattle.join_words.specs.Ins.{InputValue, value, first, nothing}
use Rattle.run_frame.specs.declared.job.Answer.TheVariants.{All as Each, None as NoneOf}
use Rattle.run_frame.specs.declared.job.Done.TheVariants.{Value, Inner as InnerJob}
use Rattle.run_frame.specs.declared.run.ValueRow.{ValueRow}
use Rattle.run_frame.specs.declared.run.FrameRun.{FrameRun}
use Rattle.run_frame.specs.NestedRule.{journal_of}
use Rattle.run_frame.specs.Runs.{values_of}
use Rattle.graph_plans.specs.declared.ops.Op.TheVariants.{Match, Pipe as PipeOp}
use Rattle.graph_plans.specs.declared.ops.TextOp.TheVariants.{Pass, Without}
use Rattle.graph_plans.specs.declared.pipes.LineOp.TheVariants.{Text as LineText, Number, Stamp}
use Rattle.graph_plans.specs.declared.pipes.PipePlan.{PipePlan}
use Rattle.pipe_lines.specs.declared.order.Passed.TheVariants.{Token, Stop, Unmet}
use Rattle.pipe_lines.specs.declared.pipeline.PipeSpec.{PipeSpec}
use Rattle.pipe_lines.specs.PipeNet.{pipe_net}
use Rattle.text_ops.specs.Lines.{lines_of}
use Rattle.text_tasks.specs.declared.item.CellItem.{CellItem}
use Rattle.text_tasks.specs.declared.item.Item.{Item}
use Rattle.text_tasks.specs.declared.item.Item.TheVariants.{Text, Cell}
use Rattle.text_tasks.specs.declared.job.TextJob.{TextJob}
use Rattle.text_tasks.specs.declared.job.TextJob.TheVariants.{Pipe}
use Rattle.text_tasks.specs.Items.{item_place, item_text, item_token}
use Rattle.text_tasks.specs.Cells.{along_pipe, cell_task, edges_for, input_where, line_input, meets, next_place, pipe_input, pipeline_net, token_in}
use Rattle.text_tasks.specs.PipeWork.{IsPipeWork, PipeWork, order_of, pipe_work, pipeline_of}
use Rattle.text_tasks.specs.OpMeaning.{moves_on, never_passes, op_meaning, pipe_meaning, runs, too_wide}
use Rattle.text_tasks.specs.CellMeaning.{cell_meaning, enters, goes_on, line_op_value, pipe_of, place_in}
use Rattle.text_tasks.specs.PipeEnds.{ends_token, in_last_pipe, pipe_text, text_at_place, token_end_before}
use Rattle.text_tasks.specs.JobMeaning.{AnswersAs, FaultsAs, FaultsUnmet, IsGraphJob, IsTextJob, JobAnswers, JobFaults, JobFollows, job_plan, limit_of, names_of, net_of, task_meaning, text_gathered, text_job}
use Rattle.text_tasks.specs.inside.WorkedPlans.{worked_work}

-- ---- a pipeline of two lines and three pipes

abbrev spec : PipeSpec
spec = record { lines = 2; serial = true ∷ false ∷ true ∷ [] }

-- Of the parts of one line each, the second waits for the last of four.
abbrev plan : PipePlan
plan = record { spec = spec; ops = LineText (Without (codes "w")) ∷ Number ∷ Stamp ∷ []; chunk = 1; defers = record { token = 1; to = 3 ∷ [] } ∷ [] }

abbrev four : List ℕ
four = codes "a\nb\nc\nd\n"

abbrev work : PipeWork
work = record {
  spec = spec;
  ops = LineText (Without (codes "w")) ∷ Number ∷ Stamp ∷ [];
  parts = codes "a\n" ∷ codes "b\n" ∷ codes "c\n" ∷ codes "d\n" ∷ [];
  order = record { passed = 0 ∷ 2 ∷ 3 ∷ 1 ∷ []; unmet = None };
}

second_passes_last : order_of 4 plan.defers ≡ record { passed = 0 ∷ 2 ∷ 3 ∷ 1 ∷ []; unmet = None }
second_passes_last = refl

second_never_passes : order_of 3 plan.defers ≡ record { passed = 0 ∷ 2 ∷ []; unmet = Some 1 }
second_never_passes = refl

work_of_the_plan : pipe_work plan four ≡ work
work_of_the_plan = refl

is_work : IsPipeWork work
is_work = record {
  pipeline = record { some_lines = omega arith; first_serial = refl; few_lines = omega arith; few_pipes = omega arith };
  op_count = refl;
  part_count = omega arith;
  passed_count = omega arith;
}

work_without_an_operation : ¬ IsPipeWork (record work { ops = Number ∷ Stamp ∷ [] })
work_without_an_operation is = absurd (omega (arith, is.op_count))

work_without_a_line : ¬ IsPipeWork (record work { spec = record spec { lines = 0 } })
work_without_a_line is = absurd (omega (arith, is.pipeline.some_lines))

work_of_too_many_parts : (parts : List (List ℕ)) → length parts ≡ 65537 → ¬ IsPipeWork (record work { parts = parts })
work_of_too_many_parts parts many is = absurd (omega (arith, many, is.part_count))

-- ---- what values hold

abbrev item : ℕ → ℕ → List ℕ → CellItem
item token place text = record { text = text; token = token; place = place }

abbrev cell : ℕ → ℕ → List ℕ → InputValue Item
cell token place text = value (Cell (item token place text))

held_by_a_cell : (item_text (Cell (item 2 1 (codes "c\n"))) ≡ codes "c\n") × (item_token (Cell (item 2 1 (codes "c\n"))) ≡ 2) × (item_place (Cell (item 2 1 (codes "c\n"))) ≡ 1)
held_by_a_cell = (refl, refl, refl)

held_by_a_text : (item_token (Text (codes "c\n")) ≡ 0) × (item_place (Text (codes "c\n")) ≡ 0)
held_by_a_text = (refl, refl)

-- ---- what cells find

tasks_of_cells : (cell_task (pipeline_of work) 0 2 ≡ 2) × (cell_task (pipeline_of work) 1 0 ≡ 3)
tasks_of_cells = (refl, refl)

-- into the first cell lead the edge of its line, from the last pipe, and that of its pipe, from the last line
edges_into_the_first : (strong_in (pipeline_net (pipeline_of work)) 0 ≡ 3 ∷ 6 ∷ []) × (along_pipe (pipeline_of work) 3 ≡ false) × (along_pipe (pipeline_of work) 6 ≡ true)
edges_into_the_first = (refl, refl, refl)

edges_into_a_parallel_pipe : (strong_in (pipeline_net (pipeline_of work)) 4 ≡ 5 ∷ []) × (along_pipe (pipeline_of work) 5 ≡ false)
edges_into_a_parallel_pipe = (refl, refl)

no_edge_so_far : along_pipe (pipeline_of work) 10 ≡ false
no_edge_so_far = refl

inputs_of_the_first : (pipe_input (pipeline_of work) 0 (cell 0 0 [] ∷ cell 2 1 [] ∷ []) ≡ cell 2 1 []) × (line_input (pipeline_of work) 0 (cell 0 0 [] ∷ cell 2 1 [] ∷ []) ≡ cell 0 0 [])
inputs_of_the_first = (refl, refl)

no_input_along_a_pipe : pipe_input (pipeline_of work) 4 (cell 2 1 [] ∷ []) ≡ nothing
no_input_along_a_pipe = refl

inputs_that_are_missing : (input_where {V = Item} (λ e. true) (0 ∷ []) [] ≡ nothing) × (input_where {V = Item} (λ e. true) [] (first ∷ []) ≡ nothing)
inputs_that_are_missing = (refl, refl)

next_places : (next_place (pipeline_of work) (cell 2 1 []) ≡ 2) × (next_place (pipeline_of work) first ≡ 0) × (next_place (pipeline_of work) nothing ≡ 0)
next_places = (refl, refl, refl)

greatest_place : next_place (pipeline_of work) (cell 2 18446744073709551615 []) ≡ 18446744073709551615
greatest_place = refl

tokens_and_places : (token_in (pipeline_of work) (cell 2 1 []) ≡ 2) × (token_in (pipeline_of work) first ≡ 0) × (token_in (pipeline_of work) nothing ≡ 0) × (place_in (cell 2 1 []) ≡ 1) × (place_in first ≡ 0) × (place_in nothing ≡ 0)
tokens_and_places = (refl, refl, refl, refl, refl, refl)

-- ---- what cells meet

-- In the first pipe: at the beginning the first token, then the one behind that of the line before.
met_first : meets (pipeline_of work) 0 0 (first ∷ first ∷ []) ≡ Token 0
met_first = refl

met_next : meets (pipeline_of work) 0 3 (cell 0 0 [] ∷ first ∷ []) ≡ Token 2
met_next = refl

met_behind_the_last : meets (pipeline_of work) 0 0 (cell 3 2 [] ∷ cell 1 3 [] ∷ []) ≡ Stop
met_behind_the_last = refl

met_without_the_others : meets (pipeline_of (record work { order = order_of 3 plan.defers })) 0 0 (cell 0 0 [] ∷ cell 2 1 [] ∷ []) ≡ Unmet 1
met_without_the_others = refl

met_along_a_line : meets (pipeline_of work) 2 5 (cell 0 0 [] ∷ cell 2 1 [] ∷ []) ≡ Token 2
met_along_a_line = refl

edges_signalled : (edges_for (Token 2) (7 ∷ 9 ∷ []) ≡ 7 ∷ 9 ∷ []) × (edges_for Stop (7 ∷ 9 ∷ []) ≡ []) × (edges_for (Unmet 1) (7 ∷ 9 ∷ []) ≡ [])
edges_signalled = (refl, refl, refl)

-- ---- what cells do

texts_of_operations : (line_op_value (LineText (Without (codes "w"))) 2 1 (codes "v\nw\n") ≡ codes "v\n") × (line_op_value Number 2 1 (codes "v\nw\n") ≡ codes "2 v\n2 w\n") × (line_op_value Stamp 2 1 (codes "v\nw\n") ≡ codes "1 v\n1 w\n")
unfolding digits
texts_of_operations = (refl, refl, refl)

pipes_of_tasks : (pipe_of work 0 ≡ 0) × (pipe_of work 5 ≡ 2)
pipes_of_tasks = (refl, refl)

first_token_enters : task_meaning (Pipe work) 0 (first ∷ first ∷ []) ≡ Some (moves_on (item 0 0 (codes "a\n")) Each)
first_token_enters = refl

-- the third token has the second place
third_token_enters : task_meaning (Pipe work) 3 (cell 0 0 [] ∷ first ∷ []) ≡ Some (moves_on (item 2 1 (codes "c\n")) Each)
third_token_enters = refl

nothing_enters : task_meaning (Pipe work) 0 (cell 3 2 [] ∷ cell 1 3 [] ∷ []) ≡ Some (moves_on (item 0 4 []) NoneOf)
nothing_enters = refl

token_waits_in_vain : task_meaning (Pipe (pipe_work plan (codes "a\nb\nc\n"))) 0 (cell 0 0 [] ∷ cell 2 1 [] ∷ []) ≡ Some (never_passes 1)
token_waits_in_vain = refl

numbered_in_a_parallel_pipe : task_meaning (Pipe work) 4 (cell 2 1 (codes "c\n") ∷ []) ≡ Some (moves_on (item 2 1 (codes "2 c\n")) Each)
unfolding digits
numbered_in_a_parallel_pipe = refl

stamped_in_the_last_pipe : task_meaning (Pipe work) 5 (cell 0 0 [] ∷ cell 2 1 (codes "2 c\n") ∷ []) ≡ Some (moves_on (item 2 1 (codes "1 2 c\n")) Each)
unfolding digits
stamped_in_the_last_pipe = refl

-- Inputs that no run gives a cell count as token 0 at place 0.
without_a_value : cell_meaning work 4 (first ∷ []) Number ≡ moves_on (item 0 0 []) Each
without_a_value = refl

part_that_is_not_there : enters work (LineText Pass) 7 (Token 9) ≡ moves_on (item 9 7 []) Each
part_that_is_not_there = refl

token_that_goes_on : goes_on (LineText Pass) 2 1 (codes "c\n") ≡ moves_on (item 2 1 (codes "c\n")) Each
token_that_goes_on = refl

-- ---- which answers and faults cells have

cell_answers : JobAnswers (Pipe work) 0 (first ∷ first ∷ []) (Value (Cell (item 0 0 (codes "a\n"))) Each)
cell_answers = (refl, refl, omega arith)

text_in_place_of_a_token : ¬ JobAnswers (Pipe work) 0 (first ∷ first ∷ []) (Value (Text (codes "a\n")) Each)
text_in_place_of_a_token is = let same : Text (codes "a\n") ≡ Cell (item 0 0 (codes "a\n")) = is.0 in absurd (cc)

answer_at_another_place : ¬ JobAnswers (Pipe work) 0 (first ∷ first ∷ []) (Value (Cell (item 0 1 (codes "a\n"))) Each)
answer_at_another_place is = absurd (omega (arith, ap item_place is.0))

end_that_signals : ¬ JobAnswers (Pipe work) 0 (cell 3 2 [] ∷ cell 1 3 [] ∷ []) (Value (Cell (item 0 4 [])) Each)
end_that_signals is = let same : Each ≡ NoneOf = is.1 in absurd (cc)

job_in_place_of_a_token : (job : TextJob) → ¬ AnswersAs (moves_on (item 0 0 []) Each) (InnerJob job)
job_in_place_of_a_token job is = is

token_that_is_too_long : (text : List ℕ) → length text ≡ 16777217 → FaultsAs (moves_on (item 0 0 text) Each) (Long 16777217)
token_that_is_too_long text long = (omega arith, omega arith)

long_token_answers : (text : List ℕ) → length text ≡ 16777217 → ¬ AnswersAs (moves_on (item 0 0 text) Each) (Value (Cell (item 0 0 text)) Each)
long_token_answers text long is = absurd (omega (arith, is.2))

fault_of_a_waiting_token : JobFaults (Pipe (pipe_work plan (codes "a\nb\nc\n"))) 0 (cell 0 0 [] ∷ cell 2 1 [] ∷ []) (UnmetWhy 1)
fault_of_a_waiting_token = refl

fault_of_another_token : ¬ FaultsAs (never_passes 1) (UnmetWhy 2)
fault_of_another_token is = absurd (omega (arith, is))

value_of_a_waiting_token : (job : TextJob) → ¬ AnswersAs (never_passes 1) (Value (Text []) Each)
value_of_a_waiting_token job is = is

other_faults_of_a_waiting_token : (¬ FaultsUnmet 1 (Long 1)) × (¬ FaultsUnmet 1 (Wide 1)) × (¬ FaultsUnmet 1 Inner) × (¬ FaultsUnmet 1 (OverRelease 1))
other_faults_of_a_waiting_token = (λ is. is, λ is. is, λ is. is, λ is. is)

-- ---- jobs

pipeline_run : op_meaning (worked_work Match) (value (Text (codes "a\nb\n")) ∷ nothing ∷ value (Text (codes "c\nd\n")) ∷ []) (PipeOp plan) ≡ runs (Pipe work)
pipeline_run = refl

parts_at_the_limit : (text : List ℕ) → length (lines_of text) ≡ 65536 → pipe_meaning plan text ≡ runs (Pipe (pipe_work plan text))
parts_at_the_limit text many = ap (λ n. if nat_le (div_ceil n 1) 65536 then runs (Pipe (pipe_work plan text)) else too_wide (div_ceil n 1)) many

too_many_parts : (text : List ℕ) → length (lines_of text) ≡ 65537 → pipe_meaning plan text ≡ too_wide 65537
too_many_parts text many = ap (λ n. if nat_le (div_ceil n 1) 65536 then runs (Pipe (pipe_work plan text)) else too_wide (div_ceil n 1)) many

net_of_a_pipeline : net_of (Pipe work) ≡ pipe_net 2 (true ∷ false ∷ true ∷ [])
net_of_a_pipeline = refl

cells_have_no_names : names_of (Pipe work) ≡ []
cells_have_no_names = refl

cells_have_no_plan : job_plan (Pipe work) ≡ None
cells_have_no_plan = refl

-- each of four tokens starts in three pipes, and the end in the first
starts_of_a_pipeline : limit_of (Pipe work) ≡ 13
starts_of_a_pipeline = refl

starts_without_a_part : limit_of (Pipe (pipe_work plan [])) ≡ 1
starts_without_a_part = refl

is_job : IsTextJob (Pipe work)
is_job = is_work

no_round_follows : (run : FrameRun TextJob Item) (next : TextJob) → ¬ JobFollows (Pipe work) run next
no_round_follows run next follows = follows

no_graph : ¬ IsGraphJob (Pipe work)
no_graph is = is

-- ---- what runs come to

cells_of_the_last_pipe : (in_last_pipe 3 2 ≡ true) × (in_last_pipe 3 5 ≡ true) × (in_last_pipe 3 4 ≡ false) × (in_last_pipe 1 7 ≡ true)
cells_of_the_last_pipe = (refl, refl, refl, refl)

abbrev at : Ptr → ℕ → ℕ → List ℕ → ValueRow Item
at ptr place token_place text = record { place = place; value = record { ptr = ptr; value = Cell (item 0 token_place text) } }

-- The last pipe's cells end with the tokens at the places 1, 0 and 2. The End of another pipe doesn't count, nor does
-- one without a value.
abbrev ends : List Entry
ends = Start 5 Strong [] ∷ End 0 [] false ∷ Start 2 Strong [] ∷ End 2 [] false ∷ Start 5 Strong [] ∷ End 4 [] false ∷ Start 1 Strong [] ∷ End 6 [] false ∷ Start 2 Strong [] ∷ End 8 [] false ∷ []

abbrev values : Ptr → List (ValueRow Item)
values ptr = at ptr 1 1 (codes "x\n") ∷ at ptr 3 0 (codes "y\n") ∷ at ptr 5 2 (codes "z\n") ∷ at ptr 7 0 (codes "w\n") ∷ []

-- the token at place 0 ends twice: the last End counts
abbrev again : Ptr → List (ValueRow Item)
again ptr = at ptr 1 0 (codes "x\n") ∷ at ptr 3 0 (codes "y\n") ∷ at ptr 5 2 (codes "z\n") ∷ []

token_that_ends : (ptr : Ptr) → (ends_token 3 ends (values ptr) 0 3 ≡ true) × (ends_token 3 ends (values ptr) 1 3 ≡ false) × (ends_token 3 ends (values ptr) 0 7 ≡ false) × (ends_token 3 ends (values ptr) 0 9 ≡ false)
token_that_ends ptr = (refl, refl, refl, refl)

last_end_of_a_token : (ptr : Ptr) → (token_end_before 3 ends (again ptr) 10 0 ≡ Some 3) × (token_end_before 3 ends (again ptr) 3 0 ≡ Some 1) × (token_end_before 3 ends (again ptr) 10 1 ≡ None)
last_end_of_a_token ptr = (refl, refl, refl)

text_of_a_place : (run : FrameRun TextJob Item) (ptr : Ptr) → journal_of run ≡ ends → values_of run ≡ values ptr → (text_at_place 3 run 2 ≡ codes "z\n") × (text_at_place 3 run 3 ≡ [])
text_of_a_place run ptr journal held = rw (journal, held) (refl, refl)

gathered_by_place : (run : FrameRun TextJob Item) (ptr : Ptr) → journal_of run ≡ ends → values_of run ≡ values ptr → pipe_text work run ≡ codes "y\nx\nz\n"
gathered_by_place run ptr journal held = rw (journal, held) refl

gathered_of_last_ends : (run : FrameRun TextJob Item) (ptr : Ptr) → journal_of run ≡ ends → values_of run ≡ again ptr → text_gathered (Pipe work) run ≡ codes "y\nz\n"
gathered_of_last_ends run ptr journal held = rw (journal, held) refl

gathers : (run : FrameRun TextJob Item) (ptr : Ptr) → journal_of run ≡ ends → values_of run ≡ values ptr → text_job.gathers (Pipe work) run (Text (codes "y\nx\nz\n"))
gathers run ptr journal held = rw (journal, held) (refl, omega arith)

gathers_no_token : (run : FrameRun TextJob Item) → ¬ text_job.gathers (Pipe work) run (Cell (item 0 0 (pipe_text work run)))
gathers_no_token run is = let same : Cell (item 0 0 (pipe_text work run)) ≡ Text (pipe_text work run) = is.0 in absurd (cc)

long_text_gathered : (run : FrameRun TextJob Item) → length (text_gathered (Pipe work) run) ≡ 16777217 → text_job.gather_faults (Pipe work) run (Long 16777217)
long_text_gathered run long = (omega arith, omega arith)
