-- Pipelines in graph files, computed on small ones: what their fields hold, why they are refused, and how they are
-- written.
use Rattle.std.proofs.Common.{◌≡◌, ℕ, zero, suc, ◌≤◌, Bool, true, false, List, [], ◌∷◌, map, replicate, slice_get, All, Some, None, Ok, Err, refl, codes, arith}
use Rattle.std.proofs.lemmas.List.{length-replicate}
use Rattle.serde_json.specs.Data.{Data, boolean, string, number, unsigned, array, object, no_members, member}
use Rattle.serde_json.specs.View.{items_of}
use Rattle.task_graph.specs.declared.net.Shape.TheVariants.{Nested}
use Rattle.pipe_lines.specs.declared.deferral.DeferRow.{DeferRow}
use Rattle.pipe_lines.specs.DeferRows.{IsDeferRow}
use Rattle.pipe_lines.specs.declared.pipeline.PipeError.TheVariants.{NoLines, NoPipes, FirstParallel, TooManyLines, TooManyPipes}
use Rattle.pipe_lines.specs.declared.pipeline.PipeSpec.{PipeSpec}
use Rattle.pipe_lines.specs.Pipelines.{spec_fault}
use Rattle.graph_plans.specs.declared.ops.Op.TheVariants.{Match, Module as Runs, Pipe}
use Rattle.graph_plans.specs.declared.ops.TextOp.TheVariants.{Pass, Keep, Head, Sort}
use Rattle.graph_plans.specs.declared.pipes.LineOp.TheVariants.{Text as LineText, Number, Stamp}
use Rattle.graph_plans.specs.declared.pipes.PipePlan.{PipePlan}
use Rattle.graph_plans.specs.declared.spots.Spot.TheVariants.{Task, ModuleTask}
use Rattle.graph_plans.specs.ModuleUses.{modules_run}
use Rattle.graph_plans.specs.PlanRows.{GraphRows, HasPipelines}
use Rattle.graph_plans.specs.Operations.{HasPipeline, IsLineOp, IsOp, IsPipePlan, shape_of}
use Rattle.graph_drafts.specs.declared.refusals.GraphError.TheVariants.{BadField, BadPipe, Repeated}
use Rattle.graph_drafts.specs.declared.scopes.Scope.TheVariants.{Top, Module as OfModule}
use Rattle.graph_drafts.specs.Contents.{defer_objects_of, pipe_lines_of, targets_of, token_number_of}
use Rattle.graph_drafts.specs.OpRows.{FileOpRow, PipeRows, add_defer, add_pipe, defers_in, does, line_rows, may_have, op_in, op_rows, pipe_in, pipes_in, reads, runs, text_rows}
use Rattle.graph_drafts.specs.FileText.{DraftRows, TaskText, empty_draft}
use Rattle.graph_file.specs.PlanText.{add_pipeline, file_op_fault, file_pipelines, graph_pipelines, pipe_fault, plan_of}
use Rattle.graph_writer.specs.WrittenPlan.{defer_data, op_text, pipe_data}

abbrev whole : ℕ → Data
whole n = number (unsigned n)

abbrev list : List Data → Data
list ds = array (items_of ds)

abbrev x : List ℕ
x = codes "x"

-- ---- contents

lines_of_pipelines : (pipe_lines_of (whole 0) ≡ Some 0) × (pipe_lines_of (whole 4294967295) ≡ Some 4294967295) × (pipe_lines_of (whole 4294967296) ≡ None)
lines_of_pipelines = (refl, refl, refl)

numbers_of_tokens : (token_number_of (whole 0) ≡ Some 0) × (token_number_of (whole 65535) ≡ Some 65535) × (token_number_of (whole 65536) ≡ None)
numbers_of_tokens = (refl, refl, refl)

targets_in_their_limits : (targets_of (list (whole 1000000 ∷ [])) ≡ Some (1000000 ∷ [])) × (targets_of (list (map whole (1 ∷ 2 ∷ 3 ∷ 4 ∷ 5 ∷ 6 ∷ 7 ∷ 8 ∷ []))) ≡ Some (1 ∷ 2 ∷ 3 ∷ 4 ∷ 5 ∷ 6 ∷ 7 ∷ 8 ∷ []))
targets_in_their_limits = (refl, refl)

targets_past_their_limits : (targets_of (list []) ≡ None) × (targets_of (list (map whole (1 ∷ 2 ∷ 3 ∷ 4 ∷ 5 ∷ 6 ∷ 7 ∷ 8 ∷ 9 ∷ []))) ≡ None) × (targets_of (list (whole 1 ∷ whole 1000001 ∷ [])) ≡ None)
targets_past_their_limits = (refl, refl, refl)

abbrev empty : Data
empty = object no_members

rows_in_their_limits : (defer_objects_of (list (replicate 256 empty)) ≡ Some (replicate 256 empty)) × (defer_objects_of (list (replicate 257 empty)) ≡ None) × (defer_objects_of (list (whole 1 ∷ [])) ≡ None)
rows_in_their_limits = (refl, refl, refl)

-- ---- pipes

operations_of_pipes : (op_in line_rows (Task 4) (object (member (codes "op") (string (codes "number")) no_members)) ≡ Ok (record { op = Number; fields = [] }))
    × (op_in line_rows (Task 4) (object (member (codes "op") (string (codes "stamp")) no_members)) ≡ Ok (record { op = Stamp; fields = [] }))
    × (op_in line_rows (Task 4) (object (member (codes "n") (whole 7) (member (codes "op") (string (codes "head")) no_members))) ≡ Ok (record { op = LineText (Head 7); fields = codes "n" ∷ [] }))
    × (op_in line_rows (Task 4) (object (member (codes "op") (string (codes "back")) no_members)) ≡ Err (BadField (Task 4) (codes "op")))
unfolding line_rows text_rows
operations_of_pipes = (refl, refl, refl, refl)

stamps_of_serial_pipes : (may_have true Stamp ≡ true) × (may_have false Stamp ≡ false) × (may_have false Number ≡ true) × (may_have false (LineText Sort) ≡ true)
stamps_of_serial_pipes = (refl, refl, refl, refl)

-- a pipe with this operation
abbrev a_pipe : Bool → List ℕ → Data
a_pipe serial op = object (member (codes "op") (string op) (member (codes "serial") (boolean serial) no_members))

abbrev no_pipes : PipeRows
no_pipes = record { serial = []; ops = [] }

pipes_more : add_pipe (Task 4) (record { serial = true ∷ []; ops = Number ∷ [] }) (a_pipe false (codes "sort")) ≡ Ok (record { serial = true ∷ false ∷ []; ops = Number ∷ LineText Sort ∷ [] })
unfolding line_rows text_rows
pipes_more = refl

pipes_refused : (add_pipe (Task 4) no_pipes (a_pipe false (codes "stamp")) ≡ Err (BadField (Task 4) (codes "op")))
    × (add_pipe (Task 4) no_pipes (object (member (codes "op") (string (codes "sort")) no_members)) ≡ Err (BadField (Task 4) (codes "serial")))
    × (add_pipe (Task 4) no_pipes (object (member (codes "op") (string (codes "sort")) (member (codes "serial") (boolean true) (member x (whole 1) no_members)))) ≡ Err (BadField (Task 4) x))
unfolding line_rows text_rows
pipes_refused = (refl, refl, refl)

-- a task with this list of pipes
abbrev with_pipes : Data → Data
with_pipes pipes = object (member (codes "pipes") pipes no_members)

pipes_of_a_field : (pipes_in (Task 4) (with_pipes (list (a_pipe true (codes "stamp") ∷ a_pipe false (codes "pass") ∷ []))) ≡ Ok (record { serial = true ∷ false ∷ []; ops = Stamp ∷ LineText Pass ∷ [] }))
    × (pipes_in (Task 4) (with_pipes (list [])) ≡ Ok no_pipes)
    × (pipes_in (Task 4) (with_pipes (list (a_pipe true (codes "pass") ∷ a_pipe false (codes "stamp") ∷ []))) ≡ Err (BadField (Task 4) (codes "pipes")))
    × (pipes_in (Task 4) (with_pipes (list (whole 1 ∷ []))) ≡ Err (BadField (Task 4) (codes "pipes")))
    × (pipes_in (Task 4) empty ≡ Err (BadField (Task 4) (codes "pipes")))
unfolding line_rows text_rows
pipes_of_a_field = (refl, refl, refl, refl, refl)

-- ---- rows that defer tokens

abbrev a_row : ℕ → List ℕ → Data
a_row token to = object (member (codes "to") (list (map whole to)) (member (codes "token") (whole token) no_members))

abbrev row : ℕ → List ℕ → DeferRow
row token to = record { token = token; to = to }

rows_more : add_defer (Task 4) (row 1 (3 ∷ []) ∷ []) (a_row 2 (1 ∷ 5 ∷ [])) ≡ Ok (row 1 (3 ∷ []) ∷ row 2 (1 ∷ 5 ∷ []) ∷ [])
rows_more = refl

rows_refused : (add_defer (Task 4) (row 1 (3 ∷ []) ∷ []) (a_row 1 (2 ∷ [])) ≡ Err (BadField (Task 4) (codes "token"))) × (add_defer (Task 4) [] (a_row 65536 (2 ∷ [])) ≡ Err (BadField (Task 4) (codes "token")))
    × (add_defer (Task 4) [] (a_row 1 []) ≡ Err (BadField (Task 4) (codes "to")))
    × (add_defer (Task 4) [] (object (member (codes "to") (list (whole 2 ∷ [])) (member (codes "token") (whole 1) (member x (whole 1) no_members)))) ≡ Err (BadField (Task 4) x))
rows_refused = (refl, refl, refl, refl)

abbrev with_defer : Data → Data
with_defer rows = object (member (codes "defer") rows no_members)

rows_of_a_field : (defers_in (Task 4) (with_defer (list (a_row 1 (3 ∷ []) ∷ a_row 2 (1 ∷ []) ∷ []))) ≡ Ok (row 1 (3 ∷ []) ∷ row 2 (1 ∷ []) ∷ [])) × (defers_in (Task 4) empty ≡ Ok [])
    × (defers_in (Task 4) (with_defer (list (a_row 1 (3 ∷ []) ∷ a_row 1 (2 ∷ []) ∷ []))) ≡ Err (BadField (Task 4) (codes "defer"))) × (defers_in (Task 4) (with_defer (whole 1)) ≡ Err (BadField (Task 4) (codes "defer")))
rows_of_a_field = (refl, refl, refl, refl)

-- ---- the operation

abbrev two_pipes : Data
two_pipes = list (a_pipe true (codes "pass") ∷ a_pipe false (codes "sort") ∷ [])

abbrev plan : ℕ → ℕ → List DeferRow → PipePlan
plan lines chunk defers = record { spec = record { lines = lines; serial = true ∷ false ∷ [] }; ops = LineText Pass ∷ LineText Sort ∷ []; chunk = chunk; defers = defers }

pipe_of_a_task : (pipe_in (Task 4) (object (member (codes "lines") (whole 3) (member (codes "pipes") two_pipes no_members))) ≡ Ok (Pipe (plan 3 1 [])))
    × (pipe_in (Task 4) (object (member (codes "defer") (list (a_row 1 (3 ∷ []) ∷ [])) (member (codes "lines") (whole 0) (member (codes "n") (whole 9) (member (codes "pipes") two_pipes no_members))))) ≡ Ok (Pipe (plan 0 9 (row 1 (3 ∷ []) ∷ []))))
unfolding line_rows text_rows
pipe_of_a_task = (refl, refl)

-- the first field that is wrong counts
pipe_of_a_task_refused : (pipe_in (Task 4) (object (member (codes "n") (whole 0) no_members)) ≡ Err (BadField (Task 4) (codes "lines"))) × (pipe_in (Task 4) (object (member (codes "lines") (whole 3) (member (codes "n") (whole 0) no_members))) ≡ Err (BadField (Task 4) (codes "n")))
    × (pipe_in (Task 4) (object (member (codes "defer") (whole 1) (member (codes "lines") (whole 3) no_members))) ≡ Err (BadField (Task 4) (codes "pipes")))
    × (pipe_in (Task 4) (object (member (codes "defer") (whole 1) (member (codes "lines") (whole 3) (member (codes "pipes") two_pipes no_members)))) ≡ Err (BadField (Task 4) (codes "defer")))
unfolding line_rows text_rows
pipe_of_a_task_refused = (refl, refl, refl, refl)

pipe_among_operations : op_in op_rows (Task 4) (object (member (codes "lines") (whole 3) (member (codes "op") (string (codes "pipe")) (member (codes "pipes") two_pipes no_members))))
    ≡ Ok (record { op = does (Pipe (plan 3 1 [])); fields = codes "lines" ∷ codes "n" ∷ codes "pipes" ∷ codes "defer" ∷ [] })
unfolding op_rows line_rows text_rows
pipe_among_operations = refl

-- ---- pipelines

abbrev spec : ℕ → List Bool → PipeSpec
spec lines serial = record { lines = lines; serial = serial }

specifications_refused : (spec_fault (spec 0 []) ≡ Some NoLines) × (spec_fault (spec 65 []) ≡ Some NoPipes) × (spec_fault (spec 65 (false ∷ replicate 32 true)) ≡ Some FirstParallel) × (spec_fault (spec 65 (replicate 33 true)) ≡ Some TooManyLines)
    × (spec_fault (spec 64 (replicate 33 true)) ≡ Some TooManyPipes)
specifications_refused = (refl, refl, refl, refl, refl)

specifications_of_pipelines : (spec_fault (spec 64 (replicate 32 true)) ≡ None) × (spec_fault (spec 1 (true ∷ [])) ≡ None)
specifications_of_pipelines = (refl, refl)

faults_of_operations : (pipe_fault (Pipe (plan 0 1 [])) ≡ Some NoLines) × (pipe_fault (Pipe (plan 1 1 [])) ≡ None) × (pipe_fault Match ≡ None) × (file_op_fault (does (Pipe (plan 0 1 []))) ≡ Some NoLines) × (file_op_fault (reads x) ≡ None) × (file_op_fault (runs x) ≡ None)
faults_of_operations = (refl, refl, refl, refl, refl, refl)

abbrev task : List ℕ → FileOpRow → TaskText
task name op = record { names = record { name = name; to = []; takes = []; puts = [] }; op = op }

abbrev piped : ℕ → TaskText
piped lines = task x (does (Pipe (plan lines 1 [])))

tasks_checked : (add_pipeline Top 4 (piped 1) ≡ Ok 5) × (add_pipeline Top 4 (piped 0) ≡ Err (BadPipe (Task 4) NoLines)) × (add_pipeline (OfModule 2) 4 (piped 65) ≡ Err (BadPipe (ModuleTask 2 4) TooManyLines))
tasks_checked = (refl, refl, refl)

abbrev top_with : List TaskText → DraftRows
top_with tasks = record (empty_draft Top 2 []) { tasks = tasks }

abbrev module_of : List TaskText → DraftRows
module_of tasks = record (empty_draft (OfModule 0) 2 x) { tasks = tasks }

graphs_checked : (graph_pipelines (top_with (piped 1 ∷ piped 64 ∷ [])) ≡ Ok 2) × (graph_pipelines (top_with (piped 1 ∷ piped 65 ∷ piped 0 ∷ [])) ≡ Err (BadPipe (Task 1) TooManyLines))
graphs_checked = (refl, refl)

files_checked : (file_pipelines (record { top = top_with (piped 1 ∷ []); modules = module_of (piped 2 ∷ []) ∷ [] }) ≡ Ok tt)
    × (file_pipelines (record { top = top_with (piped 1 ∷ []); modules = module_of (piped 0 ∷ []) ∷ [] }) ≡ Err (BadPipe (ModuleTask 0 0) NoLines))
    × (file_pipelines (record { top = top_with (piped 65 ∷ []); modules = module_of (piped 0 ∷ []) ∷ [] }) ≡ Err (BadPipe (Task 0) TooManyLines))
files_checked = (refl, refl, refl)

-- pipes are looked at last
after_other_refusals : plan_of (record { top = top_with (piped 0 ∷ piped 0 ∷ []); modules = [] }) ≡ Err (Repeated (Task 1) (codes "name"))
after_other_refusals = refl

refused_at_last : plan_of (record { top = top_with (piped 1 ∷ task (codes "y") (does (Pipe (plan 0 1 []))) ∷ []); modules = [] }) ≡ Err (BadPipe (Task 1) NoLines)
refused_at_last = refl

-- ---- plans

shape_of_pipes : (shape_of (Pipe (plan 1 1 [])) ≡ Nested) × (modules_run (Pipe (plan 1 1 []) ∷ Runs 3 ∷ []) ≡ 3 ∷ [])
shape_of_pipes = (refl, refl)

abbrev long_word : List ℕ
long_word = replicate 4097 0

fits : IsPipePlan (plan 0 1000000000 (row 1 (3 ∷ []) ∷ []))
fits = record {
  op_count = refl;
  ops = both;
  stamps = none;
  chunk = record { least = omega arith; most = omega arith };
  defers = record { few = omega arith; each = one; apart = λ i j d less within. absurd (omega (arith, less, within)) };
}
  where
    both : All IsLineOp (LineText Pass ∷ LineText Sort ∷ [])
    both zero d within = tt
    both (suc zero) d within = tt
    both (suc (suc k)) d within = absurd (omega arith)

    none : (p : ℕ) → slice_get (LineText Pass ∷ LineText Sort ∷ []) p ≡ Some Stamp → slice_get (true ∷ false ∷ []) p ≡ Some true
    none zero at = cc
    none (suc zero) at = cc
    none (suc (suc p)) at = cc

    in_range : All (λ target. target ≤ 1000000) (3 ∷ [])
    in_range zero d within = omega arith
    in_range (suc k) d within = absurd (omega arith)

    one : All IsDeferRow (row 1 (3 ∷ []) ∷ [])
    one zero d within = record { may_come = omega arith; some = omega arith; few = omega arith; in_range = in_range }
    one (suc k) d within = absurd (omega arith)

fits_among_operations : IsOp 0 0 (Pipe (plan 0 1000000000 (row 1 (3 ∷ []) ∷ [])))
fits_among_operations = fits

pipe_without_operation : ¬ IsPipePlan (record (plan 1 1 []) { ops = LineText Pass ∷ [] })
pipe_without_operation is = absurd (omega (arith, is.op_count))

word_too_long : ¬ IsPipePlan (record (plan 1 1 []) { ops = Number ∷ LineText (Keep long_word) ∷ [] })
word_too_long is = absurd (omega (arith, is.ops 1 Number (omega arith), length-replicate {A = ℕ} 4097 0))

stamp_of_a_parallel_pipe : ¬ IsPipePlan (record (plan 1 1 []) { ops = Stamp ∷ Stamp ∷ [] })
stamp_of_a_parallel_pipe is = let serial : slice_get (true ∷ false ∷ []) 1 ≡ Some true = is.stamps 1 refl in absurd (cc)

no_line_of_text : ¬ IsPipePlan (plan 1 0 [])
no_line_of_text is = absurd (omega (arith, is.chunk.least))

row_without_a_target : ¬ IsPipePlan (plan 1 1 (row 1 [] ∷ []))
row_without_a_target is = absurd (omega (arith, (is.defers.each 0 (row 1 []) (omega arith)).some))

pipelines : HasPipeline (Pipe (plan 64 1 [])) × HasPipeline Match × HasPipeline (Runs 3)
pipelines = (record { some_lines = omega arith; first_serial = refl; few_lines = omega arith; few_pipes = omega arith }, tt, tt)

no_pipeline : ¬ HasPipeline (Pipe (plan 0 1 []))
no_pipeline is = absurd (omega (arith, is.some_lines))

abbrev graph_of : PipePlan → GraphRows
graph_of pipes = record { name = []; names = x ∷ []; ops = Pipe pipes ∷ []; sem_names = []; net = record { tasks = record { shape = Nested; takes = []; puts = [] } ∷ []; edges = []; sems = [] } }

graph_without_pipeline : ¬ HasPipelines (graph_of (plan 65 1 []))
graph_without_pipeline all = absurd (omega (arith, (all 0 (Pipe (plan 65 1 [])) (omega arith)).few_lines))

-- ---- what is written

written_pipes : (pipe_data true (LineText (Keep x)) ≡ object (member (codes "op") (string (codes "keep")) (member (codes "serial") (boolean true) (member (codes "word") (string x) no_members))))
    × (pipe_data false Number ≡ a_pipe false (codes "number")) × (pipe_data true Stamp ≡ a_pipe true (codes "stamp"))
written_pipes = (refl, refl, refl)

written_row : defer_data (row 1 (3 ∷ 0 ∷ [])) ≡ a_row 1 (3 ∷ 0 ∷ [])
written_row = refl

written_operation : op_text [] [] (Pipe (plan 3 9 (row 1 (3 ∷ []) ∷ [])))
    ≡ record { name = codes "pipe"; own = member (codes "defer") (list (a_row 1 (3 ∷ []) ∷ [])) (member (codes "lines") (whole 3) (member (codes "n") (whole 9) (member (codes "pipes") two_pipes no_members))) }
written_operation = refl
