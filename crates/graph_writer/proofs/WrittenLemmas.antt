-- A file that was written is read again.
use Rattle.std.proofs.Common.{◌≡◌, ℕ, suc, List, [], ◌∷◌, ◌++◌, map, length, Bool, true, not, ◌&&◌, leb, Some, Ok, codes, refl, sym, ap, ◌∙◌, append_assoc, arith}
use Rattle.std.proofs.lemmas.Bool.{and_parts}
use Rattle.std.proofs.lemmas.List.{append-nil, length-append, length-map}
use Rattle.std.specs.Bool.{⊤}
use Rattle.std.specs.List.{list_all}
use Rattle.serde_json.specs.Data.{Data, array, string}
use Rattle.serde_json.specs.View.{items_of}
use Rattle.graph_plans.specs.declared.ops.Op.{Op}
use Rattle.graph_plans.specs.declared.ops.Op.TheVariants.{Input, Read, Text, Match, Back, IfMore, IfHas, Route, Spread, Module, Pipe}
use Rattle.graph_plans.specs.declared.pipes.LineOp.{LineOp}
use Rattle.graph_plans.specs.declared.pipes.LineOp.TheVariants.{Text as LineText, Number, Stamp}
use Rattle.pipe_lines.specs.declared.deferral.DeferRow.{DeferRow}
use Rattle.pipe_lines.specs.DeferRows.{is_deferred}
use Rattle.graph_plans.specs.declared.ops.TextOp.{TextOp}
use Rattle.graph_plans.specs.declared.ops.TextOp.TheVariants.{Pass, Keep, Without, Head, Tail, Skip, Sort, Uniq, Count, Tally}
use Rattle.graph_plans.specs.declared.spots.Spot.{Spot}
use Rattle.graph_plans.specs.Operations.{route_limit, word_limit}
use Rattle.graph_drafts.specs.declared.scopes.Scope.{Scope}
use Rattle.graph_drafts.specs.declared.scopes.Scope.TheVariants.{Top, Module as OfModule}
use Rattle.graph_drafts.specs.Contents.{each, is_name, is_object, is_text, listed, name_of, name_list_of, targets_of, whole_of, word_of, words_of}
use Rattle.graph_drafts.specs.Fields.{task_spot}
use Rattle.graph_drafts.specs.OpRows.{FileOpRow, reads, runs, does, PipeRows, add_defer, add_pipe, line_rows, may_have, op_rows, text_op_in, text_rows}
use Rattle.graph_drafts.specs.FileText.{DraftRows, FileRows, TaskNames, TaskText, add_module, add_semaphore, add_task, empty_draft, file_in, graph_in, module_in, with_semaphore, with_task_text}
use Rattle.graph_drafts.specs.Steps.{◌>>=◌, walk}
use Rattle.graph_writer.specs.WrittenPlan.{OpText, defer_data, each_data, file_data, lines_data, pipe_data, pipes_from, module_with, op_text, sem_data, strings_data, task_data, text_op_text, with_field}
use Rattle.graph_drafts.specs.inside.Fine.{AreFine, AreMade, AreValidSems, IsMade, IsMadeFile, IsValidSem, SemText, fits, fits_defers, fits_line_op, fits_op, fits_part, fits_pipe_lines, fits_pipes, fits_target, fits_targets, fits_text_op, fits_token, fits_words, maxima_of, names_of_sems}
use Rattle.graph_drafts.proofs.FineLemmas.{with_sems_more, with_tasks}

listed-items_of : (ds : List Data) → listed (items_of ds) ≡ ds
listed-items_of [] = refl
listed-items_of (d ∷ ds) = ap (λ xs. d ∷ xs) (listed-items_of ds)

-- strings of which each passes are read again
each-name : (names : List (List ℕ)) → list_all is_name names ≡ true → each name_of (map string names) ≡ Some names
each-name [] fine = refl
each-name (name ∷ names) fine = let parts = and_parts (is_name name) (list_all is_name names) fine in rw (parts.0, each-name names parts.1) refl

each-word : (words : List (List ℕ)) → list_all (is_text 0 word_limit) words ≡ true → each word_of (map string words) ≡ Some words
each-word [] fine = refl
each-word (word ∷ words) fine = let parts = and_parts (is_text 0 word_limit word) (list_all (is_text 0 word_limit) words) fine in rw (parts.0, each-word words parts.1) refl

names-written : (names : List (List ℕ)) → list_all is_name names ≡ true → name_list_of (strings_data names) ≡ Some names
names-written names fine = rw (listed-items_of (map string names)) (each-name names fine)

words-written : (words : List (List ℕ)) → fits_words words ≡ true → words_of (strings_data words) ≡ Some words
words-written words fine =
    let parts = and_parts (leb (length words) route_limit) (list_all (is_text 0 word_limit) words) fine in
    rw (listed-items_of (map string words), length-map words string, parts.0) (each-word words parts.1)

-- ---- tasks

-- the operation of a file, as it is written
abbrev pub file_op_text : FileOpRow → OpText
file_op_text (reads text) = with_field (codes "read") (codes "text") (string text)
file_op_text (runs name) = with_field (codes "module") (codes "module") (string name)
file_op_text (does op) = op_text [] [] op

abbrev pub task_text_data : TaskText → Data
task_text_data task = task_data (file_op_text task.op) task.names

-- the names of a task are names
pub record IsNamed (task : TaskNames) : Type 0 where
  pub name : is_name task.name ≡ true
  pub to : list_all is_name task.to ≡ true
  pub takes : list_all is_name task.takes ≡ true
  pub puts : list_all is_name task.puts ≡ true

-- a task that is written is read again, in a file of version 2
abbrev IsWritten : DraftRows → TaskNames → OpText → FileOpRow → Type 0
IsWritten draft task text op = add_task draft (task_data text task) ≡ Ok (with_task_text draft (record { names = task; op = op }))

text_op-written : (draft : DraftRows) (task : TaskNames) (op : TextOp) → draft.version ≡ 2 → IsNamed task → fits_text_op op ≡ true → IsWritten draft task (text_op_text op) (does (Text op))
unfolding op_rows text_rows
text_op-written draft task Pass second is fine = rw (second, is.name, names-written task.to is.to, names-written task.takes is.takes, names-written task.puts is.puts) refl
text_op-written draft task (Keep word) second is fine = rw (second, is.name, fine, names-written task.to is.to, names-written task.takes is.takes, names-written task.puts is.puts) refl
text_op-written draft task (Without word) second is fine = rw (second, is.name, fine, names-written task.to is.to, names-written task.takes is.takes, names-written task.puts is.puts) refl
text_op-written draft task (Head n) second is fine = rw (second, is.name, fine, names-written task.to is.to, names-written task.takes is.takes, names-written task.puts is.puts) refl
text_op-written draft task (Tail n) second is fine = rw (second, is.name, fine, names-written task.to is.to, names-written task.takes is.takes, names-written task.puts is.puts) refl
text_op-written draft task (Skip n) second is fine = rw (second, is.name, fine, names-written task.to is.to, names-written task.takes is.takes, names-written task.puts is.puts) refl
text_op-written draft task Sort second is fine = rw (second, is.name, names-written task.to is.to, names-written task.takes is.takes, names-written task.puts is.puts) refl
text_op-written draft task Uniq second is fine = rw (second, is.name, names-written task.to is.to, names-written task.takes is.takes, names-written task.puts is.puts) refl
text_op-written draft task Count second is fine = rw (second, is.name, names-written task.to is.to, names-written task.takes is.takes, names-written task.puts is.puts) refl
text_op-written draft task Tally second is fine = rw (second, is.name, names-written task.to is.to, names-written task.takes is.takes, names-written task.puts is.puts) refl

-- an operation on each part is read again
each-written : (spot : Spot) (op : TextOp) → fits_text_op op ≡ true → text_op_in spot (each_data op) ≡ Ok op
unfolding text_rows
each-written spot Pass fine = refl
each-written spot (Keep word) fine = rw fine refl
each-written spot (Without word) fine = rw fine refl
each-written spot (Head n) fine = rw fine refl
each-written spot (Tail n) fine = rw fine refl
each-written spot (Skip n) fine = rw fine refl
each-written spot Sort fine = refl
each-written spot Uniq fine = refl
each-written spot Count fine = refl
each-written spot Tally fine = refl

-- ---- pipelines

each-target : (to : List ℕ) → list_all fits_target to ≡ true → each (whole_of 0 1000000) (map lines_data to) ≡ Some to
each-target [] fine = refl
each-target (n ∷ to) fine = let parts = and_parts (fits_target n) (list_all fits_target to) fine in rw (parts.0, each-target to parts.1) refl

targets-written : (to : List ℕ) → fits_targets to ≡ true → targets_of (array (items_of (map lines_data to))) ≡ Some to
targets-written to fine =
    let parts = and_parts (leb 1 (length to) && leb (length to) 8) (list_all fits_target to) fine in
    rw (listed-items_of (map lines_data to), length-map to lines_data, parts.0) (each-target to parts.1)

-- a row is read again
defer-written : (spot : Spot) (before : List DeferRow) (row : DeferRow) → fits_token row.token ≡ true → fits_targets row.to ≡ true → not (is_deferred before row.token) ≡ true → add_defer spot before (defer_data row) ≡ Ok (before ++ row ∷ [])
defer-written spot before row token to new = rw (token, targets-written row.to to, new) refl

defers-written : (spot : Spot) (before rows : List DeferRow) → fits_defers before rows ≡ true → walk (add_defer spot) before (map defer_data rows) ≡ Ok (before ++ rows)
defers-written spot before [] fine = ap Ok (sym (append-nil before))
defers-written spot before (row ∷ rows) fine =
    let first = and_parts (fits_token row.token) (fits_targets row.to && (not (is_deferred before row.token) && fits_defers (before ++ row ∷ []) rows)) fine in
    let second = and_parts (fits_targets row.to) (not (is_deferred before row.token) && fits_defers (before ++ row ∷ []) rows) first.1 in
    let third = and_parts (not (is_deferred before row.token)) (fits_defers (before ++ row ∷ []) rows) second.1 in
    rw (defer-written spot before row first.0 second.0 third.0) (defers-written spot (before ++ row ∷ []) rows third.1 ∙ ap Ok (append_assoc before (row ∷ []) rows))

defer_objects-written : (rows : List DeferRow) → list_all is_object (map defer_data rows) ≡ true
defer_objects-written [] = refl
defer_objects-written (row ∷ rows) = defer_objects-written rows

-- pipes with one more
abbrev with_pipe : PipeRows → Bool → LineOp → PipeRows
with_pipe before serial op = record { serial = before.serial ++ serial ∷ []; ops = before.ops ++ op ∷ [] }

-- a pipe is read again
pipe-written : (spot : Spot) (before : PipeRows) (serial : Bool) (op : LineOp) → may_have serial op ≡ true → fits_line_op op ≡ true → add_pipe spot before (pipe_data serial op) ≡ Ok (with_pipe before serial op)
unfolding line_rows text_rows
pipe-written spot before serial Number may fine = refl
pipe-written spot before serial Stamp may fine = rw may refl
pipe-written spot before serial (LineText Pass) may fine = refl
pipe-written spot before serial (LineText (Keep word)) may fine = rw fine refl
pipe-written spot before serial (LineText (Without word)) may fine = rw fine refl
pipe-written spot before serial (LineText (Head n)) may fine = rw fine refl
pipe-written spot before serial (LineText (Tail n)) may fine = rw fine refl
pipe-written spot before serial (LineText (Skip n)) may fine = rw fine refl
pipe-written spot before serial (LineText Sort) may fine = refl
pipe-written spot before serial (LineText Uniq) may fine = refl
pipe-written spot before serial (LineText Count) may fine = refl
pipe-written spot before serial (LineText Tally) may fine = refl

pipes-written : (spot : Spot) (before : PipeRows) (serial : List Bool) (ops : List LineOp) → fits_pipes serial ops ≡ true → walk (add_pipe spot) before (pipes_from serial ops) ≡ Ok (record { serial = before.serial ++ serial; ops = before.ops ++ ops })
pipes-written spot before [] [] fine = ap (λ s. Ok (record { serial = s; ops = before.ops })) (sym (append-nil before.serial)) ∙ ap (λ o. Ok (record { serial = before.serial ++ []; ops = o })) (sym (append-nil before.ops))
pipes-written spot before [] (op ∷ ops) fine = cc
pipes-written spot before (s ∷ rest) [] fine = cc
pipes-written spot before (s ∷ rest) (op ∷ ops) fine =
    let first = and_parts (may_have s op) (fits_line_op op && fits_pipes rest ops) fine in
    let second = and_parts (fits_line_op op) (fits_pipes rest ops) first.1 in
    rw (pipe-written spot before s op first.0 second.0)
    (pipes-written spot (with_pipe before s op) rest ops second.1
    ∙ ap (λ serial. Ok (record { serial = serial; ops = (before.ops ++ op ∷ []) ++ ops })) (append_assoc before.serial (s ∷ []) rest)
    ∙ ap (λ all. Ok (record { serial = before.serial ++ s ∷ rest; ops = all })) (append_assoc before.ops (op ∷ []) ops))

pipe_objects-written : (serial : List Bool) (ops : List LineOp) → list_all is_object (pipes_from serial ops) ≡ true
pipe_objects-written [] ops = refl
pipe_objects-written (s ∷ rest) [] = refl
pipe_objects-written (s ∷ rest) (op ∷ ops) = pipe_objects-written rest ops

op-written : (draft : DraftRows) (task : TaskNames) (op : Op) → draft.version ≡ 2 → IsNamed task → fits_op op ≡ true → IsWritten draft task (op_text [] [] op) (does op)
unfolding op_rows text_rows
op-written draft task Input second is fine = rw (second, is.name, names-written task.to is.to, names-written task.takes is.takes, names-written task.puts is.puts) refl
op-written draft task (Read text) second is fine = cc
op-written draft task (Text op) second is fine = text_op-written draft task op second is fine
op-written draft task Match second is fine = rw (second, is.name, names-written task.to is.to, names-written task.takes is.takes, names-written task.puts is.puts) refl
op-written draft task Back second is fine = rw (second, is.name, names-written task.to is.to, names-written task.takes is.takes, names-written task.puts is.puts) refl
op-written draft task (IfMore n) second is fine = rw (second, is.name, fine, names-written task.to is.to, names-written task.takes is.takes, names-written task.puts is.puts) refl
op-written draft task (IfHas word) second is fine = rw (second, is.name, fine, names-written task.to is.to, names-written task.takes is.takes, names-written task.puts is.puts) refl
op-written draft task (Route words) second is fine = rw (second, is.name, words-written words fine, names-written task.to is.to, names-written task.takes is.takes, names-written task.puts is.puts) refl
op-written draft task (Spread n op) second is fine =
    let parts = and_parts (fits_part n) (fits_text_op op) fine in
    rw (second, is.name, parts.0, each-written (task_spot draft.scope (length draft.tasks)) op parts.1, names-written task.to is.to, names-written task.takes is.takes, names-written task.puts is.puts) refl
op-written draft task (Module m) second is fine = cc
op-written draft task (Pipe plan) second is fine =
    let lines = and_parts (fits_pipe_lines plan.spec.lines) (fits_part plan.chunk && (fits_pipes plan.spec.serial plan.ops && (leb (length plan.defers) 256 && fits_defers [] plan.defers))) fine in
    let chunk = and_parts (fits_part plan.chunk) (fits_pipes plan.spec.serial plan.ops && (leb (length plan.defers) 256 && fits_defers [] plan.defers)) lines.1 in
    let pipes = and_parts (fits_pipes plan.spec.serial plan.ops) (leb (length plan.defers) 256 && fits_defers [] plan.defers) chunk.1 in
    let defers = and_parts (leb (length plan.defers) 256) (fits_defers [] plan.defers) pipes.1 in
    let spot = task_spot draft.scope (length draft.tasks) in
    rw (
      second,
      is.name,
      lines.0,
      chunk.0,
      listed-items_of (pipes_from plan.spec.serial plan.ops),
      pipe_objects-written plan.spec.serial plan.ops,
      pipes-written spot (record { serial = []; ops = [] }) plan.spec.serial plan.ops pipes.0,
      listed-items_of (map defer_data plan.defers),
      defer_objects-written plan.defers,
      length-map plan.defers defer_data,
      defers.0,
      defers-written spot [] plan.defers defers.1,
      names-written task.to is.to,
      names-written task.takes is.takes,
      names-written task.puts is.puts,
    ) refl

file_op-written : (draft : DraftRows) (task : TaskNames) (op : FileOpRow) → draft.version ≡ 2 → IsNamed task → fits op ≡ true → IsWritten draft task (file_op_text op) op
unfolding op_rows text_rows
file_op-written draft task (reads text) second is fine = rw (second, is.name, fine, names-written task.to is.to, names-written task.takes is.takes, names-written task.puts is.puts) refl
file_op-written draft task (runs name) second is fine = rw (second, is.name, names-written task.to is.to, names-written task.takes is.takes, names-written task.puts is.puts) refl
file_op-written draft task (does op) second is fine = op-written draft task op second is fine

-- ---- semaphores

abbrev pub sem_text_data : SemText → Data
sem_text_data sem = sem_data sem.name sem.max

semaphore-written : (draft : DraftRows) (sem : SemText) → IsValidSem sem → add_semaphore draft (sem_text_data sem) ≡ Ok (with_semaphore draft sem.name sem.max)
semaphore-written draft sem is = rw (is.name, is.max) refl

semaphores-written : (draft : DraftRows) (sems : List SemText) → AreValidSems sems → walk add_semaphore draft (map sem_text_data sems) ≡ Ok (with_sems_more draft sems)
semaphores-written draft [] fine =
    ap (λ ns. Ok (record draft { sem_names = ns })) (sym (append-nil draft.sem_names)) ∙ ap (λ ms. Ok (record draft { sem_names = draft.sem_names ++ []; sems = ms })) (sym (append-nil draft.sems))
semaphores-written draft (sem ∷ sems) fine =
    rw (semaphore-written draft sem fine.0)
    (semaphores-written (with_semaphore draft sem.name sem.max) sems fine.1
    ∙ ap (λ ns. Ok (record draft { sem_names = ns; sems = (draft.sems ++ sem.max ∷ []) ++ maxima_of sems })) (append_assoc draft.sem_names (sem.name ∷ []) (names_of_sems sems))
    ∙ ap (λ ms. Ok (record draft { sem_names = draft.sem_names ++ names_of_sems (sem ∷ sems); sems = ms })) (append_assoc draft.sems (sem.max ∷ []) (maxima_of sems)))

-- ---- graphs

tasks-written : (draft : DraftRows) (tasks : List TaskText) → draft.version ≡ 2 → AreFine tasks → walk add_task draft (map task_text_data tasks) ≡ Ok (with_tasks draft tasks)
tasks-written draft [] second fine = ap (λ ts. Ok (record draft { tasks = ts })) (sym (append-nil draft.tasks))
tasks-written draft (task ∷ tasks) second fine =
    let named : IsNamed task.names = record { name = fine.0.name; to = fine.0.to; takes = fine.0.takes; puts = fine.0.puts } in
    rw (file_op-written draft task.names task.op second named fine.0.op)
    (tasks-written (with_task_text draft task) tasks second fine.1 ∙ ap (λ ts. Ok (record draft { tasks = ts })) (append_assoc draft.tasks (task ∷ []) tasks))

objects-written : (tasks : List TaskText) → list_all is_object (map task_text_data tasks) ≡ true
objects-written [] = refl
objects-written (task ∷ tasks) = objects-written tasks

sem_objects-written : (sems : List SemText) → list_all is_object (map sem_text_data sems) ≡ true
sem_objects-written [] = refl
sem_objects-written (sem ∷ sems) = sem_objects-written sems

-- the graph of these semaphores and tasks
abbrev written : Scope → List ℕ → List SemText → List TaskText → DraftRows
written scope name sems tasks = record { scope = scope; version = 2; name = name; sem_names = names_of_sems sems; sems = maxima_of sems; tasks = tasks }

graph-written : (scope : Scope) (name : List ℕ) (sems : List SemText) (tasks : List TaskText) → AreValidSems sems → AreFine tasks
    → graph_in (empty_draft scope 2 name) (map sem_text_data sems) (map task_text_data tasks) ≡ Ok (written scope name sems tasks)
graph-written scope name sems tasks fine_sems fine_tasks =
    ap (λ r. r >>= λ start. walk add_task start (map task_text_data tasks)) (semaphores-written (empty_draft scope 2 name) sems fine_sems)
    ∙ tasks-written (with_sems_more (empty_draft scope 2 name) sems) tasks refl fine_tasks

-- a graph that was made is that of its semaphores and tasks
written-is : (scope : Scope) (draft : DraftRows) (made : IsMade scope draft) → draft.version ≡ 2 → written scope draft.name made.sems draft.tasks ≡ draft
written-is scope draft made second = rw (made.sem_names, made.maxima, ← made.scope_is, ← second) refl

module-written : (scope : Scope) (name : List ℕ) (sems : List SemText) (tasks : List TaskText) → is_name name ≡ true → AreValidSems sems → AreFine tasks
    → module_in scope 2 (module_with name (map sem_text_data sems) (map task_text_data tasks)) ≡ Ok (written scope name sems tasks)
module-written scope name sems tasks named fine_sems fine_tasks =
    rw (named, listed-items_of (map task_text_data tasks), objects-written tasks, listed-items_of (map sem_text_data sems), sem_objects-written sems) (graph-written scope name sems tasks fine_sems fine_tasks)

-- ---- modules

-- how these modules are written, of which the first has this number
abbrev pub made_data : (m : ℕ) (drafts : List DraftRows) → AreMade m drafts → List Data
made_data m [] made = []
made_data m (draft ∷ drafts) made = module_with draft.name (map sem_text_data made.1.sems) (map task_text_data draft.tasks) ∷ made_data (suc m) drafts made.2

-- graphs of a file of version 2
abbrev pub AreSecond : List DraftRows → Type 0
AreSecond [] = ⊤
AreSecond (draft ∷ drafts) = (draft.version ≡ 2) × AreSecond drafts

modules-written : (m : ℕ) (before drafts : List DraftRows) (made : AreMade m drafts) → length before ≡ m → AreSecond drafts → walk (add_module 2) before (made_data m drafts made) ≡ Ok (before ++ drafts)
modules-written m before [] made number second = ap Ok (sym (append-nil before))
modules-written m before (draft ∷ drafts) made number second =
    let here : module_in (OfModule (length before)) 2 (module_with draft.name (map sem_text_data made.1.sems) (map task_text_data draft.tasks)) ≡ Ok draft =
    ap (λ k. module_in (OfModule k) 2 (module_with draft.name (map sem_text_data made.1.sems) (map task_text_data draft.tasks))) number
    ∙ module-written (OfModule m) draft.name made.1.sems draft.tasks made.0 made.1.fine_sems made.1.tasks ∙ ap Ok (written-is (OfModule m) draft made.1 second.0) in
    let longer : length (before ++ draft ∷ []) ≡ suc m = omega (arith, length-append before (draft ∷ []), number) in
    ap (λ r. (r >>= λ graph. Ok (before ++ graph ∷ [])) >>= λ next. walk (add_module 2) next (made_data (suc m) drafts made.2)) here
    ∙ modules-written (suc m) (before ++ draft ∷ []) drafts made.2 longer second.1 ∙ ap Ok (append_assoc before (draft ∷ []) drafts)

module_objects-written : (m : ℕ) (drafts : List DraftRows) (made : AreMade m drafts) → list_all is_object (made_data m drafts made) ≡ true
module_objects-written m [] made = refl
module_objects-written m (draft ∷ drafts) made = module_objects-written (suc m) drafts made.2

-- ---- the file

-- a file that was written has just its graphs
pub file-written : (file : FileRows) (made : IsMadeFile file) → file.top.version ≡ 2 → AreSecond file.modules
    → file_in (file_data (made_data 0 file.modules made.modules) (map sem_text_data made.top.sems) (map task_text_data file.top.tasks)) ≡ Ok file
file-written file made second all_second =
    let top : graph_in (empty_draft Top 2 []) (map sem_text_data made.top.sems) (map task_text_data file.top.tasks) ≡ Ok file.top =
    graph-written Top [] made.top.sems file.top.tasks made.top.fine_sems made.top.tasks ∙ ap (λ name. Ok (written Top name made.top.sems file.top.tasks)) (sym made.no_name) ∙ ap Ok (written-is Top file.top made.top second) in
    let modules = modules-written 0 [] file.modules made.modules refl all_second in
    rw (
      listed-items_of (map task_text_data file.top.tasks),
      objects-written file.top.tasks,
      listed-items_of (map sem_text_data made.top.sems),
      sem_objects-written made.top.sems,
      listed-items_of (made_data 0 file.modules made.modules),
      module_objects-written 0 file.modules made.modules,
    ) (rw (top, modules) refl)
