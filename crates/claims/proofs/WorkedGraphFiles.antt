-- Which plan the JSON of a graph file stands for, and else the first refusal, computed on small files.
use Rattle.std.proofs.Common.{◌≡◌, ℕ, zero, suc, ◌<◌, ◌≤◌, true, false, List, [], ◌∷◌, ◌++◌, length, map, All, Some, None, Result, Ok, Err, refl, arith, codes, ap}
use Rattle.std.specs.Prelude.{if◌then◌else◌, ◌==◌}
use Rattle.serde_json.specs.Data.{Data, string, number, unsigned, array, object, no_members, member}
use Rattle.serde_json.specs.View.{items_of}
use Rattle.task_graph.specs.Net.{IsSource}
use Rattle.task_graph.specs.declared.net.EdgeRow.{EdgeRow}
use Rattle.task_graph.specs.declared.net.Shape.TheVariants.{Plain, Choice, Many, Nested}
use Rattle.task_graph.specs.declared.net.TaskRow.{TaskRow}
use Rattle.graph_plans.specs.declared.ops.Op.{Op}
use Rattle.graph_plans.specs.declared.ops.Op.TheVariants.{Input, Read, Text, Match, Back, IfMore, IfHas, Route, Spread, Module as Runs}
use Rattle.graph_plans.specs.declared.ops.TextOp.TheVariants.{Keep, Without, Head, Tail, Skip, Sort, Count}
use Rattle.graph_plans.specs.declared.spots.Spot.TheVariants.{File, Sem, Task, Module, ModuleSem, ModuleTask}
use Rattle.graph_plans.specs.ModuleUses.{first_on_cycle, has_chain, is_on_cycle, modules_run, reaches}
use Rattle.graph_plans.specs.Operations.{IsOp, IsPartSize, IsTextOp, IsWord, shape_of}
use Rattle.std.specs.Arc.{arc_value}
use Rattle.std.specs.Global.{Global}
use Rattle.std.specs.declared.sync.Arc.{Arc}
use Rattle.task_graph.specs.NetRows.{NetRows}
use Rattle.graph_plans.specs.declared.plans.Graph.{Graph}
use Rattle.graph_plans.specs.PlanRows.{GraphRows, PlanRows, IsGraph, IsPlan, IsTextName, edge_count, graph_rows, graphs_of, module_names, module_uses, plan_rows, semaphore_count, task_count}
use Rattle.task_graph.specs.Sources.{HasNoSource}
use Rattle.graph_plans.specs.Sources.{NoSourceAnswer}
use Rattle.graph_drafts.specs.declared.refusals.GraphError.{GraphError}
use Rattle.graph_drafts.specs.declared.refusals.GraphError.TheVariants.{NotJson, BadField, NoSuchName, Repeated, ModuleCycle, TooMany}
use Rattle.graph_drafts.specs.declared.refusals.Kind.TheVariants as kind
use Rattle.graph_drafts.specs.declared.scopes.Scope.{Scope}
use Rattle.graph_drafts.specs.declared.scopes.Scope.TheVariants.{Top, Module as OfModule}
use Rattle.graph_file.specs.declared.numbers.TaskNumbers.{TaskNumbers}
use Rattle.graph_drafts.specs.Contents.{is_name, is_name_byte, line_count_of, part_size_of, whole_of}
use Rattle.graph_drafts.specs.Fields.{allowed, graph_spot, needed, only, sem_spot, task_spot}
use Rattle.graph_drafts.specs.OpRows.{FileOpRow, does, reads, runs}
use Rattle.graph_drafts.specs.FileText.{DraftRows, FileRows, TaskNames, TaskText, empty_draft, puts_field, takes_field, with_semaphore, with_task_text}
use Rattle.graph_file.specs.PlanText.{Counts, FileNumbers, HasFile, PlanText, add_graph_numbers, add_module_name, add_name, add_numbers, add_task_name, edge_total, edges_from, file_counts, file_names, file_numbers, file_texts, file_uses, graph_names, graph_numbers, graph_with, graphs_with, mentioned, mentioned_by_graphs, mentioned_by_tasks, names_of_modules, names_of_tasks, nests_too_deep, number_among, numbered, ops_of, plan_of, runs_one_of, task_names, task_row, task_rows, used_before, used_by_tasks, within_counts, within_limits}
use Rattle.graph_file.proofs.PlanLemmas.{IsPlan-read}
use Rattle.json.specs.Print.{escape_byte}
use Rattle.std.specs.Fmt.{digits}
use Rattle.graph_drafts.specs.Steps.{otherwise, walk}
use Rattle.graph_writer.specs.WrittenPlan.{each_data, module_data, module_with, op_text, to_of, plan_data, file_data, sem_data, sems_from, sems_named, spread_text, task_data, tasks_data, plan_text}

abbrev a : List ℕ
a = codes "a"

abbrev b : List ℕ
b = codes "b"

abbrev c : List ℕ
c = codes "c"

-- ---- steps, in order

abbrev push : List ℕ → ℕ → Result (List ℕ) GraphError
push before n = if n == 0 then Err (TooMany kind.Tasks) else (if n == 1 then Err NotJson else Ok (before ++ n ∷ []))

each_step : walk push (2 ∷ []) (3 ∷ 4 ∷ 5 ∷ []) ≡ Ok (2 ∷ 3 ∷ 4 ∷ 5 ∷ [])
each_step = refl

first_refusal : walk push [] (3 ∷ 1 ∷ 0 ∷ 4 ∷ []) ≡ Err NotJson
first_refusal = refl

one_refusal_for_all : (otherwise (push [] 0) NotJson ≡ Err NotJson) × (otherwise (push [] 7) NotJson ≡ Ok (7 ∷ []))
one_refusal_for_all = (refl, refl)

-- ---- contents

names_of_64_bytes : is_name (codes "aZ09_-.aaaaaaaaaaaaaaaaaaaaaaaaaaaaaaaaaaaaaaaaaaaaaaaaaaaaaaaaz") ≡ true
unfolding is_name_byte
names_of_64_bytes = refl

name_of_65_bytes : is_name (codes "aZ09_-.aaaaaaaaaaaaaaaaaaaaaaaaaaaaaaaaaaaaaaaaaaaaaaaaaaaaaaaazz") ≡ false
unfolding is_name_byte
name_of_65_bytes = refl

no_empty_name : is_name [] ≡ false
no_empty_name = refl

name_with_a_space : is_name (codes "a b") ≡ false
unfolding is_name_byte
name_with_a_space = refl

lines_at_their_limit : line_count_of (number (unsigned 1000000000)) ≡ Some 1000000000
lines_at_their_limit = refl

lines_over_their_limit : line_count_of (number (unsigned 1000000001)) ≡ None
lines_over_their_limit = refl

parts_at_their_limits : (part_size_of (number (unsigned 1)) ≡ Some 1) × (part_size_of (number (unsigned 1000000000)) ≡ Some 1000000000) × (part_size_of (number (unsigned 0)) ≡ None) × (part_size_of (number (unsigned 1000000001)) ≡ None)
parts_at_their_limits = (refl, refl, refl, refl)

no_number : line_count_of (string a) ≡ None
no_number = refl

least_and_most : (whole_of 1 1 (number (unsigned 1)) ≡ Some 1) × (whole_of 1 1 (number (unsigned 0)) ≡ None) × (whole_of 1 1 (number (unsigned 2)) ≡ None)
least_and_most = (refl, refl, refl)

-- ---- fields

abbrev fields : Data
fields = object (member a (number (unsigned 7)) (member b (string c) (member c (string a) no_members)))

field_read : needed line_count_of (Task 3) a fields ≡ Ok 7
field_read = refl

field_of_a_wrong_kind : needed line_count_of (Task 3) b fields ≡ Err (BadField (Task 3) b)
field_of_a_wrong_kind = refl

field_missing : needed line_count_of (Task 3) (codes "d") fields ≡ Err (BadField (Task 3) (codes "d"))
field_missing = refl

field_that_may_be_missing : allowed 5 line_count_of (Task 3) (codes "d") fields ≡ Ok 5
field_that_may_be_missing = refl

field_that_is_there : allowed 5 line_count_of (Task 3) a fields ≡ Ok 7
field_that_is_there = refl

field_that_may_be_missing_of_a_wrong_kind : allowed 5 line_count_of (Task 3) b fields ≡ Err (BadField (Task 3) b)
field_that_may_be_missing_of_a_wrong_kind = refl

first_unknown_field : only (a ∷ []) (Task 3) fields ≡ Err (BadField (Task 3) b)
first_unknown_field = refl

each_field_known : only (c ∷ a ∷ b ∷ []) (Task 3) fields ≡ Ok tt
each_field_known = refl

spots_in_the_top_graph : (graph_spot Top ≡ File) × (sem_spot Top 2 ≡ Sem 2) × (task_spot Top 3 ≡ Task 3)
spots_in_the_top_graph = (refl, refl, refl)

spots_in_a_module : (graph_spot (OfModule 1) ≡ Module 1) × (sem_spot (OfModule 1) 2 ≡ ModuleSem 1 2) × (task_spot (OfModule 1) 3 ≡ ModuleTask 1 3)
spots_in_a_module = (refl, refl, refl)

spots_past_the_greatest_number : (graph_spot (OfModule 4294967296) ≡ Module 4294967295) × (sem_spot (OfModule 4294967296) 4294967297 ≡ ModuleSem 4294967295 4294967295) × (task_spot Top 4294967296 ≡ Task 4294967295)
spots_past_the_greatest_number = (refl, refl, refl)

-- ---- tasks and texts

-- one task, `a`, that reads the text `b` and leads to `c`, and a semaphore `s` of two units
abbrev task : List ℕ → List (List ℕ) → List (List ℕ) → List (List ℕ) → TaskNames
task name to takes puts = record { name = name; to = to; takes = takes; puts = puts }

abbrev s : List ℕ
s = codes "s"

abbrev file_task : TaskNames → FileOpRow → TaskText
file_task names op = record { names = names; op = op }

abbrev draft : DraftRows
draft = record { scope = Top; version = 2; name = []; sem_names = s ∷ []; sems = 2 ∷ []; tasks = file_task (task a (c ∷ []) [] []) (reads b) ∷ [] }

task_more : with_task_text draft (file_task (task c (a ∷ b ∷ []) (s ∷ []) []) (does Match)) ≡ record draft { tasks = file_task (task a (c ∷ []) [] []) (reads b) ∷ file_task (task c (a ∷ b ∷ []) (s ∷ []) []) (does Match) ∷ [] }
task_more = refl

semaphore_more : with_semaphore draft c 7 ≡ record draft { sem_names = s ∷ c ∷ []; sems = 2 ∷ 7 ∷ [] }
semaphore_more = refl

nothing_at_first : empty_draft (OfModule 3) 2 a ≡ record { scope = OfModule 3; version = 2; name = a; sem_names = []; sems = []; tasks = [] }
nothing_at_first = refl

texts_that_are_mentioned : (mentioned (b ∷ []) (reads a) ≡ b ∷ a ∷ []) × (mentioned (b ∷ []) (reads b) ≡ b ∷ []) × (mentioned (b ∷ []) (runs a) ≡ b ∷ []) × (mentioned (b ∷ []) (does Match) ≡ b ∷ [])
texts_that_are_mentioned = (refl, refl, refl, refl)

-- a task that does this and has no edges and semaphores
abbrev doing : List ℕ → FileOpRow → TaskText
doing name op = file_task (task name [] [] []) op

texts_of_tasks : mentioned_by_tasks (c ∷ []) (doing a (reads b) ∷ doing b (runs a) ∷ doing c (reads c) ∷ doing s (reads a) ∷ []) ≡ c ∷ b ∷ a ∷ []
texts_of_tasks = refl

-- these tasks in the top graph and in two modules
abbrev file : List TaskText → List TaskText → List TaskText → FileRows
file top first second = record {
  top = record draft { sem_names = []; sems = []; tasks = top };
  modules = record { scope = OfModule 0; version = 2; name = a; sem_names = []; sems = []; tasks = first } ∷ record { scope = OfModule 1; version = 2; name = b; sem_names = []; sems = []; tasks = second } ∷ [];
}

texts_of_graphs : mentioned_by_graphs [] ((file (doing a (reads c) ∷ []) [] []).top ∷ (file (doing a (reads b) ∷ doing b (reads c) ∷ []) [] []).top ∷ []) ≡ c ∷ b ∷ []
texts_of_graphs = refl

texts_of_a_file : file_texts (file (doing a (reads c) ∷ []) (doing a (reads b) ∷ doing b (reads c) ∷ []) (doing a (reads a) ∷ [])) ≡ c ∷ b ∷ a ∷ []
texts_of_a_file = refl

numbers_of_names : (number_among (a ∷ b ∷ a ∷ []) a ≡ 0) × (number_among (a ∷ b ∷ []) b ≡ 1) × (number_among (a ∷ b ∷ []) c ≡ 2)
numbers_of_names = (refl, refl, refl)

operations_by_numbers : (numbered (a ∷ b ∷ []) (c ∷ s ∷ []) (reads s) ≡ Read 1) × (numbered (a ∷ b ∷ []) (c ∷ s ∷ []) (runs b) ≡ Runs 1) × (numbered (a ∷ b ∷ []) (c ∷ s ∷ []) (does Match) ≡ Match)
operations_by_numbers = (refl, refl, refl)

operations_of_tasks : ops_of (a ∷ b ∷ []) (c ∷ []) (doing a (reads c) ∷ doing b (runs a) ∷ doing c (does Back) ∷ []) ≡ Read 0 ∷ Runs 0 ∷ Back ∷ []
operations_of_tasks = refl

-- version 1 has one field for both lists
fields_of_versions : (takes_field 1 ≡ codes "holds") × (puts_field 1 ≡ codes "holds") × (takes_field 2 ≡ codes "acquire") × (puts_field 2 ≡ codes "release")
fields_of_versions = (refl, refl, refl, refl)

-- ---- the classes of refusals, in their order

-- tasks a and b, and semaphores s and c
abbrev two : DraftRows
two = record { scope = Top; version = 2; name = []; sem_names = s ∷ c ∷ []; sems = 1 ∷ 1 ∷ []; tasks = doing a (does Match) ∷ doing b (does Match) ∷ [] }

-- the same in a module
abbrev inner : DraftRows
inner = record two { scope = OfModule 4 }

-- nothing yet, and one task
abbrev nobody : TaskNumbers
nobody = record { to = []; takes = []; puts = [] }

names_of_two : task_names two ≡ a ∷ b ∷ []
names_of_two = refl

-- the first task, or one behind another
numbers_found : add_numbers [] two [] (file_task (task a (b ∷ a ∷ []) (c ∷ s ∷ []) (c ∷ [])) (does Match)) ≡ Ok (record { to = 1 ∷ 0 ∷ []; takes = 1 ∷ 0 ∷ []; puts = 1 ∷ [] } ∷ [])
numbers_found = refl

runs_of_modules : (runs_one_of (a ∷ []) (runs a) ≡ true) × (runs_one_of (a ∷ []) (runs b) ≡ false) × (runs_one_of [] (reads a) ≡ true) × (runs_one_of [] (does Match) ≡ true)
runs_of_modules = (refl, refl, refl, refl)

no_such_module : add_numbers (c ∷ []) two (nobody ∷ []) (file_task (task b (c ∷ []) (a ∷ []) []) (runs a)) ≡ Err (NoSuchName (Task 1) (codes "module"))
no_such_module = refl

no_such_module_in_a_module : add_numbers (c ∷ []) inner (nobody ∷ []) (doing b (runs a)) ≡ Err (NoSuchName (ModuleTask 4 1) (codes "module"))
no_such_module_in_a_module = refl

edge_to_no_task : add_numbers (c ∷ []) two (nobody ∷ []) (file_task (task b (a ∷ c ∷ []) (a ∷ []) []) (runs c)) ≡ Err (NoSuchName (Task 1) (codes "to"))
edge_to_no_task = refl

no_such_semaphore_taken : add_numbers [] two (nobody ∷ []) (file_task (task b (a ∷ []) (s ∷ a ∷ []) (a ∷ [])) (does Match)) ≡ Err (NoSuchName (Task 1) (codes "acquire"))
no_such_semaphore_taken = refl

no_such_semaphore_put : add_numbers [] inner (nobody ∷ []) (file_task (task b (a ∷ []) (s ∷ []) (a ∷ [])) (does Match)) ≡ Err (NoSuchName (ModuleTask 4 1) (codes "release"))
no_such_semaphore_put = refl

no_such_semaphore_held : add_numbers [] (record two { version = 1 }) (nobody ∷ []) (file_task (task b (a ∷ []) (a ∷ []) (a ∷ [])) (does Match)) ≡ Err (NoSuchName (Task 1) (codes "holds"))
no_such_semaphore_held = refl

numbers_of_a_graph : graph_numbers [] (record two { tasks = file_task (task a (b ∷ []) [] []) (does Match) ∷ doing b (does Match) ∷ [] }) ≡ Ok (record { to = 1 ∷ []; takes = []; puts = [] } ∷ nobody ∷ [])
numbers_of_a_graph = refl

graph_more : add_graph_numbers [] ([] ∷ []) (record two { tasks = doing a (does Match) ∷ [] }) ≡ Ok ([] ∷ (nobody ∷ []) ∷ [])
graph_more = refl

numbers_of_a_file : file_numbers (file (doing a (runs b) ∷ []) [] (file_task (task c (c ∷ []) [] []) (does Match) ∷ [])) ≡ Ok (record { top = nobody ∷ []; modules = [] ∷ (record { to = 0 ∷ []; takes = []; puts = [] } ∷ []) ∷ [] })
numbers_of_a_file = refl

-- the top graph before the modules, and these in their order
first_graph_without_a_name : (file_numbers (file (doing a (runs c) ∷ []) (doing a (runs c) ∷ []) []) ≡ Err (NoSuchName (Task 0) (codes "module"))) × (file_numbers (file [] (doing a (runs c) ∷ []) (doing a (runs c) ∷ [])) ≡ Err (NoSuchName (ModuleTask 0 0) (codes "module")))
first_graph_without_a_name = (refl, refl)

-- where a name occurs twice
abbrev twice : ℕ → GraphError
twice place = Repeated (Sem place) (codes "name")

name_added : add_name twice (a ∷ b ∷ []) c ≡ Ok (a ∷ b ∷ c ∷ [])
name_added = refl

name_of_before : add_name twice (a ∷ b ∷ []) a ≡ Err (Repeated (Sem 2) (codes "name"))
name_of_before = refl

task_added : add_task_name Top 2 (a ∷ b ∷ []) (task c [] (s ∷ c ∷ []) (c ∷ s ∷ [])) ≡ Ok (a ∷ b ∷ c ∷ [])
task_added = refl

task_of_before : add_task_name Top 2 (a ∷ b ∷ []) (task a [] (s ∷ s ∷ []) []) ≡ Err (Repeated (Task 2) (codes "name"))
task_of_before = refl

semaphore_taken_twice : add_task_name (OfModule 4) 2 (a ∷ b ∷ []) (task c [] (s ∷ s ∷ []) (c ∷ c ∷ [])) ≡ Err (Repeated (ModuleTask 4 2) (codes "acquire"))
semaphore_taken_twice = refl

semaphore_put_twice : add_task_name Top 2 (a ∷ b ∷ []) (task c [] (s ∷ []) (c ∷ s ∷ c ∷ [])) ≡ Err (Repeated (Task 2) (codes "release"))
semaphore_put_twice = refl

semaphore_held_twice : add_task_name Top 1 (a ∷ b ∷ []) (task c [] (s ∷ s ∷ []) (s ∷ s ∷ [])) ≡ Err (Repeated (Task 2) (codes "holds"))
semaphore_held_twice = refl

names_of_a_graph : graph_names two ≡ Ok (a ∷ b ∷ [])
names_of_a_graph = refl

semaphores_before_tasks : graph_names (record inner { sem_names = s ∷ s ∷ []; tasks = doing a (does Match) ∷ doing a (does Match) ∷ [] }) ≡ Err (Repeated (ModuleSem 4 1) (codes "name"))
semaphores_before_tasks = refl

first_name_that_stands_before : graph_names (record two { tasks = doing a (does Match) ∷ doing b (does Match) ∷ doing b (does Match) ∷ doing a (does Match) ∷ [] }) ≡ Err (Repeated (Task 2) (codes "name"))
first_name_that_stands_before = refl

module_added : add_module_name (c ∷ []) (record inner { name = a }) ≡ Ok (c ∷ a ∷ [])
module_added = refl

module_of_before : add_module_name (c ∷ a ∷ []) (record inner { name = a; sem_names = s ∷ s ∷ [] }) ≡ Err (Repeated (Module 2) (codes "name"))
module_of_before = refl

name_twice_in_a_module : add_module_name (c ∷ []) (record inner { name = a; sem_names = s ∷ s ∷ [] }) ≡ Err (Repeated (ModuleSem 4 1) (codes "name"))
name_twice_in_a_module = refl

names_of_a_file : file_names (file (doing a (does Match) ∷ []) (doing a (does Match) ∷ []) []) ≡ Ok (a ∷ b ∷ [])
names_of_a_file = refl

top_graph_before_modules : file_names (record (file (doing a (does Match) ∷ doing a (does Match) ∷ []) [] []) { modules = inner ∷ inner ∷ [] }) ≡ Err (Repeated (Task 1) (codes "name"))
top_graph_before_modules = refl

edges_by_tasks : edges_from 3 (record { to = 1 ∷ 0 ∷ []; takes = []; puts = [] } ∷ record { to = 4 ∷ []; takes = []; puts = [] } ∷ [])
    ≡ record { from = 3; to = 1; start = false } ∷ record { from = 3; to = 0; start = false } ∷ record { from = 4; to = 4; start = false } ∷ []
edges_by_tasks = refl

-- each list is put in order
row_of_a_task : task_row 3 Back (record { to = 1 ∷ []; takes = 2 ∷ 0 ∷ []; puts = 1 ∷ [] }) ≡ record { shape = Choice; takes = 0 ∷ 2 ∷ []; puts = 1 ∷ [] }
row_of_a_task = refl

rows_of_tasks : task_rows 1 (Match ∷ Back ∷ []) (record { to = []; takes = 0 ∷ []; puts = [] } ∷ record { to = []; takes = []; puts = 0 ∷ [] } ∷ []) ≡ record { shape = Plain; takes = 0 ∷ []; puts = [] } ∷ record { shape = Choice; takes = []; puts = 0 ∷ [] } ∷ []
rows_of_tasks = refl

-- ---- modules that run modules

modules_that_run : modules_run (Runs 2 ∷ Match ∷ Spread 1 Sort ∷ Runs 0 ∷ Runs 2 ∷ []) ≡ 2 ∷ 0 ∷ 2 ∷ []
modules_that_run = refl

used_by_operations : (used_before (a ∷ b ∷ []) (7 ∷ []) (runs b) ≡ 1 ∷ 7 ∷ []) × (used_before (a ∷ []) (7 ∷ []) (reads a) ≡ 7 ∷ []) × (used_before (a ∷ []) (7 ∷ []) (does Match) ≡ 7 ∷ [])
used_by_operations = (refl, refl, refl)

used_by_some_tasks : used_by_tasks (a ∷ b ∷ []) (doing a (runs b) ∷ doing b (reads a) ∷ doing c (runs a) ∷ []) ≡ 1 ∷ 0 ∷ []
used_by_some_tasks = refl

uses_in_a_file : file_uses (file (doing a (runs a) ∷ []) (doing a (runs b) ∷ doing c (runs b) ∷ []) []) ≡ (1 ∷ 1 ∷ []) ∷ [] ∷ []
uses_in_a_file = refl

-- of modules 0 to 3, module 0 runs the others, 1 and 2 each other, and 3 none
abbrev uses : List (List ℕ)
uses = (1 ∷ 2 ∷ 3 ∷ []) ∷ (2 ∷ []) ∷ (1 ∷ []) ∷ [] ∷ []

chains_of_uses : (has_chain 0 uses [] ≡ true) × (has_chain 1 uses [] ≡ false) × (has_chain 1 uses (3 ∷ []) ≡ true) × (has_chain 2 uses (3 ∷ []) ≡ false) × (has_chain 2 uses (3 ∷ 0 ∷ []) ≡ true) × (has_chain 9 uses (1 ∷ []) ≡ true)
chains_of_uses = (refl, refl, refl, refl, refl, refl)

reached_by_uses : (reaches 0 uses 3 3 ≡ true) × (reaches 0 uses 0 3 ≡ false) × (reaches 1 uses 0 3 ≡ true) × (reaches 4 uses 3 0 ≡ false) × (reaches 4 uses 1 3 ≡ false)
reached_by_uses = (refl, refl, refl, refl, refl)

on_cycles : (is_on_cycle uses 0 ≡ false) × (is_on_cycle uses 1 ≡ true) × (is_on_cycle uses 2 ≡ true) × (is_on_cycle uses 3 ≡ false) × (is_on_cycle ((0 ∷ []) ∷ []) 0 ≡ true)
on_cycles = (refl, refl, refl, refl, refl)

least_on_a_cycle : (first_on_cycle uses ≡ Some 1) × (first_on_cycle ((1 ∷ []) ∷ [] ∷ []) ≡ None)
least_on_a_cycle = (refl, refl)

-- a chain of nine modules from the first of these on, each of which runs the next
abbrev nine : List (List ℕ) → List DraftRows
nine (first ∷ second ∷ more) = record { scope = OfModule 0; version = 2; name = first; sem_names = []; sems = []; tasks = doing a (runs second) ∷ [] } ∷ nine (second ∷ more)
nine (last ∷ []) = record { scope = OfModule 0; version = 2; name = last; sem_names = []; sems = []; tasks = [] } ∷ []
nine [] = []

abbrev nine_names : List (List ℕ)
nine_names = codes "1" ∷ codes "2" ∷ codes "3" ∷ codes "4" ∷ codes "5" ∷ codes "6" ∷ codes "7" ∷ codes "8" ∷ codes "9" ∷ []

chains_from_the_top_graph :
    (nests_too_deep (record { top = record draft { tasks = doing a (runs (codes "1")) ∷ [] }; modules = nine nine_names }) ≡ true)
    × (nests_too_deep (record { top = record draft { tasks = doing a (runs (codes "2")) ∷ [] }; modules = nine nine_names }) ≡ false)
    × (nests_too_deep (record { top = draft; modules = nine nine_names }) ≡ false)
chains_from_the_top_graph = (refl, refl, refl)

-- ---- plans of files

edges_that_leave : edge_total (record { to = 1 ∷ 1 ∷ []; takes = []; puts = [] } ∷ nobody ∷ record { to = 0 ∷ []; takes = []; puts = [] } ∷ []) ≡ 3
edges_that_leave = refl

counts_of_a_file : file_counts (record (file (doing a (does Match) ∷ []) (doing a (does Match) ∷ doing b (does Match) ∷ []) []) { top = two }) (record { top = nobody ∷ nobody ∷ []; modules = (record { to = 0 ∷ 1 ∷ []; takes = []; puts = [] } ∷ nobody ∷ []) ∷ [] ∷ [] })
    ≡ record { tasks = 4; edges = 2; sems = 2 }
counts_of_a_file = refl

graph_of_a_draft : graph_with (a ∷ b ∷ []) (c ∷ []) (record draft { name = s; sem_names = s ∷ b ∷ []; sems = 2 ∷ 1 ∷ []; tasks = doing a (reads c) ∷ doing c (runs b) ∷ [] }) (record { to = 1 ∷ []; takes = 1 ∷ 0 ∷ []; puts = [] } ∷ record { to = []; takes = []; puts = 0 ∷ [] } ∷ []) ≡ record {
  name = s;
  names = a ∷ c ∷ [];
  ops = Read 0 ∷ Runs 1 ∷ [];
  sem_names = s ∷ b ∷ [];
  net = record {
    tasks = record { shape = Plain; takes = 0 ∷ 1 ∷ []; puts = [] } ∷ record { shape = Nested; takes = []; puts = 0 ∷ [] } ∷ [];
    edges = record { from = 0; to = 1; start = false } ∷ [];
    sems = 2 ∷ 1 ∷ [];
  };
}
graph_of_a_draft = refl

abbrev without_tasks : List ℕ → GraphRows
without_tasks name = record { name = name; names = []; ops = []; sem_names = []; net = record { tasks = []; edges = []; sems = [] } }

graphs_of_drafts : graphs_with [] [] (file [] [] []).modules ([] ∷ [] ∷ []) ≡ without_tasks a ∷ without_tasks b ∷ []
graphs_of_drafts = refl

plan_of_a_file : plan_of (file (doing c (runs b) ∷ []) (doing c (reads s) ∷ []) []) ≡ Ok (record {
  top = record { name = []; names = c ∷ []; ops = Runs 1 ∷ []; sem_names = []; net = record { tasks = record { shape = Nested; takes = []; puts = [] } ∷ []; edges = []; sems = [] } };
  modules = record { name = a; names = c ∷ []; ops = Read 0 ∷ []; sem_names = []; net = record { tasks = record { shape = Plain; takes = []; puts = [] } ∷ []; edges = []; sems = [] } } ∷ without_tasks b ∷ [];
  texts = s ∷ [];
})
plan_of_a_file = refl

names_that_are_there_before_names_that_differ : plan_of (file (doing c (does Match) ∷ doing c (runs c) ∷ []) [] []) ≡ Err (NoSuchName (Task 1) (codes "module"))
names_that_are_there_before_names_that_differ = refl

names_that_differ_before_cycles : plan_of (file (doing c (does Match) ∷ doing c (does Match) ∷ []) (doing c (runs a) ∷ []) []) ≡ Err (Repeated (Task 1) (codes "name"))
names_that_differ_before_cycles = refl

module_that_runs_itself : plan_of (file [] [] (doing c (runs b) ∷ [])) ≡ Err (ModuleCycle b)
module_that_runs_itself = refl

modules_that_run_each_other : plan_of (file (doing c (runs a) ∷ []) (doing c (runs b) ∷ []) (doing c (runs a) ∷ [])) ≡ Err (ModuleCycle a)
modules_that_run_each_other = refl

-- ---- operations

shapes : map shape_of (Input ∷ Read 0 ∷ Text Sort ∷ Match ∷ Back ∷ IfMore 1 ∷ IfHas a ∷ Route (a ∷ []) ∷ Spread 1 Sort ∷ Runs 0 ∷ []) ≡ Plain ∷ Plain ∷ Plain ∷ Plain ∷ Choice ∷ Choice ∷ Choice ∷ Many ∷ Nested ∷ Nested ∷ []
shapes = refl

read_of_a_text : IsOp 2 0 (Read 1)
read_of_a_text = omega arith

read_of_no_text : ¬ IsOp 2 7 (Read 2)
read_of_no_text is = absurd (omega (arith, is))

lines_named : IsTextOp (Head 1000000000) × IsTextOp (Tail 1000000000) × IsTextOp (Skip 1000000000) × IsOp 0 0 (IfMore 1000000000)
lines_named = (omega arith, omega arith, omega arith, omega arith)

too_many_lines_first : ¬ IsTextOp (Head 1000000001)
too_many_lines_first is = absurd (omega (arith, is))

too_many_lines_last : ¬ IsTextOp (Tail 1000000001)
too_many_lines_last is = absurd (omega (arith, is))

too_many_lines_left_out : ¬ IsTextOp (Skip 1000000001)
too_many_lines_left_out is = absurd (omega (arith, is))

too_many_lines_asked : ¬ IsOp 0 0 (IfMore 1000000001)
too_many_lines_asked is = absurd (omega (arith, is))

long_word : (word : List ℕ) → length word ≡ 4096 → IsOp 0 0 (IfHas word) × IsTextOp (Keep word) × IsTextOp (Without word)
long_word word is = (omega (arith, is), omega (arith, is), omega (arith, is))

too_long_a_word : (word : List ℕ) → length word ≡ 4097 → ¬ IsWord word
too_long_a_word word long is = absurd (omega (arith, long, is))

many_words : (words : List (List ℕ)) → length words ≡ 256 → All IsWord words → IsOp 0 0 (Route words)
many_words words is each = (omega (arith, is), each)

too_many_words : (words : List (List ℕ)) → length words ≡ 257 → ¬ IsOp 0 0 (Route words)
too_many_words words many is = absurd (omega (arith, many, is.0))

run_of_a_module : IsOp 0 2 (Runs 1) × (¬ IsOp 7 2 (Runs 2))
run_of_a_module = (omega arith, λ is. absurd (omega (arith, is)))

parts_of_lines : IsOp 0 0 (Spread 1 Sort) × IsOp 0 0 (Spread 1000000000 (Head 1000000000))
parts_of_lines = ((record { least = omega arith; most = omega arith }, tt), (record { least = omega arith; most = omega arith }, omega arith))

parts_without_lines : ¬ IsOp 0 0 (Spread 0 Sort)
parts_without_lines is = absurd (omega (arith, is.0.least))

parts_of_too_many_lines : ¬ IsOp 0 0 (Spread 1000000001 Sort)
parts_of_too_many_lines is = absurd (omega (arith, is.0.most))

parts_that_keep_too_many_lines : ¬ IsOp 0 0 (Spread 1 (Head 1000000001))
parts_that_keep_too_many_lines is = absurd (omega (arith, is.1))

-- ---- graphs without a source

abbrev row : TaskRow
row = record { shape = Plain; takes = []; puts = [] }

abbrev graph : List TaskRow → List EdgeRow → GraphRows
graph tasks edges = record { name = []; names = []; ops = []; sem_names = []; net = record { tasks = tasks; edges = edges; sems = [] } }

-- a task that leads to itself
abbrev ring : GraphRows
ring = graph (row ∷ []) (record { from = 0; to = 0; start = false } ∷ [])

no_tasks_need_no_source : ¬ HasNoSource (graph [] []).net
no_tasks_need_no_source is = absurd (omega (arith, is.some))

ring_has_no_source : HasNoSource ring.net
ring_has_no_source = record { some = omega arith; none = none }
  where
    none : (t : ℕ) → t < 1 → IsSource ring.net t → ⊥
    none zero below is = absurd (cc)
    none (suc t) below is = absurd (omega (arith, below))

task_without_an_in_edge : ¬ HasNoSource (graph (row ∷ []) []).net
task_without_an_in_edge is = is.none 0 (omega arith) refl

-- an empty top graph over two modules without a source
abbrev two_modules : GraphRows → PlanRows
two_modules top = record { top = top; modules = ring ∷ ring ∷ []; texts = [] }

top_without_a_source : NoSourceAnswer (two_modules ring) (Some File)
top_without_a_source = ring_has_no_source

module_without_a_source : NoSourceAnswer (two_modules (graph [] [])) (Some (Module 0))
module_without_a_source = (omega arith, record { top = no_tasks_need_no_source; modules = λ k d below. absurd (omega (arith, below)) }, λ d. ring_has_no_source)

not_the_first_module : ¬ NoSourceAnswer (two_modules (graph [] [])) (Some (Module 1))
not_the_first_module is = is.1.modules 0 ring (omega arith) ring_has_no_source

top_before_a_module : ¬ NoSourceAnswer (two_modules ring) (Some (Module 0))
top_before_a_module is = is.1.top ring_has_no_source

no_source_hidden : ¬ NoSourceAnswer (two_modules (graph [] [])) None
no_source_hidden is = is.modules 1 ring (omega arith) ring_has_no_source

-- ---- what a plan consists of

rows_of_a_graph : (net : Arc NetRows Global) → graph_rows (record { name = a; names = b ∷ []; ops = Match ∷ []; sem_names = c ∷ []; net = net }) ≡ record { name = a; names = b ∷ []; ops = Match ∷ []; sem_names = c ∷ []; net = arc_value net }
rows_of_a_graph net = refl

rows_of_a_plan : (top first second : Graph) → plan_rows (record { top = top; modules = first ∷ second ∷ []; texts = a ∷ b ∷ [] }) ≡ record { top = graph_rows top; modules = graph_rows first ∷ graph_rows second ∷ []; texts = a ∷ b ∷ [] }
rows_of_a_plan top first second = refl

-- ---- the rules of a plan

-- a plan without edges
abbrev plan_with_tasks : List (List ℕ) → List Op → List TaskRow → List (List ℕ) → PlanRows
plan_with_tasks names ops tasks texts = record {
  top = record { name = []; names = names; ops = ops; sem_names = []; net = record { tasks = tasks; edges = []; sems = [] } };
  modules = [];
  texts = texts;
}

-- the top graph of a plan keeps the rules of graphs
abbrev top_kept : (plan : PlanRows) → IsPlan plan → IsGraph (length plan.texts) (length plan.modules) plan.top
top_kept plan is = is.graphs 0 plan.top (omega arith)

two_tasks_of_a_name : ¬ IsPlan (plan_with_tasks (a ∷ a ∷ []) (Match ∷ Match ∷ []) (row ∷ row ∷ []) [])
two_tasks_of_a_name is = (top_kept (plan_with_tasks (a ∷ a ∷ []) (Match ∷ Match ∷ []) (row ∷ row ∷ []) []) is).names_differ 0 1 [] (omega arith) (omega arith) refl

a_text_twice : ¬ IsPlan (plan_with_tasks [] [] [] (b ∷ b ∷ []))
a_text_twice is = is.texts_differ 0 1 [] (omega arith) (omega arith) refl

task_without_a_name : ¬ IsGraph 0 0 (plan_with_tasks (a ∷ []) (Match ∷ Match ∷ []) (row ∷ row ∷ []) []).top
task_without_a_name is = absurd (omega (arith, is.names))

operation_of_another_shape : ¬ IsGraph 0 0 (plan_with_tasks (a ∷ []) (Back ∷ []) (row ∷ []) []).top
operation_of_another_shape is = let same : Plain ∷ [] ≡ Choice ∷ [] = is.shapes in absurd (cc)

operation_on_no_text : ¬ IsGraph 1 0 (plan_with_tasks (a ∷ []) (Read 1 ∷ []) (row ∷ []) (b ∷ [])).top
operation_on_no_text is = let below : 1 < 1 = is.ops 0 Match (omega arith) in absurd (omega (arith, below))

operation_of_no_module : ¬ IsPlan (plan_with_tasks (a ∷ []) (Runs 0 ∷ []) (record row { shape = Nested } ∷ []) [])
operation_of_no_module is = let below : 0 < 0 = (top_kept (plan_with_tasks (a ∷ []) (Runs 0 ∷ []) (record row { shape = Nested } ∷ []) []) is).ops 0 Match (omega arith) in absurd (omega (arith, below))

text_without_a_name : ¬ IsPlan (plan_with_tasks [] [] [] ([] ∷ []))
text_without_a_name is = let named : IsTextName [] = is.texts 0 [] (omega arith) in absurd (omega (arith, named.least))

-- The graph itself has no name, each semaphore one and a maximum that isn't too great, and no edge begins with a token.
abbrev with_top : (GraphRows → GraphRows) → PlanRows
with_top changed = record (plan_with_tasks [] [] [] []) { top = changed (plan_with_tasks [] [] [] []).top }

named_graph : ¬ IsPlan (with_top (λ top. record top { name = a }))
named_graph is = absurd (omega (arith, ap length is.name))

name_of_no_semaphore : ¬ IsGraph 0 0 (with_top (λ top. record top { sem_names = a ∷ [] })).top
name_of_no_semaphore is = absurd (omega (arith, is.sem_names))

semaphore_without_a_name : ¬ IsGraph 0 0 (with_top (λ top. record top { net = record { tasks = []; edges = []; sems = 1 ∷ [] } })).top
semaphore_without_a_name is = absurd (omega (arith, is.sem_names))

abbrev with_semaphores : List (List ℕ) → List ℕ → PlanRows
with_semaphores names sems = with_top (λ top. record top { sem_names = names; net = record { tasks = []; edges = []; sems = sems } })

two_semaphores_of_a_name : ¬ IsGraph 0 0 (with_semaphores (a ∷ a ∷ []) (1 ∷ 1 ∷ [])).top
two_semaphores_of_a_name is = is.sem_names_differ 0 1 [] (omega arith) (omega arith) refl

too_great_a_maximum : ¬ IsGraph 0 0 (with_semaphores (a ∷ []) (1000001 ∷ [])).top
too_great_a_maximum is = let most : 1000001 ≤ 1000000 = is.maxima 0 0 (omega arith) in absurd (omega (arith, most))

semaphore_without_a_unit : ¬ IsGraph 0 0 (with_semaphores (a ∷ []) (0 ∷ [])).top
semaphore_without_a_unit is = let least : 1 ≤ 0 = is.net.sems 0 0 (omega arith) in absurd (omega (arith, least))

edge_with_a_first_token : ¬ IsGraph 0 0 (record (plan_with_tasks (a ∷ []) (Match ∷ []) (row ∷ []) []).top { net = record { tasks = row ∷ []; edges = record { from = 0; to = 0; start = true } ∷ []; sems = [] } })
edge_with_a_first_token is = let none : true ≡ false = is.no_first_tokens 0 (record { from = 0; to = 0; start = true }) (omega arith) in absurd (cc)

-- a plan with these modules
abbrev with_modules : List GraphRows → PlanRows
with_modules modules = record (plan_with_tasks [] [] [] []) { modules = modules }

-- a module of this name whose tasks run these
abbrev running : List ℕ → List ℕ → GraphRows
running name ms = record { name = name; names = []; ops = map Runs ms; sem_names = []; net = record { tasks = []; edges = []; sems = [] } }

graphs_in_order : graphs_of (with_modules (without_tasks a ∷ without_tasks b ∷ [])) ≡ without_tasks [] ∷ without_tasks a ∷ without_tasks b ∷ []
graphs_in_order = refl

names_of_two_modules : module_names (with_modules (without_tasks a ∷ without_tasks b ∷ [])) ≡ a ∷ b ∷ []
names_of_two_modules = refl

uses_of_two_modules : module_uses (with_modules (running a (1 ∷ 1 ∷ []) ∷ running b [] ∷ [])) ≡ (1 ∷ 1 ∷ []) ∷ [] ∷ []
uses_of_two_modules = refl

two_modules_of_a_name : ¬ IsPlan (with_modules (without_tasks a ∷ without_tasks a ∷ []))
two_modules_of_a_name is = is.module_names_differ 0 1 [] (omega arith) (omega arith) refl

module_on_a_cycle : ¬ IsPlan (with_modules (running a (0 ∷ []) ∷ []))
module_on_a_cycle is = let none : Some 0 ≡ None = is.no_cycle in absurd (cc)

-- a chain of nine modules
nested_too_deep : ¬ IsPlan (record (with_modules (running [] (1 ∷ []) ∷ running [] (2 ∷ []) ∷ running [] (3 ∷ []) ∷ running [] (4 ∷ []) ∷ running [] (5 ∷ []) ∷ running [] (6 ∷ []) ∷ running [] (7 ∷ []) ∷ running [] (8 ∷ []) ∷ running [] [] ∷ [])) { top = running [] (0 ∷ []) })
nested_too_deep is = let shallow : true ≡ false = is.depth in absurd (cc)

graph_that_keeps_no_rule : ¬ IsPlan (with_modules (record (without_tasks a) { sem_names = a ∷ [] } ∷ []))
graph_that_keeps_no_rule is = absurd (omega (arith, (is.graphs 1 (without_tasks a) (omega arith)).sem_names))

-- counted over all graphs
module _ (one : GraphRows) where
  tasks_of_all_graphs : length one.net.tasks ≡ 3 → task_count (record (with_modules (one ∷ one ∷ [])) { top = one }) ≡ 9
  tasks_of_all_graphs many = rw many refl

  edges_of_all_graphs : length one.net.edges ≡ 3 → edge_count (record (with_modules (one ∷ one ∷ [])) { top = one }) ≡ 9
  edges_of_all_graphs many = rw many refl

  semaphores_of_all_graphs : length one.net.sems ≡ 3 → semaphore_count (record (with_modules (one ∷ one ∷ [])) { top = one }) ≡ 9
  semaphores_of_all_graphs many = rw many refl

too_many_semaphores : (plan : PlanRows) → semaphore_count plan ≡ 257 → ¬ IsPlan plan
too_many_semaphores plan many is = absurd (omega (arith, many, is.sems))

too_many_tasks : (plan : PlanRows) → task_count plan ≡ 10001 → ¬ IsPlan plan
too_many_tasks plan many is = absurd (omega (arith, many, is.tasks))

too_many_edges : (plan : PlanRows) → edge_count plan ≡ 100001 → ¬ IsPlan plan
too_many_edges plan many is = absurd (omega (arith, many, is.edges))

too_many_modules : (plan : PlanRows) → length plan.modules ≡ 65 → ¬ IsPlan plan
too_many_modules plan many is = absurd (omega (arith, many, is.module_count))

too_many_texts : (plan : PlanRows) → length plan.texts ≡ 1025 → ¬ IsPlan plan
too_many_texts plan many is = absurd (omega (arith, many, is.text_count))

too_long_a_text_name : (name : List ℕ) → length name ≡ 4097 → ¬ IsTextName name
too_long_a_text_name name long is = absurd (omega (arith, long, is.most))

-- ---- how a plan is written

abbrev plan : PlanRows
plan = record {
  top = record {
    name = [];
    names = a ∷ c ∷ [];
    ops = Read 1 ∷ Back ∷ [];
    sem_names = s ∷ c ∷ [];
    net = record { tasks = row ∷ record { shape = Choice; takes = 0 ∷ 1 ∷ []; puts = 1 ∷ [] } ∷ []; edges = record { from = 1; to = 0; start = false } ∷ record { from = 0; to = 1; start = false } ∷ record { from = 1; to = 1; start = false } ∷ []; sems = 3 ∷ 7 ∷ [] };
  };
  modules = running s (0 ∷ []) ∷ [];
  texts = b ∷ c ∷ [];
}

leads_to : (to_of plan.top 0 ≡ c ∷ []) × (to_of plan.top 1 ≡ a ∷ c ∷ [])
leads_to = (refl, refl)

read_of_its_text : op_text (b ∷ c ∷ []) [] (Read 1) ≡ record { name = codes "read"; own = member (codes "text") (string c) no_members }
read_of_its_text = refl

run_of_its_module : op_text [] (b ∷ c ∷ []) (Runs 1) ≡ record { name = codes "module"; own = member (codes "module") (string c) no_members }
run_of_its_module = refl

operation_on_each_part : each_data (Keep c) ≡ object (member (codes "op") (string (codes "keep")) (member (codes "word") (string c) no_members))
operation_on_each_part = refl

parts_that_are_written : op_text [] [] (Spread 7 Count) ≡ record { name = codes "spread"; own = member (codes "each") (object (member (codes "op") (string (codes "count")) no_members)) (member (codes "n") (number (unsigned 7)) no_members) }
parts_that_are_written = refl

abbrev names_data : List (List ℕ) → Data
names_data names = array (items_of (map string names))

names_of_semaphores : sems_named plan.top (1 ∷ 0 ∷ []) ≡ c ∷ s ∷ []
names_of_semaphores = refl

-- the fields of each object stand in the order of their bytes
written_task : task_data (op_text (b ∷ c ∷ []) [] (Read 1)) (task a (c ∷ []) (s ∷ []) (b ∷ []))
    ≡ object (member (codes "acquire") (names_data (s ∷ [])) (member (codes "name") (string a) (member (codes "op") (string (codes "read")) (member (codes "release") (names_data (b ∷ [])) (member (codes "text") (string c) (member (codes "to") (names_data (c ∷ [])) no_members))))))
written_task = refl

written_semaphores : sems_from (s ∷ c ∷ []) (3 ∷ 7 ∷ [])
    ≡ object (member (codes "max") (number (unsigned 3)) (member (codes "name") (string s) no_members)) ∷ object (member (codes "max") (number (unsigned 7)) (member (codes "name") (string c) no_members)) ∷ []
written_semaphores = refl

written_tasks : tasks_data plan plan.top ≡ task_data (op_text (b ∷ c ∷ []) [] (Read 1)) (task a (c ∷ []) [] []) ∷ task_data (op_text [] [] Back) (task c (a ∷ c ∷ []) (s ∷ c ∷ []) (c ∷ [])) ∷ []
written_tasks = refl

written_module : module_data plan (record plan.top { name = s; names = []; ops = []; net = record { tasks = []; edges = []; sems = 3 ∷ 7 ∷ [] } }) ≡ module_with s (sem_data s 3 ∷ sem_data c 7 ∷ []) []
written_module = refl

module_fields : module_with s [] [] ≡ object (member (codes "name") (string s) (member (codes "semaphores") (names_data []) (member (codes "tasks") (names_data []) no_members)))
module_fields = refl

written_file : plan_data plan
    ≡ file_data (module_with s [] [] ∷ []) (sem_data s 3 ∷ sem_data c 7 ∷ []) (task_data (op_text (b ∷ c ∷ []) [] (Read 1)) (task a (c ∷ []) [] []) ∷ task_data (op_text [] [] Back) (task c (a ∷ c ∷ []) (s ∷ c ∷ []) (c ∷ [])) ∷ [])
written_file = refl

file_fields : file_data [] [] [] ≡ object (member (codes "modules") (names_data []) (member (codes "semaphores") (names_data []) (member (codes "tasks") (names_data []) (member (codes "version") (number (unsigned 2)) no_members))))
file_fields = refl

-- without spaces
text_of_an_empty_plan : plan_text (plan_with_tasks [] [] [] []) ≡ codes "{\"modules\":[],\"semaphores\":[],\"tasks\":[],\"version\":2}"
unfolding escape_byte digits
text_of_an_empty_plan = refl

-- A plan has a file where some bytes stand for it. One that breaks a rule has none.
file_of_a_plan : (bytes : List ℕ) → PlanText bytes plan → HasFile plan
file_of_a_plan bytes stands = record { bytes = bytes; stands = stands }

no_file_of_a_cycle : ¬ HasFile (with_modules (running a (0 ∷ []) ∷ []))
no_file_of_a_cycle has = module_on_a_cycle (IsPlan-read has.bytes (with_modules (running a (0 ∷ []) ∷ [])) has.stands)
