-- What JSON values a graph file is made of, and the refusal of others, computed on small objects.
use Rattle.std.proofs.Common.{◌≡◌, ℕ, true, List, [], ◌∷◌, map, length, Some, None, Result, Ok, Err, refl, codes}
use Rattle.std.specs.Prelude.{is_some, replicate}
use Rattle.serde_json.specs.Data.{Data, Members, string, number, unsigned, array, object, no_members, member}
use Rattle.serde_json.specs.View.{items_of}
use Rattle.graph_plans.specs.declared.ops.Op.TheVariants.{Input, Text, Match, Back, IfMore, IfHas, Route, Spread}
use Rattle.graph_plans.specs.declared.ops.TextOp.TheVariants.{Pass, Keep, Without, Head, Tail, Skip, Sort, Uniq, Count, Tally}
use Rattle.graph_plans.specs.declared.spots.Spot.TheVariants.{File, Sem, Task, Module, ModuleSem, ModuleTask}
use Rattle.graph_drafts.specs.declared.refusals.GraphError.{GraphError}
use Rattle.graph_drafts.specs.declared.refusals.GraphError.TheVariants.{NotJson, BadField, NoSuchName, TooMany}
use Rattle.graph_drafts.specs.declared.refusals.Kind.TheVariants as kind
use Rattle.std.specs.Str.{is_utf8, chars}
use lib.Utf8.{encode}
use Rattle.graph_drafts.specs.Contents.{is_name_byte, objects_of, name_of, name_list_of, text_name_of, word_of, words_of}
use Rattle.graph_drafts.specs.declared.scopes.Scope.TheVariants.{Top, Module as OfModule}
use Rattle.graph_drafts.specs.OpRows.{FileOpRow, WithFields, reads, runs, does, op_rows, text_rows, op_in, each_in, spread_in, text_op_in}
use Rattle.graph_drafts.specs.FileText.{DraftRows, FileRows, TaskText, add_module, add_semaphore, add_task, empty_draft, file_in, graph_in, module_in, with_semaphore, with_task_text}
use Rattle.graph_file.specs.PlanText.{Counts, FileNumbers, file_counts, json_in, plan_in, within_counts, within_limits}

abbrev a : List ℕ
a = codes "a"

abbrev b : List ℕ
b = codes "b"

abbrev list_data : List Data → Data
list_data items = array (items_of items)

abbrev seven : Data
seven = number (unsigned 7)

-- ---- contents

strings_that_are_names : (name_of (string a) ≡ Some a) × (name_of (string []) ≡ None) × (name_of seven ≡ None)
unfolding is_name_byte
strings_that_are_names = (refl, refl, refl)

lists_of_names : (name_list_of (list_data (string a ∷ string b ∷ [])) ≡ Some (a ∷ b ∷ [])) × (name_list_of (list_data (string a ∷ seven ∷ [])) ≡ None) × (name_list_of (string a) ≡ None)
unfolding is_name_byte
lists_of_names = (refl, refl, refl)

lists_of_objects : (objects_of (list_data (object no_members ∷ [])) ≡ Some (object no_members ∷ [])) × (objects_of (list_data (object no_members ∷ seven ∷ [])) ≡ None) × (objects_of (object no_members) ≡ None)
lists_of_objects = (refl, refl, refl)

names_of_texts : (text_name_of (string a) ≡ Some a) × (text_name_of (string []) ≡ None) × (text_name_of seven ≡ None)
unfolding is_utf8 chars encode
names_of_texts = (refl, refl, refl)

words : (word_of (string a) ≡ Some a) × (word_of (string []) ≡ Some []) × (word_of seven ≡ None)
unfolding is_utf8 chars encode
words = (refl, refl, refl)

lists_of_words : (words_of (list_data (string a ∷ string [] ∷ [])) ≡ Some (a ∷ [] ∷ [])) × (words_of (list_data []) ≡ Some []) × (words_of (list_data (string a ∷ seven ∷ [])) ≡ None) × (words_of (string a) ≡ None)
unfolding is_utf8 chars encode
lists_of_words = (refl, refl, refl, refl)

-- as many words as a route may have, and one more
words_up_to_their_limit : (is_some (words_of (list_data (replicate 256 (string [])))) ≡ true) × (words_of (list_data (replicate 257 (string []))) ≡ None)
unfolding is_utf8 chars encode
words_up_to_their_limit = (refl, refl)

-- ---- operations

-- an object that names an operation, with these fields besides
abbrev naming : List ℕ → Members → Data
naming op own = object (member (codes "op") (string op) own)

abbrev with_word : Members
with_word = member (codes "word") (string a) no_members

abbrev with_number : Members
with_number = member (codes "n") seven no_members

abbrev with_words : Members
with_words = member (codes "words") (list_data (string a ∷ string b ∷ [])) no_members

abbrev with_text_name : Members
with_text_name = member (codes "text") (string a) no_members

abbrev found : FileOpRow → List (List ℕ) → Result (WithFields FileOpRow) GraphError
found op fields = Ok (record { op = op; fields = fields })

operations_without_a_field :
    (op_in op_rows (Task 0) (naming (codes "input") no_members) ≡ found (does Input) [])
    × (op_in op_rows (Task 0) (naming (codes "match") no_members) ≡ found (does Match) [])
    × (op_in op_rows (Task 0) (naming (codes "back") no_members) ≡ found (does Back) [])
    × (op_in op_rows (Task 0) (naming (codes "pass") no_members) ≡ found (does (Text Pass)) [])
    × (op_in op_rows (Task 0) (naming (codes "sort") no_members) ≡ found (does (Text Sort)) [])
    × (op_in op_rows (Task 0) (naming (codes "uniq") no_members) ≡ found (does (Text Uniq)) [])
    × (op_in op_rows (Task 0) (naming (codes "count") no_members) ≡ found (does (Text Count)) [])
    × (op_in op_rows (Task 0) (naming (codes "tally") no_members) ≡ found (does (Text Tally)) [])
unfolding op_rows text_rows
operations_without_a_field = (refl, refl, refl, refl, refl, refl, refl, refl)

operations_with_a_word :
    (op_in op_rows (Task 0) (naming (codes "keep") with_word) ≡ found (does (Text (Keep a))) (codes "word" ∷ []))
    × (op_in op_rows (Task 0) (naming (codes "without") with_word) ≡ found (does (Text (Without a))) (codes "word" ∷ []))
    × (op_in op_rows (Task 0) (naming (codes "ifhas") with_word) ≡ found (does (IfHas a)) (codes "word" ∷ []))
    × (op_in op_rows (Task 0) (naming (codes "route") with_words) ≡ found (does (Route (a ∷ b ∷ []))) (codes "words" ∷ []))
    × (op_in op_rows (Task 0) (naming (codes "read") with_text_name) ≡ found (reads a) (codes "text" ∷ []))
unfolding op_rows text_rows is_utf8 chars encode
operations_with_a_word = (refl, refl, refl, refl, refl)

operations_with_a_number :
    (op_in op_rows (Task 0) (naming (codes "head") with_number) ≡ found (does (Text (Head 7))) (codes "n" ∷ []))
    × (op_in op_rows (Task 0) (naming (codes "tail") with_number) ≡ found (does (Text (Tail 7))) (codes "n" ∷ []))
    × (op_in op_rows (Task 0) (naming (codes "skip") with_number) ≡ found (does (Text (Skip 7))) (codes "n" ∷ []))
    × (op_in op_rows (Task 0) (naming (codes "ifmore") with_number) ≡ found (does (IfMore 7)) (codes "n" ∷ []))
unfolding op_rows text_rows
operations_with_a_number = (refl, refl, refl, refl)

-- ---- operations that run graphs

module_by_its_name : (op_in op_rows (Task 0) (naming (codes "module") (member (codes "module") (string []) no_members)) ≡ found (runs []) (codes "module" ∷ [])) × (op_in op_rows (Task 2) (naming (codes "module") (member (codes "module") seven no_members)) ≡ Err (BadField (Task 2) (codes "module")))
unfolding op_rows text_rows
module_by_its_name = (refl, refl)

abbrev counts : Data
counts = object (member (codes "op") (string (codes "count")) no_members)

-- an operation on one text, and nothing else
operation_as_an_object : (text_op_in (Task 2) counts ≡ Ok Count) × (text_op_in (Task 2) (naming (codes "head") with_number) ≡ Ok (Head 7)) × (text_op_in (Task 2) (naming (codes "count") with_number) ≡ Err (BadField (Task 2) (codes "n"))) × (text_op_in (Task 2) (naming (codes "match") no_members) ≡ Err (BadField (Task 2) (codes "op")))
unfolding text_rows
operation_as_an_object = (refl, refl, refl, refl)

operation_on_each_part : (each_in (Task 2) (object (member (codes "each") counts no_members)) ≡ Ok Count) × (each_in (Task 2) (object no_members) ≡ Err (BadField (Task 2) (codes "each"))) × (each_in (Task 2) (object (member (codes "each") (naming (codes "count") with_number) no_members)) ≡ Err (BadField (Task 2) (codes "each")))
unfolding text_rows
operation_on_each_part = (refl, refl, refl)

-- what is spread, with this number of lines and these fields besides
abbrev parts : ℕ → Members → Data
parts n more = naming (codes "spread") (member (codes "n") (number (unsigned n)) more)

parts_of_lines : (spread_in (Task 2) (parts 1 (member (codes "each") counts no_members)) ≡ Ok (Spread 1 Count)) × (spread_in (Task 2) (parts 0 no_members) ≡ Err (BadField (Task 2) (codes "n"))) × (spread_in (Task 2) (parts 1 no_members) ≡ Err (BadField (Task 2) (codes "each")))
unfolding text_rows
parts_of_lines = (refl, refl, refl)

parts_with_their_fields : op_in op_rows (Task 2) (parts 7 (member (codes "each") counts no_members)) ≡ found (does (Spread 7 Count)) (codes "n" ∷ codes "each" ∷ [])
unfolding op_rows text_rows
parts_with_their_fields = refl

operations_refused :
    (op_in op_rows (Task 2) (naming (codes "sorted") no_members) ≡ Err (BadField (Task 2) (codes "op")))
    × (op_in op_rows (Task 2) (object no_members) ≡ Err (BadField (Task 2) (codes "op")))
    × (op_in op_rows (Task 2) (object (member (codes "op") seven no_members)) ≡ Err (BadField (Task 2) (codes "op")))
    × (op_in op_rows (Task 2) (naming (codes "keep") no_members) ≡ Err (BadField (Task 2) (codes "word")))
    × (op_in op_rows (Task 2) (naming (codes "keep") with_number) ≡ Err (BadField (Task 2) (codes "word")))
    × (op_in op_rows (Task 2) (naming (codes "head") with_word) ≡ Err (BadField (Task 2) (codes "n")))
    × (op_in op_rows (Task 2) (naming (codes "read") no_members) ≡ Err (BadField (Task 2) (codes "text")))
    × (op_in op_rows (Task 2) (naming (codes "route") no_members) ≡ Err (BadField (Task 2) (codes "words")))
unfolding op_rows text_rows
operations_refused = (refl, refl, refl, refl, refl, refl, refl, refl)

-- ---- tasks

-- one task was read before, in a file of this version
abbrev before : ℕ → DraftRows
before version = with_task_text (empty_draft Top version []) (record { names = record { name = b; to = []; takes = []; puts = [] }; op = does Match })

-- the task `a`, which sorts, with these fields besides
abbrev sorting : Members → Data
sorting more = object (member (codes "name") (string a) (member (codes "op") (string (codes "sort")) more))

-- and these names
abbrev sorts : List (List ℕ) → List (List ℕ) → List (List ℕ) → DraftRows → DraftRows
sorts to takes puts draft = with_task_text draft (record { names = record { name = a; to = to; takes = takes; puts = puts }; op = does (Text Sort) })

abbrev names : List (List ℕ) → Data
names items = array (items_of (map string items))

task_read : add_task (before 1) (sorting (member (codes "to") (names (a ∷ b ∷ [])) no_members)) ≡ Ok (sorts (a ∷ b ∷ []) [] [] (before 1))
unfolding op_rows text_rows is_name_byte
task_read = refl

task_without_edges : add_task (before 2) (sorting no_members) ≡ Ok (sorts [] [] [] (before 2))
unfolding op_rows text_rows is_name_byte
task_without_edges = refl

-- what a task holds it takes and puts
task_that_holds : add_task (before 1) (sorting (member (codes "holds") (names (b ∷ a ∷ [])) no_members)) ≡ Ok (sorts [] (b ∷ a ∷ []) (b ∷ a ∷ []) (before 1))
unfolding op_rows text_rows is_name_byte
task_that_holds = refl

task_that_takes_and_puts : add_task (before 2) (sorting (member (codes "release") (names (b ∷ [])) (member (codes "acquire") (names (a ∷ b ∷ [])) no_members))) ≡ Ok (sorts [] (a ∷ b ∷ []) (b ∷ []) (before 2))
unfolding op_rows text_rows is_name_byte
task_that_takes_and_puts = refl

fields_of_tasks_refused :
    (add_task (before 1) (naming (codes "sorted") (member (codes "to") seven no_members)) ≡ Err (BadField (Task 1) (codes "name")))
    × (add_task (before 1) (object (member (codes "name") (string a) (member (codes "op") seven (member (codes "to") seven no_members)))) ≡ Err (BadField (Task 1) (codes "op")))
    × (add_task (before 1) (sorting (member (codes "to") seven (member (codes "holds") seven no_members))) ≡ Err (BadField (Task 1) (codes "to")))
    × (add_task (before 1) (sorting (member (codes "holds") seven (member (codes "n") seven no_members))) ≡ Err (BadField (Task 1) (codes "holds")))
    × (add_task (before 1) (sorting (member (codes "n") seven (member (codes "word") (string a) no_members))) ≡ Err (BadField (Task 1) (codes "n")))
unfolding op_rows text_rows is_name_byte
fields_of_tasks_refused = (refl, refl, refl, refl, refl)

-- the lists of one version are unknown in the other
fields_of_the_other_version :
    (add_task (before 1) (sorting (member (codes "acquire") (names []) no_members)) ≡ Err (BadField (Task 1) (codes "acquire")))
    × (add_task (before 1) (sorting (member (codes "release") (names []) no_members)) ≡ Err (BadField (Task 1) (codes "release")))
    × (add_task (before 2) (sorting (member (codes "holds") (names []) no_members)) ≡ Err (BadField (Task 1) (codes "holds")))
    × (add_task (before 2) (sorting (member (codes "acquire") seven (member (codes "release") seven no_members))) ≡ Err (BadField (Task 1) (codes "acquire")))
    × (add_task (before 2) (sorting (member (codes "release") seven (member (codes "holds") seven no_members))) ≡ Err (BadField (Task 1) (codes "release")))
unfolding op_rows text_rows is_name_byte
fields_of_the_other_version = (refl, refl, refl, refl, refl)

-- ---- semaphores

-- a semaphore with this maximum
abbrev limited : Data → Members → Data
limited max more = object (member (codes "max") max (member (codes "name") (string a) more))

-- the first semaphore of a file
abbrev added : Data → Result DraftRows GraphError
added d = add_semaphore (empty_draft Top 2 []) d

semaphore_read : (added (limited seven no_members) ≡ Ok (with_semaphore (empty_draft Top 2 []) a 7)) × (added (limited (number (unsigned 1000000)) no_members) ≡ Ok (with_semaphore (empty_draft Top 2 []) a 1000000))
unfolding is_name_byte
semaphore_read = (refl, refl)

fields_of_semaphores_refused :
    (added (object (member (codes "max") (number (unsigned 0)) no_members)) ≡ Err (BadField (Sem 0) (codes "name")))
    × (added (object (member (codes "name") (string a) (member (codes "more") seven no_members))) ≡ Err (BadField (Sem 0) (codes "max")))
    × (added (limited (number (unsigned 0)) no_members) ≡ Err (BadField (Sem 0) (codes "max")))
    × (added (limited (number (unsigned 1000001)) no_members) ≡ Err (BadField (Sem 0) (codes "max")))
    × (added (limited seven (member (codes "to") seven no_members)) ≡ Err (BadField (Sem 0) (codes "to")))
    × (add_semaphore (with_semaphore (empty_draft Top 2 []) b 1) seven ≡ Err (BadField (Sem 1) (codes "name")))
unfolding is_name_byte
fields_of_semaphores_refused = (refl, refl, refl, refl, refl, refl)

-- ---- files

-- a file with these tasks, and these fields besides
abbrev holding : List Data → Members → Data
holding tasks more = object (member (codes "tasks") (list_data tasks) more)

abbrev one : Data
one = sorting no_members

-- the graphs of a file without modules
abbrev alone : DraftRows → Result FileRows GraphError
alone top = Ok (record { top = top; modules = [] })

graph_read : graph_in (empty_draft (OfModule 3) 2 b) (limited seven no_members ∷ []) (one ∷ []) ≡ Ok (sorts [] [] [] (with_semaphore (empty_draft (OfModule 3) 2 b) a 7))
unfolding op_rows text_rows is_name_byte
graph_read = refl

semaphores_before_tasks : (graph_in (empty_draft (OfModule 3) 2 b) (seven ∷ []) (seven ∷ []) ≡ Err (BadField (ModuleSem 3 0) (codes "name"))) × (graph_in (empty_draft (OfModule 3) 2 b) [] (seven ∷ []) ≡ Err (BadField (ModuleTask 3 0) (codes "name")))
semaphores_before_tasks = (refl, refl)

-- a module `a` with these fields besides
abbrev module_object : Members → Data
module_object more = object (member (codes "name") (string a) more)

module_read : module_in (OfModule 3) 2 (module_object (member (codes "tasks") (list_data (one ∷ [])) no_members)) ≡ Ok (sorts [] [] [] (empty_draft (OfModule 3) 2 a))
unfolding op_rows text_rows is_name_byte
module_read = refl

fields_of_modules_refused :
    (module_in (OfModule 3) 2 (object (member (codes "tasks") seven no_members)) ≡ Err (BadField (Module 3) (codes "name")))
    × (module_in (OfModule 3) 2 (module_object (member (codes "semaphores") seven no_members)) ≡ Err (BadField (Module 3) (codes "tasks")))
    × (module_in (OfModule 3) 2 (module_object (member (codes "tasks") (list_data (seven ∷ [])) no_members)) ≡ Err (BadField (Module 3) (codes "tasks")))
    × (module_in (OfModule 3) 2 (module_object (member (codes "tasks") (list_data []) (member (codes "semaphores") seven (member (codes "modules") seven no_members)))) ≡ Err (BadField (Module 3) (codes "semaphores")))
    × (module_in (OfModule 3) 2 (module_object (member (codes "tasks") (list_data (object no_members ∷ [])) (member (codes "modules") seven no_members))) ≡ Err (BadField (Module 3) (codes "modules")))
unfolding is_name_byte
fields_of_modules_refused = (refl, refl, refl, refl, refl)

module_more : add_module 2 (empty_draft (OfModule 0) 2 b ∷ []) (module_object (member (codes "tasks") (list_data []) no_members)) ≡ Ok (empty_draft (OfModule 0) 2 b ∷ empty_draft (OfModule 1) 2 a ∷ [])
unfolding is_name_byte
module_more = refl

file_read : file_in (holding (one ∷ one ∷ []) no_members) ≡ alone (sorts [] [] [] (sorts [] [] [] (empty_draft Top 1 [])))
unfolding op_rows text_rows is_name_byte
file_read = refl

file_with_a_semaphore : file_in (holding (one ∷ []) (member (codes "version") (number (unsigned 2)) (member (codes "semaphores") (list_data (limited seven no_members ∷ [])) no_members))) ≡ alone (sorts [] [] [] (with_semaphore (empty_draft Top 2 []) a 7))
unfolding op_rows text_rows is_name_byte
file_with_a_semaphore = refl

file_with_a_module : file_in (holding [] (member (codes "modules") (list_data (module_object (member (codes "tasks") (list_data (one ∷ [])) no_members) ∷ [])) no_members)) ≡ Ok (record { top = empty_draft Top 1 []; modules = sorts [] [] [] (empty_draft (OfModule 0) 1 a) ∷ [] })
unfolding op_rows text_rows is_name_byte
file_with_a_module = refl

fields_of_files : file_in (holding [] (member (codes "version") (number (unsigned 1)) (member (codes "semaphores") (list_data []) (member (codes "modules") (list_data []) no_members)))) ≡ alone (empty_draft Top 1 [])
fields_of_files = refl

fields_of_files_refused :
    (file_in (object (member (codes "version") (number (unsigned 3)) (member (codes "tasks") seven no_members))) ≡ Err (BadField File (codes "version")))
    × (file_in (object (member (codes "version") (number (unsigned 0)) (member (codes "tasks") seven no_members))) ≡ Err (BadField File (codes "version")))
    × (file_in seven ≡ Err (BadField File (codes "tasks")))
    × (file_in (object no_members) ≡ Err (BadField File (codes "tasks")))
    × (file_in (holding (seven ∷ []) no_members) ≡ Err (BadField File (codes "tasks")))
    × (file_in (holding [] (member (codes "semaphores") (list_data (seven ∷ [])) (member (codes "modules") seven no_members))) ≡ Err (BadField File (codes "semaphores")))
    × (file_in (holding [] (member (codes "modules") (list_data (seven ∷ [])) (member (codes "more") seven no_members))) ≡ Err (BadField File (codes "modules")))
    × (file_in (holding (object no_members ∷ []) (member (codes "more") seven no_members)) ≡ Err (BadField File (codes "more")))
    × (file_in (holding (object no_members ∷ []) (member (codes "semaphores") (list_data (object no_members ∷ [])) no_members)) ≡ Err (BadField (Sem 0) (codes "name")))
    × (file_in (holding (object no_members ∷ []) (member (codes "modules") (list_data (object no_members ∷ [])) no_members)) ≡ Err (BadField (Task 0) (codes "name")))
    × (file_in (holding [] (member (codes "modules") (list_data (object no_members ∷ [])) no_members)) ≡ Err (BadField (Module 0) (codes "name")))
fields_of_files_refused = (refl, refl, refl, refl, refl, refl, refl, refl, refl, refl, refl)

-- fields before names
field_before_a_name : plan_in (holding (sorting (member (codes "to") (list_data (string b ∷ [])) no_members) ∷ object no_members ∷ []) no_members) ≡ Err (BadField (Task 1) (codes "name"))
unfolding op_rows text_rows is_name_byte
field_before_a_name = refl

name_that_is_not_there : plan_in (holding (one ∷ sorting (member (codes "to") (list_data (string b ∷ [])) no_members) ∷ []) no_members) ≡ Err (NoSuchName (Task 1) (codes "to"))
unfolding op_rows text_rows is_name_byte
name_that_is_not_there = refl

-- ---- limits

-- a top graph and a module with lists of these lengths
module _ (top inner : DraftRows) where
  abbrev two : FileRows
  two = record { top = top; modules = inner ∷ [] }

  abbrev no_edges : FileNumbers
  no_edges = record { top = []; modules = [] ∷ [] }

  at_each_limit : length top.tasks ≡ 9000 → length inner.tasks ≡ 1000 → length top.sems ≡ 200 → length inner.sems ≡ 56 → within_counts two no_edges ≡ Ok tt
  at_each_limit tasks inner_tasks sems inner_sems = rw (tasks, inner_tasks, sems, inner_sems) refl

  a_task_too_many : length top.tasks ≡ 9000 → length inner.tasks ≡ 1001 → within_counts two no_edges ≡ Err (TooMany kind.Tasks)
  a_task_too_many tasks inner_tasks = rw (tasks, inner_tasks) refl

  a_semaphore_too_many : length top.tasks ≡ 9000 → length inner.tasks ≡ 1000 → length top.sems ≡ 200 → length inner.sems ≡ 57 → within_counts two no_edges ≡ Err (TooMany kind.Semaphores)
  a_semaphore_too_many tasks inner_tasks sems inner_sems = rw (tasks, inner_tasks, sems, inner_sems) refl

-- ---- bytes

no_utf8 : json_in (255 ∷ []) ≡ Err NotJson
unfolding is_utf8 chars
no_utf8 = refl
