-- Small nets, an answer for each task, and journals.
use Rattle.std.specs.Prelude.{ℕ, ◌+◌, ◌==◌, true, false, List, [], ◌∷◌, Some, None, if◌then◌else◌}
use Rattle.task_graph.specs.NetRows.{NetRows}
use Rattle.task_graph.specs.Net.{out_edges}
use Rattle.task_graph.specs.declared.net.Shape.TheVariants.{Plain}
use Rattle.task_graph.specs.declared.net.TaskRow.{TaskRow}
use Rattle.journal_rules.specs.declared.entry.Cause.TheVariants.{Source, Strong}
use Rattle.journal_rules.specs.declared.entry.Part.TheVariants.{From, First}
use Rattle.journal_rules.specs.declared.entry.DropWhy.TheVariants.{Limit}
use Rattle.journal_rules.specs.declared.entry.Entry.{Entry}
use Rattle.journal_rules.specs.declared.entry.Entry.TheVariants.{Start, End, Drop}
use Rattle.join_words.specs.Ins.{InputValue, value, first, nothing}
use Rattle.run_laws.specs.OneThreadValue.{TaskEnd, OneAnswer}

abbrev task : TaskRow
task = record { shape = Plain; takes = []; puts = [] }

-- a diamond: task 0 before 1 and 2, these before 3
abbrev pub four_tasks : NetRows
four_tasks = record {
  tasks = task ∷ task ∷ task ∷ task ∷ [];
  edges = (record { from = 0; to = 1; start = false }) ∷ (record { from = 0; to = 2; start = false }) ∷ (record { from = 1; to = 3; start = false }) ∷ (record { from = 2; to = 3; start = false }) ∷ [];
  sems = [];
}

-- a ring of two tasks with one token before task 0
abbrev pub two_in_a_ring : NetRows
two_in_a_ring = record {
  tasks = task ∷ task ∷ [];
  edges = (record { from = 0; to = 1; start = false }) ∷ (record { from = 1; to = 0; start = true }) ∷ [];
  sems = [];
}

abbrev pub added : List (InputValue ℕ) → ℕ
added [] = 0
added (value n ∷ found) = n + added found
added (first ∷ found) = added found
added (nothing ∷ found) = added found

abbrev pub end : ℕ → List ℕ → TaskEnd ℕ
end v gives = record { value = v; gives = gives }

-- each task adds one to what it finds, and gives all its edges
abbrev pub adding : NetRows → OneAnswer ℕ
adding net t found = Some (end (1 + added found) (out_edges net t))

-- the same, but gives no edge with the value 3
abbrev pub adding_to_3 : NetRows → OneAnswer ℕ
adding_to_3 net t found = Some (end (1 + added found) (if added found == 2 then [] else out_edges net t))

-- the same, but faults on 2
abbrev pub failing_on_2 : NetRows → OneAnswer ℕ
failing_on_2 net t found = if added found == 2 then None else adding net t found

abbrev pub run_of_the_ring : List Entry
run_of_the_ring =
    Start 0 Strong (First ∷ []) ∷ End 0 (0 ∷ []) false ∷ Start 1 Strong (From 1 ∷ []) ∷ End 2 (1 ∷ []) false
    ∷ Start 0 Strong (From 3 ∷ []) ∷ End 4 [] false ∷ []

abbrev pub run_of_four : List Entry
run_of_four =
    Start 0 Source [] ∷ End 0 (0 ∷ 1 ∷ []) false ∷ Start 2 Strong (From 1 ∷ []) ∷ Start 1 Strong (From 1 ∷ [])
    ∷ End 3 (2 ∷ []) false ∷ End 2 (3 ∷ []) false ∷ Start 3 Strong (From 4 ∷ From 5 ∷ []) ∷ End 6 [] false ∷ []

-- task 0 starts while its Start before is open
abbrev pub open_twice : List Entry
open_twice = Start 0 Strong (First ∷ []) ∷ Start 0 Strong (First ∷ []) ∷ []

-- task 0 starts after a Drop of it
abbrev pub after_drop : List Entry
after_drop = Drop 0 Strong Limit ∷ Start 0 Strong (First ∷ []) ∷ []

-- edge 0 is given twice and not used
abbrev pub given_twice : List Entry
given_twice = Start 0 Strong (First ∷ []) ∷ End 0 (0 ∷ []) false ∷ Start 0 Strong (First ∷ []) ∷ End 2 (0 ∷ []) false ∷ []
