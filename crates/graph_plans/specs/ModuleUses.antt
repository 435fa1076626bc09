-- Which modules use which: chains of uses, and cycles.
use Rattle.std.specs.Prelude.{ℕ, zero, suc, ◌||◌, ◌==◌, List, [], ◌∷◌, length, Bool, true, Option, slice_index_or}
use Rattle.std.specs.List.{find, list_any, range_with_len}
use Rattle.graph_plans.specs.declared.ops.Op.{Op}
use Rattle.graph_plans.specs.declared.ops.Op.TheVariants.{Input, Read, Text, Match, Back, IfMore, IfHas, Route, Spread, Module, Pipe}

-- the module that the task of an operation runs, before these
abbrev pub run_before : List ℕ → Op → List ℕ
run_before ms Input = ms
run_before ms (Read text) = ms
run_before ms (Text op) = ms
run_before ms Match = ms
run_before ms Back = ms
run_before ms (IfMore n) = ms
run_before ms (IfHas word) = ms
run_before ms (Route words) = ms
run_before ms (Spread n each) = ms
run_before ms (Module m) = m ∷ ms
run_before ms (Pipe plan) = ms

-- the modules that the tasks of these operations run
abbrev pub modules_run : List Op → List ℕ
modules_run [] = []
modules_run (op ∷ ops) = run_before (modules_run ops) op

-- whether a chain of so many modules begins with one of these; `uses` has for each module those that its tasks run
abbrev pub has_chain : ℕ → List (List ℕ) → List ℕ → Bool
has_chain zero uses ms = true
has_chain (suc n) uses ms = list_any (λ m. has_chain n uses (slice_index_or uses m [])) ms

-- whether a chain of at most so many uses leads from module a to module b
abbrev pub reaches : ℕ → List (List ℕ) → ℕ → ℕ → Bool
reaches zero uses a b = a == b
reaches (suc n) uses a b = (a == b) || list_any (λ m. reaches n uses m b) (slice_index_or uses a [])

-- A module is on a cycle where one that its tasks run reaches it. No chain needs more uses than there are modules.
abbrev pub is_on_cycle : List (List ℕ) → ℕ → Bool
is_on_cycle uses m = list_any (λ u. reaches (length uses) uses u m) (slice_index_or uses m [])

-- the least module that is on a cycle
abbrev pub first_on_cycle : List (List ℕ) → Option ℕ
first_on_cycle uses = find (is_on_cycle uses) (range_with_len 0 (length uses))
