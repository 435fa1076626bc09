-- The last End of each task of a run, and its value.
use Rattle.std.specs.Prelude.{ℕ, Bool, false, ◌==◌, List, length, filter, slice_get, Option, None}
use Rattle.std.specs.List.{range_with_len, last_or}
use Rattle.std.specs.Option.{option_map_or, option_and_then}
use Rattle.journal_rules.specs.declared.entry.Entry.{Entry}
use Rattle.journal_rules.specs.declared.entry.Entry.TheVariants.{Start, End, Fault, Drop}
use Rattle.journal_rules.specs.Counts.{start_at}
use Rattle.run_frame.specs.declared.run.ValueRow.{ValueRow}
use Rattle.run_frame.specs.Runs.{value_at}

-- the task of the start that an End closes
abbrev pub ended_task : List Entry → Entry → Option ℕ
ended_task journal (Start task cause ins) = None
ended_task journal (End start gives inner) = start_at journal start
ended_task journal (Fault start why) = None
ended_task journal (Drop task cause why) = None

-- the task whose End stands at a place, where one stands there
abbrev pub ended_at : List Entry → ℕ → Option ℕ
ended_at journal n = option_and_then (ended_task journal) (slice_get journal n)

-- whether an End of this task stands at a place
abbrev pub is_end_of : List Entry → ℕ → ℕ → Bool
is_end_of journal t n = option_map_or (λ task. task == t) (ended_at journal n) false

-- the places of a task's Ends below a number, rising, and the last of them
abbrev pub ends_before : List Entry → ℕ → ℕ → List ℕ
ends_before journal t n = filter (is_end_of journal t) (range_with_len 0 n)

abbrev pub last_before : List Entry → ℕ → ℕ → Option ℕ
last_before journal t n = last_or None (ends_before journal t n)

-- the places of all its Ends, and the last of them
abbrev pub ends_of : List Entry → ℕ → List ℕ
ends_of journal t = ends_before journal t (length journal)

abbrev pub last_end : List Entry → ℕ → Option ℕ
last_end journal t = last_or None (ends_of journal t)

-- the value of a task's last End
abbrev pub last_value : {V : Type 0} → List Entry → List (ValueRow V) → ℕ → Option V
last_value journal values t = option_and_then (value_at values) (last_end journal t)
