-- What the rules count in a journal: tokens given, releases used, and which starts are open.
use Rattle.std.specs.Prelude.{◌≡◌, ℕ, ◌+◌, Bool, true, false, ◌&&◌, ◌==◌, Option, Some, None, List, count_by, slice_get, is_some, length, if◌then◌else◌}
use Rattle.std.specs.Option.{option_map_or, option_and_then}
use Rattle.std.specs.List.{list_any, range_with_len, AllByRecursion}
use Rattle.task_graph.specs.NetRows.{NetRows}
use Rattle.task_graph.specs.declared.net.EdgeRow.{EdgeRow}
use Rattle.journal_rules.specs.declared.entry.Cause.{Cause}
use Rattle.journal_rules.specs.declared.entry.Cause.TheVariants.{Source, Strong, Weak}
use Rattle.journal_rules.specs.declared.entry.Entry.{Entry}
use Rattle.journal_rules.specs.declared.entry.Entry.TheVariants.{Start, End, Fault, Drop}

-- An End gives the edges that it names.
abbrev pub gives_edge : ℕ → Entry → Bool
gives_edge e (Start task cause ins) = false
gives_edge e (End start gives inner) = list_any (λ g. g == e) gives
gives_edge e (Fault start why) = false
gives_edge e (Drop task cause why) = false

-- the tokens with which an edge begins: one or none
abbrev pub first_tokens : NetRows → ℕ → ℕ
first_tokens net e = option_map_or (λ (row : EdgeRow). if row.start then 1 else 0) (slice_get net.edges e) 0

-- how many tokens an edge was given: one by each End that gives it, and the one with which it begins
abbrev pub given : NetRows → ℕ → List Entry → ℕ
given net e journal = count_by (gives_edge e) journal + first_tokens net e

-- whether a cause is that of a source task
abbrev pub is_source : Cause → Bool
is_source Source = true
is_source Strong = false
is_source (Weak e) = false

-- whether a cause is the strong in-edges
abbrev pub is_strong : Cause → Bool
is_strong Source = false
is_strong Strong = true
is_strong (Weak e) = false

-- whether a cause is this weak edge
abbrev pub is_weak_at : ℕ → Cause → Bool
is_weak_at e Source = false
is_weak_at e Strong = false
is_weak_at e (Weak f) = f == e

-- A Start or a Drop uses a release of its task. Whether an entry uses one of this task by a cause that passes.
abbrev pub uses : (Cause → Bool) → ℕ → Entry → Bool
uses by t (Start task cause ins) = (task == t) && by cause
uses by t (End start gives inner) = false
uses by t (Fault start why) = false
uses by t (Drop task cause why) = (task == t) && by cause

-- whether an entry uses a release by a cause that passes, of whichever task
abbrev pub uses_any : (Cause → Bool) → Entry → Bool
uses_any by (Start task cause ins) = by cause
uses_any by (End start gives inner) = false
uses_any by (Fault start why) = false
uses_any by (Drop task cause why) = by cause

-- how many releases by its strong in-edges a task has used
abbrev pub used : ℕ → List Entry → ℕ
used t journal = count_by (uses is_strong t) journal

-- how many releases by this weak edge were used
abbrev pub used_weak : ℕ → List Entry → ℕ
used_weak e journal = count_by (uses_any (is_weak_at e)) journal

-- how many releases as a source task a task has used
abbrev pub used_source : ℕ → List Entry → ℕ
used_source t journal = count_by (uses is_source t) journal

-- the task that a Start starts
abbrev pub started : Entry → Option ℕ
started (Start task cause ins) = Some task
started (End start gives inner) = None
started (Fault start why) = None
started (Drop task cause why) = None

-- the task of the Start at a place, where one stands there
abbrev pub start_at : List Entry → ℕ → Option ℕ
start_at journal n = option_and_then started (slice_get journal n)

-- An End or a Fault closes the Start at the place that it names.
abbrev pub closes : ℕ → Entry → Bool
closes n (Start task cause ins) = false
closes n (End start gives inner) = start == n
closes n (Fault start why) = start == n
closes n (Drop task cause why) = false

-- A Start is open where no End or Fault names its place.
abbrev pub is_open : List Entry → ℕ → Bool
is_open journal n = is_some (start_at journal n) && (count_by (closes n) journal == 0)

-- no Start is open
abbrev pub NoneOpen : List Entry → Type 0
NoneOpen journal = AllByRecursion (λ n. is_open journal n ≡ false) (range_with_len 0 (length journal))

-- whether an entry is a Start
abbrev pub is_start : Entry → Bool
is_start entry = is_some (started entry)

-- whether an entry is a Fault
abbrev pub is_fault : Entry → Bool
is_fault (Start task cause ins) = false
is_fault (End start gives inner) = false
is_fault (Fault start why) = true
is_fault (Drop task cause why) = false

-- how many Starts there are
abbrev pub starts : List Entry → ℕ
starts journal = count_by is_start journal

-- how many Faults there are
abbrev pub faults : List Entry → ℕ
faults journal = count_by is_fault journal
