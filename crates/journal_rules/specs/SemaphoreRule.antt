-- The units of semaphores: how many are out, and when a start would give back a unit that isn't.
use Rattle.std.specs.Prelude.{ℕ, ◌+◌, ◌≤◌, ◌<◌, Bool, false, not, ◌&&◌, ◌==◌, List, [], ◌∷◌, ◌++◌, length, take, count_by, slice_get, slice_index, IsTrue, IsSomeAnd, if◌then◌else◌}
use Rattle.std.specs.Option.{option_map_or}
use Rattle.std.specs.List.{AllByRecursion, list_any, range_with_len, enumerate_from}
use Rattle.task_graph.specs.NetRows.{NetRows}
use Rattle.task_graph.specs.declared.net.TaskRow.{TaskRow}
use Rattle.journal_rules.specs.declared.entry.Why.{Why}
use Rattle.journal_rules.specs.declared.entry.Why.TheVariants.{Long, Wide, Unmet, Inner, OverRelease}
use Rattle.journal_rules.specs.declared.entry.Entry.{Entry}
use Rattle.journal_rules.specs.declared.entry.Entry.TheVariants.{Start, End, Fault, Drop}
use Rattle.journal_rules.specs.Counts.{started, start_at, closes}

-- whether a task takes, or puts, a unit of the semaphore
abbrev pub takes : NetRows → ℕ → ℕ → Bool
takes net s t = option_map_or (λ (row : TaskRow). list_any (λ x. x == s) row.takes) (slice_get net.tasks t) false

abbrev pub puts : NetRows → ℕ → ℕ → Bool
puts net s t = option_map_or (λ (row : TaskRow). list_any (λ x. x == s) row.puts) (slice_get net.tasks t) false

-- how many units were taken: one by each Start of a task that takes the semaphore
abbrev pub taken : NetRows → ℕ → List Entry → ℕ
taken net s journal = count_by (λ entry. option_map_or (takes net s) (started entry) false) journal

-- An entry gives back a unit where it is an End and the task of the Start that it closes puts the semaphore.
abbrev pub gives_back : NetRows → ℕ → List Entry → Entry → Bool
gives_back net s journal (Start task cause ins) = false
gives_back net s journal (End start gives inner) = option_map_or (puts net s) (start_at journal start) false
gives_back net s journal (Fault start why) = false
gives_back net s journal (Drop task cause why) = false

-- how many units are back: one by each End of a Start whose task puts the semaphore. A Fault gives none back.
abbrev pub back : NetRows → ℕ → List Entry → ℕ
back net s journal = count_by (gives_back net s journal) journal

-- the maximum of a semaphore
abbrev pub max_of : NetRows → ℕ → ℕ
max_of net s = slice_index net.sems s

-- A semaphore has a unit where fewer are out than its maximum.
abbrev pub HasUnit : NetRows → ℕ → List Entry → Type 0
HasUnit net s journal = taken net s journal < back net s journal + max_of net s

-- the units that are out are from none to the maximum
abbrev pub UnitsInBounds : NetRows → List Entry → ℕ → Type 0
UnitsInBounds net journal s =
    (back net s journal ≤ taken net s journal) × (taken net s journal ≤ back net s journal + max_of net s)

-- how many Starts there are at places that pass
abbrev pub starts_at : (ℕ → ℕ → Bool) → List Entry → ℕ
starts_at test journal = count_by (λ p. option_map_or (test p.0) (started p.1) false) (enumerate_from 0 journal)

-- how many closed Starts are of tasks that take the semaphore and don't put it
abbrev pub closed_takers : NetRows → ℕ → List Entry → ℕ
closed_takers net s journal =
    starts_at (λ n t. takes net s t && not (puts net s t) && not (count_by (closes n) journal == 0)) journal

-- how many Starts but the one at a place are of tasks that put the semaphore and don't take it
abbrev pub other_putters : NetRows → ℕ → ℕ → List Entry → ℕ
other_putters net s place journal = starts_at (λ n t. puts net s t && not (takes net s t) && not (n == place)) journal

-- The start at a place, of this task, would give back a unit of the semaphore that isn't out: its task puts
-- the semaphore, and at some moment since the start the others' claims were at least as many as the units
-- that come from elsewhere.
abbrev pub IsOverRelease : NetRows → List Entry → ℕ → ℕ → ℕ → Type 0
IsOverRelease net journal s place t =
    IsTrue (puts net s t)
    × ((n : ℕ) × (place < n) × (n ≤ length journal)
    × (closed_takers net s (take n journal) + (if takes net s t then 1 else 0) ≤ other_putters net s place (take n journal)))

-- a Fault that tells an over-release tells a true one
abbrev pub OverReleaseRule : NetRows → List Entry → ℕ → Why → Type 0
OverReleaseRule net journal place (Long n) = Unit {0}
OverReleaseRule net journal place (Wide n) = Unit {0}
OverReleaseRule net journal place (Unmet k) = Unit {0}
OverReleaseRule net journal place Inner = Unit {0}
OverReleaseRule net journal place (OverRelease s) = IsSomeAnd (start_at journal place) (IsOverRelease net journal s place)

-- what a Fault tells of a unit is true
abbrev pub UnitFaultRule : NetRows → List Entry → Entry → Type 0
UnitFaultRule net journal (Start task cause ins) = Unit {0}
UnitFaultRule net journal (End start gives inner) = Unit {0}
UnitFaultRule net journal (Fault start why) = OverReleaseRule net journal start why
UnitFaultRule net journal (Drop task cause why) = Unit {0}

-- With the entry the units of each semaphore are within their bounds, and a fault for a unit that isn't out is
-- a true one.
pub record SemaphoreRule (net : NetRows) (journal : List Entry) (entry : Entry) : Type 0 where
  pub within : AllByRecursion (UnitsInBounds net (journal ++ entry ∷ [])) (range_with_len 0 (length net.sems))
  pub over : UnitFaultRule net journal entry
