-- What is counted of each semaphore.
use Rattle.std.specs.Prelude.{◌≡◌, ℕ, ◌+◌, ◌<◌, ◌^◌, Bool, true, not, ◌&&◌, ◌==◌, List, length, Option, Some, None, slice_index, slice_index_or, All, if◌then◌else◌}
use Rattle.std.specs.List.{list_any}
use Rattle.task_graph.specs.NetRows.{NetRows}
use Rattle.journal_rules.specs.declared.entry.Entry.{Entry}
use Rattle.journal_rules.specs.declared.units.UnitCount.{UnitCount}
use Rattle.journal_rules.specs.SemaphoreRule.{taken, back, closed_takers}
use Rattle.journal_rules.specs.inside.Over.{putters, WasOver}

-- the counts of a semaphore are those of the journal
pub record CountsUnit (net : NetRows) (journal : List Entry) (s : ℕ) (count : UnitCount) : Type 0 where
  pub taken : count.taken ≡ taken net s journal
  pub back : count.back ≡ back net s journal
  pub putters : count.putters ≡ putters net s journal
  pub closed : count.closed_takers ≡ closed_takers net s journal
  pub over : WasOver net s journal count.last_over

-- so are those of each semaphore
pub record CountsUnits (net : NetRows) (journal : List Entry) (counts : List UnitCount) : Type 0 where
  pub len : length counts ≡ length net.sems
  pub each : (s : ℕ) (d : UnitCount) → s < length net.sems → CountsUnit net journal s (slice_index_or counts s d)

-- a count with one unit more taken, put by a task that doesn't take it, or given back
abbrev pub with_taken : UnitCount → UnitCount
with_taken count = record count { taken = count.taken + 1 }

abbrev pub with_putter : UnitCount → UnitCount
with_putter count = record count { putters = count.putters + 1 }

abbrev pub with_back : UnitCount → UnitCount
with_back count = record count { back = count.back + 1 }

-- a count with one closed taker more, where the journal had this length
abbrev pub with_closed : ℕ → UnitCount → UnitCount
with_closed n count = record count { closed_takers = count.closed_takers + 1; last_over = if count.putters == count.closed_takers + 1 then n else count.last_over }

-- any semaphore
abbrev pub always : ℕ → Bool
always s = true

-- a semaphore that isn't in a list
abbrev pub is_other : List ℕ → ℕ → Bool
is_other sems s = not (list_any (λ r. r == s) sems)

-- the counts of these semaphores that pass are changed
pub record Changed (change : UnitCount → UnitCount) (test : ℕ → Bool) (old new : List UnitCount) (sems : List ℕ) : Type 0 where
  pub len : length new ≡ length old
  pub each : (k : ℕ) (d : UnitCount) → k < length old →
      slice_index_or new k d ≡ (if list_any (λ s. s == k) sems && test k then change (slice_index_or old k d) else slice_index_or old k d)

-- counts far below what a number holds
pub record IsSmall (count : UnitCount) : Type 0 where
  pub taken : count.taken < 2 ^ 63
  pub back : count.back < 2 ^ 63
  pub putters : count.putters < 2 ^ 63
  pub closed : count.closed_takers < 2 ^ 63

abbrev pub AreSmall : List UnitCount → Type 0
AreSmall counts = All IsSmall counts

-- a semaphore has a unit, and a unit of it is out, by its counts
abbrev pub no_units : UnitCount
no_units = record { taken = 0; back = 0; putters = 0; closed_takers = 0; last_over = 0 }

abbrev pub HasUnitLeft : List UnitCount → List ℕ → ℕ → Type 0
HasUnitLeft counts maxima s = (slice_index_or counts s no_units).taken < (slice_index_or counts s no_units).back + slice_index maxima s

abbrev pub IsOut : List UnitCount → ℕ → Type 0
IsOut counts s = (slice_index_or counts s no_units).back ≡ (slice_index_or counts s no_units).taken → ⊥

-- the first number of a list without a property, or None where each has it
abbrev pub IsFirstWithout : (ℕ → Type 0) → List ℕ → Option ℕ → Type 0
IsFirstWithout P xs None = (k : ℕ) → k < length xs → P (slice_index xs k)
IsFirstWithout P xs (Some x) = (i : ℕ) × (i < length xs) × (slice_index xs i ≡ x) × ((k : ℕ) → k < i → P (slice_index xs k)) × ¬ P x
