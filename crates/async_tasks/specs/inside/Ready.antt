-- When a task may start, by what a book keeps of it.
use Rattle.std.specs.Prelude.{◌≡◌, ℕ, Bool, List, Some, slice_get, is_some, IsTrue, IsSomeAnd}
use Rattle.std.specs.List.{list_all}
use Rattle.async_tasks.specs.declared.history.AddRow.{AddRow}
use Rattle.async_tasks.specs.declared.stage.Stage.{Stage}
use Rattle.async_tasks.specs.declared.stage.Stage.TheVariants.{Waiting}
use Rattle.async_tasks.specs.Books.{value_at}

-- a task has a value
abbrev pub is_over : {V : Type 0} → List (Stage V) → ℕ → Bool
is_over stages t = is_some (value_at stages t)

-- a task has a row, waits, and each task that it names has a value
abbrev pub IsReady : {V : Type 0} → List AddRow → List (Stage V) → ℕ → Type 0
IsReady rows stages t = (slice_get stages t ≡ Some Waiting) × IsSomeAnd (slice_get rows t) (λ (row : AddRow). IsTrue (list_all (is_over stages) row.after))
