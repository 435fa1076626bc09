-- Books of tasks, as contracts see them.
use Rattle.std.specs.Prelude.{◌≡◌, ℕ, List, Option, Some, None, slice_get}
use Rattle.std.specs.Arc.{arc_value}
use Rattle.atomic_table.specs.Seated.{TableId}
use Rattle.async_tasks.specs.declared.history.AddRow.{AddRow}
use Rattle.async_tasks.specs.declared.history.TaskEvent.{TaskEvent}
use Rattle.async_tasks.specs.declared.outstanding.Outstanding.{Outstanding}
use Rattle.async_tasks.specs.declared.outstanding.Outstanding.TheVariants.{Pass, Running, Recorded}
use Rattle.async_tasks.specs.declared.stage.Stage.{Stage}
use Rattle.async_tasks.specs.declared.stage.Stage.TheVariants.{Waiting, Open, Over}

-- A book: the table of its tickets, how many callers it has, its adds, what happened, each task's work and how far it
-- is, and what is outstanding
pub record BookHistory (W V : Type 0) : Type 0 where
  pub register : TableId
  pub callers : ℕ
  pub rows : List AddRow
  pub events : List TaskEvent
  pub works : List W
  pub stages : List (Stage V)
  pub items : List (Option (Outstanding W V))

abbrev pub book_history : {W V : Type 0} → TableId → ℕ → List AddRow → List TaskEvent → List W → List (Stage V) → List (Option (Outstanding W V)) → BookHistory W V
book_history register callers rows events works stages items = record { register = register; callers = callers; rows = rows; events = events; works = works; stages = stages; items = items }

-- which book it is: the table of its tickets, and how many callers it has
pub record BookKey : Type 0 where
  pub register : TableId
  pub callers : ℕ

abbrev pub book_key : TableId → ℕ → BookKey
book_key register callers = record { register = register; callers = callers }

abbrev pub key_of : {W V : Type 0} → BookHistory W V → BookKey
key_of book = book_key book.register book.callers

-- the value of a task that is over
abbrev pub value_in : {V : Type 0} → Option (Stage V) → Option V
value_in None = None
value_in (Some Waiting) = None
value_in (Some Open) = None
value_in (Some (Over value)) = Some (arc_value value)

abbrev pub value_at : {V : Type 0} → List (Stage V) → ℕ → Option V
value_at stages t = value_in (slice_get stages t)

-- who a ticket is for: a caller, a task, or the end at an index
pub data Holder : Type 0 where
  caller_of : ℕ → Holder
  task_of : ℕ → Holder
  end_at : ℕ → Holder

abbrev pub holder_of : {W V : Type 0} → Outstanding W V → Holder
holder_of (Pass caller seen) = caller_of caller
holder_of (Running task work ins) = task_of task
holder_of (Recorded task place) = end_at place

-- nothing is outstanding for it
abbrev pub NothingOut : {W V : Type 0} → Holder → List (Option (Outstanding W V)) → Type 0
NothingOut {W} {V} holder items = (n : ℕ) (item : Outstanding W V) → slice_get items n ≡ Some (Some item) → holder_of item ≡ holder → ⊥
