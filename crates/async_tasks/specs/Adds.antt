-- What a book of tasks does at an add, a start and an end.
use Rattle.std.specs.Prelude.{◌≡◌, ℕ, ◌<◌, nat_le, List, [], ◌∷◌, ◌++◌, length, find, Option, Some, None, slice_get, slice_set, IsSomeAnd}
use Rattle.async_tasks.specs.declared.history.AddRow.{AddRow}
use Rattle.async_tasks.specs.declared.history.TaskEvent.TheVariants.{Started, Ended}
use Rattle.async_tasks.specs.declared.stage.Stage.TheVariants.{Waiting, Open, Over}
use Rattle.std.specs.declared.alloc.Global.{Global}
use Rattle.std.specs.declared.sync.Arc.{Arc}
use Rattle.async_tasks.specs.declared.state.AddError.{AddError}
use Rattle.async_tasks.specs.declared.state.AddError.TheVariants.{NoSuch, Full, NoMemory}
use Rattle.async_tasks.specs.declared.outstanding.Outstanding.{Outstanding}
use Rattle.async_tasks.specs.Histories.{times_started, times_ended, AllEnded, found}
use Rattle.async_tasks.specs.Books.{BookHistory, value_at}
use Rattle.async_tasks.specs.Starts.{OpenStart}

-- how many tasks a book may have
abbrev pub task_limit : ℕ
task_limit = 100000

-- how many tasks an add may name
abbrev pub after_limit : ℕ
after_limit = 64

-- the first of these tasks that isn't below a number
abbrev pub first_unseen : ℕ → List ℕ → Option ℕ
first_unseen count after = find (λ a. nat_le count a) after

-- the row of an add to this book
abbrev pub next_row : {W V : Type 0} → BookHistory W V → ℕ → List ℕ → AddRow
next_row book caller after = record { caller = caller; id = length book.rows; after = after; place = length book.events }

-- the book with this add
abbrev pub with_add : {W V : Type 0} → BookHistory W V → ℕ → W → List ℕ → BookHistory W V
with_add book caller work after = record {
  register = book.register;
  callers = book.callers;
  rows = book.rows ++ next_row book caller after ∷ [];
  events = book.events;
  works = book.works ++ work ∷ [];
  stages = book.stages ++ Waiting ∷ [];
  items = book.items;
}

-- Why an add to a book with so many rows is refused. The work is handed back. A book that is full refuses each add;
-- of another the first task named that isn't there; out of memory is returned only where neither holds.
abbrev pub RefusesAdd : {W : Type 0} → ℕ → Arc W Global → List ℕ → AddError W → Type 0
RefusesAdd count work after (NoSuch back task seen) =
    (back ≡ work) × (count < task_limit) × (first_unseen count after ≡ Some task) × (seen ≡ count)
RefusesAdd count work after (Full back seen) = (back ≡ work) × (seen ≡ task_limit) × (count ≡ task_limit)
RefusesAdd count work after (NoMemory back) =
    (back ≡ work) × (count < task_limit) × (first_unseen count after ≡ None)

-- A task may start: it has a row, wasn't started, and all that it names ended.
abbrev pub CanStart : {W V : Type 0} → BookHistory W V → ℕ → Type 0
CanStart book t =
    (times_started book.events t ≡ 0)
    × IsSomeAnd (slice_get book.rows t) (λ (row : AddRow). AllEnded book.events row.after)

-- a task has a row and no end
abbrev pub HasNoEnd : {W V : Type 0} → BookHistory W V → ℕ → Type 0
HasNoEnd book t = (t < length book.rows) × (times_ended book.events t ≡ 0)

-- the book with this start
abbrev pub with_start : {W V : Type 0} → BookHistory W V → ℕ → BookHistory W V
with_start book t = record {
  register = book.register;
  callers = book.callers;
  rows = book.rows;
  events = book.events ++ Started t ∷ [];
  works = book.works;
  stages = slice_set book.stages t Open;
  items = book.items;
}

-- the book with this end
abbrev pub with_end : {W V : Type 0} → BookHistory W V → ℕ → Arc V Global → BookHistory W V
with_end book t value = record {
  register = book.register;
  callers = book.callers;
  rows = book.rows;
  events = book.events ++ Ended t ∷ [];
  works = book.works;
  stages = slice_set book.stages t (Over value);
  items = book.items;
}

-- the book with other items outstanding
abbrev pub with_items : {W V : Type 0} → BookHistory W V → List (Option (Outstanding W V)) → BookHistory W V
with_items book items = record {
  register = book.register;
  callers = book.callers;
  rows = book.rows;
  events = book.events;
  works = book.works;
  stages = book.stages;
  items = items;
}

-- The task could start, and did: its work is its own, and it found the values of the tasks that it names.
pub record StartsTask {W V : Type 0} (old : BookHistory W V) (task : ℕ) (new : BookHistory W V) (started : OpenStart W V) : Type 0 where
  pub could : CanStart old task
  pub register : started.register ≡ old.register
  pub number : started.task ≡ task
  pub work : slice_get old.works task ≡ Some started.work
  pub ins : IsSomeAnd (slice_get old.rows task) (λ (row : AddRow). started.ins ≡ found (value_at old.stages) row.after)
  pub book : new ≡ with_items (with_start old task) new.items

-- the start was open, and its task ended with this value
pub record EndsTask {W V : Type 0} (old : BookHistory W V) (started : OpenStart W V) (value : Arc V Global) (new : BookHistory W V) : Type 0 where
  pub was_started : times_started old.events started.task ≡ 1
  pub not_ended : times_ended old.events started.task ≡ 0
  pub work : slice_get old.works started.task ≡ Some started.work
  pub book : new ≡ with_items (with_end old started.task value) new.items
