-- Books that several threads share, as contracts see them.
use Rattle.std.specs.Prelude.{◌≡◌, ℕ, ◌+◌, ◌<◌, List, [], ◌∷◌, ◌++◌, length, Option, Some, None, slice_get, IsSomeAnd, IfSome}
use Rattle.atomic_table.specs.Seated.{TableId}
use Rattle.ready_deques.specs.Lists.{OwnerState, IsOwnerOf}
use Rattle.ready_deques.specs.declared.ready.Ready.{Ready}
use Rattle.async_tasks.specs.declared.seat.AsyncStep.{AsyncStep}
use Rattle.async_tasks.specs.declared.seat.AsyncStep.TheVariants.{Ran, Empty}
use Rattle.async_tasks.specs.Starts.{EndRecord, IsAfter}
use Rattle.async_tasks.specs.Passes.{PassState, IsTicketOf, seen, kept}

-- The table of a book's tickets, how many callers it has, and the table of the count word of its list of ready tasks
pub record AsyncBookState : Type 0 where
  pub register : TableId
  pub callers : ℕ
  pub counts : TableId

abbrev pub async_book_state : TableId → ℕ → TableId → AsyncBookState
async_book_state register callers counts = record { register = register; callers = callers; counts = counts }

-- the table of a list's count word
abbrev pub counts_of : {T : Type 0} → Ready T → TableId
counts_of ready = ready.counter.table.shared.table_id

-- a pass of this book, of one of its callers
pub record IsPassOf {W V : Type 0} (book : AsyncBookState) (pass : PassState W V) : Type 0 where
  pub ticket : IsTicketOf book.register pass.ticket
  pub caller : pass.caller < book.callers

-- the pass has added a task: it has seen it, and keeps its number and the tasks that it names
pub record HasAdded {W V : Type 0} (old : PassState W V) (id : ℕ) (after : List ℕ) (new : PassState W V) : Type 0 where
  pub last : length (seen new) ≡ id + 1
  pub kept_it : kept new ≡ kept old ++ (id, after) ∷ []

-- an owner is one of the list with this count word, and the list has the empty tag
abbrev pub IsOwnerAt : TableId → OwnerState → Type 0
IsOwnerAt counts owner = (owner.tag ≡ []) × (owner.counts ≡ counts)

-- A seat: its owner of a list of ready tasks, and the end of the task that it ran last, if it ran one
pub record AsyncSeatState : Type 0 where
  pub owner : OwnerState
  pub last : Option EndRecord

abbrev pub async_seat_state : OwnerState → Option EndRecord → AsyncSeatState
async_seat_state owner last = record { owner = owner; last = last }

-- the owner that a seat has is one of this book's list, and its last end was recorded by this book
pub record IsSeatOf (book : AsyncBookState) (seat : AsyncSeatState) : Type 0 where
  pub owner : IsOwnerAt book.counts seat.owner
  pub last : IfSome seat.last (λ (end : EndRecord). end.register ≡ book.register)

-- a seat has an owner of this list, and ran no task
abbrev pub IsNewSeatOf : {T : Type 0} → Ready T → AsyncSeatState → Type 0
IsNewSeatOf ready seat = IsOwnerOf ready seat.owner × (seat.last ≡ None)

-- the seat was given the end of this task, which the book recorded after the end that the seat had
abbrev pub HasRun : AsyncBookState → AsyncSeatState → ℕ → AsyncSeatState → Type 0
HasRun book old task new =
    IsSomeAnd new.last (λ (end : EndRecord). (end.register ≡ book.register) × (end.task ≡ task) × IsAfter old.last end.place)

-- A step names the task whose end the seat was given, or found the list of ready tasks empty.
abbrev pub HasStepped : AsyncBookState → AsyncSeatState → AsyncStep → AsyncSeatState → Type 0
HasStepped book old (Ran task) new = HasRun book old task new
HasStepped book old Empty new = (old.owner.zeros < new.owner.zeros) × (new.last ≡ old.last)

-- these are all passes of the book, each at its caller's place
pub record ArePassesOf {W V : Type 0} (book : AsyncBookState) (passes : List (PassState W V)) : Type 0 where
  pub count : length passes ≡ book.callers
  pub each : (c : ℕ) (pass : PassState W V) → slice_get passes c ≡ Some pass → IsPassOf book pass × (pass.caller ≡ c)

-- the first passes of the callers below a number, each at its caller's place
abbrev pub AreFirstPasses : {W V : Type 0} → TableId → List (PassState W V) → Type 0
AreFirstPasses {W} {V} register passes = (c : ℕ) (pass : PassState W V) → slice_get passes c ≡ Some pass → IsTicketOf register pass.ticket × (pass.caller ≡ c)

-- how many callers a book may have
abbrev pub caller_limit : ℕ
caller_limit = 64
