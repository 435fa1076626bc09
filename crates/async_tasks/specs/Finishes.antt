-- What finishing a book comes to.
use Rattle.std.specs.Prelude.{◌≡◌, ℕ, List, length, sum_by, Some, slice_get}
use Rattle.std.specs.List.{AllByRecursion}
use Rattle.atomic_table.specs.Seated.{TableId}
use Rattle.async_tasks.specs.declared.history.AddRow.{AddRow}
use Rattle.async_tasks.specs.declared.finish.Finished.{Finished}
use Rattle.async_tasks.specs.declared.finish.Finished.TheVariants.{Done, Open}
use Rattle.async_tasks.specs.declared.run.AsyncRun.{AsyncRun}
use Rattle.async_tasks.specs.Histories.{kept_of, IsHistory}
use Rattle.async_tasks.specs.Books.{BookHistory, book_key, key_of}
use Rattle.async_tasks.specs.Adds.{HasNoEnd}
use Rattle.async_tasks.specs.Passes.{PassState, seen, kept, IsTicketOf, HaveLooked}
use Rattle.async_tasks.specs.Starts.{HasSeen}
use Rattle.async_tasks.specs.AsyncBooks.{AsyncBookState, ArePassesOf}
use Rattle.async_tasks.specs.Runs.{IsAsyncRun}

-- The run is a finished one, the adds of each caller are those that its pass has kept, in its order, and there are no
-- others.
pub record IsDone {W V : Type 0} (answers : W → List V → V → Type 0) (callers : ℕ) (passes : List (PassState W V)) (run : AsyncRun W V) : Type 0 where
  pub is_run : IsAsyncRun answers callers run
  pub kept_all : (c : ℕ) (pass : PassState W V) → slice_get passes c ≡ Some pass → kept_of c run.adds ≡ kept pass
  pub counted : length run.adds ≡ sum_by (λ (pass : PassState W V). length (kept pass)) passes

-- The book was found with this history, in which the task has no end. The passes are those that come back: they have
-- seen its rows.
pub record IsOpenAt {W V : Type 0} (book : AsyncBookState) (passes back : List (PassState W V)) (task : ℕ) (found : BookHistory W V) : Type 0 where
  pub same : key_of found ≡ book_key book.register book.callers
  pub history : IsHistory found.callers found.rows found.events
  pub no_end : HasNoEnd found task
  pub own : ArePassesOf book back
  pub looked : HaveLooked found.rows passes back

-- what each pass has seen is a prefix of these rows, with all of its caller's
abbrev pub HaveSeen : {W V : Type 0} → List AddRow → List (PassState W V) → Type 0
HaveSeen {W} {V} rows passes = AllByRecursion (λ (pass : PassState W V). HasSeen rows pass.caller (seen pass)) passes

-- each has a ticket of this table
abbrev pub HaveTickets : {W V : Type 0} → TableId → List (PassState W V) → Type 0
HaveTickets {W} {V} register passes = AllByRecursion (λ (pass : PassState W V). IsTicketOf register pass.ticket) passes

-- Done with a finished run; or Open with the same book, which was found with a task that has no end.
abbrev pub IsFinished : {W V : Type 0} → (W → List V → V → Type 0) → AsyncBookState → List (PassState W V) → Finished W V → Type 0
IsFinished answers book passes (Done run) = IsDone answers book.callers passes run
IsFinished answers book passes (Open same back task found) = (same ≡ book) × IsOpenAt book passes back.items task found.value
