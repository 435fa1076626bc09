-- What is under the lock of a desk, as contracts see it.
use Rattle.std.specs.Prelude.{ℕ, List, [], ◌∷◌, ◌++◌, slice_set}
use Rattle.atomic_table.specs.Seated.{TableId}
use Rattle.journal_rules.specs.declared.entry.Entry.{Entry}
use Rattle.desk_book.specs.declared.entry.Ask.{Ask}
use Rattle.desk_book.specs.declared.entry.DeskEntry.TheVariants.{Asked}
use Rattle.desk_book.specs.Books.{BookHistory, with_entry}

-- The books, the job of each graph, and the journals of the rounds that are kept of each ask
pub record DeskLocked (J : Type 0) : Type 0 where
  pub book : BookHistory
  pub jobs : List J
  pub rounds : List (List (List Entry))

abbrev pub desk_locked : {J : Type 0} → BookHistory → List J → List (List (List Entry)) → DeskLocked J
desk_locked book jobs rounds = record { book = book; jobs = jobs; rounds = rounds }

-- which desk it is: the table of its tickets, how many callers it has, and its jobs
pub record DeskKey (J : Type 0) : Type 0 where
  pub register : TableId
  pub callers : ℕ
  pub jobs : List J

abbrev pub desk_key : {J : Type 0} → TableId → ℕ → List J → DeskKey J
desk_key register callers jobs = record { register = register; callers = callers; jobs = jobs }

abbrev pub key_of : {J : Type 0} → DeskLocked J → DeskKey J
key_of desk = desk_key desk.book.register desk.book.callers desk.jobs

-- the same with other books
abbrev pub with_book : {J : Type 0} → DeskLocked J → BookHistory → DeskLocked J
with_book desk book = desk_locked book desk.jobs desk.rounds

-- the same with this ask
abbrev pub with_ask : {J : Type 0} → DeskLocked J → Ask → DeskLocked J
with_ask desk ask = desk_locked (with_entry desk.book (Asked ask)) desk.jobs (desk.rounds ++ [] ∷ [])

-- the same with other books, and with rounds that are kept of an ask, by their journals
abbrev pub with_rounds : {J : Type 0} → DeskLocked J → BookHistory → ℕ → List (List Entry) → DeskLocked J
with_rounds desk book n journals = desk_locked book desk.jobs (slice_set desk.rounds n journals)
