-- What tells runs over tables from each other, and what their keepers have.
use Rattle.std.specs.Prelude.{ℕ, Option, Some, None}
use Rattle.std.specs.Arc.{arc_value}
use Rattle.std.specs.Global.{Global}
use Rattle.std.specs.declared.sync.Arc.{Arc}
use Rattle.atomic_table.specs.Seated.{TableId}
use Rattle.join_tables.specs.Keeping.{KeeperState}
use Rattle.join_tables.specs.States.{TableState}
use Rattle.run_frame.specs.Meaning.{Meaning}
use Rattle.span_book.specs.SpanBooks.{name_of}
use Rattle.span_book.specs.declared.book.SpanBook.{SpanBook}

-- the name of the book of a run's spans, if it has one
abbrev pub book_in : Option (Arc SpanBook Global) → Option TableId
book_in None = None
book_in (Some book) = Some (name_of (arc_value book))

-- what tells a run from others: the name of its table, its job, and the name of the book of its spans, if it has one
pub record FrameKey (J : Type 0) : Type 0 where
  pub table : TableId
  pub job : J
  pub book : Option TableId

-- the keeper of a run of a job, the spans of the runs inside it that it has, and the name of the book
pub record RunKeeperView (J V : Type 0) : Type 0 where
  pub job : J
  pub keeper : KeeperState V
  pub inside : ℕ
  pub book : Option TableId

abbrev pub key_of : {J V : Type 0} → RunKeeperView J V → FrameKey J
key_of kept = record { table = kept.keeper.table; job = kept.job; book = kept.book }

-- the table of a run, with the net and the limit of its job
abbrev pub table_in : {J V : Type 0} → Meaning J V → FrameKey J → TableState
table_in meaning frame = record { table = frame.table; net = meaning.net frame.job; limit = meaning.limit frame.job }
