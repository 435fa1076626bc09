-- Books, tellers and the spans of runs, as contracts see them.
use Rattle.std.specs.Prelude.{ℕ}
use Rattle.atomic_table.specs.Seated.{TableId}
use Rattle.span_book.specs.declared.book.SpanBook.{SpanBook}

-- the name of a book, and how many tellers it was made with
abbrev pub name_of : SpanBook → TableId
name_of book = book.table.shared.table_id

abbrev pub all_tellers : SpanBook → ℕ
all_tellers book = book.table.shared.key

-- the book of a teller, and the spans that it told and that were taken in
pub record TellerState : Type 0 where
  pub book : TableId
  pub told : ℕ

abbrev pub teller_state : TableId → ℕ → TellerState
teller_state book told = record { book = book; told = told }

-- The book of a run; how many runs it is inside; the spans that its keeper took in, those of runs inside it among them;
-- and how many runs inside it were opened and came back
pub record SpansState : Type 0 where
  pub book : TableId
  pub depth : ℕ
  pub noted : ℕ
  pub opened : ℕ
  pub back : ℕ

abbrev pub spans_state : TableId → ℕ → ℕ → ℕ → ℕ → SpansState
spans_state book depth noted opened back = record { book = book; depth = depth; noted = noted; opened = opened; back = back }

-- a run that has begun
abbrev pub no_spans : TableId → ℕ → SpansState
no_spans book depth = spans_state book depth 0 0 0

-- The book of an outermost run that has back what was opened in it; how many tellers were collected and the spans that
-- these told; the spans that the run's keeper took in; and how many runs were opened in it
pub record TallyState : Type 0 where
  pub book : TableId
  pub tellers : ℕ
  pub told : ℕ
  pub noted : ℕ
  pub opened : ℕ

abbrev pub tally_state : TableId → ℕ → ℕ → ℕ → ℕ → TallyState
tally_state book tellers told noted opened = record { book = book; tellers = tellers; told = told; noted = noted; opened = opened }
