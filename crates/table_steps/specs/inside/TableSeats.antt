-- What a seat is.
use Rattle.std.specs.Prelude.{ℕ, List}
use Rattle.atomic_table.specs.Table.{Me}
use Rattle.atomic_table.specs.Seated.{TableId}
use Rattle.join_words.specs.declared.ins.Given.{Given}
use Rattle.table_steps.specs.declared.view.Note.{Note}
use Rattle.table_steps.specs.declared.view.EndValue.{EndValue}

-- the name of its table, its number there, its notes with the slots that it holds, what it knows of the values of Ends,
-- and the numbers that its steps found, the newest first
pub record TableSeatState (V : Type 0) : Type 0 where
  pub table_id : TableId
  pub id : ℕ
  pub me : Me (List (Given V)) (List Note)
  pub values : List (EndValue V)
  pub found : List ℕ
