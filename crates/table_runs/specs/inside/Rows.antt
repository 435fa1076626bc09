-- The rows of a run's values, and of the runs inside it.
use Rattle.std.specs.Prelude.{ℕ, List, map}
use Rattle.join_tables.specs.declared.keeper.RecordedValue.{RecordedValue}
use Rattle.run_frame.specs.declared.run.InnerRow.{InnerRow, out-InnerRow}
use Rattle.run_frame.specs.declared.run.ValueRow.{ValueRow}

-- the row that has a value at its place
abbrev pub row_of : {V : Type 0} → RecordedValue V → ValueRow V
row_of r = record { place = r.place; value = r.value }

abbrev pub rows_of : {V : Type 0} → List (RecordedValue V) → List (ValueRow V)
rows_of values = map row_of values

-- the place of a run inside another
abbrev pub place_in_row : {J V : Type 0} → InnerRow J V → ℕ
place_in_row {J} {V} row = (out-InnerRow J V row).place
