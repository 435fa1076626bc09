-- Lines that are counted.
use Rattle.std.specs.Prelude.{◌≡◌, ℕ, ◌+◌, ◌<◌, if◌then◌else◌, List, length, sum_by, slice_index_or, IsTrue}
use Rattle.std.specs.List.{AllAdjacentBelow}
use Rattle.std.specs.Ordering.{is_lt}
use Rattle.std.specs.Str.{bytes_eq}
use Rattle.text_ops.specs.declared.counted_line.CountedLine.{CountedLine}
use Rattle.text_ops.specs.declared.slots.Probed.{Probed}
use Rattle.text_ops.specs.declared.slots.Probed.TheVariants.{Row, Free, Crowded}
use Rattle.text_ops.specs.Lines.{lines_of}
use Rattle.text_ops.specs.LineOrder.{line_cmp}
use Rattle.text_ops.specs.Repeats.{count_of}
use Rattle.text_ops.specs.TextMeaning.{numbered_line}

-- how often a line was counted in a row
abbrev pub counted_in : List ℕ → CountedLine → ℕ
counted_in v row = if bytes_eq v row.line.now then row.count else 0

-- how often a line was counted
abbrev pub times_counted : List ℕ → List CountedLine → ℕ
times_counted v rows = sum_by (counted_in v) rows

-- this line was counted once more, and no other
abbrev pub CountsOneMore : List ℕ → List CountedLine → List CountedLine → Type 0
CountsOneMore line old new = (v : List ℕ) → times_counted v new ≡ times_counted v old + (if bytes_eq v line then 1 else 0)

-- the row is the line's
pub record IsLineRow (rows : List CountedLine) (line : List ℕ) (k : ℕ) : Type 0 where
  pub below : k < length rows
  pub same : (d : CountedLine) → (slice_index_or rows k d).line.now ≡ line

-- a row that was found is the line's
abbrev pub IsFound : List CountedLine → List ℕ → Probed → Type 0
IsFound rows line (Row k) = IsLineRow rows line k
IsFound rows line (Free slot) = Unit {0}
IsFound rows line Crowded = Unit {0}

-- each line is less than the next
abbrev pub AreRisingLines : List CountedLine → Type 0
AreRisingLines rows = AllAdjacentBelow (λ (a b : CountedLine). IsTrue (is_lt (line_cmp a.line.now b.line.now))) rows (length rows)

-- the rows are those of a text's different lines, in order
pub record AreDifferentLines (text : List ℕ) (rows : List CountedLine) : Type 0 where
  pub rising : AreRisingLines rows
  pub counts : (v : List ℕ) → times_counted v rows ≡ count_of v (lines_of text)

-- what was counted so far, and the lines that are left, are those of the text
abbrev pub CountsSoFar : List ℕ → List CountedLine → List (List ℕ) → Type 0
CountsSoFar text rows left = (v : List ℕ) → times_counted v rows + count_of v left ≡ count_of v (lines_of text)

-- a row as a line of a tally
abbrev pub counted_row_line : CountedLine → List ℕ
counted_row_line row = numbered_line row.count row.line.now
