-- The text of a profile: a table in columns.
use Rattle.std.specs.Prelude.{ℕ, ◌-◌, List, ◌++◌, length, replicate, codes, decimal}
use Rattle.std.specs.List.{flat_map, zip}
use Rattle.profile_table.specs.declared.row.TableRow.{TableRow}

-- so many spaces
abbrev pub spaces : ℕ → List ℕ
spaces count = replicate count 32

-- a text at the left of so many columns; a longer one is whole
abbrev pub padded_right : ℕ → List ℕ → List ℕ
padded_right width text = text ++ spaces (width - length text)

-- a text at the right of so many columns; a longer one is whole
abbrev pub padded_left : ℕ → List ℕ → List ℕ
padded_left width text = spaces (width - length text) ++ text

-- how wide a name and a number are
abbrev pub name_width : ℕ
name_width = 20

abbrev pub number_width : ℕ
number_width = 9

-- a number at the right
abbrev pub number_column : ℕ → List ℕ
number_column number = padded_left number_width (decimal number)

-- the line above the columns
abbrev pub columns_line : List ℕ
columns_line =
    padded_right name_width (codes "task") ++ padded_left number_width (codes "starts") ++ padded_left number_width (codes "ends") ++ padded_left number_width (codes "faults")
    ++ padded_left number_width (codes "drops") ++ codes "\n"

-- the line of a task with this name
abbrev pub row_line : List ℕ × TableRow → List ℕ
row_line (name, row) =
    padded_right name_width name ++ number_column row.starts ++ number_column row.ends ++ number_column row.faults ++ number_column row.drops ++ codes "\n"

-- the last line: how many spans there were
abbrev pub spans_line : ℕ → List ℕ
spans_line spans = padded_right name_width (codes "spans") ++ number_column spans ++ codes "\n"

-- The text of a profile: a line for each task, between a first and a last one.
unfoldable pub profile_text : List TableRow → List (List ℕ) → ℕ → List ℕ
profile_text rows names spans = columns_line ++ flat_map row_line (zip names rows) ++ spans_line spans
