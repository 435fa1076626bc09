-- The lines of a text in parts.
use Rattle.std.specs.Prelude.{◌≡◌, ℕ, ◌*◌, ◌≤◌, List, length, map, take, drop}
use Rattle.std.specs.Int.{div_ceil}
use Rattle.std.specs.List.{range_with_len}
use Rattle.text_ops.specs.Lines.{lines_of, text_of, IsNormal}

-- how many parts of n lines a text has, the last one with what remains
abbrev pub part_count : ℕ → List ℕ → ℕ
part_count n text = div_ceil (length (lines_of text)) n

-- the part of a number, from 0: its n lines, or those that remain
abbrev pub line_part : ℕ → List ℕ → ℕ → List ℕ
line_part n text i = text_of (take n (drop (i * n) (lines_of text)))

-- the parts in their order
abbrev pub line_parts : ℕ → List ℕ → List (List ℕ)
line_parts n text = map (line_part n text) (range_with_len 0 (part_count n text))

-- The first n lines end at this place, or all lines where there are fewer.
pub record IsCut (text : List ℕ) (n place : ℕ) : Type 0 where
  pub within : place ≤ length text
  pub whole : IsNormal (take place text)
  pub before : take n (lines_of text) ≡ lines_of (take place text)
  pub behind : drop n (lines_of text) ≡ lines_of (drop place text)
