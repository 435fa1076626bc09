-- A loop that cuts a text into parts.
use Rattle.std.specs.Prelude.{◌≡◌, ℕ, ◌*◌, ◌≤◌, List, length, map, drop}
use Rattle.std.specs.List.{range_with_len}
use Rattle.text_ops.specs.Lines.{lines_of}
use Rattle.text_ops.specs.LineParts.{line_part}

-- The parts before the part of a number are cut, and its lines and those behind it are in the text from a place on.
pub record PartsSoFar (n : ℕ) (text : List ℕ) (parts : List (List ℕ)) (part place : ℕ) : Type 0 where
  pub within : place ≤ length text
  pub cut : parts ≡ map (line_part n text) (range_with_len 0 part)
  pub left : lines_of (drop place text) ≡ drop (part * n) (lines_of text)
