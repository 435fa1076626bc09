-- A loop over lines in order that counts equal ones.
use Rattle.std.specs.Prelude.{◌≡◌, ℕ, ◌≤◌, List, [], ◌∷◌, ◌++◌, length, map, take, drop}
use Rattle.std.specs.List.{prefix_len}
use Rattle.std.specs.Str.{bytes_eq}
use Rattle.text_ops.specs.declared.gathered.Gathered.{Gathered}
use Rattle.text_ops.specs.Lines.{text_of, lines_of}
use Rattle.text_ops.specs.Repeats.{without_repeats, count_of}
use Rattle.text_ops.specs.TextMeaning.{tally_line, tally_meaning}
use Rattle.text_ops.specs.inside.Gathering.{IsGathered}

-- how many lines, from the first on, are the first
abbrev pub run_of : List (List ℕ) → ℕ
run_of [] = 0
run_of (line ∷ rest) = prefix_len (bytes_eq line) (line ∷ rest)

-- What was put for the first so many lines of those in order, and what is put for the others, are the text's tally;
-- no line of the others stands among the first.
pub record TallySoFar (text : List ℕ) (ordered : List (List ℕ)) (place : ℕ) (made : Gathered) : Type 0 where
  pub all : List ℕ
  pub gathered : IsGathered all made
  pub within : place ≤ length ordered
  pub apart : (v : List ℕ) → 1 ≤ count_of v (drop place ordered) → count_of v (take place ordered) ≡ 0
  pub same : all ++ text_of (map (tally_line (lines_of text)) (without_repeats (drop place ordered))) ≡ tally_meaning text
