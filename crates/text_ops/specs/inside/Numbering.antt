-- A loop that puts the same bytes before each line.
use Rattle.std.specs.Prelude.{◌≡◌, ℕ, List, ◌++◌, map}
use Rattle.text_ops.specs.declared.gathered.Gathered.{Gathered}
use Rattle.text_ops.specs.Lines.{lines_of, text_of}
use Rattle.text_ops.specs.inside.Gathering.{IsGathered}

-- these lines, each behind the same bytes
abbrev pub all_behind : List ℕ → List (List ℕ) → List ℕ
all_behind front lines = text_of (map (λ line. front ++ line) lines)

-- What was put, and the lines that are left, are those of the text.
pub record NumberedSoFar (front text : List ℕ) (lines : List (List ℕ)) (made : Gathered) : Type 0 where
  pub all : List ℕ
  pub gathered : IsGathered all made
  pub same : all ++ all_behind front lines ≡ all_behind front (lines_of text)
