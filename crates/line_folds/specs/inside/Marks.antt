-- The places of some lines of a text.
use Rattle.std.specs.Prelude.{◌≡◌, ℕ, ◌+◌, ◌*◌, ◌<◌, ◌≤◌, List, length, slice_index}
use Rattle.text_ops.specs.Lines.{IsNormal, lines_of}
use Rattle.text_ops.specs.LineParts.{IsCut}

-- a place is kept for each of so many lines
abbrev pub mark_step : ℕ
mark_step = 1000

-- The lines numbered 0, 1,000, 2,000 and so on begin at these places, and there are places for these lines and no more.
pub record AreLineMarks (text : List ℕ) (marks : List ℕ) : Type 0 where
  pub each : (k : ℕ) → k < length marks → IsCut text (k * mark_step) (slice_index marks k)
  pub all : length (lines_of text) ≤ length marks * mark_step
  pub none_behind : length marks * mark_step < length (lines_of text) + mark_step

pub record IsLineIndex (text : List ℕ) (lines : ℕ) (marks : List ℕ) : Type 0 where
  pub normal : IsNormal text
  pub count : lines ≡ length (lines_of text)
  pub places : AreLineMarks text marks
