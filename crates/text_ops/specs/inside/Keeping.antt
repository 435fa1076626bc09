-- What was kept of a text.
use Rattle.std.specs.Prelude.{◌≡◌, ℕ, List, ◌++◌, slice_range}
use Rattle.text_ops.specs.declared.line_runs.LineRuns.{LineRuns}
use Rattle.text_ops.specs.inside.Gathering.{IsGathered}

-- The bytes that are kept of the text are those that were copied and the last run.
pub record HasKept (text all : List ℕ) (runs : LineRuns) : Type 0 where
  pub of_text : runs.text.now ≡ text
  pub copied : List ℕ
  pub gathered : IsGathered copied runs.made
  pub same : all ≡ copied ++ slice_range text runs.start runs.end
