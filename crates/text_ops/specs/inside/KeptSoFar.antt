-- A loop that keeps lines, at a place of the text.
use Rattle.std.specs.Prelude.{◌≡◌, ℕ, ◌≤◌, List, ◌++◌, length, drop}
use Rattle.text_ops.specs.declared.line_runs.LineRuns.{LineRuns}
use Rattle.text_ops.specs.Lines.{IsNormal}
use Rattle.text_ops.specs.inside.Keeping.{HasKept}

-- What was kept before the place, and what the operation keeps of the rest, are what it keeps of the text.
pub record KeptSoFar (kept_of : List ℕ → List ℕ) (text : List ℕ) (runs : LineRuns) (at : ℕ) : Type 0 where
  pub all : List ℕ
  pub kept : HasKept text all runs
  pub behind : runs.end ≤ at
  pub within : at ≤ length text
  pub rest : IsNormal (drop at text)
  pub same : all ++ kept_of (drop at text) ≡ kept_of text
