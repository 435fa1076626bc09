-- A loop over lines that keeps those that differ from the one before.
use Rattle.std.specs.Prelude.{◌≡◌, ℕ, ◌≤◌, Bool, false, List, ◌++◌, length, drop, Option, Some, None}
use Rattle.std.specs.Str.{bytes_eq}
use Rattle.text_ops.specs.declared.line_runs.LineRuns.{LineRuns}
use Rattle.text_ops.specs.Lines.{text_of}
use Rattle.text_ops.specs.Repeats.{changes, without_repeats}
use Rattle.text_ops.specs.TextMeaning.{uniq_meaning}
use Rattle.text_ops.specs.inside.Keeping.{HasKept}

-- whether the line is the one before it, if there is one
abbrev pub is_repeated : Option (List ℕ) → List ℕ → Bool
is_repeated None line = false
is_repeated (Some before) line = bytes_eq before line

-- the lines that differ from the one before them, the first from the one given, if there is one
abbrev pub changes_after : Option (List ℕ) → List (List ℕ) → List (List ℕ)
changes_after None lines = without_repeats lines
changes_after (Some before) lines = changes before lines

-- What was kept before the place, and the changes of the rest, are those of the text.
pub record UniqSoFar (text : List ℕ) (runs : LineRuns) (before : Option (List ℕ)) (at : ℕ) (lines : List (List ℕ)) : Type 0 where
  pub all : List ℕ
  pub kept : HasKept text all runs
  pub behind : runs.end ≤ at
  pub within : at ≤ length text
  pub rest : drop at text ≡ text_of lines
  pub same : all ++ text_of (changes_after before lines) ≡ uniq_meaning text
