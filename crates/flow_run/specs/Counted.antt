-- What a count of the lines of a text with a word comes to, how it ends and what is written of it.
use Rattle.std.specs.Prelude.{◌≡◌, ◌⊎◌, ◌≤◌, ℕ, List, length, codes, Option, Some, None, IsSomeAnd}
use Rattle.text_ops.specs.TextMeaning.{word_lines}
use Rattle.call_status.specs.declared.status.Status.{Status}
use Rattle.call_status.specs.Stopping.{StoppedBefore}
use Rattle.flow_run.specs.declared.conclusion.Conclusion.{Conclusion}
use Rattle.flow_run.specs.declared.conclusion.Conclusion.TheVariants as conclusion
use Rattle.flow_run.specs.Generated.{number_line}
use Rattle.flow_run.specs.Requests.{SourceTexts, IsTextOf, StopsAtName, text_limit}
use Rattle.flow_run.specs.PlanFiles.{IsAfterConclusion}

-- the word occurs in so many lines of the text that is held under the file's name
pub record IsLineCount (held : SourceTexts) (word file : List ℕ) (lines : ℕ) : Type 0 where
  pub text : List ℕ
  pub read : IsTextOf held file text
  pub counted : lines ≡ word_lines word text

-- they are counted, and their number is written
pub record EndsCounted (held : SourceTexts) (word file : List ℕ) (status : Status) (concluded : Option Conclusion) : Type 0 where
  pub lines : ℕ
  pub only : concluded ≡ Some (conclusion.WordLines lines)
  pub counted : IsLineCount held word file lines
  pub after : IsAfterConclusion status

-- How a call ends that is to count lines: at the text, for a reason that the status has, or after them.
abbrev pub CountEnds : SourceTexts → List ℕ → List ℕ → Status → Option Conclusion → Type 0
CountEnds held word file status concluded =
    StoppedBefore (StopsAtName held file text_limit) status (concluded ≡ None) ⊎ EndsCounted held word file status concluded

-- what is written of their number
abbrev pub count_text : ℕ → List ℕ
count_text lines = number_line (codes "lines ") lines

-- What such a call needs is held: the text has no more bytes than may be read.
abbrev pub HoldsText : (List ℕ → Option (List ℕ)) → List ℕ → Type 0
HoldsText text file = IsSomeAnd (text file) (λ bytes. length bytes ≤ text_limit)
