-- The first line of a text in which a word occurs.
use Rattle.std.specs.Prelude.{◌≡◌, ◌≢◌, ℕ, ◌+◌, ◌-◌, ◌<◌, ◌≤◌, List, [], ◌++◌, length, take, drop, slice_index, slice_range}
use Rattle.text_ops.specs.declared.found_line.FoundLine.{FoundLine}
use Rattle.text_ops.specs.Lines.{line_end, IsNormal, IsPlain}
use Rattle.text_ops.specs.inside.Cuts.{end_count}
use Rattle.text_ops.specs.TextMeaning.{keep_meaning, without_meaning}

-- The line that this place is in starts here.
pub record StartsLine (text : List ℕ) (place start : ℕ) : Type 0 where
  pub before : start ≤ place
  pub whole_lines : IsNormal (take start text)
  pub plain : (k : ℕ) → start ≤ k → k < place → slice_index text k ≢ line_end

-- The line that this place is in, with its line end, ends before this one.
pub record EndsLine (text : List ℕ) (place end : ℕ) : Type 0 where
  pub past : place < end
  pub within : end ≤ length text
  pub ends : slice_index text (end - 1) ≡ line_end
  pub plain : (k : ℕ) → place ≤ k → k + 1 < end → slice_index text k ≢ line_end

-- The word isn't empty, and may stand within a line.
pub record IsSearchWord (word : List ℕ) : Type 0 where
  pub long : 0 < length word
  pub plain : IsPlain word

-- The word occurs in this line and in none before it.
pub record IsFirstKept (word text : List ℕ) (line : FoundLine) : Type 0 where
  pub rising : line.start < line.end
  pub within : line.end ≤ length text
  pub before : IsNormal (take line.start text)
  pub whole : IsNormal (slice_range text line.start line.end)
  pub one : end_count (slice_range text line.start line.end) ≡ 1
  pub kept : keep_meaning word text ≡ slice_range text line.start line.end ++ keep_meaning word (drop line.end text)
  pub others : without_meaning word text ≡ take line.start text ++ without_meaning word (drop line.end text)

-- The word occurs in no line.
pub record IsNowhere (word text : List ℕ) : Type 0 where
  pub kept : keep_meaning word text ≡ []
  pub others : without_meaning word text ≡ text
