-- How a line is matched with the sort keys of others.
use Rattle.std.specs.Prelude.{◌≡◌, ℕ, ◌+◌, ◌<◌, ◌≤◌, ◌==◌, Bool, true, false, not, List, ◌++◌, length, drop, slice_index_or}
use Rattle.std.specs.List.{take_while}
use Rattle.std.specs.Ordering.{nat_cmp, ordering_then, is_lt}
use Rattle.text_ops.specs.declared.gathered.Gathered.{Gathered}
use Rattle.text_ops.specs.Lines.{line_end, lines_of, text_of}
use Rattle.text_ops.specs.LineOrder.{line_cmp}
use Rattle.text_ops.specs.MatchKeys.{matched}
use Rattle.text_ops.specs.TextMeaning.{match_meaning}
use Rattle.text_ops.specs.inside.Gathering.{IsGathered}
use Rattle.text_ops.specs.inside.SortKeys.{SortKeyRow, lead_of, keyed_piece}

-- what stands behind a sort key in its line
abbrev pub behind_sort_key : List ℕ → SortKeyRow → List ℕ
behind_sort_key text sort_key = take_while (λ byte. not (byte == line_end)) (drop (sort_key.start + sort_key.len) text)

-- whether the sort key's piece is less than the key
abbrev pub is_before : List ℕ → List ℕ → SortKeyRow → Bool
is_before text key sort_key = is_lt (ordering_then (nat_cmp sort_key.lead (lead_of key)) (line_cmp (keyed_piece text sort_key) key))

-- the sort keys before this place stand for less than the key, and the others don't
pub record IsFirstPlace (text key : List ℕ) (sort_keys : List SortKeyRow) (place : ℕ) : Type 0 where
  pub within : place ≤ length sort_keys
  pub before : (k : ℕ) (d : SortKeyRow) → k < place → is_lt (line_cmp (keyed_piece text (slice_index_or sort_keys k d)) key) ≡ true
  pub behind : (k : ℕ) (d : SortKeyRow) → place ≤ k → k < length sort_keys → is_lt (line_cmp (keyed_piece text (slice_index_or sort_keys k d)) key) ≡ false

-- What was put, and the matches of the lines that are left, are those of the text.
pub record MatchSoFar (left right : List ℕ) (lines : List (List ℕ)) (made : Gathered) : Type 0 where
  pub all : List ℕ
  pub gathered : IsGathered all made
  pub same : all ++ text_of (matched lines (lines_of right)) ≡ match_meaning left right
