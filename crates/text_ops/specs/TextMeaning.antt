-- What each operation makes of a text.
use Rattle.std.specs.Prelude.{ℕ, ◌-◌, Bool, not, List, [], ◌∷◌, ◌++◌, length, filter, count_by, map, take, drop, decimal}
use Rattle.std.specs.List.{list_any}
use Rattle.text_ops.specs.Lines.{lines_of, text_of, occurs}
use Rattle.text_ops.specs.LineOrder.{in_order}
use Rattle.text_ops.specs.Repeats.{without_repeats, count_of}
use Rattle.text_ops.specs.MatchKeys.{space, matched}

-- The lines in which the word occurs.
abbrev pub keep_meaning : List ℕ → List ℕ → List ℕ
keep_meaning word text = text_of (filter (occurs word) (lines_of text))

-- The lines in which the word doesn't occur.
abbrev pub without_meaning : List ℕ → List ℕ → List ℕ
without_meaning word text = text_of (filter (λ line. not (occurs word line)) (lines_of text))

-- The first n lines.
abbrev pub head_meaning : ℕ → List ℕ → List ℕ
head_meaning n text = text_of (take n (lines_of text))

-- The last n lines.
abbrev pub tail_meaning : ℕ → List ℕ → List ℕ
tail_meaning n text = text_of (drop (length (lines_of text) - n) (lines_of text))

-- All but the first n lines.
abbrev pub skip_meaning : ℕ → List ℕ → List ℕ
skip_meaning n text = text_of (drop n (lines_of text))

-- The lines in the order of their bytes.
abbrev pub sort_meaning : List ℕ → List ℕ
sort_meaning text = text_of (in_order (lines_of text))

-- The lines that differ from the line just before them.
abbrev pub uniq_meaning : List ℕ → List ℕ
uniq_meaning text = text_of (without_repeats (lines_of text))

-- One line, the number of lines in decimal.
abbrev pub count_meaning : List ℕ → List ℕ
count_meaning text = text_of (decimal (length (lines_of text)) ∷ [])

-- how often a line stands among the lines, in decimal, a space and the line
abbrev pub tally_line : List (List ℕ) → List ℕ → List ℕ
tally_line lines line = decimal (count_of line lines) ++ space ∷ line

-- a number in decimal, a space and a line
abbrev pub numbered_line : ℕ → List ℕ → List ℕ
numbered_line number line = decimal number ++ space ∷ line

-- The lines, each behind the number and a space.
abbrev pub numbered_meaning : ℕ → List ℕ → List ℕ
numbered_meaning number text = text_of (map (numbered_line number) (lines_of text))

-- For each different line, in the order of their bytes, a line with its count, a space and the line.
abbrev pub tally_meaning : List ℕ → List ℕ
tally_meaning text = text_of (map (tally_line (lines_of text)) (without_repeats (in_order (lines_of text))))

-- The lines of the left whose key is that of some line of the right, each with what stands behind the key of the
-- first such line.
abbrev pub match_meaning : List ℕ → List ℕ → List ℕ
match_meaning left right = text_of (matched (lines_of left) (lines_of right))

-- Whether the word occurs in some line.
abbrev pub has_word : List ℕ → List ℕ → Bool
has_word word text = list_any (occurs word) (lines_of text)

-- In how many lines the word occurs.
abbrev pub word_lines : List ℕ → List ℕ → ℕ
word_lines word text = count_by (occurs word) (lines_of text)
