-- The lines of a text.
use Rattle.std.specs.Prelude.{◌≡◌, ◌≢◌, ◌<◌, ℕ, length, slice_index, Bool, true, ◌||◌, ◌==◌, if◌then◌else◌, nat_eq, IsTrue, List, [], ◌∷◌, ◌++◌}
use Rattle.std.specs.List.{flat_map, onto_first, starts_with}

-- The byte that ends a line.
abbrev pub line_end : ℕ
line_end = 10

-- The lines of a text: the pieces that end with a line end, without it, and the rest after the last line end where
-- that isn't empty. The empty text has no line.
abbrev pub lines_of : List ℕ → List (List ℕ)
lines_of [] = []
lines_of (byte ∷ rest) = if byte == line_end then [] ∷ lines_of rest else onto_first byte (lines_of rest)

-- A line as it stands in a text, with its end.
abbrev pub ended : List ℕ → List ℕ
ended line = line ++ line_end ∷ []

-- The text of these lines, each with its end.
abbrev pub text_of : List (List ℕ) → List ℕ
text_of lines = flat_map ended lines

-- Whether a text is empty or ends with a line end.
abbrev pub is_normal : List ℕ → Bool
is_normal [] = true
is_normal (byte ∷ []) = byte == line_end
is_normal (byte ∷ next ∷ rest) = is_normal (next ∷ rest)

-- The text is empty or ends with a line end.
abbrev pub IsNormal : List ℕ → Type 0
IsNormal text = IsTrue (is_normal text)

-- The text, with a line end put after a last line that lacks it.
abbrev pub normal : List ℕ → List ℕ
normal text = if is_normal text then text else ended text

-- No byte of the line is a line end.
abbrev pub IsPlain : List ℕ → Type 0
IsPlain line = (k : ℕ) → k < length line → slice_index line k ≢ line_end

-- Whether the word stands somewhere in the line. The empty word stands in every line.
abbrev pub occurs : List ℕ → List ℕ → Bool
occurs word [] = starts_with nat_eq [] word
occurs word (byte ∷ rest) = starts_with nat_eq (byte ∷ rest) word || occurs word rest

-- The word stands somewhere in the line: the line is a prefix, the word and a rest.
abbrev pub OccursIn : List ℕ → List ℕ → Type 0
OccursIn word line = (front : List ℕ) × (rest : List ℕ) × (line ≡ front ++ (word ++ rest))
