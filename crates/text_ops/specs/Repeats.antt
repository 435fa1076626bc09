-- Lines that stand more than once.
use Rattle.std.specs.Prelude.{◌≢◌, ℕ, length, if◌then◌else◌, List, [], ◌∷◌, count_by}
use Rattle.std.specs.List.{AllAdjacentBelow}
use Rattle.std.specs.Str.{bytes_eq}

-- the lines that differ from the one just before them, of which the first has this line before it
abbrev pub changes : List ℕ → List (List ℕ) → List (List ℕ)
changes before [] = []
changes before (line ∷ rest) = if bytes_eq before line then changes line rest else line ∷ changes line rest

-- the lines that differ from the one just before them; the first has none before it
abbrev pub without_repeats : List (List ℕ) → List (List ℕ)
without_repeats [] = []
without_repeats (line ∷ rest) = line ∷ changes line rest

-- how many of the lines are this one
abbrev pub count_of : List ℕ → List (List ℕ) → ℕ
count_of line lines = count_by (bytes_eq line) lines

-- No line is the one just before it.
abbrev pub NeighboursDiffer : List (List ℕ) → Type 0
NeighboursDiffer lines = AllAdjacentBelow (λ a b. a ≢ b) lines (length lines)
