-- The keys by which lines are matched.
use Rattle.std.specs.Prelude.{ℕ, ◌==◌, not, List, ◌++◌, length, drop, filter_map, Option}
use Rattle.std.specs.List.{take_while, find}
use Rattle.std.specs.Option.{option_map}
use Rattle.std.specs.Str.{bytes_eq}

-- The byte that ends a key.
abbrev pub space : ℕ
space = 32

-- the key of a line: what stands before its first space, or the whole line
abbrev pub match_key : List ℕ → List ℕ
match_key line = take_while (λ byte. not (byte == space)) line

-- what stands behind the key: a space and the rest, or nothing
abbrev pub behind_key : List ℕ → List ℕ
behind_key line = drop (length (match_key line)) line

-- the first of the lines with this key
abbrev pub first_with : List ℕ → List (List ℕ) → Option (List ℕ)
first_with key lines = find (λ line. bytes_eq (match_key line) key) lines

-- the line, with what stands behind the key of the first of the others that has its key
abbrev pub joined : List (List ℕ) → List ℕ → Option (List ℕ)
joined others line = option_map (λ other. line ++ behind_key other) (first_with (match_key line) others)

-- the lines of the left whose key some line of the right has, each joined with the first such line
abbrev pub matched : List (List ℕ) → List (List ℕ) → List (List ℕ)
matched left right = filter_map (joined right) left
