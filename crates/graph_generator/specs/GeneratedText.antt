-- The text that generated graphs read.
use Rattle.std.specs.Prelude.{ℕ, ◌%◌, List, ◌++◌, codes, decimal}
use Rattle.std.specs.List.{flat_map, range_with_len}
use Rattle.graph_generator.specs.Draws.{draw}

-- a line of this number, by its draw: one of fifty words, and the number
abbrev pub text_line : ℕ → ℕ → List ℕ
text_line n d = codes "w" ++ decimal (d % 50) ++ codes " " ++ decimal n ++ codes "\n"

-- so many lines
unfoldable pub text_lines : ℕ → ℕ → List ℕ
text_lines seed count = flat_map (λ n. text_line n (draw seed n)) (range_with_len 0 count)

-- the text: 200 lines
abbrev pub generated_text : ℕ → List ℕ
generated_text seed = text_lines seed 200
