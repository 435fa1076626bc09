-- The draws of a plan.
use Rattle.std.specs.Prelude.{ℕ, ◌+◌, ◌*◌, List, map}
use Rattle.std.specs.List.{range_with_len}
use Rattle.graph_generator.specs.Draws.{draw}

-- the first draws from this seed, so many
abbrev pub draws : ℕ → ℕ → List ℕ
draws seed count = map (draw seed) (range_with_len 0 count)

-- the draws of a plan of so many layers, those of the text among them
abbrev pub drawn : ℕ → List ℕ
drawn layers = draws layers (180 + 20 * layers)
