use Rattle.std.specs.Prelude.{[], ◌∷◌}
use Rattle.std.specs.Arc.{arc_value}
use Rattle.table_steps.proofs.words.Words.draw_end.Given as goal

abbrev pub ghosts-end_told : goal.ghosts-end_told
ghosts-end_told g a = record { gives = a._gives.now; inner = a._inner; values = arc_value a._value.now ∷ [] }
