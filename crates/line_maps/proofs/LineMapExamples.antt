-- The definitions, computed on the text `b`, `ab` and `c`.
use Rattle.std.proofs.Common.{◌≡◌, List, ℕ, [], ◌∷◌, refl, codes}
use Rattle.std.specs.Fmt.{digits}
use Rattle.graph_plans.specs.declared.ops.TextOp.TheVariants.{Pass, Keep, Count, Tally}
use Rattle.grain_tasks.specs.Folds.{plain_fold}
use Rattle.line_maps.specs.LineMaps.{line_map, mapping, line_map_limit}

abbrev three : List ℕ
three = codes "b\nab\nc\n"

of_an_operation_and_a_text : ((line_map Pass three).op ≡ Pass) × ((line_map Pass three).text ≡ three)
of_an_operation_and_a_text = (refl, refl)

longest_text : line_map_limit ≡ 16777213
longest_text = refl

lines_mapped : mapping.count (line_map Pass three) ≡ 3
lines_mapped = refl

line_alone : mapping.at (line_map Pass three) 1 ≡ codes "ab\n"
line_alone = refl

line_left_out : (mapping.at (line_map (Keep (codes "b")) three) 2 ≡ []) × (mapping.at (line_map (Keep (codes "b")) three) 0 ≡ codes "b\n")
line_left_out = (refl, refl)

line_counted : mapping.at (line_map Count three) 1 ≡ codes "1\n"
unfolding digits
line_counted = refl

line_tallied : mapping.at (line_map Tally three) 2 ≡ codes "1 c\n"
unfolding digits
line_tallied = refl

nothing_of_no_line : mapping.unit (line_map Pass three) ≡ []
nothing_of_no_line = refl

one_behind_the_other : mapping.join (line_map Pass three) (codes "a\n") (codes "b\n") ≡ codes "a\nb\n"
one_behind_the_other = refl

each_counted : plain_fold mapping (line_map Count three) 3 ≡ codes "1\n1\n1\n"
unfolding digits
each_counted = refl

each_value_allowed : mapping.allowed (line_map Pass three) []
each_value_allowed = tt
