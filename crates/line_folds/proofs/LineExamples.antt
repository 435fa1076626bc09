-- The definitions, computed on the text `ab`, `c` and `bb`.
use Rattle.std.proofs.Common.{◌≡◌, ℕ, ◌≤◌, List, [], ◌∷◌, length, take, drop, refl, ap, arith, codes}
use Rattle.text_ops.specs.Lines.{lines_of}
use Rattle.text_ops.specs.LineParts.{IsCut}
use Rattle.grain_tasks.specs.Folds.{plain_fold}
use Rattle.line_folds.specs.WordFolds.{WordText, max_count, word_fold, word_text}

abbrev three : List ℕ
three = codes "ab\nc\nbb\n"

abbrev b_in_three : WordText
b_in_three = word_text (codes "b") three

-- ---- places between lines

behind_the_first_line : IsCut three 1 3
behind_the_first_line = record { within = omega arith; whole = refl; before = refl; behind = refl }

behind_all_lines : IsCut three 9 8
behind_all_lines = record { within = omega arith; whole = refl; before = refl; behind = refl }

within_a_line : ¬ IsCut three 1 2
within_a_line cut = let ended = cut.whole in absurd (cc)

behind_a_line_more : ¬ IsCut three 1 5
behind_a_line_more cut = absurd (omega (arith, ap length cut.before))

past_the_end : ¬ IsCut three 9 9
past_the_end cut = absurd (omega (arith, cut.within))

before_the_lines_that_are_left : ¬ IsCut (codes "\n") 0 1
before_the_lines_that_are_left cut = absurd (omega (arith, ap length cut.behind))

-- ---- the fold of a word

of_a_word_and_a_text : ((word_text (codes "b") (codes "a")).word ≡ codes "b") × ((word_text (codes "b") (codes "a")).text ≡ codes "a")
of_a_word_and_a_text = (refl, refl)

lines_counted : word_fold.count b_in_three ≡ 3
lines_counted = refl

value_of_a_line_with_the_word : (word_fold.at b_in_three 0 ≡ 1) × (word_fold.at b_in_three 1 ≡ 0) × (word_fold.at b_in_three 2 ≡ 1)
value_of_a_line_with_the_word = (refl, refl, refl)

value_of_no_line : word_fold.unit b_in_three ≡ 0
value_of_no_line = refl

values_added : word_fold.join b_in_three 2 3 ≡ 5
values_added = refl

greatest_value_kept : word_fold.join b_in_three max_count 1 ≡ 18446744073709551615
greatest_value_kept = omega arith

allowed_up_to_the_greatest : word_fold.allowed b_in_three 18446744073709551615 × (¬ word_fold.allowed b_in_three 18446744073709551616)
allowed_up_to_the_greatest = (omega arith, λ few. absurd (omega (arith, few)))

all_lines_folded : plain_fold word_fold b_in_three 3 ≡ 2
all_lines_folded = refl

first_lines_folded : plain_fold word_fold b_in_three 2 ≡ 1
first_lines_folded = refl
