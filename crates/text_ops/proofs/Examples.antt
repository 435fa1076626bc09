-- The definitions, computed on small texts.
use Rattle.std.proofs.Common.{◌≡◌, ◌≢◌, ◌<◌, ℕ, true, false, List, [], ◌∷◌, length, Some, None, Ok, Err, refl, codes, ap, get_or, suc, zero, sym, lit<, lit≤, arith}
use Rattle.std.specs.Fmt.{digits}
use Rattle.std.specs.declared.cmp.Ordering.TheVariants.{Less, Equal, Greater}
use Rattle.text_ops.specs.declared.gathered.ApplyError.TheVariants.{Long, NoMemory}
use Rattle.text_ops.specs.Lines.{lines_of, text_of, normal, occurs}
use Rattle.text_ops.specs.LineOrder.{line_cmp, IsUpTo, insert_line, in_order}
use Rattle.text_ops.specs.LineParts.{line_part, line_parts, part_count}
use Rattle.text_ops.specs.MatchKeys.{match_key, behind_key, first_with, joined, matched}
use Rattle.text_ops.specs.Repeats.{changes, without_repeats, count_of, NeighboursDiffer}
use Rattle.text_ops.specs.TextMeaning.{keep_meaning, without_meaning, head_meaning, tail_meaning, skip_meaning, sort_meaning, uniq_meaning, count_meaning, tally_line, tally_meaning, numbered_line, numbered_meaning, match_meaning, has_word}
use Rattle.text_ops.specs.Values.{MayRefuse, Makes}

apart : (a b : ℕ) → a < b → a ≢ b
apart a b low same = absurd (omega arith)

no_line : lines_of [] ≡ []
no_line = refl

one_empty_line : lines_of (codes "\n") ≡ [] ∷ []
one_empty_line = refl

a_line_without_end : lines_of (codes "a") ≡ codes "a" ∷ []
a_line_without_end = refl

an_empty_line_between : lines_of (codes "a\n\nb") ≡ codes "a" ∷ [] ∷ codes "b" ∷ []
an_empty_line_between = refl

lines_with_their_ends : text_of (codes "a" ∷ [] ∷ codes "b" ∷ []) ≡ codes "a\n\nb\n"
lines_with_their_ends = refl

made_normal : normal (codes "x\ny") ≡ codes "x\ny\n"
made_normal = refl

left_normal : normal (codes "x\ny\n") ≡ codes "x\ny\n"
left_normal = refl

empty_is_normal : normal [] ≡ []
empty_is_normal = refl

word_at_the_front : occurs (codes "ab") (codes "abc") ≡ true
word_at_the_front = refl

word_at_the_end : occurs (codes "bc") (codes "abc") ≡ true
word_at_the_end = refl

word_longer_than_the_line : occurs (codes "abcd") (codes "abc") ≡ false
word_longer_than_the_line = refl

word_with_a_gap : occurs (codes "ac") (codes "abc") ≡ false
word_with_a_gap = refl

empty_word : occurs [] [] ≡ true
empty_word = refl

kept_line : keep_meaning (codes "x") (codes "x\ny\n") ≡ codes "x\n"
kept_line = refl

empty_word_keeps_all : keep_meaning [] (codes "x\n\ny\n") ≡ codes "x\n\ny\n"
empty_word_keeps_all = refl

line_end_in_word : keep_meaning (codes "x\ny") (codes "x\ny\n") ≡ []
line_end_in_word = refl

other_lines : without_meaning (codes "x") (codes "x\ny\nxx\n\n") ≡ codes "y\n\n"
other_lines = refl

first_lines : head_meaning 2 (codes "1\n2\n3\n") ≡ codes "1\n2\n"
first_lines = refl

no_first_line : head_meaning 0 (codes "1\n2\n") ≡ []
no_first_line = refl

fewer_first_lines : head_meaning 9 (codes "1\n2\n") ≡ codes "1\n2\n"
fewer_first_lines = refl

last_lines : tail_meaning 2 (codes "1\n2\n3\n") ≡ codes "2\n3\n"
last_lines = refl

fewer_last_lines : tail_meaning 9 (codes "1\n2\n") ≡ codes "1\n2\n"
fewer_last_lines = refl

no_last_line : tail_meaning 0 (codes "1\n2\n") ≡ []
no_last_line = refl

lines_skipped : skip_meaning 2 (codes "1\n2\n3\n") ≡ codes "3\n"
lines_skipped = refl

all_skipped : skip_meaning 9 (codes "1\n2\n") ≡ []
all_skipped = refl

first_byte_decides : line_cmp (codes "ab") (codes "b") ≡ Less
first_byte_decides = refl

shorter_first : line_cmp (codes "ab") (codes "a") ≡ Greater
shorter_first = refl

same_line : line_cmp (codes "ab") (codes "ab") ≡ Equal
same_line = refl

zero_byte_last : line_cmp (codes "a") (97 ∷ 0 ∷ []) ≡ Less
zero_byte_last = refl

may_stand_before_itself : IsUpTo (codes "a") (codes "a")
may_stand_before_itself = refl

put_at_its_place : insert_line (codes "b") (codes "a" ∷ codes "c" ∷ []) ≡ codes "a" ∷ codes "b" ∷ codes "c" ∷ []
put_at_its_place = refl

put_at_the_end : insert_line (codes "d") (codes "a" ∷ codes "c" ∷ []) ≡ codes "a" ∷ codes "c" ∷ codes "d" ∷ []
put_at_the_end = refl

lines_in_order : in_order (codes "b" ∷ [] ∷ codes "a" ∷ codes "b" ∷ []) ≡ [] ∷ codes "a" ∷ codes "b" ∷ codes "b" ∷ []
lines_in_order = refl

sorted : sort_meaning (codes "b\n\na\n") ≡ codes "\na\nb\n"
sorted = refl

sorted_keeps_equal_lines : sort_meaning (codes "b\na\nb\n") ≡ codes "a\nb\nb\n"
sorted_keeps_equal_lines = refl

changes_of_lines : changes (codes "a") (codes "a" ∷ codes "b" ∷ codes "b" ∷ codes "a" ∷ []) ≡ codes "b" ∷ codes "a" ∷ []
changes_of_lines = refl

first_line_stays : without_repeats ([] ∷ [] ∷ codes "a" ∷ []) ≡ [] ∷ codes "a" ∷ []
first_line_stays = refl

uniq_lines : uniq_meaning (codes "a\na\nb\na\n") ≡ codes "a\nb\na\n"
uniq_lines = refl

neighbours_that_differ : NeighboursDiffer (codes "a" ∷ codes "b" ∷ [])
neighbours_that_differ zero d low same = apart 97 98 (lit< tt) (ap (λ (l : List ℕ). get_or l 0 0) same)
neighbours_that_differ (suc k) d low same = absurd (omega arith)

neighbours_that_are_equal : ¬ NeighboursDiffer (codes "a" ∷ codes "a" ∷ [])
neighbours_that_are_equal differ = differ 0 [] (omega arith) refl

counted : count_meaning (normal (codes "x\ny")) ≡ codes "2\n"
unfolding digits
counted = refl

nothing_counted : count_meaning [] ≡ codes "0\n"
unfolding digits
nothing_counted = refl

counted_line : count_of (codes "a") (codes "a" ∷ codes "b" ∷ codes "a" ∷ codes "aa" ∷ []) ≡ 2
counted_line = refl

line_of_a_tally : tally_line (codes "b" ∷ codes "a" ∷ codes "b" ∷ []) (codes "b") ≡ codes "2 b"
unfolding digits
line_of_a_tally = refl

tallied : tally_meaning (codes "b\na\nb\n\n") ≡ codes "1 \n1 a\n2 b\n"
unfolding digits
tallied = refl

line_behind_a_number : numbered_line 12 (codes "b c") ≡ codes "12 b c"
unfolding digits
line_behind_a_number = refl

numbered_lines : numbered_meaning 3 (codes "b\n\na\n") ≡ codes "3 b\n3 \n3 a\n"
unfolding digits
numbered_lines = refl

lines_behind_zero : numbered_meaning 0 (codes "a\n") ≡ codes "0 a\n"
unfolding digits
lines_behind_zero = refl

no_line_numbered : numbered_meaning 7 [] ≡ []
no_line_numbered = refl

key_before_a_space : match_key (codes "10 a b") ≡ codes "10"
key_before_a_space = refl

whole_line_is_key : match_key (codes "10") ≡ codes "10"
whole_line_is_key = refl

empty_key : match_key (codes " a") ≡ []
empty_key = refl

rest_behind_a_key : behind_key (codes "10 a b") ≡ codes " a b"
rest_behind_a_key = refl

nothing_behind_a_key : behind_key (codes "10") ≡ []
nothing_behind_a_key = refl

first_line_with_a_key : first_with (codes "10") (codes "20" ∷ codes "10 x" ∷ codes "10 y" ∷ []) ≡ Some (codes "10 x")
first_line_with_a_key = refl

no_line_with_a_key : first_with (codes "1") (codes "20" ∷ codes "10 x" ∷ []) ≡ None
no_line_with_a_key = refl

joined_line : joined (codes "10 x" ∷ []) (codes "10 a") ≡ Some (codes "10 a x")
joined_line = refl

line_without_partner : matched (codes "30" ∷ codes "10 a" ∷ []) (codes "10 x" ∷ []) ≡ codes "10 a x" ∷ []
line_without_partner = refl

matched_texts : match_meaning (codes "10 a\n20 b\n10 c\n30\n") (codes "10 x y\n30 z\n10 q\n20\n") ≡ codes "10 a x y\n20 b\n10 c x y\n30 z\n"
matched_texts = refl

word_in_some_line : has_word (codes "y") (codes "x\nxy\n") ≡ true
word_in_some_line = refl

word_in_no_line : has_word (codes "z") (codes "x\nxy\n") ≡ false
word_in_no_line = refl

no_line_has_a_word : has_word [] [] ≡ false
no_line_has_a_word = refl

long_value : (value : List ℕ) → length value ≡ 16777217 → MayRefuse value (Long 16777217)
long_value value long = (sym long, lit< tt)

value_at_the_limit : (value : List ℕ) → ¬ MayRefuse value (Long 16777216)
value_at_the_limit value refused = absurd (omega (arith, refused.1))

another_length : ¬ MayRefuse [] (Long 16777217)
another_length refused = absurd (omega (arith, refused.0))

memory_refused : MayRefuse [] NoMemory
memory_refused = tt

value_made : Makes (codes "a\n") (Ok (codes "a\n"))
value_made = (refl, lit≤ tt)

another_value : ¬ Makes (codes "a\n") (Ok (codes "b\n"))
another_value made = apart 97 98 (lit< tt) (sym (ap (λ (l : List ℕ). get_or l 0 0) made.0))

refused_value : (value : List ℕ) → length value ≡ 16777217 → Makes value (Err (Long 16777217))
refused_value value long = long_value value long

-- Parts of so many lines.
parts_of_five_lines : line_parts 2 (codes "1\n2\n3\n4\n5") ≡ codes "1\n2\n" ∷ codes "3\n4\n" ∷ codes "5\n" ∷ []
parts_of_five_lines = refl

parts_of_no_line : line_parts 3 [] ≡ []
parts_of_no_line = refl

one_part_of_all_lines : line_parts 9 (codes "1\n2\n") ≡ codes "1\n2\n" ∷ []
one_part_of_all_lines = refl

parts_with_a_rest : part_count 2 (codes "1\n2\n3\n") ≡ 2
parts_with_a_rest = refl

parts_without_a_rest : part_count 3 (codes "1\n2\n3\n") ≡ 1
parts_without_a_rest = refl

second_part : line_part 2 (codes "1\n2\n3\n") 1 ≡ codes "3\n"
second_part = refl

part_behind_all_lines : line_part 2 (codes "1\n2\n3\n") 2 ≡ []
part_behind_all_lines = refl
