-- Lines without an end, words that stand in them, and the longest value.
use Rattle.std.proofs.Common.{◌≡◌, ℕ, zero, suc, List, [], ◌∷◌, ◌++◌, length, refl, ap, arith, codes, get_or, Ok}
use Rattle.std.proofs.lemmas.List.{length-append}
use Rattle.text_ops.specs.Lines.{IsPlain, OccursIn}
use Rattle.text_ops.specs.Values.{Makes}

abbrev a : List ℕ
a = codes "a"

abbrev b : List ℕ
b = codes "b"

plain_line : IsPlain a
plain_line zero below is = absurd (cc)
plain_line (suc k) below is = absurd (omega (arith, below))

line_with_an_end : ¬ IsPlain (97 ∷ 10 ∷ [])
line_with_an_end is = is 1 (omega arith) refl

word_in_the_middle : OccursIn b (codes "abc")
word_in_the_middle = (a, codes "c", refl)

word_at_the_end : OccursIn (codes "bc") (codes "abc")
word_at_the_end = (a, [], refl)

empty_word : OccursIn [] []
empty_word = ([], [], refl)

word_that_is_not_there : ¬ OccursIn b a
word_that_is_not_there ([], rest, is) = absurd (omega (arith, ap (λ (line : List ℕ). get_or line 0 0) is))
word_that_is_not_there (x ∷ front, rest, is) = absurd (omega (arith, ap length is, length-append front (b ++ rest), length-append b rest))

-- A value of just the limit is made, and one of a byte more isn't.
value_of_the_most_bytes : (value : List ℕ) → length value ≡ 16777216 → Makes value (Ok value)
value_of_the_most_bytes value long = (refl, omega (arith, long))

value_of_a_byte_more : (value : List ℕ) → length value ≡ 16777217 → ¬ Makes value (Ok value)
value_of_a_byte_more value long made = absurd (omega (arith, long, made.1))
