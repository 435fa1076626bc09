-- Sums of what is found.
use Rattle.std.proofs.Common.{◌≡◌, ℕ, zero, suc, ◌+◌, List, [], ◌∷◌, map, take, sum_by, slice_get, Some, ap, arith, ◌∙◌}
use Rattle.std.proofs.lemmas.List.Sums.{sum_by-cons}
use Rattle.join_words.specs.Ins.{InputValue, found_of}
use Rattle.join_words.specs.declared.ins.Given.{Given}
use Rattle.library_tour.specs.SumMeaning.{number_of}

-- what these parts come to
abbrev sum_of : List (Given ℕ) → ℕ
sum_of parts = sum_by number_of (map found_of parts)

one_more : (parts : List (Given ℕ)) (place : ℕ) (given : Given ℕ) → slice_get parts place ≡ Some given
    → sum_of (take (suc place) parts) ≡ sum_of (take place parts) + number_of (found_of given)
one_more [] place given at = cc
one_more (part ∷ parts) zero given at = cc
one_more (part ∷ parts) (suc place) given at =
    let long : List (InputValue ℕ) = map found_of (take (suc place) parts) in
    let short : List (InputValue ℕ) = map found_of (take place parts) in
    omega (arith, one_more parts place given at, sum_by-cons number_of (found_of part) long, sum_by-cons number_of (found_of part) short)

-- the next part is added
pub sum_further : (parts : List (Given ℕ)) (place : ℕ) (given : Given ℕ) → slice_get parts place ≡ Some given
    → sum_by number_of (map found_of (take (place + 1) parts)) ≡ sum_by number_of (map found_of (take place parts)) + number_of (found_of given)
sum_further parts place given at =
    let next : place + 1 ≡ suc place = omega arith in
    ap (λ n. sum_of (take n parts)) next ∙ one_more parts place given at
