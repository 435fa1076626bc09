-- Counting the flags that are set.
use Rattle.std.proofs.Common.{◌≡◌, ℕ, zero, suc, ◌++◌, ◌+◌, ◌<◌, ◌≤◌, Bool, true, false, cond, List, [], ◌∷◌, length, Some, refl, ap, ◌∙◌, arith, get_or, set}
use Rattle.std.specs.Prelude.{count_by, slice_get, replicate}
use Rattle.std.proofs.lemmas.List.Sums.{sum_by-set, sum_by-cons, sum_by_push, get_or-le-sum_by}
use Rattle.std.proofs.lemmas.Option.{slice_get_within, get_or_from_slice_get}

abbrev flag_count : Bool → ℕ
flag_count flag = cond flag 1 0

-- clearing a flag that is set leaves one less
pub count_cleared : (flags : List Bool) (n : ℕ) → slice_get flags n ≡ Some true → count_by (λ flag. flag) (set flags n false) + 1 ≡ count_by (λ flag. flag) flags
count_cleared flags n h =
    let within = slice_get_within flags n true h in
    let was = get_or_from_slice_get flags n true false h in
    let changed : count_by (λ flag. flag) (set flags n false) + flag_count (get_or flags n false) ≡ count_by (λ flag. flag) flags + 0 = sum_by-set flag_count flags n false false within in
    let one : flag_count (get_or flags n false) ≡ 1 = ap flag_count was in
    omega arith

-- where one is set, there is one
pub count_set : (flags : List Bool) (n : ℕ) → slice_get flags n ≡ Some true → 1 ≤ count_by (λ flag. flag) flags
count_set flags n h = omega (arith, count_cleared flags n h)

-- where none is set, each is clear
pub all_clear : (flags : List Bool) → count_by (λ flag. flag) flags ≡ 0 → (n : ℕ) (d : Bool) → n < length flags → get_or flags n d ≡ false
all_clear flags none n d below = clear (get_or flags n d) (omega (arith, get_or-le-sum_by flag_count flags n d below))
  where
    clear : (flag : Bool) → cond flag 1 0 ≤ 0 → flag ≡ false
    clear false h = refl
    clear true h = absurd (omega arith)

-- and where each is clear, none is set
pub none_set : (flags : List Bool) → ((n : ℕ) (d : Bool) → n < length flags → get_or flags n d ≡ false) → count_by (λ flag. flag) flags ≡ 0
none_set [] each = refl
none_set (true ∷ flags) each = absurd (let e : true ≡ false = each 0 true (omega arith) in cc)
none_set (false ∷ flags) each =
    sum_by-cons flag_count false flags ∙ omega (arith, none_set flags (λ n d below. each (suc n) d (omega arith)))

-- raising a flag that is clear leaves one more
pub count_raised : (flags : List Bool) (n : ℕ) → slice_get flags n ≡ Some false → count_by (λ flag. flag) (set flags n true) ≡ count_by (λ flag. flag) flags + 1
count_raised flags n h =
    let within = slice_get_within flags n false h in
    let was = get_or_from_slice_get flags n false false h in
    let changed : count_by (λ flag. flag) (set flags n true) + flag_count (get_or flags n false) ≡ count_by (λ flag. flag) flags + 1 = sum_by-set flag_count flags n true false within in
    let zero_one : flag_count (get_or flags n false) ≡ 0 = ap flag_count was in
    omega arith

-- of clear flags none is set
pub none_of_clear : (n : ℕ) → count_by (λ flag. flag) (replicate n false) ≡ 0
none_of_clear zero = refl
none_of_clear (suc n) = sum_by-cons flag_count false (replicate n false) ∙ omega (arith, none_of_clear n)

-- a flag more that is clear
pub count_clear_more : (flags : List Bool) → count_by (λ flag. flag) (flags ++ false ∷ []) ≡ count_by (λ flag. flag) flags
count_clear_more flags = sum_by_push flag_count flags false ∙ omega arith
