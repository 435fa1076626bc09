-- Lines that are counted in rows.
use Rattle.std.proofs.Common.{◌≡◌, ◌≢◌, ℕ, zero, suc, ◌+◌, ◌≤◌, true, false, cond, List, [], ◌∷◌, ◌++◌, get_or, map, refl, sym, ap, subst, ◌∙◌, arith, ⊎_elim}
use Rattle.std.specs.Prelude.{IsTrue}
use Rattle.std.specs.List.{AllByRecursion}
use Rattle.std.specs.Ordering.{is_lt, is_le}
use Rattle.std.specs.Str.{bytes_eq}
use Rattle.std.specs.declared.cmp.Ordering.{Ordering}
use Rattle.std.specs.declared.cmp.Ordering.TheVariants.{Less, Equal, Greater}
use Rattle.std.proofs.lemmas.Bool.{cases_Bool, cond-true, cond-false, false_from_ne_true}
use Rattle.std.proofs.lemmas.Cmp.{nat_list_cmp_total, tied_itself}
use Rattle.std.proofs.lemmas.List.Sums.{sum_by-cons}
use Rattle.std.proofs.lemmas.Slice.Eq.{bytes_eq-Decides}
use Rattle.text_ops.specs.declared.counted_line.CountedLine.{CountedLine}
use Rattle.text_ops.specs.Lines.{lines_of, text_of}
use Rattle.text_ops.specs.LineOrder.{line_cmp, IsUpTo, in_order}
use Rattle.text_ops.specs.Repeats.{changes, without_repeats, count_of}
use Rattle.text_ops.specs.TextMeaning.{tally_line, tally_meaning, numbered_line}
use Rattle.text_ops.specs.inside.Counting.{counted_in, times_counted, AreRisingLines, AreDifferentLines, counted_row_line}
use Rattle.text_ops.proofs.OrderLemmas.{Rises, IsUpTo-refl, IsUpTo-trans, IsUpTo-antisym, Rises-in_order, IsPermutation-in_order, count_of-cons, count_of-permutation, same_rising}
use Rattle.text_ops.proofs.TallyLemmas.{count_of-append}

-- One line is before another.
abbrev pub IsBelow : List ℕ → List ℕ → Type 0
IsBelow a b = IsUpTo a b × (a ≢ b)

is_below : (a b : List ℕ) → is_lt (line_cmp a b) ≡ true → IsBelow a b
is_below a b less = (up_to (line_cmp a b) less, λ same. not_equal (line_cmp a b) (ap (line_cmp a) (sym same) ∙ tied_itself nat_list_cmp_total a) less)
  where
    up_to : (o : Ordering) → is_lt o ≡ true → is_le o ≡ true
    up_to Less h = refl
    up_to Equal h = cc
    up_to Greater h = cc

    not_equal : (o : Ordering) → o ≡ Equal → ¬ (is_lt o ≡ true)
    not_equal o is h = let never : is_lt Equal ≡ true = ap is_lt (sym is) ∙ h in cc

below-trans : (a b c : List ℕ) → IsBelow a b → IsBelow b c → IsBelow a c
below-trans a b c first second = (IsUpTo-trans a b c first.0 second.0, λ same. first.1 (IsUpTo-antisym a b first.0 (subst (IsUpTo b) (sym same) second.0)))

-- Each line is below the next.
abbrev Climbs : List CountedLine → Type 0
Climbs [] = Unit {0}
Climbs (r ∷ []) = Unit {0}
Climbs (r ∷ s ∷ rest) = IsBelow r.line.now s.line.now × Climbs (s ∷ rest)

climbs : (rows : List CountedLine) → AreRisingLines rows → Climbs rows
climbs [] up = tt
climbs (r ∷ []) up = tt
climbs (r ∷ s ∷ rest) up = (
  is_below r.line.now s.line.now (up 0 r (omega arith)),
  climbs (s ∷ rest) (λ k d low.
      let next : suc k + 1 ≡ suc (k + 1) = omega arith in
      subst (λ n. IsTrue (is_lt (line_cmp (get_or (r ∷ s ∷ rest) (suc k) d).line.now (get_or (r ∷ s ∷ rest) n d).line.now))) next (up (suc k) d (omega arith))),
)

behind : (r : CountedLine) (rest : List CountedLine) → Climbs (r ∷ rest) → Climbs rest
behind r [] up = tt
behind r (s ∷ rest) up = up.1

-- A line is below the first row's.
abbrev IsBefore : List ℕ → List CountedLine → Type 0
IsBefore a [] = Unit {0}
IsBefore a (r ∷ rest) = IsBelow a r.line.now

before : (r : CountedLine) (rest : List CountedLine) → Climbs (r ∷ rest) → IsBefore r.line.now rest
before r [] up = tt
before r (s ∷ rest) up = up.0

before_next : (a : List ℕ) (r : CountedLine) (rest : List CountedLine) → Climbs (r ∷ rest) → IsBelow a r.line.now → IsBefore a rest
before_next a r [] up below = tt
before_next a r (s ∷ rest) up below = below-trans a r.line.now s.line.now below up.0

-- a line below all isn't counted
absent : (a : List ℕ) (rows : List CountedLine) → Climbs rows → IsBefore a rows → times_counted a rows ≡ 0
absent a [] up below = refl
absent a (r ∷ rest) up below =
    let other : bytes_eq a r.line.now ≡ false = false_from_ne_true (bytes_eq a r.line.now) (λ yes. below.1 ((bytes_eq-Decides a r.line.now).0 yes)) in
    omega (arith, sum_by-cons (counted_in a) r rest, cond-false (bytes_eq a r.line.now) r.count 0 other, absent a rest (behind r rest up) (before_next a r rest up below))

-- a line so many times
abbrev copies : ℕ → List ℕ → List (List ℕ)
copies zero line = []
copies (suc n) line = line ∷ copies n line

-- the lines that rows count
abbrev pub all_lines : List CountedLine → List (List ℕ)
all_lines [] = []
all_lines (r ∷ rest) = copies r.count r.line.now ++ all_lines rest

count_copies : (v line : List ℕ) (n : ℕ) → count_of v (copies n line) ≡ cond (bytes_eq v line) n 0
count_copies v line n =
    ⊎_elim
    (λ same. each n (cond-true {A = ℕ} (bytes_eq v line) 1 0 same) ∙ sym (cond-true (bytes_eq v line) n 0 same))
    (λ other. none n (cond-false {A = ℕ} (bytes_eq v line) 1 0 other) ∙ sym (cond-false (bytes_eq v line) n 0 other))
    (cases_Bool (bytes_eq v line))
  where
    each : (k : ℕ) → cond {A = ℕ} (bytes_eq v line) 1 0 ≡ 1 → count_of v (copies k line) ≡ k
    each zero one = refl
    each (suc k) one = omega (arith, count_of-cons v line (copies k line), one, each k one)

    none : (k : ℕ) → cond {A = ℕ} (bytes_eq v line) 1 0 ≡ 0 → count_of v (copies k line) ≡ 0
    none zero nothing = refl
    none (suc k) nothing = omega (arith, count_of-cons v line (copies k line), nothing, none k nothing)

count_all : (v : List ℕ) (rows : List CountedLine) → count_of v (all_lines rows) ≡ times_counted v rows
count_all v [] = refl
count_all v (r ∷ rest) =
    omega (
      arith,
      count_of-append v (copies r.count r.line.now) (all_lines rest),
      count_copies v r.line.now r.count,
      count_all v rest,
      sum_by-cons (counted_in v) r rest,
    )

-- the lines rise
all_copies : (a line : List ℕ) (n : ℕ) (lines : List (List ℕ)) → IsUpTo a line → AllByRecursion (IsUpTo a) lines → AllByRecursion (IsUpTo a) (copies n line ++ lines)
all_copies a line zero lines up all = all
all_copies a line (suc n) lines up all = (up, all_copies a line n lines up all)

all_above : (a : List ℕ) (rows : List CountedLine) → Climbs rows → IsBefore a rows → AllByRecursion (IsUpTo a) (all_lines rows)
all_above a [] up below = tt
all_above a (r ∷ rest) up below = all_copies a r.line.now r.count (all_lines rest) below.0 (all_above a rest (behind r rest up) (before_next a r rest up below))

Rises-copies : (line : List ℕ) (n : ℕ) (lines : List (List ℕ)) → AllByRecursion (IsUpTo line) lines → Rises lines → Rises (copies n line ++ lines)
Rises-copies line zero lines all rises = rises
Rises-copies line (suc n) lines all rises = (all_copies line line n lines (IsUpTo-refl line) all, Rises-copies line n lines all rises)

Rises-all : (rows : List CountedLine) → Climbs rows → Rises (all_lines rows)
Rises-all [] up = tt
Rises-all (r ∷ rest) up =
    Rises-copies r.line.now r.count (all_lines rest) (all_above r.line.now rest (behind r rest up) (before r rest up)) (Rises-all rest (behind r rest up))

-- each line is left once
abbrev lines_in : List CountedLine → List (List ℕ)
lines_in rows = map (λ (row : CountedLine). row.line.now) rows

changes-copies : (line : List ℕ) (n : ℕ) (lines : List (List ℕ)) → changes line (copies n line ++ lines) ≡ changes line lines
changes-copies line zero lines = refl
changes-copies line (suc n) lines =
    cond-true (bytes_eq line line) (changes line (copies n line ++ lines)) (line ∷ changes line (copies n line ++ lines)) ((bytes_eq-Decides line line).1 refl)
    ∙ changes-copies line n lines

changes-other : (a line : List ℕ) (n : ℕ) (lines : List (List ℕ)) → a ≢ line → 1 ≤ n → changes a (copies n line ++ lines) ≡ without_repeats (copies n line ++ lines)
changes-other a line zero lines differ some = absurd (omega arith)
changes-other a line (suc n) lines differ some =
    cond-false (bytes_eq a line) (changes line (copies n line ++ lines)) (line ∷ changes line (copies n line ++ lines))
    (false_from_ne_true (bytes_eq a line) (λ yes. differ ((bytes_eq-Decides a line).0 yes)))

changes-rows : (a : List ℕ) (rows : List CountedLine) → IsBefore a rows → changes a (all_lines rows) ≡ without_repeats (all_lines rows)
changes-rows a [] below = refl
changes-rows a (r ∷ rest) below = changes-other a r.line.now r.count (all_lines rest) below.1 r.some

once : (line : List ℕ) (n : ℕ) (lines : List (List ℕ)) → 1 ≤ n → without_repeats (copies n line ++ lines) ≡ line ∷ changes line lines
once line zero lines some = absurd (omega arith)
once line (suc n) lines some = ap (λ l. line ∷ l) (changes-copies line n lines)

each_once : (rows : List CountedLine) → Climbs rows → without_repeats (all_lines rows) ≡ lines_in rows
each_once [] up = refl
each_once (r ∷ rest) up =
    once r.line.now r.count (all_lines rest) r.some
    ∙ ap (λ l. r.line.now ∷ l) (changes-rows r.line.now rest (before r rest up) ∙ each_once rest (behind r rest up))

-- each row has its line's count
module _ (lines : List (List ℕ)) where
  row_lines : (rows : List CountedLine) → Climbs rows → ((v : List ℕ) → 1 ≤ times_counted v rows → count_of v lines ≡ times_counted v rows) → map counted_row_line rows ≡ map (tally_line lines) (lines_in rows)
  row_lines [] up same = refl
  row_lines (r ∷ rest) up same =
      let line = r.line.now in
      let none = absent line rest (behind r rest up) (before r rest up) in
      let own = sum_by-cons (counted_in line) r rest in
      let its = cond-true (bytes_eq line line) r.count 0 ((bytes_eq-Decides line line).1 refl) in
      let here : count_of line lines ≡ r.count = omega (arith, same line (omega (arith, own, its, r.some)), own, its, none) in
      ap (λ n. numbered_line n line ∷ map counted_row_line rest) (sym here)
      ∙ ap (λ l. tally_line lines line ∷ l) (row_lines rest (behind r rest up) (λ v some.
      let other : bytes_eq v line ≡ false = false_from_ne_true (bytes_eq v line) (λ yes. let is = (bytes_eq-Decides v line).0 yes in absurd (omega (arith, none, ap (λ l. times_counted l rest) is))) in
      let left = sum_by-cons (counted_in v) r rest in
      let gone = cond-false (bytes_eq v line) r.count 0 other in
      omega (arith, same v (omega (arith, left)), left, gone)))

-- The rows of a text's different lines are its tally.
module _ (text : List ℕ) (rows : List CountedLine) (are : AreDifferentLines text rows) where
  in_rows : all_lines rows ≡ in_order (lines_of text)
  in_rows =
      same_rising (all_lines rows) (in_order (lines_of text)) (Rises-all rows (climbs rows are.rising)) (Rises-in_order (lines_of text))
      (λ v. count_all v rows ∙ are.counts v ∙ sym (count_of-permutation v (lines_of text) (in_order (lines_of text)) (IsPermutation-in_order (lines_of text))))

  pub tally_is : text_of (map counted_row_line rows) ≡ tally_meaning text
  tally_is =
      let up = climbs rows are.rising in
      ap text_of (row_lines (lines_of text) rows up (λ v some. sym (are.counts v)))
      ∙ ap (λ l. text_of (map (tally_line (lines_of text)) l)) (sym (each_once rows up) ∙ ap without_repeats in_rows)
