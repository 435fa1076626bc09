-- What the laws of operations rest on.
use Rattle.std.proofs.Common.{◌≡◌, ◌≢◌, ℕ, zero, suc, ◌+◌, ◌<◌, ◌⊎◌, inl, inr, Bool, true, false, cond, not, List, [], ◌∷◌, ◌++◌, length, take, drop, get_or, refl, sym, ap, subst, ◌∙◌, arith, ⊎_elim, filter}
use Rattle.std.specs.Prelude.{AllPairs}
use Rattle.std.specs.List.{sum_by, AllByRecursion, Contains}
use Rattle.std.specs.List.Sorted.{IsPermutation}
use Rattle.std.specs.Str.{bytes_eq}
use Rattle.std.proofs.lemmas.Bool.{cases_Bool, cond-true, cond-false, cond_both, false_from_ne_true}
use Rattle.std.proofs.lemmas.List.{take-append-drop}
use Rattle.std.proofs.lemmas.List.Concat.{flat_map-append}
use Rattle.std.proofs.lemmas.List.Sums.{sum_by-cons}
use Rattle.std.proofs.lemmas.List.Sorted.{IsPermutation-filter_both, IsPermutation-sym, Contains-permutation}
use Rattle.std.proofs.lemmas.Slice.Eq.{bytes_eq-Decides}
use Rattle.text_ops.specs.Lines.{lines_of, text_of, ended, normal, occurs, IsPlain}
use Rattle.text_ops.specs.LineOrder.{IsUpTo, in_order}
use Rattle.text_ops.specs.Repeats.{changes, without_repeats, count_of, NeighboursDiffer}
use Rattle.text_ops.specs.TextMeaning.{keep_meaning, without_meaning}
use Rattle.text_ops.proofs.KeepLemmas.{lines_plain}
use Rattle.text_ops.proofs.LineLemmas.{text_of-lines_of, lines_of-text_of}
use Rattle.text_ops.proofs.OrderLemmas.{Rises, Rises-in_order, AllPairs-rising, IsUpTo-antisym, IsUpTo-trans, IsPermutation-in_order, count_of-cons}

-- a cut between lines
pub both_parts : (n : ℕ) (text : List ℕ) → text_of (take n (lines_of text)) ++ text_of (drop n (lines_of text)) ≡ normal text
both_parts n text =
    sym (flat_map-append ended (take n (lines_of text)) (drop n (lines_of text)))
    ∙ ap text_of (take-append-drop n (lines_of text)) ∙ text_of-lines_of text

-- lines shared out
filter_plain : (p : List ℕ → Bool) (lines : List (List ℕ)) → AllByRecursion IsPlain lines → AllByRecursion IsPlain (filter p lines)
filter_plain p [] plain = tt
filter_plain p (line ∷ lines) plain =
    cond_both (p line) (line ∷ filter p lines) (filter p lines) (AllByRecursion IsPlain)
    (λ _. (plain.0, filter_plain p lines plain.1))
    (λ _. filter_plain p lines plain.1)

lines_kept : (p : List ℕ → Bool) (text : List ℕ) → lines_of (text_of (filter p (lines_of text))) ≡ filter p (lines_of text)
lines_kept p text = lines_of-text_of (filter p (lines_of text)) (filter_plain p (lines_of text) (lines_plain text))

pub lines_shared : (word text : List ℕ) → IsPermutation (lines_of text) (lines_of (keep_meaning word text) ++ lines_of (without_meaning word text))
lines_shared word text =
    let others = λ (line : List ℕ). not (occurs word line) in
    let parts = ap (λ l. l ++ lines_of (without_meaning word text)) (lines_kept (occurs word) text) ∙ ap (λ l. filter (occurs word) (lines_of text) ++ l) (lines_kept (λ line. not (occurs word line)) text) in
    subst (IsPermutation (lines_of text)) (sym parts) (IsPermutation-filter_both (occurs word) (λ line. not (occurs word line)) (λ _. refl) (lines_of text))

-- Neighbours that differ.
abbrev Apart : List ℕ → List (List ℕ) → Type 0
Apart before [] = Unit {0}
Apart before (line ∷ rest) = (before ≢ line) × Apart line rest

eq_is : (a b : List ℕ) → bytes_eq a b ≡ true → a ≡ b
eq_is a b holds = (bytes_eq-Decides a b).0 holds

eq_not : (a b : List ℕ) → bytes_eq a b ≡ false → a ≢ b
eq_not a b fails same = let never : true ≡ false = sym ((bytes_eq-Decides a b).1 same) ∙ fails in cc

changes_apart : (before : List ℕ) (lines : List (List ℕ)) → Apart before (changes before lines)
changes_apart before [] = tt
changes_apart before (line ∷ rest) =
    cond_both (bytes_eq before line) (changes line rest) (line ∷ changes line rest) (Apart before)
    (λ same. subst (λ b. Apart b (changes line rest)) (sym (eq_is before line same)) (changes_apart line rest))
    (λ other. (eq_not before line other, changes_apart line rest))

apart_differ : (first : List ℕ) (lines : List (List ℕ)) → Apart first lines → NeighboursDiffer (first ∷ lines)
apart_differ first [] apart k d low = absurd (omega arith)
apart_differ first (line ∷ rest) apart zero d low = apart.0
apart_differ first (line ∷ rest) apart (suc k) d low = let next : suc k + 1 ≡ suc (k + 1) = omega arith in subst (λ n. get_or (line ∷ rest) k d ≢ get_or (first ∷ line ∷ rest) n d) (sym next) (apart_differ line rest apart.1 k d (omega arith))

pub neighbours_differ : (lines : List (List ℕ)) → NeighboursDiffer (without_repeats lines)
neighbours_differ [] k d low = absurd (omega arith)
neighbours_differ (line ∷ rest) k d low = apart_differ line (changes line rest) (changes_apart line rest) k d low

-- Lines in order, each once.
abbrev Below : List ℕ → List ℕ → Type 0
Below a b = IsUpTo a b × (a ≢ b)

abbrev Climbs : List (List ℕ) → Type 0
Climbs [] = Unit {0}
Climbs (line ∷ rest) = AllByRecursion (Below line) rest × Climbs rest

-- what is above one line is above a lower one
lower : (a b : List ℕ) (lines : List (List ℕ)) → IsUpTo a b → AllByRecursion (Below b) lines → AllByRecursion (Below a) lines
lower a b [] le all = tt
lower a b (line ∷ rest) le all =
    ((IsUpTo-trans a b line le all.0.0, λ same. all.0.1 (IsUpTo-antisym b line all.0.0 (subst (λ l. IsUpTo l b) same le))), lower a b rest le all.1)

changes_climb : (before : List ℕ) (lines : List (List ℕ)) → AllByRecursion (IsUpTo before) lines → Rises lines → Climbs (before ∷ changes before lines)
changes_climb before [] all rises = (tt, tt)
changes_climb before (line ∷ rest) all rises =
    let later = changes_climb line rest rises.0 rises.1 in
    cond_both (bytes_eq before line) (changes line rest) (line ∷ changes line rest) (λ l. Climbs (before ∷ l))
    (λ same. subst (λ b. Climbs (b ∷ changes line rest)) (sym (eq_is before line same)) later)
    (λ other. (((all.0, eq_not before line other), lower before line (changes line rest) all.0 later.0), later))

pub Climbs-once : (lines : List (List ℕ)) → Rises lines → Climbs (without_repeats lines)
Climbs-once [] rises = tt
Climbs-once (line ∷ rest) rises = changes_climb line rest rises.0 rises.1

one_below : (a : List ℕ) (lines : List (List ℕ)) (k : ℕ) (d : List ℕ) → AllByRecursion (Below a) lines → k < length lines → a ≢ get_or lines k d
one_below a [] k d all low = absurd (omega arith)
one_below a (line ∷ rest) zero d all low = all.0.1
one_below a (line ∷ rest) (suc k) d all low = one_below a rest k d all.1 (omega arith)

climbing_differ : (lines : List (List ℕ)) → Climbs lines → AllPairs (λ a b. a ≢ b) lines
climbing_differ [] climbs i j d before low = absurd (omega arith)
climbing_differ (line ∷ rest) climbs zero zero d before low = absurd (omega arith)
climbing_differ (line ∷ rest) climbs zero (suc j) d before low = one_below line rest j d climbs.0 (omega arith)
climbing_differ (line ∷ rest) climbs (suc i) zero d before low = absurd (omega arith)
climbing_differ (line ∷ rest) climbs (suc i) (suc j) d before low = climbing_differ rest climbs.1 i j d (omega arith) (omega arith)

pub each_once : (lines : List (List ℕ)) → AllPairs (λ a b. a ≢ b) (without_repeats (in_order lines))
each_once lines = climbing_differ (without_repeats (in_order lines)) (Climbs-once (in_order lines) (Rises-in_order lines))

-- the lines that are left are in order still
below_up_to : (a : List ℕ) (lines : List (List ℕ)) → AllByRecursion (Below a) lines → AllByRecursion (IsUpTo a) lines
below_up_to a [] all = tt
below_up_to a (line ∷ rest) all = (all.0.0, below_up_to a rest all.1)

climbing_rise : (lines : List (List ℕ)) → Climbs lines → Rises lines
climbing_rise [] climbs = tt
climbing_rise (line ∷ rest) climbs = (below_up_to line rest climbs.0, climbing_rise rest climbs.1)

pub left_in_order : (lines : List (List ℕ)) → AllPairs IsUpTo (without_repeats (in_order lines))
left_in_order lines = AllPairs-rising (without_repeats (in_order lines)) (climbing_rise (without_repeats (in_order lines)) (Climbs-once (in_order lines) (Rises-in_order lines)))

-- Which lines are left.
in_cons : (x : List ℕ) (xs : List (List ℕ)) (v : List ℕ) → Contains (x ∷ xs) v → (x ≡ v) ⊎ Contains xs v
in_cons x xs v (zero, low, is) = inl is
in_cons x xs v (suc k, low, is) = inr (k, omega arith, is)

cons_head : (x : List ℕ) (xs : List (List ℕ)) (v : List ℕ) → x ≡ v → Contains (x ∷ xs) v
cons_head x xs v is = (0, omega arith, is)

cons_tail : (x : List ℕ) (xs : List (List ℕ)) (v : List ℕ) → Contains xs v → Contains (x ∷ xs) v
cons_tail x xs v has = (suc has.0, omega (arith, has.1), has.2)

changes_has : (before : List ℕ) (lines : List (List ℕ)) (v : List ℕ) → Contains lines v → (before ≡ v) ⊎ Contains (changes before lines) v
changes_has before [] v has = absurd (omega (arith, has.1))
changes_has before (line ∷ rest) v has =
    ⊎_elim
    (λ is. ⊎_elim
    (λ same. inl (eq_is before line same ∙ is))
    (λ other. inr (subst (λ l. Contains l v) (sym (cond-false (bytes_eq before line) (changes line rest) (line ∷ changes line rest) other)) (cons_head line (changes line rest) v is)))
    (cases_Bool (bytes_eq before line)))
    (λ later. ⊎_elim
    (λ is. ⊎_elim
    (λ same. inl (eq_is before line same ∙ is))
    (λ other. inr (subst (λ l. Contains l v) (sym (cond-false (bytes_eq before line) (changes line rest) (line ∷ changes line rest) other)) (cons_head line (changes line rest) v is)))
    (cases_Bool (bytes_eq before line)))
    (λ left. inr (cond_both (bytes_eq before line) (changes line rest) (line ∷ changes line rest) (λ l. Contains l v) (λ _. left) (λ _. cons_tail line (changes line rest) v left)))
    (changes_has line rest v later))
    (in_cons line rest v has)

changes_from : (before : List ℕ) (lines : List (List ℕ)) (v : List ℕ) → Contains (changes before lines) v → Contains lines v
changes_from before [] v has = absurd (omega (arith, has.1))
changes_from before (line ∷ rest) v has =
    ⊎_elim
    (λ same. cons_tail line rest v (changes_from line rest v (subst (λ l. Contains l v) (cond-true (bytes_eq before line) (changes line rest) (line ∷ changes line rest) same) has)))
    (λ other.
    ⊎_elim (cons_head line rest v) (λ later. cons_tail line rest v (changes_from line rest v later))
    (in_cons line (changes line rest) v (subst (λ l. Contains l v) (cond-false (bytes_eq before line) (changes line rest) (line ∷ changes line rest) other) has)))
    (cases_Bool (bytes_eq before line))

left_has : (lines : List (List ℕ)) (v : List ℕ) → Contains lines v → Contains (without_repeats lines) v
left_has [] v has = has
left_has (line ∷ rest) v has =
    ⊎_elim (cons_head line (changes line rest) v)
    (λ later. ⊎_elim (cons_head line (changes line rest) v) (cons_tail line (changes line rest) v) (changes_has line rest v later))
    (in_cons line rest v has)

left_from : (lines : List (List ℕ)) (v : List ℕ) → Contains (without_repeats lines) v → Contains lines v
left_from [] v has = has
left_from (line ∷ rest) v has =
    ⊎_elim (cons_head line rest v) (λ later. cons_tail line rest v (changes_from line rest v later)) (in_cons line (changes line rest) v has)

pub line_left : (line : List ℕ) (lines : List (List ℕ)) → Contains lines line → Contains (without_repeats (in_order lines)) line
line_left line lines has = left_has (in_order lines) line (Contains-permutation lines (in_order lines) line (IsPermutation-in_order lines) has)

pub left_line : (line : List ℕ) (lines : List (List ℕ)) → Contains (without_repeats (in_order lines)) line → Contains lines line
left_line line lines has =
    Contains-permutation (in_order lines) lines line (IsPermutation-sym lines (in_order lines) (IsPermutation-in_order lines)) (left_from (in_order lines) line has)

-- Counts of different lines.
bytes_eq-swap : (a b : List ℕ) → bytes_eq a b ≡ bytes_eq b a
bytes_eq-swap a b =
    ⊎_elim
    (λ same. same ∙ sym ((bytes_eq-Decides b a).1 (sym (eq_is a b same))))
    (λ other. other ∙ sym (false_from_ne_true (bytes_eq b a) (λ same. eq_not a b other (sym (eq_is b a same)))))
    (cases_Bool (bytes_eq a b))

sum_none : {X : Type 0} (xs : List X) → sum_by (λ x. 0) xs ≡ 0
sum_none [] = refl
sum_none (x ∷ xs) = sum_by-cons (λ x. 0) x xs ∙ ap (λ n. 0 + n) (sum_none xs)

sum_both : (f g : List ℕ → ℕ) (xs : List (List ℕ)) → sum_by (λ x. f x + g x) xs ≡ sum_by f xs + sum_by g xs
sum_both f g [] = refl
sum_both f g (x ∷ xs) = omega (arith, sum_by-cons (λ y. f y + g y) x xs, sum_by-cons f x xs, sum_by-cons g x xs, sum_both f g xs)

sum_same : (f g : List ℕ → ℕ) (xs : List (List ℕ)) → ((x : List ℕ) → f x ≡ g x) → sum_by f xs ≡ sum_by g xs
sum_same f g [] same = refl
sum_same f g (x ∷ xs) same = sum_by-cons f x xs ∙ ap (λ n. n + sum_by f xs) (same x) ∙ ap (λ n. g x + n) (sum_same f g xs same) ∙ sym (sum_by-cons g x xs)

-- the pairs of equal lines, counted from either side
counted_twice : (some lines : List (List ℕ)) → sum_by (λ d. count_of d lines) some ≡ sum_by (λ x. count_of x some) lines
counted_twice [] lines = sym (sum_none lines)
counted_twice (d ∷ some) lines =
    let one = λ (x : List ℕ). cond {A = ℕ} (bytes_eq x d) 1 0 in
    let here : count_of d lines ≡ sum_by (λ x. cond (bytes_eq x d) 1 0) lines = sum_same (λ x. cond (bytes_eq d x) 1 0) (λ x. cond (bytes_eq x d) 1 0) lines (λ x. ap (λ b. cond {A = ℕ} b 1 0) (bytes_eq-swap d x)) in
    sum_by-cons (λ x. count_of x lines) d some
    ∙ ap (λ n. n + sum_by (λ x. count_of x lines) some) here
    ∙ ap (λ n. sum_by (λ x. cond (bytes_eq x d) 1 0) lines + n) (counted_twice some lines)
    ∙ sym (sum_both (λ x. cond (bytes_eq x d) 1 0) (λ x. count_of x some) lines)
    ∙ sum_same (λ x. cond (bytes_eq x d) 1 0 + count_of x some) (λ x. count_of x (d ∷ some)) lines (λ x. sym (count_of-cons x d some))

-- among different lines a line stands once
none_among : (v : List ℕ) (lines : List (List ℕ)) → AllByRecursion (Below v) lines → count_of v lines ≡ 0
none_among v [] all = refl
none_among v (line ∷ rest) all =
    count_of-cons v line rest
    ∙ ap (λ n. n + count_of v rest) (cond-false (bytes_eq v line) 1 0 (false_from_ne_true (bytes_eq v line) (λ same. all.0.1 (eq_is v line same))))
    ∙ ap (λ n. 0 + n) (none_among v rest all.1)

once_among : (v : List ℕ) (lines : List (List ℕ)) → Climbs lines → Contains lines v → count_of v lines ≡ 1
once_among v [] climbs has = absurd (omega (arith, has.1))
once_among v (line ∷ rest) climbs has =
    count_of-cons v line rest
    ∙ ⊎_elim
    (λ is.
    ap (λ n. n + count_of v rest) (cond-true (bytes_eq v line) 1 0 ((bytes_eq-Decides v line).1 (sym is)))
    ∙ ap (λ n. 1 + n) (ap (λ l. count_of l rest) (sym is) ∙ none_among line rest climbs.0))
    (λ later.
    let differs = one_below line rest later.0 v climbs.0 later.1 in
    ap (λ n. n + count_of v rest) (cond-false (bytes_eq v line) 1 0 (false_from_ne_true (bytes_eq v line) (λ same. differs (sym (eq_is v line same) ∙ sym later.2))))
    ∙ ap (λ n. 0 + n) (once_among v rest climbs.1 later))
    (in_cons line rest v has)

sum_ones : (f : List ℕ → ℕ) (lines : List (List ℕ)) → ((v : List ℕ) → Contains lines v → f v ≡ 1) → sum_by f lines ≡ length lines
sum_ones f [] one = refl
sum_ones f (line ∷ rest) one =
    sum_by-cons f line rest ∙ ap (λ n. n + sum_by f rest) (one line (cons_head line rest line refl))
    ∙ ap (λ n. 1 + n) (sum_ones f rest (λ v has. one v (cons_tail line rest v has))) ∙ omega arith

pub counts_add_up : (lines : List (List ℕ)) → sum_by (λ line. count_of line lines) (without_repeats (in_order lines)) ≡ length lines
counts_add_up lines =
    let left = without_repeats (in_order lines) in
    counted_twice left lines
    ∙ sum_ones (λ x. count_of x left) lines (λ v has. once_among v left (Climbs-once (in_order lines) (Rises-in_order lines)) (line_left v lines has))
