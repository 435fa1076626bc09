-- Each step on the words keeps their rule.
use Rattle.std.proofs.Common.{◌≡◌, ◌⊎◌, ⊎_elim, inl, inr, ◌≤◌, ℕ, zero, suc, ◌+◌, ◌-◌, ◌%◌, ◌^◌, ◌<◌, List, [], ◌∷◌, ◌++◌, set, length, refl, sym, ap, ◌∙◌, eq-eqb, ne_eqb, Bool, arith}
use Rattle.std.specs.Prelude.{sum_by, slice_set, slice_index, ◌==◌, replicate}
use Rattle.std.proofs.lemmas.List.{length-set, length-replicate, get_or-set_same, get_or-set_other, get_or-replicate}
use Rattle.std.proofs.lemmas.List.Sums.{sum_by-set as sum_by-set_or, sum_by-cons, sum_by_push, get_or-le-sum_by}
use Rattle.std.proofs.lemmas.List.Folds.{sum_by-replicate}
use mathlib.Core.Option.{some, none, some-ne-none, some-injective}
use mathlib.Core.Logic.{dite}
use native.Mathlib.Decide.{ℕ_discrete}
use prog.Atomic.{either}
use lib.ListN.{get_elem?}
use Rattle.atomic_table.specs.Table.{State, Me, step, keeps, Allows, Enters, Splits}
use Rattle.ready_deques.specs.declared.count.Counting.{Counting}
use Rattle.ready_deques.specs.inside.Counts.{counting, count_word, total_words, total_count, total_room, IsSpare, HoldsCounts, EntersIt, RaisesIt, DrawsIt, LowersIt, KeepsCount, GathersIt, SeesIt, seen, with_count, with_counts, without_count, drawn, count_alone, half_kept, half_given}

abbrev S : State (Unit {0}) Counting → Type 0
S s = HoldsCounts s.words s.views

-- a sum over the views after one view changed
sum_by-set : (f : Counting → ℕ) (l : List Counting) (i : ℕ) (v w : Counting) → get_elem? l i ≡ some v → sum_by f (set l i w) + f v ≡ sum_by f l + f w
sum_by-set f [] i v w e = absurd (some-ne-none v (sym e))
sum_by-set f (x ∷ xs) zero v w e =
    let a : sum_by f (w ∷ xs) ≡ f w + sum_by f xs = sum_by-cons f w xs in
    let b : sum_by f (x ∷ xs) ≡ f x + sum_by f xs = sum_by-cons f x xs in
    let c : f x ≡ f v = ap f (some-injective x v e) in
    omega arith
sum_by-set f (x ∷ xs) (suc i) v w e =
    let r = sum_by-set f xs i v w e in
    let a : sum_by f (x ∷ set xs i w) ≡ f x + sum_by f (set xs i w) = sum_by-cons f x (set xs i w) in
    let b : sum_by f (x ∷ xs) ≡ f x + sum_by f xs = sum_by-cons f x xs in
    omega arith

abbrev count_of : Counting → ℕ
count_of v = v.count

abbrev room_of : Counting → ℕ
room_of v = v.room

-- the words after one of them is written
words-set : (words : List ℕ) (i m : ℕ) → i < length words → total_words (slice_set words i m) + slice_index words i ≡ total_words words + m
words-set words i m lt = sum_by-set_or (λ (n : ℕ). n) words i m 0 lt

-- a spare word and the count word are different terms of the sum
spare_and_word : (words : List ℕ) (i : ℕ) → length words ≡ 272 → IsSpare i → slice_index words i + count_word words ≤ total_words words
spare_and_word words i size spare =
    let rest : List ℕ = slice_set words 8 0 in
    let a = words-set words 8 0 (omega arith) in
    let n : length rest ≡ length words = length-set words 8 0 in
    let same : slice_index rest i ≡ slice_index words i = get_or-set_other words 8 i 0 0 (omega (arith, spare.0)) in
    let le : slice_index rest i ≤ total_words rest = get_or-le-sum_by (λ (n : ℕ). n) rest i 0 (omega (arith, spare.1)) in
    omega arith

-- a seat's counts and the spare counts of one word are at most the count word
spare_bound : (words : List ℕ) (views : List Counting) (i id : ℕ) (v : Counting) → HoldsCounts words views → IsSpare i → get_elem? views id ≡ some v → slice_index words i + v.count ≤ count_word words
spare_bound words views i id v h spare at =
    let a = spare_and_word words i h.size spare in
    let c = sum_by-set count_of views id v (counting 0 0 0) at in
    let w = h.word in
    omega arith

-- the rule after a seat's view changed and the count word was written
counted_after : (words : List ℕ) (views : List Counting) (id : ℕ) (v w : Counting) (m : ℕ) → HoldsCounts words views → get_elem? views id ≡ some v
    → m + v.count ≡ count_word words + w.count → w.room ≤ v.room → w.count + w.room ≤ v.count + v.room ⊎ (count_word words < 4611686018427387904) × (w.count ≤ v.count + 1)
    → HoldsCounts (slice_set words 8 m) (set views id w)
counted_after words views id v w m h at word room bound =
    let c = sum_by-set count_of views id v w at in
    let r = sum_by-set room_of views id v w at in
    let lt : 8 < length words = omega (arith, h.size) in
    let t = words-set words 8 m lt in
    let now : count_word (slice_set words 8 m) ≡ m = get_or-set_same words 8 m 0 lt in
    let old_word = h.word in
    let old_room = h.room in
    let old_bound = h.bound in
    record {
      size = length-set words 8 m ∙ h.size;
      word = omega arith;
      room = omega arith;
      bound = ⊎_elim (λ (b : w.count + w.room ≤ v.count + v.room). omega arith) (λ (b : (count_word words < 4611686018427387904) × (w.count ≤ v.count + 1)). omega (arith, b.0, b.1)) bound;
    }

-- the rule after counts went from a seat to a spare word, or back
spare_after : (words : List ℕ) (views : List Counting) (i id : ℕ) (v w : Counting) (m : ℕ) → HoldsCounts words views → IsSpare i → get_elem? views id ≡ some v
    → m + w.count ≡ slice_index words i + v.count → w.room ≡ v.room
    → HoldsCounts (slice_set words i m) (set views id w)
spare_after words views i id v w m h spare at word room =
    let c = sum_by-set count_of views id v w at in
    let r = sum_by-set room_of views id v w at in
    let t = words-set words i m (omega (arith, h.size, spare.1)) in
    let same : count_word (slice_set words i m) ≡ count_word words = get_or-set_other words i 8 m 0 (λ e. omega (arith, spare.0, e)) in
    let old_word = h.word in
    let old_room = h.room in
    let old_bound = h.bound in
    record { size = length-set words i m ∙ h.size; word = omega arith; room = omega arith; bound = omega arith }

-- the rule after a seat's view was cut in two
counted_split : (words : List ℕ) (views : List Counting) (id : ℕ) (v left right : Counting) → HoldsCounts words views → get_elem? views id ≡ some v
    → left.count + right.count ≡ v.count → left.room + right.room ≡ v.room → HoldsCounts words (set views id left ++ right ∷ [])
counted_split words views id v left right h at count room =
    let c = sum_by-set count_of views id v left at in
    let r = sum_by-set room_of views id v left at in
    let c' : total_count (set views id left ++ right ∷ []) ≡ total_count (set views id left) + right.count = sum_by_push count_of (set views id left) right in
    let r' : total_room (set views id left ++ right ∷ []) ≡ total_room (set views id left) + right.room = sum_by_push room_of (set views id left) right in
    let old_word = h.word in
    let old_room = h.room in
    let old_bound = h.bound in
    record { size = h.size; word = omega arith; room = omega arith; bound = omega arith }

pub begins : HoldsCounts (replicate 272 0) (counting 0 0 4611686018427387904 ∷ [])
begins =
    let w : count_word (replicate 272 0) ≡ 0 = get_or-replicate 272 8 0 0 (omega arith) in
    let t : total_words (replicate 272 0) ≡ 0 = sum_by-replicate (λ (n : ℕ). n) 272 0 in
    record { size = length-replicate {A = ℕ} 272 0; word = omega arith; room = omega arith; bound = omega arith }

pub enters : (slots : ℕ) → Enters S slots 8 (λ n w. EntersIt (step slots 8 0 0 none) (counting 0 0 0, []) n (w, []))
enters slots s h len small =
    let c : total_count (s.views ++ counting 0 0 0 ∷ []) ≡ total_count s.views + 0 = sum_by_push count_of s.views (counting 0 0 0) in
    let r : total_room (s.views ++ counting 0 0 0 ∷ []) ≡ total_room s.views + 0 = sum_by_push room_of s.views (counting 0 0 0) in
    let old_word = h.word in
    let old_room = h.room in
    let old_bound = h.bound in
    (counting 0 0 0, record { size = h.size; word = omega arith; room = omega arith; bound = omega arith }, refl)

pub raises : (slots id : ℕ) (me : Me (Unit {0}) Counting) (old : ℕ) → old < 4611686018427387904 → Allows S slots id me 8 (λ n. either (n == old) (old + 1) n) (RaisesIt (step slots 8 old (old + 1) none) me)
raises slots id me old few s h len at small =
    let n : ℕ = count_word s.words in
    dite (ℕ_discrete n old)
    (λ e.
    let r : either (n == old) (old + 1) n ≡ old + 1 = ap (λ (b : Bool). either b (old + 1) n) (eq-eqb n old e) in
    (with_count me.0, keeps, tt, counted_after s.words s.views id me.0 (with_count me.0) (either (n == old) (old + 1) n) h at (omega arith) (omega arith) (inr (omega arith, omega arith)), ((λ _. refl), λ ne. absurd (ne e))))
    (λ ne.
    let r : either (n == old) (old + 1) n ≡ n = ap (λ (b : Bool). either b (old + 1) n) (ne_eqb n old ne) in
    (me.0, keeps, tt, counted_after s.words s.views id me.0 me.0 (either (n == old) (old + 1) n) h at (omega arith) (omega arith) (inl (omega arith)), ((λ e. absurd (ne e)), λ _. refl)))

pub spends : (slots id i : ℕ) (me : Me (Unit {0}) Counting) (old : ℕ) → IsSpare i → 0 < old → Allows S slots id me i (λ n. either (n == old) (old - 1) n) (RaisesIt (step slots i old (old - 1) none) me)
spends slots id i me old spare some_spare s h len at small =
    let n : ℕ = slice_index s.words i in
    dite (ℕ_discrete n old)
    (λ e.
    let r : either (n == old) (old - 1) n ≡ old - 1 = ap (λ (b : Bool). either b (old - 1) n) (eq-eqb n old e) in
    (with_count me.0, keeps, tt, spare_after s.words s.views i id me.0 (with_count me.0) (either (n == old) (old - 1) n) h spare at (omega arith) refl, ((λ _. refl), λ ne. absurd (ne e))))
    (λ ne.
    let r : either (n == old) (old - 1) n ≡ n = ap (λ (b : Bool). either b (old - 1) n) (ne_eqb n old ne) in
    (me.0, keeps, tt, spare_after s.words s.views i id me.0 me.0 (either (n == old) (old - 1) n) h spare at (omega arith) refl, ((λ e. absurd (ne e)), λ _. refl)))

pub draws : (slots id : ℕ) (me : Me (Unit {0}) Counting) → 0 < me.0.room → Allows S slots id me 8 (λ n. (n + 1) % 2 ^ 64) (DrawsIt (step slots 8 1 0 none) me)
draws slots id me some_room s h len at small =
    let n : ℕ = count_word s.words in
    let w : Counting = drawn me.0 in
    let t = sum_by-set room_of s.views id me.0 w at in
    let old_bound = h.bound in
    let k : (n + 1) % 18446744073709551616 ≡ n + 1 = omega arith in
    (w, keeps, tt, counted_after s.words s.views id me.0 w ((n + 1) % 18446744073709551616) h at (omega arith) (omega arith) (inl (omega arith)), refl)

-- a seat's counts are at most the count word
seat_bound : (words : List ℕ) (views : List Counting) (id : ℕ) (v : Counting) → HoldsCounts words views → get_elem? views id ≡ some v → v.count ≤ count_word words
seat_bound words views id v h at =
    let b = spare_bound words views 24 id v h (omega arith, omega arith) at in
    omega arith

pub lowers : (slots id k : ℕ) (me : Me (Unit {0}) Counting) → me.0.count ≡ k → Allows S slots id me 8 (λ n. (n + (2 ^ 64 - k)) % 2 ^ 64) (LowersIt (step slots 8 k 0 none) me)
lowers slots id k me all s h len at small =
    let n : ℕ = count_word s.words in
    let w : Counting = counting (me.0.count - k) me.0.zeros me.0.room in
    let c : w.count ≡ 0 = omega arith in
    let few = seat_bound s.words s.views id me.0 h at in
    let small_is : n < 18446744073709551616 = small in
    let less : (n + (18446744073709551616 - k)) % 18446744073709551616 + k ≡ n = omega arith in
    (w, keeps, tt, counted_after s.words s.views id me.0 w ((n + (18446744073709551616 - k)) % 18446744073709551616) h at (omega arith) (omega arith) (inl (omega arith)), refl)

pub keeps_count : (slots id i : ℕ) (me : Me (Unit {0}) Counting) → IsSpare i → me.0.count ≡ 1 → Allows S slots id me i (λ n. (n + 1) % 2 ^ 64) (KeepsCount (step slots i 1 0 none) me)
keeps_count slots id i me spare one s h len at small =
    let n : ℕ = slice_index s.words i in
    let w : Counting = counting (me.0.count - 1) me.0.zeros me.0.room in
    let c : w.count ≡ 0 = ap (λ k. k - 1) one in
    let few = spare_bound s.words s.views i id me.0 h spare at in
    let old_bound = h.bound in
    let k : (n + 1) % 18446744073709551616 ≡ n + 1 = omega arith in
    (w, keeps, tt, spare_after s.words s.views i id me.0 w ((n + 1) % 18446744073709551616) h spare at (omega arith) refl, refl)

pub gathers : (slots id i : ℕ) (me : Me (Unit {0}) Counting) → IsSpare i → Allows S slots id me i (λ _. 0) (GathersIt (step slots i 0 0 none) me)
gathers slots id i me spare s h len at small =
    let n : ℕ = slice_index s.words i in
    let w : Counting = with_counts n me.0 in
    (w, keeps, tt, spare_after s.words s.views i id me.0 w 0 h spare at (omega arith) refl, refl)

pub sees : (slots id : ℕ) (me : Me (Unit {0}) Counting) → Allows S slots id me 8 (λ n. n) (SeesIt (step slots 8 0 0 none) me)
sees slots id me s h len at small =
    let n : ℕ = count_word s.words in
    let c = seen_count n me.0 in
    let r = seen_room n me.0 in
    (seen n me.0, keeps, tt, counted_after s.words s.views id me.0 (seen n me.0) n h at (omega arith) (omega arith) (inl (omega arith)), ((λ _. refl), λ ne. absurd (ne refl)))
  where
    seen_count : (n : ℕ) (v : Counting) → (seen n v).count ≡ v.count
    seen_count zero v = refl
    seen_count (suc n) v = refl

    seen_room : (n : ℕ) (v : Counting) → (seen n v).room ≡ v.room
    seen_room zero v = refl
    seen_room (suc n) v = refl

pub hands_over : (id : ℕ) (v : Counting) → Splits S id v (without_count v) (count_alone v)
hands_over id v s h at = counted_split s.words s.views id v (without_count v) (count_alone v) h at (omega arith) (omega arith)

pub halves : (id : ℕ) (v : Counting) → Splits S id v (half_kept v) (half_given v)
halves id v s h at = counted_split s.words s.views id v (half_kept v) (half_given v) h at (omega arith) (omega arith)
