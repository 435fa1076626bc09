-- Each step of a row keeps its rule.
use Rattle.std.proofs.Common.{◌≡◌, ◌≢◌, ℕ, zero, suc, ◌+◌, ◌*◌, ◌%◌, ◌^◌, ◌<◌, ◌≤◌, Bool, true, false, cond, List, [], ◌∷◌, ◌++◌, length, set, refl, sym, ap, ◌∙◌, subst, ⊎_elim, suc-mul, zero-mul, arith}
use Rattle.std.specs.Prelude.{◌&&◌, count_by, min, nat_le, nat_lt, replicate, slice_index}
use Rattle.std.proofs.lemmas.Bool.Decides.{nat_tests}
use Rattle.std.proofs.lemmas.List.{length-set}
use Rattle.std.proofs.lemmas.List.Sums.{sum_by-append, sum_by_push}
use mathlib.Core.Option.{some, none, some-injective, some-ne-none}
use lib.ListN.{get_elem?}
use Rattle.atomic_table.specs.Table.{State, Me, step, keeps, Allows, Splits, Joins}
use Rattle.atomic_table.proofs.Lists.{at_set, at_snoc}
use Rattle.grain_tasks.specs.declared.chunk.Chunk.{Chunk}
use Rattle.grain_tasks.specs.declared.row_view.RowShape.{RowShape}
use Rattle.grain_tasks.specs.declared.row_view.View.{View}
use Rattle.grain_tasks.specs.Chunks.{has_index}
use Rattle.atomic_table.specs.Seated.{TableId}
use Rattle.grain_tasks.specs.Rows.{DrawState, IsShape, RowState, draw_state}
use Rattle.grain_tasks.specs.inside.Views.{Draws, Fits, IsRow, IsSettled, Learns, Told, both_views, chunk_from, drawn_by, first_view, fresh_view, late_of, one_fewer, one_seat, seats_of, spent_view, times_in, total, view_drawn}
use Rattle.grain_tasks.proofs.Totals.{IsIdle, only_one, total_push, total_set, total_within}

abbrev one : Bool → ℕ
one b = cond b 1 0

-- ---- numbers

-- what is below a number is below a lower one, or between
in_split : (i a b : ℕ) → a ≤ b → one (nat_lt i b) ≡ one (nat_lt i a) + one (nat_le a i && nat_lt i b)
in_split i a b le = by_tests (nat_lt i a) (nat_lt i b) (nat_le a i) refl refl refl
  where
    by_tests : (x y z : Bool) → nat_lt i a ≡ x → nat_lt i b ≡ y → nat_le a i ≡ z → one y ≡ one x + one (z && y)
    by_tests true true true p q r = absurd (grind (arith, nat_tests))
    by_tests true true false p q r = refl
    by_tests true false true p q r = absurd (grind (arith, nat_tests))
    by_tests true false false p q r = absurd (grind (arith, nat_tests))
    by_tests false true true p q r = refl
    by_tests false true false p q r = absurd (grind (arith, nat_tests))
    by_tests false false true p q r = refl
    by_tests false false false p q r = refl

index_set : (words : List ℕ) (i n : ℕ) → i < length words → slice_index (set words i n) i ≡ n
index_set [] i n below = absurd (omega arith)
index_set (w ∷ ws) zero n below = refl
index_set (w ∷ ws) (suc i) n below = index_set ws i n (omega arith)

wraps_not : (n k : ℕ) → n + k < 2 ^ 64 → (n + k) % 2 ^ 64 ≡ n + k
wraps_not n k small = omega (arith, small)

times_append : (i : ℕ) (xs ys : List Chunk) → count_by (has_index i) (xs ++ ys) ≡ count_by (has_index i) xs + count_by (has_index i) ys
times_append i xs ys = sum_by-append (λ c. one (has_index i c)) xs ys

times_push : (i : ℕ) (xs : List Chunk) (c : Chunk) → count_by (has_index i) (xs ++ c ∷ []) ≡ count_by (has_index i) xs + one (has_index i c)
times_push i xs c = sum_by_push (λ y. one (has_index i y)) xs c

-- ---- views

-- the views fit after one of them changed
fits_set : (count word : ℕ) (views : List View) (id : ℕ) (w : View) → ((j : ℕ) (u : View) → get_elem? views j ≡ some u → Fits count word u) → Fits count word w
    → (j : ℕ) (u : View) → get_elem? (set views id w) j ≡ some u → Fits count word u
fits_set count word views id w others mine j u e =
    ⊎_elim
    (λ (x : (j ≡ id) × (w ≡ u)). subst (Fits count word) x.1 mine)
    (λ (x : (j ≢ id) × (get_elem? views j ≡ some u)). others j u x.1)
    (at_set views id j w u e)

fits_push : (count word : ℕ) (views : List View) (w : View) → ((j : ℕ) (u : View) → get_elem? views j ≡ some u → Fits count word u) → Fits count word w
    → (j : ℕ) (u : View) → get_elem? (views ++ w ∷ []) j ≡ some u → Fits count word u
fits_push count word views w others mine j u e =
    ⊎_elim (λ was. others j u was) (λ (same : w ≡ u). subst (Fits count word) same mine) (at_snoc views w u j e)

fits_later : (count word later : ℕ) (v : View) → word ≤ later → Fits count word v → Fits count later v
fits_later count word later v le fits = record { late = fits.late; past = λ yes. omega (arith, fits.past yes); idle = fits.idle; reached = omega (arith, fits.reached) }

idle_times : (shape : RowShape) (words : List ℕ) (views : List View) (i : ℕ) → IsRow shape words views → IsIdle (times_in i) views
idle_times shape words views i row k v at empty = ap (λ cs. count_by (has_index i) cs) ((row.fits k v at).idle empty)

-- what stands for all seats, one of which found the row drawn, has each index once
pub settles : (shape : RowShape) (words : List ℕ) (views : List View) (id : ℕ) (v : View) → IsRow shape words views → get_elem? views id ≡ some v → v.shape ≡ shape → IsSettled v
settles shape words views id v row at same all late i =
    let count : v.shape.count ≡ shape.count = ap (λ (s : RowShape). s.count) same in
    let seats : v.shape.seats ≡ shape.seats = ap (λ (s : RowShape). s.seats) same in
    let past = (row.fits id v at).past late in
    let low : min (slice_index words 8) shape.count ≡ v.shape.count = omega (arith, count, past) in
    sym (only_one (times_in i) views id v at (idle_times shape words views i row) (omega (arith, row.seats, all, seats)))
    ∙ row.once i ∙ ap (λ n. one (nat_lt i n)) low

few_late : (shape : RowShape) (words : List ℕ) (views : List View) → IsShape shape → IsRow shape words views → total late_of views ≤ 16
few_late shape words views is row = omega (arith, is.few_seats, row.seats, total_within late_of seats_of views (λ i v e. (row.fits i v e).late))

-- ---- the first view

pub begins : (shape : RowShape) → IsShape shape → IsRow shape (0 ∷ 0 ∷ 0 ∷ 0 ∷ 0 ∷ 0 ∷ 0 ∷ 0 ∷ 0 ∷ 0 ∷ 0 ∷ 0 ∷ 0 ∷ 0 ∷ 0 ∷ 0 ∷ []) (first_view shape ∷ [])
begins shape is = record {
  size = refl;
  place = 0;
  multiple = omega (arith, zero-mul shape.grain);
  seats = omega arith;
  small = omega arith;
  once = λ i. none_in i;
  fits = first;
}
  where
    none_in : (i : ℕ) → count_by (has_index i) [] + 0 ≡ one (nat_lt i (min 0 shape.count))
    none_in i =
        let low : min 0 shape.count ≡ 0 = omega arith in
        let never : nat_lt i 0 ≡ false = grind (arith, nat_tests) in
        ap (λ (b : Bool). one b) (sym never) ∙ ap (λ n. one (nat_lt i n)) (sym low)

    first : (k : ℕ) (v : View) → get_elem? (first_view shape ∷ []) k ≡ some v → Fits shape.count 0 v
    first zero v e = subst (Fits shape.count 0) (some-injective _ _ e) (record { late = omega arith; past = λ yes. absurd (omega arith); idle = λ no. refl; reached = omega arith })
    first (suc k) v e = absurd (some-ne-none v (sym e))

-- ---- a draw

module _ (shape : RowShape) (is : IsShape shape) (words : List ℕ) (views : List View) (id : ℕ) (v : View) (row : IsRow shape words views) (at : get_elem? views id ≡ some v) (same : v.shape ≡ shape) (seat : v.seats ≡ 1) (early : v.late ≡ 0) where
  abbrev word : ℕ
  word = slice_index words 8

  grains : v.shape.grain ≡ shape.grain
  grains = ap (λ (s : RowShape). s.grain) same

  counts : v.shape.count ≡ shape.count
  counts = ap (λ (s : RowShape). s.count) same

  size_after : (n : ℕ) → length (set words 8 n) ≡ 16
  size_after n = length-set words 8 n ∙ row.size

  word_after : (n : ℕ) → slice_index (set words 8 n) 8 ≡ n
  word_after n = index_set words 8 n (omega (arith, row.size))

  next_multiple : word + shape.grain ≡ suc row.place * shape.grain
  next_multiple = omega (arith, row.multiple, suc-mul row.place shape.grain)

  no_wrap : (word + shape.grain) % 2 ^ 64 ≡ word + shape.grain
  no_wrap = wraps_not word shape.grain (omega (arith, row.small, few_late shape words views is row, is.few, is.small))

  -- a number below the count
  early_row : word < shape.count → IsRow shape (set words 8 (word + shape.grain)) (set views id (drawn_by true word v))
  early_row below = record {
    size = size_after (word + shape.grain);
    place = suc row.place;
    multiple = word_after (word + shape.grain) ∙ next_multiple;
    seats = omega (arith, row.seats, total_set seats_of views id v (drawn_by true word v) at);
    small = omega (arith, word_after (word + shape.grain), below, is.small);
    once = each;
    fits = λ j u e. subst (λ n. Fits shape.count n u) (sym (word_after (word + shape.grain)))
        (fits_set shape.count (word + shape.grain) views id (drawn_by true word v) (λ k w at'. fits_later shape.count word (word + shape.grain) w (omega arith) (row.fits k w at')) mine j u e);
  }
    where
      mine : Fits shape.count (word + shape.grain) (drawn_by true word v)
      mine = record { late = (row.fits id v at).late; past = λ yes. absurd (omega (arith, early, yes)); idle = λ no. absurd (omega (arith, seat, no)); reached = omega (arith, grains) }

      each : (i : ℕ) → total (times_in i) (set views id (drawn_by true word v)) ≡ one (nat_lt i (min (slice_index (set words 8 (word + shape.grain)) 8) shape.count))
      each i =
          let after = word_after (word + shape.grain) in
          let b : ℕ = min (word + shape.grain) shape.count in
          let high : min (slice_index (set words 8 (word + shape.grain)) 8) shape.count ≡ b = ap (λ n. min n shape.count) after in
          let low : min word shape.count ≡ word = omega (arith, below) in
          let to : min (word + v.shape.grain) v.shape.count ≡ b = ap (λ (s : RowShape). min (word + s.grain) s.count) same in
          let c : one (has_index i (chunk_from v.shape word)) ≡ one (nat_le word i && nat_lt i b) = ap (λ n. one (nat_le word i && nat_lt i n)) to in
          let p = times_push i v.drawn (chunk_from v.shape word) in
          let t = total_set (times_in i) views id v (drawn_by true word v) at in
          let o : total (times_in i) views ≡ one (nat_lt i word) = row.once i ∙ ap (λ n. one (nat_lt i n)) low in
          let s : one (nat_lt i b) ≡ one (nat_lt i word) + one (nat_le word i && nat_lt i b) = in_split i word b (omega (arith, below)) in
          let sum : total (times_in i) (set views id (drawn_by true word v)) ≡ one (nat_lt i b) = omega (arith, c, p, t, o, s) in
          sum ∙ ap (λ n. one (nat_lt i n)) (sym high)

  -- one that isn't
  late_row : shape.count ≤ word → IsRow shape (set words 8 (word + shape.grain)) (set views id (drawn_by false word v))
  late_row past = record {
    size = size_after (word + shape.grain);
    place = suc row.place;
    multiple = word_after (word + shape.grain) ∙ next_multiple;
    seats = omega (arith, row.seats, total_set seats_of views id v (drawn_by false word v) at);
    small = omega (arith, word_after (word + shape.grain), row.small, is.small, total_set late_of views id v (drawn_by false word v) at);
    once = each;
    fits = λ j u e. subst (λ n. Fits shape.count n u) (sym (word_after (word + shape.grain)))
        (fits_set shape.count (word + shape.grain) views id (drawn_by false word v) (λ k w at'. fits_later shape.count word (word + shape.grain) w (omega arith) (row.fits k w at')) mine j u e);
  }
    where
      mine : Fits shape.count (word + shape.grain) (drawn_by false word v)
      mine = record { late = omega (arith, early, seat); past = λ yes. omega (arith, past); idle = λ no. absurd (omega (arith, seat, no)); reached = omega (arith, (row.fits id v at).reached) }

      each : (i : ℕ) → total (times_in i) (set views id (drawn_by false word v)) ≡ one (nat_lt i (min (slice_index (set words 8 (word + shape.grain)) 8) shape.count))
      each i =
          let after = word_after (word + shape.grain) in
          let high : min (slice_index (set words 8 (word + shape.grain)) 8) shape.count ≡ shape.count = omega (arith, after, past) in
          let low : min word shape.count ≡ shape.count = omega (arith, past) in
          let t = total_set (times_in i) views id v (drawn_by false word v) at in
          let o : total (times_in i) views ≡ one (nat_lt i shape.count) = row.once i ∙ ap (λ n. one (nat_lt i n)) low in
          let sum : total (times_in i) (set views id (drawn_by false word v)) ≡ one (nat_lt i shape.count) = omega (arith, t, o) in
          sum ∙ ap (λ n. one (nat_lt i n)) (sym high)

  row_after : (b : Bool) → nat_lt word v.shape.count ≡ b → IsRow shape (set words 8 (word + shape.grain)) (set views id (drawn_by b word v))
  row_after true below = early_row (let lt : word < v.shape.count = grind (arith, nat_tests) in omega (arith, lt, counts))
  row_after false past = late_row (let le : v.shape.count ≤ word = grind (arith, nat_tests) in omega (arith, le, counts))

  pub row_drawn : IsRow shape (set words 8 ((word + shape.grain) % 2 ^ 64)) (set views id (view_drawn word v))
  row_drawn = subst (λ n. IsRow shape (set words 8 n) (set views id (view_drawn word v))) (sym no_wrap) (row_after (nat_lt word v.shape.count) refl)

  pub told : Told word v
  told = record { place = row.place; multiple = row.multiple ∙ ap (λ g. row.place * g) (sym grains); behind = (row.fits id v at).reached }

-- ---- the steps

-- what is found is what is there
same_row : (shape : RowShape) (words : List ℕ) (views : List View) (id : ℕ) (v : View) → IsRow shape words views → get_elem? views id ≡ some v → IsRow shape (set words 8 (slice_index words 8)) (set views id v)
same_row shape words views id v row at =
    let word : slice_index (set words 8 (slice_index words 8)) 8 ≡ slice_index words 8 = index_set words 8 (slice_index words 8) (omega (arith, row.size)) in
    record {
      size = length-set words 8 (slice_index words 8) ∙ row.size;
      place = row.place;
      multiple = word ∙ row.multiple;
      seats = omega (arith, row.seats, total_set seats_of views id v v at);
      small = omega (arith, word, row.small, total_set late_of views id v v at);
      once = λ i. omega (arith, row.once i, total_set (times_in i) views id v v at) ∙ ap (λ n. one (nat_lt i (min n shape.count))) (sym word);
      fits = λ j u e. subst (λ n. Fits shape.count n u) (sym word) (fits_set shape.count (slice_index words 8) views id v row.fits (row.fits id v at) j u e);
    }

module _ {S : Type 0} (shape : RowShape) where
  abbrev holds : State S View → Type 0
  holds s = IsRow shape s.words s.views

  draws : (slots id : ℕ) (v : View) → IsShape shape → v.shape ≡ shape → v.seats ≡ 1 → v.late ≡ 0
      → Allows holds slots id (v, []) 8 (λ n. (n + shape.grain) % 2 ^ 64) (Draws (step slots 8 shape.grain 0 none) (v, []))
  draws slots id v is same seat early s row len at small = (
    view_drawn (slice_index s.words 8) v,
    keeps,
    tt,
    row_drawn shape is s.words s.views id v row at same seat early,
    (refl, told shape is s.words s.views id v row at same seat early),
  )

  pub draws_number : (slots id : ℕ) (me : Me S View) → IsShape shape → me.0.shape ≡ shape → me.0.seats ≡ 1 → me.0.late ≡ 0 → me.1 ≡ []
      → Allows holds slots id me 8 (λ n. (n + shape.grain) % 2 ^ 64) (Draws (step slots 8 shape.grain 0 none) me)
  draws_number slots id me is same seat early free =
      subst (λ (l : List (ℕ × S)). Allows holds slots id (me.0, l) 8 (λ n. (n + shape.grain) % 2 ^ 64) (Draws (step slots 8 shape.grain 0 none) (me.0, l))) (sym free) (draws slots id me.0 is same seat early)

  learns : (slots id : ℕ) (v : View) → v.shape ≡ shape → Allows holds slots id (v, []) 8 (λ n. n) (Learns (step slots 8 0 0 none) (v, []))
  learns slots id v same s row len at small = (v, keeps, tt, same_row shape s.words s.views id v row at, (refl, settles shape s.words s.views id v row at same))

  pub learns_all : (slots id : ℕ) (me : Me S View) → me.0.shape ≡ shape → me.1 ≡ [] → Allows holds slots id me 8 (λ n. n) (Learns (step slots 8 0 0 none) me)
  learns_all slots id me same free =
      subst (λ (l : List (ℕ × S)). Allows holds slots id (me.0, l) 8 (λ n. n) (Learns (step slots 8 0 0 none) (me.0, l))) (sym free) (learns slots id me.0 same)

  pub cuts : (id : ℕ) (v : View) → 1 ≤ v.seats → v.late ≡ 0 → v.drawn ≡ [] → Splits holds id v (one_fewer v) (one_seat v)
  cuts id v any early empty s row at =
      let left = one_fewer v in
      let right = one_seat v in
      let mine = row.fits id v at in
      record {
        size = row.size;
        place = row.place;
        multiple = row.multiple;
        seats = omega (arith, any, row.seats, total_set seats_of s.views id v left at, total_push seats_of (set s.views id left) right);
        small = omega (arith, row.small, total_set late_of s.views id v left at, total_push late_of (set s.views id left) right);
        once = λ i. omega (arith, row.once i, total_set (times_in i) s.views id v left at, total_push (times_in i) (set s.views id left) right);
        fits = fits_push shape.count (slice_index s.words 8) (set s.views id left) right
            (fits_set shape.count (slice_index s.words 8) s.views id left row.fits (record { late = omega (arith, early); past = mine.past; idle = λ no. empty; reached = mine.reached }))
            (record { late = omega arith; past = λ yes. absurd (omega arith); idle = λ no. refl; reached = omega arith });
      }

  pub puts_together : (id other : ℕ) (v w : View) → Joins holds id v other w (both_views v w) spent_view
  puts_together id other v w s row at apart there =
      let both = both_views v w in
      let mine = row.fits id v at in
      let was : get_elem? s.views other ≡ some w = ⊎_elim (λ (t : (other ≡ id) × (both ≡ w)). absurd (apart t.0)) (λ (t : (other ≢ id) × (get_elem? s.views other ≡ some w)). t.1) (at_set s.views id other both w there) in
      let theirs = row.fits other w was in
      record {
        size = row.size;
        place = row.place;
        multiple = row.multiple;
        seats = omega (arith, row.seats, total_set seats_of s.views id v both at, total_set seats_of (set s.views id both) other w spent_view there);
        small = omega (arith, row.small, total_set late_of s.views id v both at, total_set late_of (set s.views id both) other w spent_view there);
        once = λ i. omega (arith, row.once i, times_append i v.drawn w.drawn, total_set (times_in i) s.views id v both at, total_set (times_in i) (set s.views id both) other w spent_view there);
        fits = fits_set shape.count (slice_index s.words 8) (set s.views id both) other spent_view
            (fits_set shape.count (slice_index s.words 8) s.views id both row.fits (record {
              late = omega (arith, mine.late, theirs.late);
              past = λ yes. by_late (slice_index s.words 8) mine theirs yes;
              idle = λ no. ap (λ cs. cs ++ w.drawn) (mine.idle (omega (arith, no))) ∙ theirs.idle (omega (arith, no));
              reached = mine.reached;
            }))
            (record { late = omega arith; past = λ yes. absurd (omega arith); idle = λ no. refl; reached = omega arith });
      }
    where
      by_late : (n : ℕ) → Fits shape.count n v → Fits shape.count n w → 0 < v.late + w.late → shape.count ≤ n
      by_late n mine theirs any = by_first (nat_lt 0 v.late) refl
        where
          by_first : (b : Bool) → nat_lt 0 v.late ≡ b → shape.count ≤ n
          by_first true is = mine.past (grind (arith, nat_tests))
          by_first false is = theirs.past (let zero_late : v.late ≤ 0 = grind (arith, nat_tests) in omega (arith, zero_late, any))

-- ---- what a draw makes of a view

pub drawn_shape : (n : ℕ) (v : View) → (view_drawn n v).shape ≡ v.shape
drawn_shape n v = by_test (nat_lt n v.shape.count)
  where
    by_test : (b : Bool) → (drawn_by b n v).shape ≡ v.shape
    by_test true = refl
    by_test false = refl

pub drawn_chunk : (n : ℕ) (v : View) → n < v.shape.count → view_drawn n v ≡ drawn_by true n v
drawn_chunk n v below = let is : nat_lt n v.shape.count ≡ true = grind (arith, nat_tests) in ap (λ b. drawn_by b n v) is

pub drawn_late : (n : ℕ) (v : View) → v.shape.count ≤ n → view_drawn n v ≡ drawn_by false n v
drawn_late n v past = let is : nat_lt n v.shape.count ≡ false = grind (arith, nat_tests) in ap (λ b. drawn_by b n v) is

-- a seat is cut off some that have drawn nothing
pub cuts_fresh : {S : Type 0} (key shape : RowShape) (id seats : ℕ) (v : View) → 1 ≤ seats → v ≡ fresh_view shape seats → Splits {S = S} (holds {S = S} key) id v (one_fewer v) (one_seat v)
cuts_fresh {S} key shape id seats v any is =
    subst (λ w. Splits {S = S} (holds {S = S} key) id w (one_fewer w) (one_seat w)) (sym is) (cuts {S = S} key id (fresh_view shape seats) any refl refl)

replicate_push : {X : Type 0} (n : ℕ) (x : X) → replicate n x ++ x ∷ [] ≡ replicate (suc n) x
replicate_push zero x = refl
replicate_push (suc n) x = ap (λ xs. x ∷ xs) (replicate_push n x)

-- the draws that were cut off, and the last one
pub all_cut : (row : RowState) (draws all : List DrawState) (id : TableId) (v : View) (cut k : ℕ) → all ≡ draws ++ draw_state (record { id = id; shape = v.shape }) v.drawn v.reached ∷ []
    → draws ≡ replicate cut (draw_state row [] 0) → id ≡ row.id → v ≡ fresh_view row.shape k → suc cut ≡ row.shape.seats → all ≡ replicate row.shape.seats (draw_state row [] 0)
all_cut row draws all id v cut k is are same fresh last =
    let d : DrawState = draw_state row [] 0 in
    let one_more : draw_state (record { id = id; shape = v.shape }) v.drawn v.reached ≡ d = λ i. draw_state (record { id = same i; shape = (fresh i).shape }) (fresh i).drawn (fresh i).reached in
    is ∙ ap (λ x. draws ++ x ∷ []) one_more ∙ ap (λ xs. xs ++ d ∷ []) are ∙ replicate_push cut d ∙ ap (λ n. replicate n d) last
