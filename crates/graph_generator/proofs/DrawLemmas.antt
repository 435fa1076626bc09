-- Numbers drawn, and the lines and tasks that they make.
use Rattle.std.proofs.Common.{◌≡◌, ℕ, suc, ◌+◌, ◌/◌, ◌-◌, ◌<◌, ◌≤◌, Bool, true, false, List, [], ◌∷◌, ◌++◌, map, filter, get_or, length, refl, sym, ap, ◌∙◌, arith}
use Rattle.std.specs.List.{flat_map, range_with_len}
use Rattle.std.proofs.lemmas.List.{append-nil, map-append, map-id}
use Rattle.std.proofs.lemmas.List.Concat.{flat_map-append}
use Rattle.std.proofs.lemmas.List.Elements.{filter-append}
use Rattle.std.proofs.lemmas.List.FromFn.{get_or-map-range_with_len, length-map-range_with_len, map-range_with_len_more}
use Rattle.graph_generator.specs.Draws.{draw, next_state, state_after}
use Rattle.graph_generator.specs.GeneratedText.{text_line, text_lines}
use Rattle.graph_generator.specs.inside.Drawn.{draws}

pub draws-more : (seed n : ℕ) → draws seed (n + 1) ≡ draws seed n ++ draw seed n ∷ []
draws-more seed n = map-range_with_len_more (draw seed) 0 n n (omega arith)

-- one state more
pub drawn-next : (seed n state : ℕ) → state ≡ state_after seed n → next_state state ≡ state_after seed (n + 1)
drawn-next seed n state is =
    let number : n + 1 ≡ suc n = omega arith in
    rw (number, is) refl

-- one draw more
pub draws-next : (seed n state : ℕ) (so_far all : List ℕ) → so_far ≡ draws seed n → state ≡ state_after seed (n + 1) → all ≡ so_far ++ state / 8589934592 ∷ [] → all ≡ draws seed (n + 1)
draws-next seed n state so_far all are is added =
    let number : n + 1 ≡ suc n = omega arith in
    added ∙ rw (are, is, number) (sym (draws-more seed n) ∙ rw number refl)

-- the draw of a number
pub draw-at : (seed count : ℕ) (all : List ℕ) (n d : ℕ) → n < count → all ≡ draws seed count → get_or all n d ≡ draw seed n
draw-at seed count all n d within is = rw is (get_or-map-range_with_len (draw seed) 0 count n n d within (omega arith))

pub draws-length : (seed count : ℕ) (all : List ℕ) → all ≡ draws seed count → length all ≡ count
draws-length seed count all are = ap length are ∙ length-map-range_with_len (draw seed) 0 count

pub range-more : (a n : ℕ) → range_with_len a (n + 1) ≡ range_with_len a n ++ (a + n) ∷ []
range-more a n = sym (map-id (range_with_len a (n + 1))) ∙ map-range_with_len_more (λ k. k) a n (a + n) refl ∙ ap (λ ks. ks ++ (a + n) ∷ []) (map-id (range_with_len a n))

-- what is made of each number, of one number more
pub made-next : {A : Type 0} (f : ℕ → A) (n : ℕ) (made : A) (so_far all : List A) → so_far ≡ map f (range_with_len 0 n) → made ≡ f n → all ≡ so_far ++ made ∷ [] → all ≡ map f (range_with_len 0 (n + 1))
made-next f n made so_far all are is added = added ∙ rw (are, is) (sym (map-range_with_len_more f 0 n n (omega arith)))

-- the same of lists, one after another
pub pieces-more : {A : Type 0} (f : ℕ → List A) (n : ℕ) → flat_map f (range_with_len 0 (n + 1)) ≡ flat_map f (range_with_len 0 n) ++ f n
pieces-more f n =
    let here : 0 + n ≡ n = omega arith in
    ap (flat_map f) (range-more 0 n) ∙ flat_map-append f (range_with_len 0 n) ((0 + n) ∷ []) ∙ ap (λ xs. flat_map f (range_with_len 0 n) ++ xs) (append-nil (f (0 + n))) ∙ rw here refl

-- one line more
pub lines-next : (seed count n : ℕ) (all so_far text : List ℕ) → n < count → all ≡ draws seed count → so_far ≡ text_lines seed n → text ≡ so_far ++ text_line n (get_or all n 0) → text ≡ text_lines seed (n + 1)
unfolding text_lines
lines-next seed count n all so_far text within are so_far_is added =
    added ∙ rw (so_far_is, draw-at seed count all n 0 within are) (sym (pieces-more (λ k. text_line k (draw seed k)) n))

-- the numbers of a range that pass a test, of one number more
passing : {A : Type 0} (f : ℕ → A) (p : ℕ → Bool) (first n : ℕ) → map f (filter p (range_with_len first (n + 1))) ≡ map f (filter p (range_with_len first n)) ++ map f (filter p ((first + n) ∷ []))
passing f p first n =
    ap (λ ks. map f (filter p ks)) (range-more first n)
    ∙ ap (map f) (filter-append p (range_with_len first n) ((first + n) ∷ []))
    ∙ map-append f (filter p (range_with_len first n)) (filter p ((first + n) ∷ []))

-- a test keeps the last number
pub passing-kept : {A : Type 0} (f : ℕ → A) (p : ℕ → Bool) (first to : ℕ) → first ≤ to → p to ≡ true
    → map f (filter p (range_with_len first (to + 1 - first))) ≡ map f (filter p (range_with_len first (to - first))) ++ f to ∷ []
passing-kept f p first to before kept =
    let more : to + 1 - first ≡ to - first + 1 = omega (arith, before) in
    let last : first + (to - first) ≡ to = omega (arith, before) in
    rw more (passing f p first (to - first) ∙ rw (last, kept) refl)

-- or drops it
pub passing-dropped : {A : Type 0} (f : ℕ → A) (p : ℕ → Bool) (first to : ℕ) → first ≤ to → p to ≡ false
    → map f (filter p (range_with_len first (to + 1 - first))) ≡ map f (filter p (range_with_len first (to - first)))
passing-dropped f p first to before dropped =
    let more : to + 1 - first ≡ to - first + 1 = omega (arith, before) in
    let last : first + (to - first) ≡ to = omega (arith, before) in
    rw more (passing f p first (to - first) ∙ rw (last, dropped) (append-nil (map f (filter p (range_with_len first (to - first))))))
