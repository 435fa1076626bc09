-- The names of generated tasks differ.
use Rattle.std.proofs.Common.{◌≡◌, ◌≢◌, ◌<◌, ◌≤◌, ℕ, ◌+◌, ◌-◌, ◌*◌, ◌/◌, ◌%◌, Bool, eqb, List, [], ◌∷◌, ◌++◌, length, map, take, get_or, All, codes, refl, ap, sym, ◌∙◌, arith, inl, inr, ◌⊎◌}
use Rattle.std.specs.Prelude.{decimal}
use Rattle.std.specs.List.{IsDistinct, range_with_len}
use Rattle.std.proofs.lemmas.Bool.{cases_lt, eqb-false}
use Rattle.std.proofs.lemmas.Fmt.{decimal_digit, decimal_injective}
use Rattle.std.proofs.lemmas.List.{append_cancel_left, append_cancel_right, get_or-append_right, get_or_append_left, get_or_push, length-append, length_push, take_at}
use Rattle.std.proofs.lemmas.List.Elements.{All-from_recursion}
use Rattle.std.proofs.lemmas.List.FromFn.{get_or-map-range_with_len, length-map-range_with_len}
use Rattle.std.proofs.lemmas.Map.Keys.{apart_from_distinct}
use Rattle.graph_plans.specs.PlanRows.{AllDiffer}
use Rattle.graph_generator.specs.GeneratedPlan.{generated_names, last_names, layer_name, layer_tasks, max_layers}

-- ---- the layers

push-same : (xs ys : List ℕ) (a b : ℕ) → xs ++ a ∷ [] ≡ ys ++ b ∷ [] → (xs ≡ ys) × (a ≡ b)
push-same xs ys a b same =
    let count : length ys ≡ length xs = omega (arith, length_push xs a, length_push ys b, ap length same) in (
      sym (take_at xs (a ∷ []) (length xs) refl) ∙ ap (take (length xs)) same ∙ take_at ys (b ∷ []) (length xs) count,
      sym (get_or_push xs a 0 (length xs) refl) ∙ ap (λ l. get_or l (length xs) 0) same ∙ get_or_push ys b 0 (length xs) count,
    )

-- a name has one digit behind its `_`, so the layer and the number in it can be read off
same-task : (i j : ℕ) → i < 10000 → j < 10000 → layer_name i ≡ layer_name j → i ≡ j
same-task i j few_i few_j same =
    let digit_i = decimal_digit (i % 10) (omega arith) in
    let digit_j = decimal_digit (j % 10) (omega arith) in
    let front_i = codes "g" ++ decimal (i / 10) ++ codes "_" in
    let front_j = codes "g" ++ decimal (j / 10) ++ codes "_" in
    let written : front_i ++ (48 + i % 10) ∷ [] ≡ front_j ++ (48 + j % 10) ∷ [] = ap (λ ds. front_i ++ ds) (sym digit_i) ∙ same ∙ ap (λ ds. front_j ++ ds) digit_j in
    let both = push-same front_i front_j (48 + i % 10) (48 + j % 10) written in
    let layers = append_cancel_left (codes "g") (decimal (i / 10)) (decimal (j / 10)) (append_cancel_right (codes "g" ++ decimal (i / 10)) (codes "g" ++ decimal (j / 10)) (codes "_") both.0) in
    let same_layer = decimal_injective (i / 10) (j / 10) (omega (arith, few_i)) (omega (arith, few_j)) layers in
    omega (arith, same_layer, both.1)

layers-differ : (n : ℕ) → n ≤ 10000 → AllDiffer (map layer_name (range_with_len 0 n))
layers-differ n few i j d before within same =
    let count = length-map-range_with_len layer_name 0 n in
    let at_i = get_or-map-range_with_len layer_name 0 n i i d (omega (arith, count, before, within)) (omega arith) in
    let at_j = get_or-map-range_with_len layer_name 0 n j j d (omega (arith, count, within)) (omega arith) in
    let is = same-task i j (omega (arith, count, few, before, within)) (omega (arith, count, few, within)) (sym at_i ∙ same ∙ at_j) in
    omega (arith, before, is)

-- ---- the last ones, by their first two bytes

abbrev key : List ℕ → ℕ
key name = 256 * get_or name 0 0 + get_or name 1 0

abbrev same_key : List ℕ → List ℕ → Bool
same_key a b = eqb (key a) (key b)

last-distinct : IsDistinct same_key last_names
unfolding IsDistinct
last-distinct = (
  (refl, (refl, (refl, (refl, (refl, (refl, tt)))))),
  (
    (refl, (refl, (refl, (refl, (refl, tt))))),
    ((refl, (refl, (refl, (refl, tt)))), ((refl, (refl, (refl, tt))), ((refl, (refl, tt)), ((refl, tt), (tt, tt))))),
  ),
)

last-differ : AllDiffer last_names
last-differ i j d before within same = eqb-false _ _ (apart_from_distinct same_key last_names i j d last-distinct before within) (ap key same)

-- none of them begins with a `g`
last-begin : All (λ (name : List ℕ). get_or name 0 0 ≢ 103) last_names
last-begin =
    All-from_recursion (λ (name : List ℕ). get_or name 0 0 ≢ 103) last_names
    ((λ e. omega (arith, e)), ((λ e. omega (arith, e)), ((λ e. omega (arith, e)), ((λ e. omega (arith, e)), ((λ e. omega (arith, e)), ((λ e. omega (arith, e)), ((λ e. omega (arith, e)), tt)))))))

-- ---- all

module _ (xs ys : List (List ℕ)) (differ : AllDiffer xs) (others : AllDiffer ys) (apart : (i j : ℕ) (d : List ℕ) → i < length xs → j < length ys → get_or xs i d ≢ get_or ys j d) (i j : ℕ) (d : List ℕ) (before : i < j) (within : j < length (xs ++ ys)) where
  in_second : length xs ≤ j → j - length xs < length ys
  in_second from_ = omega (arith, from_, within, length-append xs ys)

  differ-by : (i < length xs) ⊎ (length xs ≤ i) → (j < length xs) ⊎ (length xs ≤ j) → get_or (xs ++ ys) i d ≢ get_or (xs ++ ys) j d
  differ-by (inl first) (inl both) same = differ i j d before both (sym (get_or_append_left xs ys d i first) ∙ same ∙ get_or_append_left xs ys d j both)
  differ-by (inl first) (inr second) same = apart i (j - length xs) d first (in_second second) (sym (get_or_append_left xs ys d i first) ∙ same ∙ get_or-append_right xs ys (length xs) j d refl second)
  differ-by (inr second) (inl first) same = omega (arith, before, second, first)
  differ-by (inr second) (inr both) same =
      others (i - length xs) (j - length xs) d (omega (arith, before, second)) (in_second both)
      (sym (get_or-append_right xs ys (length xs) i d refl second) ∙ same ∙ get_or-append_right xs ys (length xs) j d refl both)

differ-append : (xs ys : List (List ℕ)) → AllDiffer xs → AllDiffer ys → ((i j : ℕ) (d : List ℕ) → i < length xs → j < length ys → get_or xs i d ≢ get_or ys j d) → AllDiffer (xs ++ ys)
differ-append xs ys differ others apart i j d before within = differ-by xs ys differ others apart i j d before within (cases_lt i (length xs)) (cases_lt j (length xs))

layer-begins : (n i : ℕ) (d : List ℕ) → i < n → get_or (get_or (map layer_name (range_with_len 0 n)) i d) 0 0 ≡ 103
layer-begins n i d within = ap (λ name. get_or name 0 0) (get_or-map-range_with_len layer_name 0 n i i d within (omega arith))

pub generated-differ : (layers : ℕ) → layers ≤ max_layers → AllDiffer (generated_names layers)
generated-differ layers few =
    let names = map layer_name (layer_tasks layers) in
    let count = length-map-range_with_len layer_name 0 (10 * layers) in
    differ-append names last_names (layers-differ (10 * layers) (omega (arith, few))) last-differ
    (λ i j d first last same. last-begin j d last (sym (ap (λ name. get_or name 0 0) same) ∙ layer-begins (10 * layers) i d (omega (arith, count, first))))
