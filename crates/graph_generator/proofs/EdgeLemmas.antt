-- The edges of generated graphs.
use Rattle.std.proofs.Common.{◌≡◌, ℕ, ◌+◌, ◌*◌, ◌/◌, ◌<◌, ◌≤◌, ◌==◌, Bool, true, false, if◌then◌else◌, List, [], ◌∷◌, ◌++◌, length, All, refl, sym, ap, subst, ◌∙◌, append_assoc, arith}
use Rattle.std.specs.List.{flat_map, range_with_len}
use Rattle.std.proofs.lemmas.Bool.{eqb-false}
use Rattle.std.proofs.lemmas.List.{length-append, length-map}
use Rattle.std.proofs.lemmas.List.Elements.{All-append, All-filter, All-from_recursion, All-head, All-map, All-nil, All-tail}
use Rattle.std.proofs.lemmas.List.FromFn.{get_or-range_with_len, length-range_with_len}
use Rattle.std.proofs.lemmas.List.Sums.{count_by-le-length, length-filter}
use Rattle.task_graph.specs.declared.net.EdgeRow.{EdgeRow}
use Rattle.graph_generator.specs.GeneratedPlan.{edge, edge_draw, generated_edges, last_edges, layer_edges, layer_tasks, leads_to, max_layers, next_layer, successors, tasks_behind}

-- ---- as they are made

pub layer-range : (t n : ℕ) → n ≡ 10 → range_with_len (10 * (t / 10 + 1)) n ≡ next_layer t
unfolding next_layer
layer-range t n is = ap (range_with_len (10 * (t / 10 + 1))) is

-- one edge more behind those that there were
pub one-more : (old before after so_far all : List EdgeRow) (row : EdgeRow) → so_far ≡ old ++ before → all ≡ so_far ++ row ∷ [] → after ≡ before ++ row ∷ [] → all ≡ old ++ after
one-more old before after so_far all row are added more = added ∙ ap (λ rows. rows ++ row ∷ []) are ∙ append_assoc old before (row ∷ []) ∙ ap (λ rows. old ++ rows) (sym more)

-- ---- lists

-- what holds of the numbers of a range
pub All-range : (P : ℕ → Type 0) (a n : ℕ) → ((k : ℕ) → a ≤ k → k < a + n → P k) → All P (range_with_len a n)
All-range P a n each_ i d within =
    let i_in : i < n = omega (arith, within, length-range_with_len a n) in
    subst P (sym (get_or-range_with_len a n i d i_in)) (each_ (a + i) (omega arith) (omega (arith, i_in)))

All-flat_map : {X A : Type 0} (P : A → Type 0) (f : X → List A) (xs : List X) → All (λ x. All P (f x)) xs → All P (flat_map f xs)
All-flat_map P f [] all = All-nil P
All-flat_map P f (x ∷ xs) all = All-append P (f x) (flat_map f xs) (All-head (λ y. All P (f y)) x xs all) (All-flat_map P f xs (All-tail (λ y. All P (f y)) x xs all))

flat_map-few : {X A : Type 0} (f : X → List A) (xs : List X) → ((x : X) → length (f x) ≤ 10) → length (flat_map f xs) ≤ 10 * length xs
flat_map-few f [] few = omega arith
flat_map-few f (x ∷ xs) few = omega (arith, length-append (f x) (flat_map f xs), few x, flat_map-few f xs few)

-- ---- the successors of a task are behind it, and few

module _ (layers t : ℕ) (within : t < 10 * layers) where
  behind-among : t / 10 + 1 < layers → All (λ s. s < 10 * layers + 7) (tasks_behind layers t)
  unfolding next_layer
  behind-among behind =
      All-filter (λ next. leads_to t next (edge_draw layers next)) (λ s. s < 10 * layers + 7) (next_layer t) (All-range (λ s. s < 10 * layers + 7) (10 * (t / 10 + 1)) 10 (λ k from_ to_. omega (arith, to_, behind)))

  among-either : (last : Bool) → (t / 10 + 1 == layers) ≡ last → All (λ s. s < 10 * layers + 7) (if last then 10 * layers ∷ [] else tasks_behind layers t)
  among-either true is = All-from_recursion (λ s. s < 10 * layers + 7) (10 * layers ∷ []) (omega arith, tt)
  among-either false is = behind-among (let other = eqb-false (t / 10 + 1) layers is in omega (arith, within, other))

  successors-among : All (λ s. s < 10 * layers + 7) (successors layers t)
  successors-among = among-either (t / 10 + 1 == layers) refl

behind-few : (layers t : ℕ) → length (tasks_behind layers t) ≤ 10
unfolding next_layer
behind-few layers t =
    let leads = λ (next : ℕ). leads_to t next (edge_draw layers next) in
    omega (arith, length-filter leads (next_layer t), count_by-le-length leads (next_layer t), length-range_with_len (10 * (t / 10 + 1)) 10)

few-either : (layers t : ℕ) (last : Bool) → length (if last then 10 * layers ∷ [] else tasks_behind layers t) ≤ 10
few-either layers t true = omega arith
few-either layers t false = behind-few layers t

edges-few : (layers t : ℕ) → length (layer_edges layers t) ≤ 10
edges-few layers t = omega (arith, length-map (successors layers t) (edge t), few-either layers t (t / 10 + 1 == layers))

-- ---- all edges

-- what holds of each edge between two tasks holds of all
pub edges-all : (P : EdgeRow → Type 0) (layers : ℕ) → ((from to : ℕ) → from < 10 * layers + 7 → to < 10 * layers + 7 → P (edge from to)) → All P (generated_edges layers)
edges-all P layers holds =
    let sum = 10 * layers in
    All-append P (flat_map (layer_edges layers) (layer_tasks layers)) (last_edges sum)
    (All-flat_map P (layer_edges layers) (layer_tasks layers) (All-range (λ t. All P (layer_edges layers t)) 0 sum (λ t from_ to_.
    let within : t < 10 * layers = omega (arith, to_) in
    let fits : t < 10 * layers + 7 = omega (arith, within) in
    All-map P (edge t) (successors layers t) (λ i d place. holds t _ fits (successors-among layers t within i d place)))))
    (All-from_recursion P (last_edges sum) (
      holds (sum + 1) (sum + 2) (omega arith) (omega arith),
      (
        holds (sum + 2) (sum + 3) (omega arith) (omega arith),
        (
          holds (sum + 3) (sum + 2) (omega arith) (omega arith),
          (holds (sum + 3) (sum + 4) (omega arith) (omega arith), (holds (sum + 5) (sum + 6) (omega arith) (omega arith), tt)),
        ),
      ),
    ))

pub edges-count : (layers : ℕ) → layers ≤ max_layers → length (generated_edges layers) ≤ 100000
edges-count layers few =
    let sum = 10 * layers in
    let parts = flat_map (layer_edges layers) (layer_tasks layers) in
    omega (arith, few, length-append parts (last_edges sum), flat_map-few (layer_edges layers) (layer_tasks layers) (edges-few layers), length-range_with_len 0 sum)
