-- Modules on cycles of uses, beside tasks on cycles of the net of the uses.
use Rattle.std.proofs.Common.{◌≡◌, ◌≢◌, inl, inr, ◌==◌, ℕ, zero, suc, ◌+◌, ◌<◌, ◌≤◌, List, [], ◌∷◌, ◌++◌, map, length, get_or, filter, Bool, true, false, ◌||◌, cond, eqb, Option, Some, None, slice_get, IsSomeAnd, All, refl, sym, ap, subst, ◌∙◌, append_assoc, take, arith}
use Rattle.std.specs.Prelude.{◌⊎◌}
use Rattle.std.proofs.lemmas.Bool.{eq-eqb, eqb-true}
use Rattle.std.proofs.lemmas.List.{append-nil, get_or_default}
use Rattle.std.proofs.lemmas.List.Elements.{All-append, All-head, All-map, All-nil, All-tail}
use Rattle.std.proofs.lemmas.Map.Steps.{length-le_from_distinct_below}
use Rattle.std.specs.List.{AllByRecursion, IsDistinct, find, list_any, range_with_len}
use Rattle.std.specs.Option.{option_map_or}
use Rattle.task_graph.specs.Net.{chooses, is_weak, is_weak_row}
use Rattle.task_graph.specs.NetBuilder.{rising, settled}
use Rattle.task_graph.specs.NetRows.{NetRows}
use Rattle.task_graph.specs.declared.net.EdgeRow.{EdgeRow}
use Rattle.task_graph.specs.declared.net.TaskRow.{TaskRow}
use Rattle.pitfall_check.specs.declared.finding.Finding.{Finding}
use Rattle.pitfall_check.specs.declared.finding.Finding.TheVariants.{StrongCycle}
use Rattle.pitfall_check.specs.Findings.{AreFindings, finding_key}
use Rattle.pitfall_check.specs.Walks.{IsOnStrongCycle, IsWalk}
use Rattle.graph_plans.specs.ModuleUses.{first_on_cycle, is_on_cycle, reaches}
use Rattle.graph_file.specs.inside.UseNets.{AreUses, IsFirstOnCycle, module_row, use_edge, use_edges, use_net}

-- ---- options

some_and : {X : Type 0} (P : X → Type 0) (o : Option X) (x : X) → o ≡ Some x → P x → IsSomeAnd o P
some_and P o x is holds = subst (λ v. IsSomeAnd v P) (sym is) holds

value_of : {X : Type 0} (P : X → Type 0) (o : Option X) → IsSomeAnd o P → (x : X) × (o ≡ Some x) × P x
value_of P None holds = absurd holds
value_of P (Some x) holds = (x, refl, holds)

-- a walk that begins with an edge
record BeginsWithStep (net : NetRows) (a e : ℕ) (es : List ℕ) (b : ℕ) : Type 0 where
  row : EdgeRow
  is : slice_get net.edges e ≡ Some row
  from : row.from ≡ a
  rest : IsWalk net row.to es b

first_step : (net : NetRows) (a e : ℕ) (es : List ℕ) (b : ℕ) → IsWalk net a (e ∷ es) b → BeginsWithStep net a e es b
first_step net a e es b walk =
    let first = value_of (λ (row : EdgeRow). (row.from ≡ a) × IsWalk net row.to es b) (slice_get net.edges e) walk in
    record { row = first.0; is = first.1; from = first.2.0; rest = first.2.1 }

-- ---- tests over lists

or_cases : (a b : Bool) → (a || b) ≡ true → (a ≡ true) ⊎ (b ≡ true)
or_cases true b is = inl refl
or_cases false b is = inr is

or-left : (a b : Bool) → a ≡ true → (a || b) ≡ true
or-left true b is = refl
or-left false b is = cc

or-right : (a b : Bool) → b ≡ true → (a || b) ≡ true
or-right true b is = refl
or-right false b is = is

same_number : (a b : ℕ) → (a == b) ≡ true → a ≡ b
same_number a b is = eqb-true a b is

-- an item of a list
abbrev Has : List ℕ → ℕ → Type 0
Has xs x = list_any (λ u. u == x) xs ≡ true

any-found : (p : ℕ → Bool) (xs : List ℕ) → list_any p xs ≡ true → (x : ℕ) × Has xs x × (p x ≡ true)
any-found p [] is = cc
any-found p (x ∷ xs) is = elim (or_cases (p x) (list_any p xs) is) [
  | inl here ↦ (x, or-left (x == x) (list_any (λ u. u == x) xs) (eq-eqb x x refl), here)
  | inr there ↦ let found = any-found p xs there in (found.0, or-right (x == found.0) (list_any (λ u. u == found.0) xs) found.1, found.2)
]

any-here : (p : ℕ → Bool) (xs : List ℕ) (x : ℕ) → Has xs x → p x ≡ true → list_any p xs ≡ true
any-here p [] x has passes = cc
any-here p (y ∷ xs) x has passes = elim (or_cases (y == x) (list_any (λ u. u == x) xs) has) [
  | inl here ↦ or-left (p y) (list_any p xs) (ap p (same_number y x here) ∙ passes)
  | inr there ↦ or-right (p y) (list_any p xs) (any-here p xs x there passes)
]

member-holds : (P : ℕ → Type 0) (xs : List ℕ) (x : ℕ) → All P xs → Has xs x → P x
member-holds P [] x all has = cc
member-holds P (y ∷ xs) x all has = elim (or_cases (y == x) (list_any (λ u. u == x) xs) has) [
  | inl here ↦ subst P (same_number y x here) (All-head P y xs all)
  | inr there ↦ member-holds P xs x (All-tail P y xs all) there
]

-- ---- the edges of the net

edge-split : (n : ℕ) (used : List ℕ) (rest : List EdgeRow) (e : ℕ) (row : EdgeRow) → slice_get (map (use_edge n) used ++ rest) e ≡ Some row
    → ((row.from ≡ n) × Has used row.to) ⊎ ((j : ℕ) × (slice_get rest j ≡ Some row))
edge-split n [] rest e row is = inr (e, is)
edge-split n (u ∷ used) rest zero row is =
    let same : use_edge n u ≡ row = cc in
    inl (ap (λ (r : EdgeRow). r.from) (sym same), or-left (u == row.to) (list_any (λ v. v == row.to) used) (eq-eqb u row.to (ap (λ (r : EdgeRow). r.to) same)))
edge-split n (u ∷ used) rest (suc e) row is = elim (edge-split n used rest e row is) [
  | inl here ↦ inl (here.0, or-right (u == row.to) (list_any (λ v. v == row.to) used) here.1)
  | inr there ↦ inr there
]

edge-used : (n : ℕ) (uses : List (List ℕ)) (e : ℕ) (row : EdgeRow) → slice_get (use_edges n uses) e ≡ Some row → (k : ℕ) × (row.from ≡ n + k) × Has (get_or uses k []) row.to
edge-used n [] e row is = cc
edge-used n (used ∷ uses) e row is = elim (edge-split n used (use_edges (suc n) uses) e row is) [
  | inl here ↦ (0, omega (arith, here.0), here.1)
  | inr there ↦ let later = edge-used (suc n) uses there.0 row there.1 in (suc later.0, omega (arith, later.1), later.2)
]

edge-in : (n b : ℕ) (used : List ℕ) (rest : List EdgeRow) → Has used b → (e : ℕ) × (slice_get (map (use_edge n) used ++ rest) e ≡ Some (use_edge n b))
edge-in n b [] rest has = cc
edge-in n b (u ∷ used) rest has = elim (or_cases (u == b) (list_any (λ v. v == b) used) has) [
  | inl here ↦ (0, ap (λ v. Some (use_edge n v)) (same_number u b here))
  | inr there ↦ let later = edge-in n b used rest there in (suc later.0, later.1)
]

edge-behind : (front rest : List EdgeRow) (e : ℕ) (row : EdgeRow) → slice_get rest e ≡ Some row → (k : ℕ) × (slice_get (front ++ rest) k ≡ Some row)
edge-behind [] rest e row is = (e, is)
edge-behind (first ∷ front) rest e row is = let later = edge-behind front rest e row is in (suc later.0, later.1)

use-edge : (n : ℕ) (uses : List (List ℕ)) (k b : ℕ) → Has (get_or uses k []) b → (e : ℕ) × (slice_get (use_edges n uses) e ≡ Some (use_edge (n + k) b))
use-edge n [] k b has = cc
use-edge n (used ∷ uses) zero b has =
    let here : n + 0 ≡ n = omega arith in
    let found = edge-in n b used (use_edges (suc n) uses) has in
    (found.0, found.1 ∙ ap (λ m. Some (use_edge m b)) (sym here))
use-edge n (used ∷ uses) (suc k) b has =
    let number : suc n + k ≡ n + suc k = omega arith in
    let found = use-edge (suc n) uses k b has in
    let behind = edge-behind (map (use_edge n) used) (use_edges (suc n) uses) found.0 (use_edge (suc n + k) b) found.1 in
    (behind.0, behind.1 ∙ ap (λ m. Some (use_edge m b)) number)

plain-at : (uses : List (List ℕ)) (t : ℕ) → option_map_or (λ (row : TaskRow). chooses row.shape) (slice_get (map (λ used. module_row) uses) t) false ≡ false
plain-at [] t = refl
plain-at (used ∷ uses) zero = refl
plain-at (used ∷ uses) (suc t) = plain-at uses t

row-strong : (uses : List (List ℕ)) (row : Option EdgeRow) → option_map_or (is_weak_row (use_net uses)) row false ≡ false
row-strong uses None = refl
row-strong uses (Some row) = plain-at uses row.from

never-weak : (uses : List (List ℕ)) (e : ℕ) → is_weak (use_net uses) e ≡ false
never-weak uses e = row-strong uses (slice_get (use_edges 0 uses) e)

edges-begin : (n : ℕ) (uses : List (List ℕ)) → All (λ (row : EdgeRow). row.start ≡ false) (use_edges n uses)
edges-begin n [] = All-nil (λ (row : EdgeRow). row.start ≡ false)
edges-begin n (used ∷ uses) =
    All-append (λ (row : EdgeRow). row.start ≡ false) (map (use_edge n) used) (use_edges (suc n) uses)
    (All-map (λ (row : EdgeRow). row.start ≡ false) (use_edge n) used (λ k d less. refl)) (edges-begin (suc n) uses)

-- no edge begins with a token
pub without-tokens : (uses : List (List ℕ)) → All (λ (row : EdgeRow). row.start ≡ false) (use_net uses).edges
without-tokens uses = edges-begin 0 uses

-- ---- chains of uses

-- module a uses the first of these, each the next, and the last is module b
abbrev IsPath : List (List ℕ) → ℕ → List ℕ → ℕ → Type 0
IsPath uses a [] b = a ≡ b
IsPath uses a (v ∷ vs) b = Has (get_or uses a []) v × IsPath uses v vs b

path_of_walk : (uses : List (List ℕ)) (es : List ℕ) (a b : ℕ) → IsWalk (use_net uses) a es b → (vs : List ℕ) × IsPath uses a vs b
path_of_walk uses [] a b walk = ([], walk)
path_of_walk uses (e ∷ es) a b walk =
    let first = first_step (use_net uses) a e es b walk in
    let used = edge-used 0 uses e first.row first.is in
    let later = path_of_walk uses es first.row.to b first.rest in
    let at : used.0 ≡ a = omega (arith, used.1, first.from) in
    (first.row.to ∷ later.0, (subst (λ k. Has (get_or uses k []) first.row.to) at used.2, later.1))

walk_of_path : (uses : List (List ℕ)) (vs : List ℕ) (a b : ℕ) → IsPath uses a vs b → (es : List ℕ) × IsWalk (use_net uses) a es b
walk_of_path uses [] a b path = ([], path)
walk_of_path uses (v ∷ vs) a b path =
    let edge = use-edge 0 uses a v path.0 in
    let later = walk_of_path uses vs v b path.1 in
    let here : 0 + a ≡ a = omega arith in
    (edge.0 ∷ later.0, some_and (λ (row : EdgeRow). (row.from ≡ a) × IsWalk (use_net uses) row.to later.0 b) (slice_get (use_edges 0 uses) edge.0) (use_edge (0 + a) v) edge.1 (here, later.1))

path_of_reach : (n : ℕ) (uses : List (List ℕ)) (a b : ℕ) → reaches n uses a b ≡ true → (vs : List ℕ) × IsPath uses a vs b
path_of_reach zero uses a b is = ([], same_number a b is)
path_of_reach (suc n) uses a b is = elim (or_cases (a == b) (list_any (λ m. reaches n uses m b) (get_or uses a [])) is) [
  | inl here ↦ ([], same_number a b here)
  | inr there ↦
      let found = any-found (λ m. reaches n uses m b) (get_or uses a []) there in
      let later = path_of_reach n uses found.0 b found.2 in
      (found.0 ∷ later.0, (found.1, later.1))
]

reach_of_path : (n : ℕ) (uses : List (List ℕ)) (vs : List ℕ) (a b : ℕ) → IsPath uses a vs b → length vs ≤ n → reaches n uses a b ≡ true
reach_of_path zero uses [] a b path few = eq-eqb a b path
reach_of_path (suc n) uses [] a b path few = or-left (a == b) (list_any (λ m. reaches n uses m b) (get_or uses a [])) (eq-eqb a b path)
reach_of_path zero uses (v ∷ vs) a b path few = absurd (omega (arith, few))
reach_of_path (suc n) uses (v ∷ vs) a b path few =
    or-right (a == b) (list_any (λ m. reaches n uses m b) (get_or uses a [])) (any-here (λ m. reaches n uses m b) (get_or uses a []) v path.0 (reach_of_path n uses vs v b path.1 (omega (arith, few))))

-- ---- a chain that comes nowhere twice

none-same : (a : ℕ) (xs : List ℕ) → list_any (eqb a) xs ≡ false → AllByRecursion (λ y. eqb a y ≡ false) xs
none-same a [] is = tt
none-same a (x ∷ xs) is = let parts = or-none (eqb a x) (list_any (eqb a) xs) is in (parts.0, none-same a xs parts.1)
  where
    or-none : (p q : Bool) → (p || q) ≡ false → (p ≡ false) × (q ≡ false)
    or-none true q is = cc
    or-none false q is = (refl, is)

abbrev IsSimple : List (List ℕ) → ℕ → ℕ → Type 0
IsSimple uses a b = (ws : List ℕ) × IsPath uses a ws b × IsDistinct eqb (a ∷ ws)

distinct-tail : (a : ℕ) (xs : List ℕ) → IsDistinct eqb (a ∷ xs) → IsDistinct eqb xs
unfolding IsDistinct
distinct-tail a xs is = is.1

distinct-more : (a : ℕ) (xs : List ℕ) → list_any (eqb a) xs ≡ false → IsDistinct eqb xs → IsDistinct eqb (a ∷ xs)
unfolding IsDistinct
distinct-more a xs none is = (none-same a xs none, is)

distinct-one : (a : ℕ) → IsDistinct eqb (a ∷ [])
unfolding IsDistinct
distinct-one a = (tt, tt)

-- where a module comes again, the chain begins there
cut : (uses : List (List ℕ)) (a v : ℕ) (ws : List ℕ) (b : ℕ) → IsPath uses v ws b → IsDistinct eqb (v ∷ ws) → list_any (eqb a) (v ∷ ws) ≡ true → IsSimple uses a b
cut uses a v ws b path distinct again = elim (or_cases (eqb a v) (list_any (eqb a) ws) again) [
  | inl here ↦ let same : v ≡ a = sym (same_number a v here) in (ws, subst (λ k. IsPath uses k ws b) same path, subst (λ k. IsDistinct eqb (k ∷ ws)) same distinct)
  | inr there ↦ cut_later uses a v ws b path distinct there
]
  where
    cut_later : (uses : List (List ℕ)) (a v : ℕ) (ws : List ℕ) (b : ℕ) → IsPath uses v ws b → IsDistinct eqb (v ∷ ws) → list_any (eqb a) ws ≡ true → IsSimple uses a b
    cut_later uses a v [] b path distinct again = cc
    cut_later uses a v (w ∷ ws) b path distinct again = elim (or_cases (eqb a w) (list_any (eqb a) ws) again) [
      | inl here ↦
          let same : w ≡ a = sym (same_number a w here) in
          let rest = distinct-tail v (w ∷ ws) distinct in
          (ws, subst (λ k. IsPath uses k ws b) same path.1, subst (λ k. IsDistinct eqb (k ∷ ws)) same rest)
      | inr there ↦ cut_later uses a w ws b path.1 (distinct-tail v (w ∷ ws) distinct) there
    ]

cut_or_keep : (uses : List (List ℕ)) (a v : ℕ) (ws : List ℕ) (b : ℕ) (again : Bool) → list_any (eqb a) (v ∷ ws) ≡ again → Has (get_or uses a []) v → IsPath uses v ws b → IsDistinct eqb (v ∷ ws) → IsSimple uses a b
cut_or_keep uses a v ws b true is used path distinct = cut uses a v ws b path distinct is
cut_or_keep uses a v ws b false is used path distinct = (v ∷ ws, (used, path), distinct-more a (v ∷ ws) is distinct)

simple : (uses : List (List ℕ)) (vs : List ℕ) (a b : ℕ) → IsPath uses a vs b → IsSimple uses a b
simple uses [] a b path = ([], path, distinct-one a)
simple uses (v ∷ vs) a b path =
    let rest = simple uses vs v b path.1 in
    cut_or_keep uses a v rest.0 b (list_any (eqb a) (v ∷ rest.0)) refl path.0 rest.1 rest.2

-- ---- it is no longer than there are modules

at-uses : (n : ℕ) (uses : List (List ℕ)) (a : ℕ) → All (All (λ m. m < n)) uses → All (λ m. m < n) (get_or uses a [])
at-uses n [] a all = All-nil (λ m. m < n)
at-uses n (used ∷ uses) zero all = All-head (All (λ m. m < n)) used uses all
at-uses n (used ∷ uses) (suc a) all = at-uses n uses a (All-tail (All (λ m. m < n)) used uses all)

used-in : (uses : List (List ℕ)) (a v : ℕ) → Has (get_or uses a []) v → a < length uses
used-in [] a v has = cc
used-in (used ∷ uses) zero v has = omega arith
used-in (used ∷ uses) (suc a) v has = let later = used-in uses a v has in omega (arith, later)

path-below : (uses : List (List ℕ)) (ws : List ℕ) (a b q : ℕ) → AreUses uses → IsPath uses a ws b → list_any (eqb q) ws ≡ true → q < length uses
path-below uses [] a b q are path among = cc
path-below uses (w ∷ ws) a b q are path among = elim (or_cases (eqb q w) (list_any (eqb q) ws) among) [
  | inl here ↦ subst (λ k. k < length uses) (sym (same_number q w here)) (member-holds (λ m. m < length uses) (get_or uses a []) w (at-uses (length uses) uses a are) path.0)
  | inr there ↦ path-below uses ws w b q are path.1 there
]

simple-short : (uses : List (List ℕ)) (ws : List ℕ) (a b : ℕ) → AreUses uses → IsPath uses a ws b → IsDistinct eqb (a ∷ ws) → length ws ≤ length uses
simple-short uses [] a b are path distinct = omega arith
simple-short uses (w ∷ ws) a b are path distinct =
    let below : (q : ℕ) → list_any (eqb q) (a ∷ w ∷ ws) ≡ true → q < length uses = λ q among. elim (or_cases (eqb q a) (list_any (eqb q) (w ∷ ws)) among) [
      | inl here ↦ subst (λ k. k < length uses) (sym (same_number q a here)) (used-in uses a w path.0)
      | inr there ↦ path-below uses (w ∷ ws) a b q are path there
    ] in
    let short = length-le_from_distinct_below (a ∷ w ∷ ws) (length uses) distinct below in
    omega (arith, short)

-- ---- cycles

test_of_cycle : (uses : List (List ℕ)) (m : ℕ) → AreUses uses → IsOnStrongCycle (use_net uses) m → is_on_cycle uses m ≡ true
test_of_cycle uses m are is = from_edges is.edges is.some is.closed
  where
    from_edges : (es : List ℕ) → es ≢ [] → IsWalk (use_net uses) m es m → is_on_cycle uses m ≡ true
    from_edges [] some closed = absurd (some refl)
    from_edges (e ∷ es) some closed =
        let first = first_step (use_net uses) m e es m closed in
        let used = edge-used 0 uses e first.row first.is in
        let at : used.0 ≡ m = omega (arith, used.1, first.from) in
        let path = path_of_walk uses es first.row.to m first.rest in
        let short = simple uses path.0 first.row.to m path.1 in
        any-here (λ u. reaches (length uses) uses u m) (get_or uses m []) first.row.to (subst (λ k. Has (get_or uses k []) first.row.to) at used.2)
        (reach_of_path (length uses) uses short.0 first.row.to m short.1 (simple-short uses short.0 first.row.to m are short.1 short.2))

cycle_of_test : (uses : List (List ℕ)) (m : ℕ) → is_on_cycle uses m ≡ true → IsOnStrongCycle (use_net uses) m
cycle_of_test uses m is =
    let found = any-found (λ u. reaches (length uses) uses u m) (get_or uses m []) is in
    let path = path_of_reach (length uses) uses found.0 m found.2 in
    let edge = use-edge 0 uses m found.0 found.1 in
    let later = walk_of_path uses path.0 found.0 m path.1 in
    let here : 0 + m ≡ m = omega arith in
    record {
      edges = edge.0 ∷ later.0;
      some = λ none. cc;
      strong = λ k d within. never-weak uses (get_or (edge.0 ∷ later.0) k d);
      closed = some_and (λ (row : EdgeRow). (row.from ≡ m) × IsWalk (use_net uses) row.to later.0 m) (slice_get (use_edges 0 uses) edge.0) (use_edge (0 + m) found.0) edge.1 (here, later.1);
    }

-- ---- the least of them

find_step : (here : Bool) (a : ℕ) (rest found : Option ℕ) → (here ≡ true → Some a ≡ found) → (here ≡ false → rest ≡ found) → cond here (Some a) rest ≡ found
find_step true a rest found at_once later = at_once refl
find_step false a rest found at_once later = later refl

find-none : (p : ℕ → Bool) (a n : ℕ) → ((k : ℕ) → p k ≡ true → ⊥) → find p (range_with_len a n) ≡ None
find-none p a zero none = refl
find-none p a (suc n) none = find_step (p a) a (find p (range_with_len (a + 1) n)) None (λ is. absurd (none a is)) (λ is. find-none p (a + 1) n none)

differ-below : (p : ℕ → Bool) (a m : ℕ) → p m ≡ true → p a ≡ false → a ≤ m → a + 1 ≤ m
differ-below p a m passes fails least =
    let other : a ≡ m → ⊥ = λ same. absurd (let never : true ≡ false = sym passes ∙ ap p (sym same) ∙ fails in cc) in
    omega (arith, other, least)

find-some : (p : ℕ → Bool) (a n m : ℕ) → p m ≡ true → a ≤ m → m < a + n → ((k : ℕ) → k < m → p k ≡ true → ⊥) → find p (range_with_len a n) ≡ Some m
find-some p a zero m is least most before = absurd (omega (arith, least, most))
find-some p a (suc n) m is least most before =
    find_step (p a) a (find p (range_with_len (a + 1) n)) (Some m)
    (λ here. let not_less : ¬ (a < m) = λ less. before a less here in ap Some (let same : a ≡ m = omega (arith, not_less, least) in same))
    (λ other. find-some p (a + 1) n m is (differ-below p a m is other least) (omega (arith, most)) before)

pub first-found : (uses : List (List ℕ)) (found : Option ℕ) → AreUses uses → IsFirstOnCycle (use_net uses) found → found ≡ first_on_cycle uses
first-found uses None are first = sym (find-none (is_on_cycle uses) 0 (length uses) (λ k is. first k (cycle_of_test uses k is)))
first-found uses (Some m) are first =
    let is : is_on_cycle uses m ≡ true = test_of_cycle uses m are first.0 in
    let used = any-found (λ u. reaches (length uses) uses u m) (get_or uses m []) is in
    let within : m < length uses = used-in uses m used.0 used.1 in
    sym (find-some (is_on_cycle uses) 0 (length uses) m is (omega arith) (omega (arith, within)) (λ k less test. first.1 k less (cycle_of_test uses k test)))

-- ---- while the net is made

none-named : (xs : List ℕ) → filter (λ s. list_any (λ id. id == s) []) xs ≡ []
none-named [] = refl
none-named (x ∷ xs) = none-named xs

-- no semaphores, in order
pub rising-none : (count : ℕ) → rising count [] ≡ []
rising-none count = none-named (range_with_len 0 count)

pub use_edges-more : (n : ℕ) (uses : List (List ℕ)) (i : ℕ) (used : List ℕ) → i < length uses → used ≡ get_or uses i used → use_edges n (take (i + 1) uses) ≡ use_edges n (take i uses) ++ map (use_edge (n + i)) used
use_edges-more n uses i used within is =
    let number : i + 1 ≡ suc i = omega arith in
    rw number (more n uses i used within is)
  where
    more : (n : ℕ) (uses : List (List ℕ)) (i : ℕ) (used : List ℕ) → i < length uses → used ≡ get_or uses i used → use_edges n (take (suc i) uses) ≡ use_edges n (take i uses) ++ map (use_edge (n + i)) used
    more n [] i used within is = absurd (omega (arith, within))
    more n (first ∷ uses) zero used within is = let here : n + 0 ≡ n = omega arith in rw (here, is) (append-nil (map (use_edge n) first))
    more n (first ∷ uses) (suc i) used within is =
        let number : n + suc i ≡ suc n + i = omega arith in
        rw number (ap (λ es. map (use_edge n) first ++ es) (more (suc n) uses i used (omega (arith, within)) is) ∙ sym (append_assoc (map (use_edge n) first) (use_edges (suc n) (take i uses)) (map (use_edge (suc n + i)) used)))

-- a task without semaphores stays as it is
pub bare-task : (net : NetRows) → settled net module_row ≡ module_row
bare-task net = rw (rising-none (length net.sems)) refl

-- the edges of one module more
pub net-more : (uses : List (List ℕ)) (i : ℕ) (used shown : List ℕ) (old new : NetRows) → i < length uses → used ≡ get_or uses i used → shown ≡ used
    → old ≡ record { tasks = map (λ (us : List ℕ). module_row) uses; edges = use_edges 0 (take i uses); sems = [] } → new ≡ record old { edges = old.edges ++ map (use_edge i) shown }
    → new ≡ record { tasks = map (λ (us : List ℕ). module_row) uses; edges = use_edges 0 (take (i + 1) uses); sems = [] }
net-more uses i used shown old new within is same so_far added =
    let here : 0 + i ≡ i = omega arith in
    let more : use_edges 0 (take (i + 1) uses) ≡ use_edges 0 (take i uses) ++ map (use_edge i) used = use_edges-more 0 uses i used within is ∙ ap (λ m. use_edges 0 (take i uses) ++ map (use_edge m) used) here in
    added ∙ rw (so_far, same, more) refl

-- ---- the first finding of a cycle

pub cycle-found : (net : NetRows) (findings : List Finding) (i t : ℕ) (finding : Finding) → AreFindings net findings → i < length findings → finding ≡ get_or findings i finding → finding ≡ StrongCycle t
    → ((k m : ℕ) (d : Finding) → k < i → get_or findings k d ≢ StrongCycle m) → IsFirstOnCycle net (Some t)
cycle-found net findings i t finding are within at is before =
    let here : get_or findings i (StrongCycle t) ≡ StrongCycle t = get_or_default findings i (StrongCycle t) finding within ∙ sym at ∙ is in (
      (are.exact (StrongCycle t)).0 (i, within, here),
      λ s less on.
          let there = (are.exact (StrongCycle s)).1 on in
          let not_before : ¬ (there.0 < i) = λ sooner. before there.0 s (StrongCycle s) sooner there.2 in
          let not_after : ¬ (i < there.0) = λ later.
          let keys = are.ordered i there.0 (StrongCycle s) later there.1 in
          let first : finding_key (get_or findings i (StrongCycle s)) ≡ finding_key (StrongCycle t) = ap finding_key (get_or_default findings i (StrongCycle s) finding within ∙ sym at ∙ is) in
          let second : finding_key (get_or findings there.0 (StrongCycle s)) ≡ finding_key (StrongCycle s) = ap finding_key there.2 in
          absurd (omega (arith, keys, first, second, less)) in
          let same_place : i ≡ there.0 = omega (arith, not_before, not_after) in
          let same : StrongCycle t ≡ StrongCycle s = sym (get_or_default findings i (StrongCycle s) finding within ∙ sym at ∙ is) ∙ ap (λ k. get_or findings k (StrongCycle s)) same_place ∙ there.2 in
          let number : t ≡ s = cc in
          absurd (omega (arith, number, less)),
    )

pub no-cycle-found : (net : NetRows) (findings : List Finding) (i : ℕ) → AreFindings net findings → length findings ≤ i → ((k m : ℕ) (d : Finding) → k < i → get_or findings k d ≢ StrongCycle m) → IsFirstOnCycle net None
no-cycle-found net findings i are past none t on =
    let there = (are.exact (StrongCycle t)).1 on in
    none there.0 t (StrongCycle t) (omega (arith, past, there.1)) there.2

-- the same where the item is written with some default
pub cycle-found-at : (net : NetRows) (findings : List Finding) (i t : ℕ) (d : Finding) → AreFindings net findings → i < length findings → get_or findings i d ≡ StrongCycle t → ((k m : ℕ) (d : Finding) → k < i → get_or findings k d ≢ StrongCycle m)
    → IsFirstOnCycle net (Some t)
cycle-found-at net findings i t d are within = cycle-found net findings i t (get_or findings i d) are within (get_or_default findings i d (get_or findings i d) within)
