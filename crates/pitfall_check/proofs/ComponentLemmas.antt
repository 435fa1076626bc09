-- Numbers of strongly connected components, by the order in which a search finished the tasks.
use Rattle.std.proofs.Common.{◌≡◌, ◌≢◌, ◌⊎◌, inl, inr, ◌==◌, ℕ, ◌+◌, ◌<◌, ◌≤◌, Bool, false, not, ◌&&◌, IsTrue, ◌↔◌, None, Option, List, [], ◌∷◌, ◌++◌, length, get_or, slice_get, reverse, Some, IsSomeAnd, refl, sym, ap, ◌∙◌, subst, eq-eqb, arith}
use Rattle.std.specs.Option.{option_map}
use Rattle.std.specs.List.{Contains, All}
use Rattle.std.proofs.lemmas.Bool.{eqb-true}
use Rattle.std.proofs.str.Laws.{order}
use Rattle.std.proofs.lemmas.List.{reverse-append, get_or_default}
use Rattle.std.proofs.lemmas.List.Elements.{All-cons, All-head, All-tail, Contains-append_right, Contains-push_cases}
use Rattle.task_graph.specs.declared.net.EdgeRow.{EdgeRow}
use Rattle.task_graph.specs.NetRows.{NetRows}
use Rattle.task_graph.specs.Net.{is_weak, out_edges, IsNet}
use Rattle.pitfall_check.specs.declared.way.Way.TheVariants.{StrongBack}
use Rattle.pitfall_check.specs.Walks.{IsWalk, IsOnStrongCycle}
use Rattle.pitfall_check.specs.inside.Steps.{IsStrongStep, edge_to, stays, onward}
use Rattle.pitfall_check.specs.inside.MarkSpread.{FreshReach, IsSpread}
use Rattle.pitfall_check.specs.inside.SearchRules.{Precedes, IsFinishOrder}
use Rattle.pitfall_check.specs.inside.Components.{AreComponents, AreComponentsUpTo, StaysInComponent}
use Rattle.pitfall_check.proofs.PlaceLemmas.{member_cases, member_first, no_member, passing_listed}
use Rattle.pitfall_check.proofs.EdgeLemmas.{both, into_task, value_of}
use Rattle.pitfall_check.proofs.StepLemmas.{out_passes, and_true, not_true, not_false, same_value}
use Rattle.pitfall_check.proofs.SpreadLemmas.{same_or_not, nonzero_below}
use Rattle.pitfall_check.proofs.SearchLemmas.{member_reversed}
use Rattle.pitfall_check.proofs.WalkLemmas.{reach_then, walk_of_strong, strong_walk_keeps, first_step}

-- a list, parted at a member
record PartedAt (xs : List ℕ) (x : ℕ) : Type 0 where
  pub front : List ℕ
  pub rest : List ℕ
  pub whole : xs ≡ front ++ x ∷ rest

part_at : (xs : List ℕ) (x : ℕ) → Contains xs x → PartedAt xs x
part_at [] x here = absurd (no_member x here)
part_at (y ∷ ys) x here = elim (member_cases y ys x here) [
  | inl same ↦ record { front = []; rest = ys; whole = ap (λ z. z ∷ ys) same }
  | inr later ↦ let parted = part_at ys x later in record { front = y ∷ parted.front; rest = parted.rest; whole = ap (λ zs. y ∷ zs) parted.whole }
]

-- what a finish order says at one of its tasks
LeadsBack : NetRows → ℕ → List ℕ → Type 0
LeadsBack net y before = (a b : ℕ) → Contains (y ∷ before) a → IsStrongStep net a b → Contains (y ∷ before) b ⊎ Precedes net b y

finish_at : (net : NetRows) (front : List ℕ) (y : ℕ) (before : List ℕ) → IsFinishOrder net (front ++ y ∷ before)
    → (a b : ℕ) → Contains (y ∷ before) a → IsStrongStep net a b → Contains (y ∷ before) b ⊎ Precedes net b y
finish_at net [] y before finished = finished.2
finish_at net (f ∷ front) y before finished = finish_at net front y before finished.0

-- the task that was finished last stands nowhere else
last_is_first : (net : NetRows) (root : ℕ) (rest front : List ℕ) (y : ℕ) (before : List ℕ) → ¬ Contains rest root → root ∷ rest ≡ front ++ y ∷ before → Contains (y ∷ before) root → y ≡ root
last_is_first net root rest [] y before once same here = cc
last_is_first net root rest (f ∷ front) y before once same here =
    let later : rest ≡ front ++ y ∷ before = cc in
    absurd (once (subst (λ zs. Contains zs root) (sym later) (Contains-append_right front (y ∷ before) root here)))

-- the task that a strong step leaves, or leads to, is a task of the net
step_to_task : (net : NetRows) (a b : ℕ) → IsNet net → IsStrongStep net a b → b < length net.tasks
step_to_task net a b is s = into_task net s.step.edge b is (record { row = s.step.row; is = s.step.is; to = s.step.to })

-- Of the tasks without a component the root was finished last. So it reaches each of them that reaches it through such
-- tasks.
module _ (net : NetRows) (components : List ℕ) (root : ℕ) (rest : List ℕ) (is : IsNet net) (finished : IsFinishOrder net (root ∷ rest))
    (unnumbered : get_or components root 0 ≡ 0) (waiting : (t : ℕ) → t < length net.tasks → get_or components t 0 ≡ 0 → Contains (root ∷ rest) t) where
  still_unnumbered : (z : ℕ) → FreshReach StrongBack net components root z → get_or components z 0 ≡ 0
  still_unnumbered z stays = unnumbered
  still_unnumbered z (onward more step) = step.1

  root_leads : (z : ℕ) → FreshReach StrongBack net components root z → (y : ℕ) (front before : List ℕ) → root ∷ rest ≡ front ++ y ∷ before → Contains (y ∷ before) z → Precedes net root y
  root_leads z stays y front before whole here =
      let same : y ≡ root = last_is_first net root rest front y before finished.1 whole here in
      subst (Precedes net root) (sym same) stays
  root_leads z (onward {b = b} more step) y front before whole here =
      elim (finish_at net front y before (subst (IsFinishOrder net) whole finished) z b here step.0) [
        | inl among ↦ root_leads b more y front before whole among
        | inr back ↦
            let parted = part_at (root ∷ rest) b (waiting b (step_to_task net z b is step.0) (still_unnumbered b more)) in
            reach_then (IsStrongStep net) root b y (root_leads b more b parted.front parted.rest parted.whole (member_first b parted.rest)) back
      ]

  pub root_reaches : (z : ℕ) → z < length net.tasks → FreshReach StrongBack net components root z → Precedes net root z
  root_reaches z below reach =
      let parted = part_at (root ∷ rest) z (waiting z below (still_unnumbered z reach)) in
      root_leads z reach z parted.front parted.rest parted.whole (member_first z parted.rest)

-- steps against the strong edges, turned round
reaches_root : (net : NetRows) (components : List ℕ) (root z : ℕ) → FreshReach StrongBack net components root z → Precedes net z root
reaches_root net components root z stays = stays
reaches_root net components root z (onward {b = b} more step) =
    reach_then (IsStrongStep net) z b root (onward stays step.0) (reaches_root net components root b more)

-- without components all tasks are left
pub AreComponentsUpTo-none : (net : NetRows) (components left : List ℕ) → IsNet net → length components ≡ length net.tasks → ((t : ℕ) → get_or components t 0 ≡ 0) → ((t : ℕ) → t < length net.tasks → Contains left t) → AreComponentsUpTo net components 0 left
AreComponentsUpTo-none net components left is size none all = record {
  well_formed = is;
  size = size;
  at_most = λ t. omega (arith, none t);
  before = λ a b step some. absurd (some (none b));
  never_falls = λ a b step some. absurd (some (none b));
  together = λ a b some same. absurd (some (none a));
  waiting = λ t below unnumbered. all t below;
}

-- a task that has a component is left out
pub AreComponentsUpTo-skip : (net : NetRows) (components : List ℕ) (component : ℕ) (left : List ℕ) (root : ℕ) → get_or components root 0 ≢ 0 → AreComponentsUpTo net components component (left ++ root ∷ []) → AreComponentsUpTo net components (component + 1) left
AreComponentsUpTo-skip net components component left root some so_far = record {
  well_formed = so_far.well_formed;
  size = so_far.size;
  at_most = λ t. omega (arith, so_far.at_most t);
  before = so_far.before;
  never_falls = so_far.never_falls;
  together = so_far.together;
  waiting = λ t below none. elim (Contains-push_cases left root t (so_far.waiting t below none)) [
    | inl inside ↦ inside
    | inr same ↦ absurd (some (ap (λ u. get_or components u 0) same ∙ none))
  ];
}

-- a component got the next component
module _ (net : NetRows) (old new : List ℕ) (component : ℕ) (left : List ℕ) (root : ℕ) (finished : IsFinishOrder net (reverse (left ++ root ∷ [])))
    (unnumbered : get_or old root 0 ≡ 0) (so_far : AreComponentsUpTo net old component (left ++ root ∷ [])) (spread : IsSpread StrongBack net root (component + 1) old new) where
  turned : reverse (left ++ root ∷ []) ≡ root ∷ reverse left
  turned = reverse-append left (root ∷ [])

  all_wait : (t : ℕ) → t < length net.tasks → get_or old t 0 ≡ 0 → Contains (root ∷ reverse left) t
  all_wait t below none = subst (λ zs. Contains zs t) turned (member_reversed (left ++ root ∷ []) t (so_far.waiting t below none))

  numbered_below : (t : ℕ) → get_or new t 0 ≢ 0 → t < length net.tasks
  numbered_below t some = omega (arith, nonzero_below new t some, spread.size, so_far.size)

  numbered_kept : (t : ℕ) → get_or old t 0 ≢ 0 → get_or new t 0 ≢ 0
  numbered_kept t had none = had (sym (spread.kept t had) ∙ none)

  at_most_next : (t : ℕ) → get_or new t 0 ≤ component + 1
  at_most_next t = elim (same_or_not (get_or old t 0) 0) [
    | inr had ↦ omega (arith, spread.kept t had, so_far.at_most t)
    | inl none ↦ elim (same_or_not (get_or new t 0) 0) [
      | inl still ↦ omega (arith, still)
      | inr some ↦ omega (arith, spread.marked t none some)
    ]
  ]

  before_next : (a b : ℕ) → IsStrongStep net a b → get_or new b 0 ≢ 0 → get_or new a 0 ≢ 0
  before_next a b step some = elim (same_or_not (get_or old b 0) 0) [
    | inr had ↦ numbered_kept a (so_far.before a b step had)
    | inl none ↦ spread.closed b a none some step
  ]

  never_falls_next : (a b : ℕ) → IsStrongStep net a b → get_or new b 0 ≢ 0 → get_or new a 0 ≤ get_or new b 0
  never_falls_next a b step some = elim (same_or_not (get_or old b 0) 0) [
    | inr had ↦ omega (arith, spread.kept b had, spread.kept a (so_far.before a b step had), so_far.never_falls a b step had)
    | inl none ↦ omega (arith, spread.marked b none some, at_most_next a)
  ]

  through_root : (a b : ℕ) → get_or old a 0 ≡ 0 → get_or new a 0 ≢ 0 → get_or old b 0 ≡ 0 → get_or new b 0 ≢ 0 → Precedes net a b
  through_root a b none some none_too some_too =
      reach_then (IsStrongStep net) a root b (reaches_root net old root a (spread.reached a none some))
      (root_reaches net old root (reverse left) so_far.well_formed (subst (IsFinishOrder net) turned finished) unnumbered all_wait b (numbered_below b some_too) (spread.reached b none_too some_too))

  together_next : (a b : ℕ) → get_or new a 0 ≢ 0 → get_or new a 0 ≡ get_or new b 0 → Precedes net a b
  together_next a b some same = by_cases (same_or_not (get_or old a 0) 0) (same_or_not (get_or old b 0) 0)
    where
      some_too : get_or new b 0 ≢ 0
      some_too none = some (same ∙ none)

      by_cases : (get_or old a 0 ≡ 0) ⊎ (get_or old a 0 ≢ 0) → (get_or old b 0 ≡ 0) ⊎ (get_or old b 0 ≢ 0) → Precedes net a b
      by_cases (inl none) (inl none_too) = through_root a b none some none_too some_too
      by_cases (inl none) (inr had) = absurd (omega (arith, spread.marked a none some, spread.kept b had, so_far.at_most b, same))
      by_cases (inr had) (inl none) = absurd (omega (arith, spread.marked b none some_too, spread.kept a had, so_far.at_most a, same))
      by_cases (inr had) (inr had_too) = so_far.together a b had (sym (spread.kept a had) ∙ same ∙ spread.kept b had_too)

  waiting_next : (t : ℕ) → t < length net.tasks → get_or new t 0 ≡ 0 → Contains left t
  waiting_next t below none = by_cases (same_or_not (get_or old t 0) 0)
    where
      before_that : get_or old t 0 ≡ 0 → Contains left t
      before_that was = elim (Contains-push_cases left root t (so_far.waiting t below was)) [
        | inl inside ↦ inside
        | inr same ↦ absurd (omega (arith, spread.root_marked, ap (λ u. get_or new u 0) same, none))
      ]

      by_cases : (get_or old t 0 ≡ 0) ⊎ (get_or old t 0 ≢ 0) → Contains left t
      by_cases (inl was) = before_that was
      by_cases (inr had) = absurd (numbered_kept t had none)

  pub AreComponentsUpTo-next : AreComponentsUpTo net new (component + 1) left
  AreComponentsUpTo-next = record {
    well_formed = so_far.well_formed;
    size = spread.size ∙ so_far.size;
    at_most = at_most_next;
    before = before_next;
    never_falls = never_falls_next;
    together = together_next;
    waiting = waiting_next;
  }

-- in the end all tasks have a component
pub AreComponents-all : (net : NetRows) (components : List ℕ) (component : ℕ) (left : List ℕ) → length left ≡ 0 → AreComponentsUpTo net components component left → AreComponents net components
AreComponents-all net components component left none so_far = record {
  well_formed = so_far.well_formed;
  size = so_far.size;
  never_falls = λ a b step. so_far.never_falls a b step (numbered b (step_to_task net a b so_far.well_formed step));
  together = λ a b below same. so_far.together a b (numbered a below) same;
}
  where
    numbered : (t : ℕ) → t < length net.tasks → get_or components t 0 ≢ 0
    numbered t below unnumbered = let here = so_far.waiting t below unnumbered in absurd (omega (arith, none, here.1))

-- a strong edge out of a task that leads to one of its component closes a walk
pub cycle_of_edge : (net : NetRows) (components : List ℕ) (t e : ℕ) → AreComponents net components → Contains (out_edges net t) e → StaysInComponent net components t e → IsOnStrongCycle net t
cycle_of_edge net components t e numbering here keeps =
    let at = out_passes net t e here in
    let from : at.item.from ≡ t = eqb-true at.item.from t at.passes in
    let same = value_of (λ (row : EdgeRow). get_or components row.to 0 ≡ get_or components t 0) (slice_get net.edges e) keeps.same in
    let row_same : same.0 ≡ at.item = let both : Some same.0 ≡ Some at.item = sym same.1 ∙ at.is in cc in
    let step : IsStrongStep net t at.item.to = record { step = record { edge = e; row = at.item; is = at.is; from = from; to = refl }; strong = keeps.strong } in
    let components_same : get_or components at.item.to 0 ≡ get_or components t 0 = subst (λ (row : EdgeRow). get_or components row.to 0 ≡ get_or components t 0) row_same same.2 in
    let back = walk_of_strong net at.item.to t (numbering.together at.item.to t (step_to_task net t at.item.to numbering.well_formed step) components_same) in
    record {
      edges = e ∷ back.edges;
      some = λ none. absurd (cc);
      strong = All-cons (λ d. is_weak net d ≡ false) e back.edges keeps.strong back.strong;
      closed = subst (λ o. IsSomeAnd o (λ (row : EdgeRow). (row.from ≡ t) × IsWalk net row.to back.edges t)) (sym at.is) (from, back.walk);
    }

-- the first edge of a closed walk is one
pub edge_of_cycle : (net : NetRows) (components : List ℕ) (t : ℕ) → AreComponents net components → IsOnStrongCycle net t → (e : ℕ) × Contains (out_edges net t) e × StaysInComponent net components t e
edge_of_cycle net components t numbering cycle = by_edges cycle.edges cycle.some cycle.strong cycle.closed
  where
    by_edges : (es : List ℕ) → es ≢ [] → All (λ e. is_weak net e ≡ false) es → IsWalk net t es t → (e : ℕ) × Contains (out_edges net t) e × StaysInComponent net components t e
    by_edges [] some strong walk = absurd (some refl)
    by_edges (e ∷ es) some strong walk =
        let first = first_step net t e es t walk in
        let is_strong = All-head (λ d. is_weak net d ≡ false) e es strong in
        let step : IsStrongStep net t first.row.to = record { step = record { edge = e; row = first.row; is = first.is; from = first.from; to = refl }; strong = is_strong } in
        let up = numbering.never_falls t first.row.to step in
        let on : get_or components first.row.to 0 ≤ get_or components t 0 =
        strong_walk_keeps net (λ u. get_or components first.row.to 0 ≤ get_or components u 0) (λ x y s low. let more = numbering.never_falls x y s in omega (arith, more, low)) es first.row.to t (All-tail (λ d. is_weak net d ≡ false) e es strong) first.rest (omega arith) in
        let equal : get_or components first.row.to 0 ≡ get_or components t 0 = omega (arith, up, on) in (
          e,
          passing_listed (λ (row : EdgeRow). row.from == t) net.edges e (record { item = first.row; is = first.is; passes = eq-eqb first.row.from t first.from }),
          record { strong = is_strong; same = subst (λ o. IsSomeAnd o (λ (row : EdgeRow). get_or components row.to 0 ≡ get_or components t 0)) (sym first.is) equal },
        )

-- where no edge out of a task keeps its component, the task is on no cycle
pub no_cycle : (net : NetRows) (components : List ℕ) (t n : ℕ) (edges : List ℕ) → edges ≡ out_edges net t → length edges ≤ n → AreComponents net components
    → ((k : ℕ) → k < n → ¬ StaysInComponent net components t (get_or edges k 0)) → ¬ IsOnStrongCycle net t
no_cycle net components t n edges same all numbering none cycle =
    let edge = edge_of_cycle net components t numbering cycle in
    at_place edge.0 (subst (λ es. Contains es edge.0) (sym same) edge.1) edge.2
  where
    at_place : (e : ℕ) → Contains edges e → StaysInComponent net components t e → ⊥
    at_place e (k, below, is) keeps = none k (omega (arith, below, all)) (subst (StaysInComponent net components t) (sym (get_or_default edges k 0 e below ∙ is)) keeps)

-- one edge more doesn't keep the component
pub none_stays_more : (net : NetRows) (components : List ℕ) (t n : ℕ) → ((k : ℕ) → k < n → ¬ StaysInComponent net components t (get_or (out_edges net t) k 0))
    → ¬ StaysInComponent net components t (get_or (out_edges net t) n 0)
    → (k : ℕ) → k < n + 1 → ¬ StaysInComponent net components t (get_or (out_edges net t) k 0)
none_stays_more net components t n before last k below = elim (order k n) [
  | inl earlier ↦ before k earlier
  | inr late ↦ let same : n ≡ k = omega (arith, late, below) in subst (λ i. ¬ StaysInComponent net components t (get_or (out_edges net t) i 0)) same last
]

-- the order without its last task
pub order_front : (net : NetRows) (left : List ℕ) (root : ℕ) → IsFinishOrder net (reverse (left ++ root ∷ [])) → IsFinishOrder net (reverse left)
order_front net left root finished =
    let turned : IsFinishOrder net (root ∷ reverse left) = subst (IsFinishOrder net) (reverse-append left (root ∷ [])) finished in
    turned.0

-- an edge with a known end
value_at : {X : Type 0} (f : X → ℕ) (o : Option X) (n : ℕ) → option_map f o ≡ Some n → (x : X) × (o ≡ Some x) × (f x ≡ n)
value_at f None n is = absurd (cc)
value_at f (Some x) n is = (x, refl, same_value (f x) n is)

-- whether an edge keeps the component, by the components at its end
pub stays_in_component_by : (net : NetRows) (components : List ℕ) (t e head : ℕ) (weak : Bool) → edge_to net e ≡ Some head → weak ≡ is_weak net e
    → (IsTrue ((get_or components head 0 == get_or components t 0) && not weak) ↔ StaysInComponent net components t e)
stays_in_component_by net components t e head weak ends is =
    let row = value_at (λ (row : EdgeRow). row.to) (slice_get net.edges e) head ends in (
      λ yes.
          let tests = both (get_or components head 0 == get_or components t 0) (not weak) yes in
          let equal = eqb-true (get_or components head 0) (get_or components t 0) tests.0 in
          record {
            strong = sym is ∙ not_true weak tests.1;
            same = subst (λ o. IsSomeAnd o (λ (row : EdgeRow). get_or components row.to 0 ≡ get_or components t 0)) (sym row.1) (ap (λ u. get_or components u 0) row.2 ∙ equal);
          },
      λ keeps.
          let same = value_of (λ (row : EdgeRow). get_or components row.to 0 ≡ get_or components t 0) (slice_get net.edges e) keeps.same in
          let row_same : same.0 ≡ row.0 = let rows : Some same.0 ≡ Some row.0 = sym same.1 ∙ row.1 in cc in
          let equal : get_or components head 0 ≡ get_or components t 0 = ap (λ u. get_or components u 0) (sym row.2 ∙ ap (λ (r : EdgeRow). r.to) (sym row_same)) ∙ same.2 in
          and_true (get_or components head 0 == get_or components t 0) (not weak) (eq-eqb (get_or components head 0) (get_or components t 0) equal) (not_false weak (is ∙ keeps.strong)),
    )

-- the same where the components are equal
pub stays_in_equal_component : (net : NetRows) (components : List ℕ) (t e head : ℕ) (weak : Bool) → edge_to net e ≡ Some head → weak ≡ is_weak net e
    → get_or components head 0 ≡ get_or components t 0 → (IsTrue (not weak) ↔ StaysInComponent net components t e)
stays_in_equal_component net components t e head weak ends is equal =
    let by = stays_in_component_by net components t e head weak ends is in
    let same = eq-eqb (get_or components head 0) (get_or components t 0) equal in
    (λ strong. by.0 (and_true (get_or components head 0 == get_or components t 0) (not weak) same strong), λ stays. (both (get_or components head 0 == get_or components t 0) (not weak) (by.1 stays)).1)
