-- While a start of one of its tasks is open, and after a drop or a fault of one, no task of a ring is released.
use Rattle.std.proofs.Common.{◌≡◌, ◌≢◌, ◌⊎◌, inl, inr, ℕ, ◌+◌, ◌<◌, ◌≤◌, true, false, ◌||◌, eqb, List, [], ◌∷◌, length, Option, sym, ap, subst, ◌∙◌, arith}
use Rattle.std.specs.Prelude.{sum_by, count_by, ◌==◌}
use Rattle.std.specs.List.{list_any, AllByRecursion}
use Rattle.std.proofs.lemmas.Bool.Decides.{nat_tests}
use Rattle.std.proofs.lemmas.Bool.{cases_eq, false≢true}
use Rattle.std.proofs.lemmas.List.Sums.{sum_by-cons}
use Rattle.task_graph.specs.NetRows.{NetRows}
use Rattle.task_graph.specs.Net.{strong_in}
use Rattle.journal_rules.specs.declared.entry.Entry.{Entry}
use Rattle.journal_rules.specs.declared.entry.Cause.TheVariants.{Strong}
use Rattle.journal_rules.specs.Counts.{given, used}
use Rattle.journal_rules.specs.ReleaseRule.{IsReleased}
use Rattle.run_laws.specs.OneThreadValue.{target_of}
use Rattle.run_laws.specs.Rings.{IsRing, IsRinged}
use Rattle.run_laws.specs.Steady.{runs_at}
use Rattle.run_laws.proofs.Lists.{all_weaken}
use Rattle.run_laws.proofs.Phases.{Phase, idle, busy, begins, stops_one, closed, closed_few}
use Rattle.run_laws.proofs.Rings.{Turning, brings, takes, all_any, among_strong}

sum_above : (f g : ℕ → ℕ) (xs : List ℕ) → AllByRecursion (λ x. g x ≤ f x) xs → sum_by g xs ≤ sum_by f xs
sum_above f g [] each = omega arith
sum_above f g (x ∷ xs) each = omega (arith, sum_by-cons f x xs, sum_by-cons g x xs, each.0, sum_above f g xs each.1)

-- one item that is so much above the other's
one_gap : (f g : ℕ → ℕ) (e d : ℕ) (xs : List ℕ) → AllByRecursion (λ x. g x ≤ f x) xs → list_any (λ x. x == e) xs ≡ true → g e + d ≤ f e → sum_by g xs + d ≤ sum_by f xs
one_gap f g e d [] each has gap = absurd (false≢true has)
one_gap f g e d (x ∷ xs) each has gap = by_head (cases_eq x e) has (one_gap f g e d xs each.1)
  where
    by_head : (x ≡ e) ⊎ (x ≢ e) → eqb x e || list_any (λ y. y == e) xs ≡ true → (list_any (λ y. y == e) xs ≡ true → g e + d ≤ f e → sum_by g xs + d ≤ sum_by f xs) → sum_by g (x ∷ xs) + d ≤ sum_by f (x ∷ xs)
    by_head (inl same) h more =
        let here : g x + d ≤ f x = subst (λ y. g y + d ≤ f y) (sym same) gap in
        omega (arith, sum_by-cons f x xs, sum_by-cons g x xs, here, sum_above f g xs each.1)
    by_head (inr other) h more =
        let miss : eqb x e ≡ false = grind (arith, nat_tests) in
        omega (arith, sum_by-cons f x xs, sum_by-cons g x xs, each.0, more (sym (ap (λ b. b || list_any (λ y. y == e) xs) miss) ∙ h) gap)

-- two of them
two_gaps : (f g : ℕ → ℕ) (e s : ℕ) (xs : List ℕ) → e ≢ s → AllByRecursion (λ x. g x ≤ f x) xs → list_any (λ x. x == e) xs ≡ true → list_any (λ x. x == s) xs ≡ true → g e + 1 ≤ f e → g s + 1 ≤ f s → sum_by g xs + 2 ≤ sum_by f xs
two_gaps f g e s [] apart each has_e has_s gap_e gap_s = absurd (false≢true has_e)
two_gaps f g e s (x ∷ xs) apart each has_e has_s gap_e gap_s = by_head (cases_eq x e) (cases_eq x s) (two_gaps f g e s xs apart each.1)
  where
    rest : (k : ℕ) → x ≢ k → list_any (λ y. y == k) (x ∷ xs) ≡ true → list_any (λ y. y == k) xs ≡ true
    rest k other h = let miss : eqb x k ≡ false = grind (arith, nat_tests) in sym (ap (λ b. b || list_any (λ y. y == k) xs) miss) ∙ h

    by_head : (x ≡ e) ⊎ (x ≢ e) → (x ≡ s) ⊎ (x ≢ s) → (list_any (λ y. y == e) xs ≡ true → list_any (λ y. y == s) xs ≡ true → g e + 1 ≤ f e → g s + 1 ≤ f s → sum_by g xs + 2 ≤ sum_by f xs) → sum_by g (x ∷ xs) + 2 ≤ sum_by f (x ∷ xs)
    by_head (inl is_e) (inl is_s) more = absurd (apart (sym is_e ∙ is_s))
    by_head (inl is_e) (inr other) more =
        let here : g x + 1 ≤ f x = subst (λ y. g y + 1 ≤ f y) (sym is_e) gap_e in
        omega (arith, sum_by-cons f x xs, sum_by-cons g x xs, here, one_gap f g s 1 xs each.1 (rest s other has_s) gap_s)
    by_head (inr other) (inl is_s) more =
        let here : g x + 1 ≤ f x = subst (λ y. g y + 1 ≤ f y) (sym is_s) gap_s in
        omega (arith, sum_by-cons f x xs, sum_by-cons g x xs, here, one_gap f g e 1 xs each.1 (rest e other has_e) gap_e)
    by_head (inr not_e) (inr not_s) more = omega (arith, sum_by-cons f x xs, sum_by-cons g x xs, each.0, more (rest e not_e has_e) (rest s not_s has_s) gap_e gap_s)

-- an edge of a ring into a task
pub record EdgeOfRing (net : NetRows) (ring : List ℕ) (t : ℕ) : Type 0 where
  pub edge : ℕ
  pub below : edge < length net.edges
  pub into : target_of net edge ≡ t
  pub among : list_any (λ f. f == edge) ring ≡ true

-- a task has the ring's token: of its starts, drops and faults more have come than were closed
abbrev Holds : (ℕ → Option ℕ) → ℕ → List Entry → Type 0
Holds at u b = closed at u b + 1 ≤ count_by (begins u) b + count_by (stops_one at u) b

none_released : (net : NetRows) (at : ℕ → Option ℕ) (b : List Entry) (ring : List ℕ) (t u : ℕ) → IsRinged net → Turning net at b → IsRing net ring → EdgeOfRing net ring t → EdgeOfRing net ring u → IsReleased net b t Strong → Holds at u b → ⊥
none_released net at b ring t u ringed turning is_ring mine its released holds = by_edge (cases_eq e s)
  where
    e : ℕ
    e = mine.edge

    s : ℕ
    s = its.edge

    few : (r : ℕ) → closed at r b ≤ count_by (begins r) b
    few r = closed_few at r b (turning.placed.phases r)

    each : AllByRecursion (λ f. takes net at b f ≤ brings net at b f) ring
    each = all_weaken (λ f. f < length net.edges) (λ f. takes net at b f ≤ brings net at b f) (λ f f_below. omega (arith, turning.held f f_below, few (target_of net f))) ring is_ring.in_range

    token : used (target_of net e) b + 1 ≤ given net e b
    token = subst (λ r. used r b + 1 ≤ given net e b) (sym mine.into)
        (all_any (λ f. used t b + 1 ≤ given net f b) e (strong_in net t) released.1 (subst (λ r. list_any (λ f. f == e) (strong_in net r) ≡ true) mine.into (among_strong net e ringed mine.below)))

    gap_e : takes net at b e + 1 ≤ brings net at b e
    gap_e = omega (arith, token, few (target_of net e))

    holds_at : Holds at (target_of net s) b
    holds_at = subst (λ r. Holds at r b) (sym its.into) holds

    gap_s : takes net at b s + 1 ≤ brings net at b s
    gap_s = omega (arith, holds_at, turning.held s its.below)

    by_edge : (e ≡ s) ⊎ (e ≢ s) → ⊥
    by_edge (inr other) = omega (arith, two_gaps (brings net at b) (takes net at b) e s ring other each mine.among its.among gap_e gap_s, turning.turns ring is_ring)
    by_edge (inl same) =
        let both : Holds at (target_of net e) b = subst (λ f. Holds at (target_of net f) b) (sym same) holds_at in
        let gap : takes net at b e + 2 ≤ brings net at b e = omega (arith, token, both) in
        omega (arith, one_gap (brings net at b) (takes net at b) e 2 ring each mine.among gap, turning.turns ring is_ring)

-- after a drop or a fault
pub none_behind : (net : NetRows) (at : ℕ → Option ℕ) (b : List Entry) (ring : List ℕ) (t u : ℕ) → IsRinged net → Turning net at b → IsRing net ring → EdgeOfRing net ring t → EdgeOfRing net ring u → IsReleased net b t Strong → 1 ≤ count_by (stops_one at u) b → ⊥
none_behind net at b ring t u ringed turning is_ring mine its released stopped =
    none_released net at b ring t u ringed turning is_ring mine its released (omega (arith, stopped, closed_few at u b (turning.placed.phases u)))

-- beside an open start
pub none_beside : (net : NetRows) (at : ℕ → Option ℕ) (b : List Entry) (ring : List ℕ) (t u n : ℕ) → IsRinged net → Turning net at b → IsRing net ring → EdgeOfRing net ring t → EdgeOfRing net ring u → IsReleased net b t Strong → runs_at u b n ≡ true → ⊥
none_beside net at b ring t u n ringed turning is_ring mine its released runs = none_released net at b ring t u ringed turning is_ring mine its released (by_phase (turning.placed.phases u))
  where
    by_phase : Phase at u b → Holds at u b
    by_phase (idle same rests) = absurd (rests n runs)
    by_phase (busy m one_more at_m) = omega (arith, one_more)
