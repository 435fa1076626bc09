-- The definitions of pitfalls, computed on small nets.
use Rattle.std.proofs.Common.{◌≡◌, ◌≢◌, ℕ, zero, suc, ◌<◌, ◌≤◌, true, false, List, [], ◌∷◌, ◌++◌, length, Some, None, IsTrue, refl, ap, ◌∙◌, sym, subst, arith}
use Rattle.std.specs.List.{All, Contains}
use Rattle.std.proofs.lemmas.List.Elements.{All-from_recursion}
use Rattle.task_graph.specs.declared.net.Shape.{Shape}
use Rattle.task_graph.specs.declared.net.Shape.TheVariants.{Plain, Choice, Many, Nested}
use Rattle.task_graph.specs.declared.net.TaskRow.{TaskRow}
use Rattle.task_graph.specs.declared.net.EdgeRow.{EdgeRow}
use Rattle.task_graph.specs.NetRows.{NetRows}
use Rattle.task_graph.specs.Net.{is_weak, strong_in, weak_in, IsSource}
use Rattle.pitfall_check.specs.declared.finding.Finding.{Finding}
use Rattle.pitfall_check.specs.declared.finding.Finding.TheVariants.{NoSource, Mixed, ManyConditions, StrongCycle, NeverReached}
use Rattle.pitfall_check.specs.Walks.{IsWalk, IsReachable, IsOnStrongCycle}
use Rattle.task_graph.specs.Sources.{HasNoSource}
use Rattle.pitfall_check.specs.Pitfalls.{BeginsWithoutTokens, edge_from, IsMixed, HasManyConditions, IsNeverReached, IsPitfall}
use Rattle.pitfall_check.specs.Findings.{finding_kind, finding_task, finding_key, AreFindings}

abbrev row : Shape → TaskRow
row shape = record { shape = shape; takes = []; puts = [] }

abbrev edge : ℕ → ℕ → EdgeRow
edge from to = record { from = from; to = to; start = false }

abbrev small_net : List TaskRow → List EdgeRow → NetRows
small_net tasks edges = record { tasks = tasks; edges = edges; sems = [] }

abbrev empty : NetRows
empty = small_net [] []

-- one task without edges
abbrev lone : NetRows
lone = small_net (row Plain ∷ []) []

-- A task begins a loop of a body and its condition, which leads back or on.
abbrev looped : NetRows
looped = small_net (row Plain ∷ row Plain ∷ row Choice ∷ row Plain ∷ []) (edge 0 1 ∷ edge 1 2 ∷ edge 2 1 ∷ edge 2 3 ∷ [])

-- two tasks that lead to each other
abbrev ring : NetRows
ring = small_net (row Plain ∷ row Plain ∷ []) (edge 0 1 ∷ edge 1 0 ∷ [])

-- two such tasks beside one that leads nowhere
abbrev beside : NetRows
beside = small_net (row Plain ∷ row Plain ∷ row Plain ∷ []) (edge 1 2 ∷ edge 2 1 ∷ [])

-- one task that leads to itself, by a strong edge or by a weak one
abbrev to_itself : Shape → NetRows
to_itself shape = small_net (row shape ∷ []) (edge 0 0 ∷ [])

-- a task that leads to another
abbrev pair : NetRows
pair = small_net (row Plain ∷ row Plain ∷ []) (edge 0 1 ∷ [])

-- two tasks of a shape that lead to a third
abbrev joined : Shape → NetRows
joined shape = small_net (row shape ∷ row shape ∷ row Plain ∷ []) (edge 0 2 ∷ edge 1 2 ∷ [])

-- a condition that leads to a task twice
abbrev twice : NetRows
twice = small_net (row Choice ∷ row Plain ∷ []) (edge 0 1 ∷ edge 0 1 ∷ [])

-- A walk goes edge by edge, from where the last one ended.
walk_of_no_edge : IsWalk looped 2 [] 2
walk_of_no_edge = refl

no_edge_leads_on : ¬ IsWalk looped 2 [] 3
no_edge_leads_on walk = absurd (omega (arith, walk))

walk_of_two_edges : IsWalk looped 0 (0 ∷ 1 ∷ []) 2
walk_of_two_edges = (refl, (refl, refl))

walk_along_weak_edges : IsWalk looped 1 (1 ∷ 2 ∷ 1 ∷ 3 ∷ []) 3
walk_along_weak_edges = (refl, (refl, (refl, (refl, refl))))

walk_begins_elsewhere : ¬ IsWalk looped 1 (0 ∷ 1 ∷ []) 2
walk_begins_elsewhere walk = absurd (omega (arith, walk.0))

walk_is_broken : ¬ IsWalk looped 0 (0 ∷ 3 ∷ []) 3
walk_is_broken walk = absurd (omega (arith, walk.1.0))

walk_ends_elsewhere : ¬ IsWalk looped 0 (0 ∷ []) 2
walk_ends_elsewhere walk = absurd (omega (arith, walk.1))

walk_of_no_such_edge : ¬ IsWalk looped 0 (4 ∷ []) 1
walk_of_no_such_edge walk = walk

-- What is reached from sources: a source itself, and what walks lead to, be their edges strong or weak.
source_reaches_itself : IsReachable looped 0
source_reaches_itself = record { source = 0; in_range = omega arith; is_source = refl; edges = []; walk = refl }

reached_along_weak_edges : IsReachable looped 3
reached_along_weak_edges = record { source = 0; in_range = omega arith; is_source = refl; edges = 0 ∷ 1 ∷ 3 ∷ []; walk = (refl, (refl, (refl, refl))) }

ring_has_no_source : (t : ℕ) → t < 2 → ¬ IsSource ring t
ring_has_no_source zero below is = absurd (cc)
ring_has_no_source (suc zero) below is = absurd (cc)
ring_has_no_source (suc (suc t)) below is = absurd (omega (arith, below))

not_reached_without_source : ¬ IsReachable ring 1
not_reached_without_source r = ring_has_no_source r.source r.in_range r.is_source

-- the tasks beside the source have in-edges, and it has no edge
no_walk_beside : (es : List ℕ) → ¬ IsWalk beside 0 es 1
no_walk_beside [] walk = absurd (omega (arith, walk))
no_walk_beside (zero ∷ es) walk = absurd (omega (arith, walk.0))
no_walk_beside (suc zero ∷ es) walk = absurd (omega (arith, walk.0))
no_walk_beside (suc (suc e) ∷ es) walk = walk

only_source_beside : (s : ℕ) → s < 3 → IsSource beside s → s ≡ 0
only_source_beside zero below is = refl
only_source_beside (suc zero) below is = absurd (cc)
only_source_beside (suc (suc zero)) below is = absurd (cc)
only_source_beside (suc (suc (suc s))) below is = absurd (omega (arith, below))

not_reached_beside_a_source : ¬ IsReachable beside 1
not_reached_beside_a_source r =
    let same = only_source_beside r.source r.in_range r.is_source in
    no_walk_beside r.edges (subst (λ s. IsWalk beside s r.edges 1) same r.walk)

-- A cycle of strong edges has one edge at least.
on_a_ring : IsOnStrongCycle ring 1
on_a_ring = record { edges = 1 ∷ 0 ∷ []; some = λ none. absurd (cc); strong = All-from_recursion (λ e. is_weak ring e ≡ false) (1 ∷ 0 ∷ []) (refl, (refl, tt)); closed = (refl, (refl, refl)) }

on_a_strong_loop : IsOnStrongCycle (to_itself Nested) 0
on_a_strong_loop = record { edges = 0 ∷ []; some = λ none. absurd (cc); strong = All-from_recursion (λ e. is_weak (to_itself Nested) e ≡ false) (0 ∷ []) (refl, tt); closed = (refl, refl) }

no_cycle_of_no_edge : ¬ IsOnStrongCycle lone 0
no_cycle_of_no_edge cycle = by_edges cycle.edges cycle.some cycle.closed
  where
    by_edges : (es : List ℕ) → es ≢ [] → ¬ IsWalk lone 0 es 0
    by_edges [] some walk = some refl
    by_edges (e ∷ es) some walk = walk

no_cycle_of_a_weak_edge : ¬ IsOnStrongCycle (to_itself Many) 0
no_cycle_of_a_weak_edge cycle = by_edges cycle.edges cycle.some cycle.strong cycle.closed
  where
    by_edges : (es : List ℕ) → es ≢ [] → All (λ e. is_weak (to_itself Many) e ≡ false) es → ¬ IsWalk (to_itself Many) 0 es 0
    by_edges [] some strong walk = some refl
    by_edges (zero ∷ es) some strong walk = absurd (let first = strong 0 0 (omega arith) in cc)
    by_edges (suc e ∷ es) some strong walk = walk

no_cycle_that_does_not_close : ¬ IsOnStrongCycle pair 0
no_cycle_that_does_not_close cycle = by_edges cycle.edges cycle.some cycle.closed
  where
    by_rest : (es : List ℕ) → ¬ IsWalk pair 1 es 0
    by_rest [] walk = absurd (omega (arith, walk))
    by_rest (zero ∷ es) walk = absurd (omega (arith, walk.0))
    by_rest (suc e ∷ es) walk = walk

    by_edges : (es : List ℕ) → es ≢ [] → ¬ IsWalk pair 0 es 0
    by_edges [] some walk = some refl
    by_edges (zero ∷ es) some walk = by_rest es walk.1
    by_edges (suc e ∷ es) some walk = walk

-- no edge begins with a token, or one does
begins_without_tokens : BeginsWithoutTokens looped
begins_without_tokens = All-from_recursion (λ (r : EdgeRow). r.start ≡ false) looped.edges (refl, (refl, (refl, (refl, tt))))

begins_with_a_token : ¬ BeginsWithoutTokens (small_net (row Plain ∷ []) (record { from = 0; to = 0; start = true } ∷ []))
begins_with_a_token none = absurd (let first = none 0 (edge 0 0) (omega arith) in cc)

-- the task that an edge leaves
left_by_an_edge : edge_from looped 3 ≡ Some 2
left_by_an_edge = refl

left_by_no_edge : edge_from looped 4 ≡ None
left_by_no_edge = refl

-- A net without source has tasks, each with an in-edge.
no_source : IsPitfall ring NoSource
no_source = record { some = omega arith; none = ring_has_no_source }

some_source : ¬ IsPitfall looped NoSource
some_source without = without.none 0 (omega arith) refl

no_task : ¬ HasNoSource empty
no_task without = absurd (omega (arith, without.some))

-- Mixed in-edges are strong and weak ones.
mixed : IsPitfall looped (Mixed 1)
mixed = record { strong = λ none. absurd (cc); weak = λ none. absurd (cc) }

strong_alone : ¬ IsPitfall looped (Mixed 2)
strong_alone mixed = mixed.weak refl

weak_alone : ¬ IsMixed looped 3
weak_alone mixed = mixed.strong refl

-- Two conditions are two tasks with weak edges to one.
two_conditions : IsPitfall (joined Choice) (ManyConditions 2)
two_conditions = record { first = 0; second = 1; first_in = (0, omega arith, refl); second_in = (1, omega arith, refl); differ = λ same. absurd (cc) }

one_condition_twice : ¬ IsPitfall twice (ManyConditions 1)
one_condition_twice many = many.differ (from_first many.first many.first_in ∙ sym (from_first many.second many.second_in))
  where
    from_first : (e : ℕ) → Contains (weak_in twice 1) e → edge_from twice e ≡ Some 0
    from_first e (zero, below, is) = ap (edge_from twice) (sym is)
    from_first e (suc zero, below, is) = ap (edge_from twice) (sym is)
    from_first e (suc (suc k), below, is) = absurd (omega (arith, below))

one_condition_beside_a_strong_edge : ¬ IsPitfall looped (ManyConditions 1)
one_condition_beside_a_strong_edge many = many.differ (from_second many.first many.first_in ∙ sym (from_second many.second many.second_in))
  where
    from_second : (e : ℕ) → Contains (weak_in looped 1) e → edge_from looped e ≡ Some 2
    from_second e (zero, below, is) = ap (edge_from looped) (sym is)
    from_second e (suc k, below, is) = absurd (omega (arith, below))

two_strong_edges : ¬ HasManyConditions (joined Plain) 2
two_strong_edges many = absurd (let below = many.first_in.1 in omega (arith, below))

-- Tasks on strong cycles, and tasks that no walk from a source reaches.
cycle : IsPitfall ring (StrongCycle 1)
cycle = on_a_ring

no_cycle : ¬ IsPitfall pair (StrongCycle 0)
no_cycle = no_cycle_that_does_not_close

never_reached : IsPitfall beside (NeverReached 1)
never_reached = record { in_range = omega arith; never = not_reached_beside_a_source }

reached : ¬ IsPitfall looped (NeverReached 3)
reached never = never.never reached_along_weak_edges

no_task_to_reach : ¬ IsNeverReached lone 1
no_task_to_reach never = absurd (omega (arith, never.in_range))

-- Findings come by kind, and those of a kind by task.
kinds : (finding_kind NoSource ≡ 0) × (finding_kind (Mixed 7) ≡ 1) × (finding_kind (ManyConditions 7) ≡ 2) × (finding_kind (StrongCycle 7) ≡ 3) × (finding_kind (NeverReached 7) ≡ 4)
kinds = (refl, refl, refl, refl, refl)

tasks : (finding_task NoSource ≡ 0) × (finding_task (Mixed 7) ≡ 7) × (finding_task (ManyConditions 7) ≡ 7) × (finding_task (StrongCycle 7) ≡ 7) × (finding_task (NeverReached 7) ≡ 7)
tasks = (refl, refl, refl, refl, refl)

keys : (finding_key NoSource ≡ 0) × (finding_key (Mixed 7) ≡ 4294967303) × (finding_key (StrongCycle 7) ≡ 12884901895)
keys = (refl, refl, refl)

-- The findings are all pitfalls, and nothing else, each once and in order.
no_finding : AreFindings empty []
no_finding = record { ordered = λ i j d before below. absurd (omega (arith, below)); exact = λ f. (λ here. absurd (let below = here.1 in omega (arith, below)), none f) }
  where
    no_member : (x : ℕ) → ¬ Contains [] x
    no_member x (k, below, is) = absurd (omega (arith, below))

    by_edges : (t : ℕ) (es : List ℕ) → es ≢ [] → ¬ IsWalk empty t es t
    by_edges t [] some walk = some refl
    by_edges t (e ∷ es) some walk = walk

    none : (f : Finding) → IsPitfall empty f → Contains [] f
    none NoSource without = absurd (omega (arith, without.some))
    none (Mixed t) is = absurd (is.weak refl)
    none (ManyConditions t) many = absurd (no_member many.first many.first_in)
    none (StrongCycle t) cycle = absurd (by_edges t cycle.edges cycle.some cycle.closed)
    none (NeverReached t) never = absurd (omega (arith, never.in_range))

finding_left_out : ¬ AreFindings looped []
finding_left_out are = absurd (let here = (are.exact (Mixed 1)).1 mixed in omega (arith, here.1))

finding_of_no_pitfall : ¬ AreFindings empty (NeverReached 0 ∷ [])
finding_of_no_pitfall are = absurd (let never = (are.exact (NeverReached 0)).0 (0, omega arith, refl) in omega (arith, never.in_range))

finding_twice : ¬ AreFindings looped (Mixed 1 ∷ Mixed 1 ∷ [])
finding_twice are = absurd (let low = are.ordered 0 1 NoSource (omega arith) (omega arith) in omega (arith, low))

findings_out_of_order : ¬ AreFindings ring (NoSource ∷ NeverReached 0 ∷ NeverReached 1 ∷ StrongCycle 0 ∷ StrongCycle 1 ∷ [])
findings_out_of_order are = absurd (let low = are.ordered 2 3 NoSource (omega arith) (omega arith) in omega (arith, low))

tasks_out_of_order : ¬ AreFindings ring (NoSource ∷ StrongCycle 1 ∷ StrongCycle 0 ∷ NeverReached 0 ∷ NeverReached 1 ∷ [])
tasks_out_of_order are = absurd (let low = are.ordered 1 2 NoSource (omega arith) (omega arith) in omega (arith, low))
