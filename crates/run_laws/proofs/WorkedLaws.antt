-- The words of the laws, computed on small nets and journals.
use Rattle.std.proofs.Common.{◌≡◌, ◌≢◌, inl, ℕ, zero, suc, ◌<◌, ◌≤◌, ◌+◌, ◌-◌, ◌==◌, ◌||◌, Bool, true, false, cond, List, [], ◌∷◌, count_by, Option, Some, None, slice_get, refl, arith, if◌then◌else◌}
use Rattle.std.specs.List.{AllByRecursion, list_any}
use Rattle.std.proofs.lemmas.List.Sums.{sum_by-cons}
use Rattle.std.specs.Arc.{arc_value}
use Rattle.std.specs.Global.{Global}
use Rattle.std.specs.declared.sync.Arc.{Arc}
use Rattle.task_graph.specs.NetRows.{NetRows}
use Rattle.task_graph.specs.Net.{is_weak, strong_in}
use Rattle.task_graph.specs.declared.net.Shape.TheVariants.{Plain, Choice}
use Rattle.task_graph.specs.declared.net.TaskRow.{TaskRow}
use Rattle.task_graph.specs.declared.net.EdgeRow.{EdgeRow}
use Rattle.journal_rules.specs.declared.entry.Cause.TheVariants.{Source, Strong}
use Rattle.journal_rules.specs.declared.entry.Part.TheVariants.{From, First}
use Rattle.journal_rules.specs.declared.entry.Why.TheVariants.{Long}
use Rattle.journal_rules.specs.declared.entry.DropWhy.TheVariants.{Limit}
use Rattle.journal_rules.specs.declared.entry.Entry.{Entry}
use Rattle.journal_rules.specs.declared.entry.Entry.TheVariants.{Start, End, Fault, Drop}
use Rattle.journal_rules.specs.Counts.{first_tokens}
use Rattle.journal_rules.specs.Entries.{EachAfter}
use Rattle.journal_rules.specs.SemaphoreRule.{takes, puts, max_of}
use Rattle.journal_rules.specs.ShapeLegal.{MayFollow}
use Rattle.journal_rules.specs.OnceNets.{IsOnceNet}
use Rattle.join_words.specs.Ins.{InputValue, value, first}
use Rattle.run_frame.specs.declared.run.ValueRow.{ValueRow}
use Rattle.run_laws.specs.OneThreadValue.{OneAnswer, source_of, begun, tokens, put_before, rounds_of, answers, target_of}
use Rattle.run_laws.specs.Starts.{rounds_in, has_item, starts_once, tasks_started, HasFault}
use Rattle.run_laws.specs.Prefixes.{IsPrefixOf}
use Rattle.run_laws.specs.Ends.{is_task, ends}
use Rattle.run_laws.specs.Steady.{runs_at, stops, MayStart, StartRule, Steady}
use Rattle.run_laws.specs.Graphs.{Returns, IsGraph}
use Rattle.run_laws.specs.Rings.{IsRing, IsRinged, RingOf}
use Rattle.pipe_lines.specs.PipeNet.{cell, pipe_net}
use Rattle.run_laws.specs.Cycles.{CycleEdge, LiesAt, IsCycle, is_one_of, uses_some, turn, GoesRound}
use Rattle.run_laws.specs.Laws.{IsInTurn, KeepsSteady, RunsThrough}
use Rattle.run_laws.specs.SmallNets.{four_tasks, two_in_a_ring, adding, failing_on_2, end}

-- ---- tokens and rounds

-- the edge from 0 to 1 leaves 0, the one back leaves 1; what is no edge leaves task 0
sources : (source_of two_in_a_ring 0 ≡ 0) × (source_of two_in_a_ring 1 ≡ 1) × (source_of two_in_a_ring 2 ≡ 0)
sources = (refl, refl, refl)

begins_with_a_token : (begun {V = ℕ} two_in_a_ring 1 ≡ first ∷ []) × (begun {V = ℕ} two_in_a_ring 0 ≡ []) × (begun {V = ℕ} two_in_a_ring 2 ≡ [])
begins_with_a_token = (refl, refl, refl)

-- Of three ends the first and the last gave edge 1, and the token it begins with is the first of all.
tokens_in_order : tokens two_in_a_ring 1 (end 7 (1 ∷ []) ∷ end 8 (0 ∷ []) ∷ end 9 (0 ∷ 1 ∷ []) ∷ []) ≡ first ∷ value 7 ∷ value 9 ∷ []
tokens_in_order = refl

tokens_of_another_edge : tokens two_in_a_ring 0 (end 7 (1 ∷ []) ∷ end 8 (0 ∷ []) ∷ end 9 (0 ∷ 1 ∷ []) ∷ []) ≡ value 8 ∷ value 9 ∷ []
tokens_of_another_edge = refl

put_before_each : put_before {X = ℕ} (1 ∷ 2 ∷ 3 ∷ []) ((4 ∷ []) ∷ [] ∷ []) ≡ (1 ∷ 4 ∷ []) ∷ (2 ∷ []) ∷ []
put_before_each = refl

-- As many rounds as the shortest list has items; of no lists one round, of an empty list none.
rounds : rounds_of {X = ℕ} ((1 ∷ 2 ∷ 3 ∷ []) ∷ (4 ∷ 5 ∷ []) ∷ (6 ∷ 7 ∷ 8 ∷ 9 ∷ []) ∷ []) ≡ (1 ∷ 4 ∷ 6 ∷ []) ∷ (2 ∷ 5 ∷ 7 ∷ []) ∷ []
rounds = refl

rounds_of_one_list : rounds_of {X = ℕ} ((1 ∷ 2 ∷ []) ∷ []) ≡ (1 ∷ []) ∷ (2 ∷ []) ∷ []
rounds_of_one_list = refl

rounds_of_no_list : (rounds_of {X = ℕ} [] ≡ [] ∷ []) × (rounds_of {X = ℕ} ([] ∷ (1 ∷ []) ∷ []) ≡ [])
rounds_of_no_list = (refl, refl)

-- up to the first fault, though what follows has an answer
abbrev but_two : ℕ → Option ℕ
but_two n = if n == 2 then None else Some (suc n)

answers_up_to_a_fault : answers but_two (0 ∷ 1 ∷ 2 ∷ 3 ∷ []) ≡ 1 ∷ 2 ∷ []
answers_up_to_a_fault = refl

-- ---- which tasks start

-- task 3 of the diamond has its one round only once both tasks before it have ended
rounds_of_a_join : (rounds_in four_tasks (adding four_tasks) 2 3 ≡ (value 2 ∷ value 2 ∷ []) ∷ []) × (rounds_in four_tasks (adding four_tasks) 1 3 ≡ []) × (rounds_in four_tasks (adding four_tasks) 0 0 ≡ [] ∷ [])
rounds_of_a_join = (refl, refl, refl)

has_some : (has_item {X = ℕ} (5 ∷ []) ≡ true) × (has_item {X = ℕ} [] ≡ false)
has_some = (refl, refl)

starts_at_once : (starts_once four_tasks (adding four_tasks) 0 0 ≡ true) × (starts_once four_tasks (adding four_tasks) 0 1 ≡ false) × (starts_once four_tasks (adding four_tasks) 1 1 ≡ true)
starts_at_once = (refl, refl, refl)

-- Where task 1 faults the last task never has a round.
abbrev fails_on_1 : OneAnswer ℕ
fails_on_1 t found = if t == 1 then None else adding four_tasks t found

tasks_that_start : (tasks_started four_tasks (adding four_tasks) 1 ≡ 3) × (tasks_started four_tasks (adding four_tasks) 4 ≡ 4) × (tasks_started four_tasks fails_on_1 4 ≡ 3)
tasks_that_start = (refl, refl, refl)

fault_in_the_second_task : HasFault four_tasks fails_on_1 4
fault_in_the_second_task = record { task = 1; in_net = omega arith; place = 0; round = value 1 ∷ []; at_place = refl; faults = refl }

-- one step tells of no round of the last task, which alone would fault
abbrev fails_at_last : OneAnswer ℕ
fails_at_last t found = if t == 3 then None else adding four_tasks t found

fault_beyond_the_steps : ¬ HasFault four_tasks fails_at_last 1
fault_beyond_the_steps is = beyond is.task is.place is.round is.in_net is.at_place is.faults
  where
    beyond : (t place : ℕ) (round : List (InputValue ℕ)) → t < 4 → slice_get (rounds_in four_tasks fails_at_last 1 t) place ≡ Some round → fails_at_last t round ≡ None → ⊥
    beyond zero place round below at fault = absurd (cc)
    beyond (suc zero) place round below at fault = absurd (cc)
    beyond (suc (suc zero)) place round below at fault = absurd (cc)
    beyond (suc (suc (suc zero))) place round below at fault = absurd (cc)
    beyond (suc (suc (suc (suc t)))) place round below at fault = absurd (omega (arith, below))

-- what is no task, and so has a round without parts, is no fault of the net
abbrev fails_past_the_end : OneAnswer ℕ
fails_past_the_end t found = if t == 4 then None else adding four_tasks t found

fault_of_no_task : ¬ HasFault four_tasks fails_past_the_end 4
fault_of_no_task is = by_task is.task is.place is.round is.in_net is.at_place is.faults
  where
    by_task : (t place : ℕ) (round : List (InputValue ℕ)) → t < 4 → slice_get (rounds_in four_tasks fails_past_the_end 4 t) place ≡ Some round → fails_past_the_end t round ≡ None → ⊥
    by_task zero place round below at fault = absurd (cc)
    by_task (suc zero) place round below at fault = absurd (cc)
    by_task (suc (suc zero)) place round below at fault = absurd (cc)
    by_task (suc (suc (suc zero))) place round below at fault = absurd (cc)
    by_task (suc (suc (suc (suc t)))) place round below at fault = absurd (omega (arith, below))

-- the second round of task 0 of the ring finds 2
fault_in_the_second_round : HasFault two_in_a_ring (failing_on_2 two_in_a_ring) 9
fault_in_the_second_round = record { task = 0; in_net = omega arith; place = 1; round = value 2 ∷ []; at_place = refl; faults = refl }

-- as many starts as the limit are allowed, and no more
runs_at_the_limit : ¬ HasFault four_tasks (adding four_tasks) 4 → RunsThrough four_tasks 4 (adding four_tasks)
runs_at_the_limit no_fault = record { no_fault = no_fault; few = omega arith }

not_beyond_the_limit : ¬ RunsThrough four_tasks 3 (adding four_tasks)
not_beyond_the_limit is = absurd (omega (arith, is.few))

-- as many steps as there are tasks tell of the last task's fault, and all four tasks have started
not_through_a_fault : ¬ RunsThrough four_tasks 4 fails_at_last
not_through_a_fault is = is.no_fault (record { task = 3; in_net = omega arith; place = 0; round = value 2 ∷ value 2 ∷ []; at_place = refl; faults = refl })

-- ---- prefixes

prefix : IsPrefixOf {X = ℕ} (1 ∷ 2 ∷ []) (1 ∷ 2 ∷ 3 ∷ []) × IsPrefixOf {X = ℕ} (1 ∷ []) (1 ∷ []) × IsPrefixOf {X = ℕ} [] []
prefix = ((refl, (refl, tt)), (refl, tt), tt)

longer_is_no_prefix : ¬ IsPrefixOf {X = ℕ} (1 ∷ 2 ∷ []) (1 ∷ [])
longer_is_no_prefix is = is.1

other_is_no_prefix : ¬ IsPrefixOf {X = ℕ} (1 ∷ 2 ∷ []) (1 ∷ 3 ∷ 2 ∷ [])
other_is_no_prefix is = absurd (omega (arith, is.1.0))

-- ---- the ends of a task in a journal

-- two Starts of task 0, of which the second ends first, one of task 1, which faults, and its end in place 5
module _ (five ten : Arc ℕ Global) where
  abbrev rows : List (ValueRow ℕ)
  rows = record { place = 2; value = five } ∷ record { place = 4; value = ten } ∷ []

  abbrev turned : List Entry
  turned = Start 0 Source [] ∷ Start 0 Source [] ∷ End 1 (0 ∷ []) false ∷ Start 1 Strong (From 2 ∷ []) ∷ End 0 [] false ∷ Fault 3 (Long 9) ∷ []

  ends_in_order : ends rows turned 0 ≡ record { value = arc_value five; gives = 0 ∷ [] } ∷ record { value = arc_value ten; gives = [] } ∷ []
  ends_in_order = refl

  faults_are_no_ends : ends rows turned 1 ≡ []
  faults_are_no_ends = refl

  end_without_value : ends {V = ℕ} [] turned 0 ≡ []
  end_without_value = refl

  -- of two tasks each has its own ends, in the order of the ends
  abbrev crossed : List Entry
  crossed = Start 0 Source [] ∷ Start 1 Source [] ∷ End 1 (1 ∷ []) false ∷ Start 0 Source [] ∷ End 0 (0 ∷ []) false ∷ []

  ends_of_the_second : ends rows crossed 1 ≡ record { value = arc_value five; gives = 1 ∷ [] } ∷ []
  ends_of_the_second = refl

  ends_of_the_first : ends rows crossed 0 ≡ record { value = arc_value ten; gives = 0 ∷ [] } ∷ []
  ends_of_the_first = refl

tasks_of_starts : (is_task 3 (Some 3) ≡ true) × (is_task 3 (Some 2) ≡ false) × (is_task 0 None ≡ false)
tasks_of_starts = (refl, refl, refl)

-- ---- steady journals

abbrev one_open : List Entry
one_open = Start 0 Source [] ∷ Start 1 Source [] ∷ End 1 [] false ∷ []

open_starts : (runs_at 0 one_open 0 ≡ true) × (runs_at 1 one_open 0 ≡ false) × (runs_at 1 one_open 1 ≡ false)
open_starts = (refl, refl, refl)

abbrev none : ℕ → Bool
none n = false

abbrev each : ℕ → Bool
each n = true

stopping : (stops 0 none (Drop 0 Source Limit) ≡ true) × (stops 1 none (Drop 0 Source Limit) ≡ false) × (stops 0 each (Fault 0 (Long 1)) ≡ true) × (stops 0 none (Fault 0 (Long 1)) ≡ false) × (stops 0 each (End 0 [] false) ≡ false)
stopping = (refl, refl, refl, refl, refl)

may_start_beside : MayStart 1 one_open × MayStart 2 one_open
may_start_beside = (record { none_open = (refl, (refl, (refl, tt))); none_stopped = refl }, record { none_open = (refl, (refl, (refl, tt))); none_stopped = refl })

no_start_beside_its_own : ¬ MayStart 0 one_open
no_start_beside_its_own is = let still = is.none_open.0 in absurd (cc)

no_start_behind_its_fault : ¬ MayStart 1 (Start 1 Source [] ∷ Fault 0 (Long 1) ∷ [])
no_start_behind_its_fault is = absurd (omega (arith, is.none_stopped))

start_behind_a_fault_beside : StartRule (Start 1 Source [] ∷ Fault 0 (Long 1) ∷ []) (Start 0 Source [])
start_behind_a_fault_beside = record { none_open = (refl, (refl, tt)); none_stopped = refl }

no_start_beside_the_last : ¬ MayStart 1 (Start 0 Source [] ∷ Start 1 Source [] ∷ [])
no_start_beside_the_last is = let still = is.none_open.1.0 in absurd (cc)

-- edge 0 is calm where task 1 ends without an input, but edge 1 is given a second token
given_twice_at_edge_1 : ¬ Steady two_in_a_ring (Start 1 Strong [] ∷ End 0 (1 ∷ []) false ∷ [])
given_twice_at_edge_1 is = absurd (omega (arith, is.calm.1.0.1.1.0))

-- ---- lines, pipes and rings

abbrev free : TaskRow
free = record { shape = Plain; takes = []; puts = [] }

abbrev from_to : ℕ → ℕ → Bool → EdgeRow
from_to from to start = record { from = from; to = to; start = start }

ring_of_two : IsRing two_in_a_ring (0 ∷ 1 ∷ [])
ring_of_two = record { balanced = balances; one_token = omega arith; in_range = (omega arith, (omega arith, tt)) }
  where
    balances : (t : ℕ) → count_by (λ e. t == source_of two_in_a_ring e) (0 ∷ 1 ∷ []) ≤ count_by (λ e. t == target_of two_in_a_ring e) (0 ∷ 1 ∷ [])
    balances zero = omega arith
    balances (suc zero) = omega arith
    balances (suc (suc t)) = omega arith

edge_alone_is_no_ring : ¬ IsRing two_in_a_ring (0 ∷ [])
edge_alone_is_no_ring is = absurd (omega (arith, is.balanced 0))

edge_back_is_no_ring : ¬ IsRing two_in_a_ring (1 ∷ [])
edge_back_is_no_ring is = absurd (omega (arith, is.balanced 1))

ring_of_no_edge_there : ¬ IsRing two_in_a_ring (0 ∷ 1 ∷ 2 ∷ [])
ring_of_no_edge_there is = absurd (omega (arith, is.in_range.1.1.0))

-- a task with two edges to itself that both begin with a token
abbrev twice_itself : NetRows
twice_itself = record { tasks = free ∷ []; edges = from_to 0 0 true ∷ from_to 0 0 true ∷ []; sems = [] }

two_tokens_are_no_ring : ¬ IsRing twice_itself (0 ∷ 1 ∷ [])
two_tokens_are_no_ring is = absurd (omega (arith, is.one_token))

-- a source, so that no ring feeds it
diamond_is_not_ringed : ¬ IsRinged four_tasks
diamond_is_not_ringed is = is.fed 0 (omega arith) refl

pub ring_is_ringed : IsRinged two_in_a_ring
ring_is_ringed = record { strong = strong; rings = rings; fed = fed }
  where
    strong : (e : ℕ) → is_weak two_in_a_ring e ≡ false
    strong zero = refl
    strong (suc zero) = refl
    strong (suc (suc e)) = refl

    rings : (e : ℕ) → e < 2 → RingOf two_in_a_ring e
    rings zero below = record { ring = 0 ∷ 1 ∷ []; is_ring = ring_of_two; has = refl }
    rings (suc zero) below = record { ring = 0 ∷ 1 ∷ []; is_ring = ring_of_two; has = refl }
    rings (suc (suc e)) below = absurd (omega (arith, below))

    fed : (t : ℕ) → t < 2 → strong_in two_in_a_ring t ≢ []
    fed zero below none = absurd (cc)
    fed (suc zero) below none = absurd (cc)
    fed (suc (suc t)) below none = absurd (omega (arith, below))

-- Edge 1 leads out of task 0's ring: no list of edges with it has as many into task 0 as out of it.
abbrev led_out : NetRows
led_out = record { tasks = free ∷ free ∷ []; edges = from_to 0 0 true ∷ from_to 0 1 false ∷ []; sems = [] }

count_one : (test : ℕ → Bool) (e : ℕ) (ring : List ℕ) → count_by test (e ∷ ring) ≡ cond (test e) 1 0 + count_by test ring
count_one test e ring = sum_by-cons (λ f. cond (test f) 1 0) e ring

more_out : (ring : List ℕ) → AllByRecursion (λ e. e < 2) ring
    → count_by (λ e. 0 == target_of led_out e) ring + count_by (λ e. e == 1) ring ≤ count_by (λ e. 0 == source_of led_out e) ring
more_out [] in_range = omega arith
more_out (zero ∷ ring) in_range =
    omega (arith, more_out ring in_range.1, count_one (λ e. 0 == target_of led_out e) 0 ring, count_one (λ e. 0 == source_of led_out e) 0 ring, count_one (λ e. e == 1) 0 ring)
more_out (suc zero ∷ ring) in_range =
    omega (arith, more_out ring in_range.1, count_one (λ e. 0 == target_of led_out e) 1 ring, count_one (λ e. 0 == source_of led_out e) 1 ring, count_one (λ e. e == 1) 1 ring)
more_out (suc (suc e) ∷ ring) in_range = absurd (omega (arith, in_range.0))

counted_where_it_is : (ring : List ℕ) → list_any (λ f. f == 1) ring ≡ true → 1 ≤ count_by (λ e. e == 1) ring
counted_where_it_is [] is = absurd (cc)
counted_where_it_is (e ∷ ring) is = omega (arith, count_one (λ f. f == 1) e ring, by_test (counted_where_it_is ring) (e == 1) is)
  where
    by_test : (list_any (λ f. f == 1) ring ≡ true → 1 ≤ count_by (λ f. f == 1) ring) → (b : Bool) → b || list_any (λ f. f == 1) ring ≡ true → 1 ≤ cond b 1 0 + count_by (λ f. f == 1) ring
    by_test more true is = omega arith
    by_test more false is = omega (arith, more is)

edge_on_no_ring : ¬ IsRinged led_out
edge_on_no_ring is =
    let of_it : RingOf led_out 1 = is.rings 1 (omega arith) in
    absurd (omega (arith, of_it.is_ring.balanced 0, more_out of_it.ring of_it.is_ring.in_range, counted_where_it_is of_it.ring of_it.has))

-- task 2 has no in-edge, beside a ring of two tasks
unfed_beside_a_ring : ¬ IsRinged (record two_in_a_ring { tasks = free ∷ free ∷ free ∷ [] })
unfed_beside_a_ring is = is.fed 2 (omega arith) refl

-- Task 1 chooses: edge 1 on the ring of the tasks 0 and 1 is weak, though each has a strong in-edge.
abbrev chosen_on_a_ring : NetRows
chosen_on_a_ring = record {
  tasks = free ∷ (record { shape = Choice; takes = []; puts = [] }) ∷ [];
  edges = from_to 0 1 false ∷ from_to 1 0 true ∷ from_to 0 0 true ∷ [];
  sems = [];
}

weak_edge_on_a_ring : ¬ IsRinged chosen_on_a_ring
weak_edge_on_a_ring is = let strong = is.strong 1 in absurd (cc)

-- ---- graphs

ring_is_no_graph : ¬ IsOnceNet two_in_a_ring
ring_is_no_graph is = absurd (omega (arith, is.no_first 1))

abbrev chosen : NetRows
chosen = record { tasks = (record { shape = Choice; takes = []; puts = [] }) ∷ free ∷ []; edges = from_to 0 1 false ∷ []; sems = [] }

condition_is_no_graph : ¬ IsOnceNet chosen
condition_is_no_graph is = let strong = is.strong 0 in absurd (cc)

-- edge 1 leaves the condition, and edge 0 doesn't
abbrev chosen_later : NetRows
chosen_later = record {
  tasks = free ∷ (record { shape = Choice; takes = []; puts = [] }) ∷ [];
  edges = from_to 0 1 false ∷ from_to 1 0 false ∷ [];
  sems = [];
}

later_condition_is_no_graph : ¬ IsOnceNet chosen_later
later_condition_is_no_graph is = let strong = is.strong 1 in absurd (cc)

-- a task that takes a unit and keeps it
abbrev taking : NetRows
taking = record { tasks = (record { shape = Plain; takes = 0 ∷ []; puts = [] }) ∷ []; edges = []; sems = 1 ∷ [] }

taker_does_not_return : ¬ Returns taking
taker_does_not_return is = let same = is.same 0 0 in absurd (cc)

-- the second task does
abbrev taking_second : NetRows
taking_second = record { tasks = free ∷ (record { shape = Plain; takes = 0 ∷ []; puts = [] }) ∷ []; edges = []; sems = 1 ∷ [] }

second_does_not_return : ¬ Returns taking_second
second_does_not_return is = let same = is.same 0 1 in absurd (cc)

-- a semaphore without a unit
abbrev without_units : NetRows
without_units = record { tasks = []; edges = []; sems = 0 ∷ [] }

units_at_first : ¬ Returns without_units
units_at_first is = absurd (omega (arith, is.units 0 (omega arith)))

-- an edge that leaves a task that isn't there
abbrev from_nowhere : NetRows
from_nowhere = record { tasks = free ∷ []; edges = from_to 1 0 false ∷ []; sems = [] }

edge_from_nowhere : ¬ IsGraph from_nowhere
edge_from_nowhere is = absurd (omega (arith, is.from_tasks 0 (omega arith)))

-- Two tasks in a row, of which the second takes a unit and puts it back, of a semaphore with one.
abbrev returning : NetRows
returning = record {
  tasks = free ∷ (record { shape = Plain; takes = 0 ∷ []; puts = 0 ∷ [] }) ∷ [];
  edges = from_to 0 1 false ∷ [];
  sems = 1 ∷ [];
}

row_is_a_graph : IsGraph returning
row_is_a_graph = record {
  plain = record { strong = strong; no_first = no_first };
  returns = record { same = same; units = units };
  from_tasks = from_tasks;
}
  where
    strong : (e : ℕ) → is_weak returning e ≡ false
    strong zero = refl
    strong (suc e) = refl

    no_first : (e : ℕ) → first_tokens returning e ≡ 0
    no_first zero = refl
    no_first (suc e) = refl

    same : (s t : ℕ) → takes returning s t ≡ puts returning s t
    same s zero = refl
    same s (suc zero) = refl
    same s (suc (suc t)) = refl

    units : (s : ℕ) → s < 1 → 1 ≤ max_of returning s
    units zero below = omega arith
    units (suc s) below = absurd (omega (arith, below))

    from_tasks : (e : ℕ) → e < 1 → source_of returning e < 2
    from_tasks zero below = omega arith
    from_tasks (suc e) below = absurd (omega (arith, below))

-- the task gives back one semaphore and takes the other
abbrev exchanging : NetRows
exchanging = record { tasks = (record { shape = Plain; takes = 0 ∷ 1 ∷ []; puts = 0 ∷ [] }) ∷ []; edges = []; sems = 1 ∷ 1 ∷ [] }

second_semaphore_is_kept : ¬ Returns exchanging
second_semaphore_is_kept is = let same = is.same 1 0 in absurd (cc)

second_without_units : ¬ Returns (record without_units { sems = 1 ∷ 0 ∷ [] })
second_without_units is = absurd (omega (arith, is.units 1 (omega arith)))

-- ---- turns

turns : (turn 3 0 ≡ 0) × (turn 3 2 ≡ 2) × (turn 3 3 ≡ 0) × (turn 3 7 ≡ 1)
turns = (refl, refl, refl, refl)

-- the ring of two tasks is a cycle from task 0 on, into which the token leads
abbrev pub first_two : ℕ → Bool
first_two zero = true
first_two (suc zero) = true
first_two (suc (suc t)) = false

pub cycle_of_two : IsCycle two_in_a_ring 2 (λ l. l) first_two
cycle_of_two = record {
  some = omega arith;
  is_in = within;
  lies = place;
  distinct = λ l m below_l below_m same. same;
  edge = λ l. l;
  edges = round;
}
  where
    within : (l : ℕ) → l < 2 → first_two l ≡ true
    within zero below = refl
    within (suc zero) below = refl
    within (suc (suc l)) below = absurd (omega (arith, below))

    place : (t : ℕ) → first_two t ≡ true → LiesAt 2 (λ l. l) t
    place zero is = record { place = 0; below = omega arith; is = refl }
    place (suc zero) is = record { place = 1; below = omega arith; is = refl }
    place (suc (suc t)) is = absurd (cc)

    round : (l : ℕ) → l < 2 → CycleEdge two_in_a_ring 2 (λ l. l) l l
    round zero below = record { below = omega arith; from = refl; to = refl; first = refl }
    round (suc zero) below = record { below = omega arith; from = refl; to = refl; first = refl }
    round (suc (suc l)) below = absurd (omega (arith, below))

one_of_the_first : (is_one_of 2 (cell 3 1) 3 ≡ true) × (is_one_of 2 (cell 3 1) 4 ≡ true) × (is_one_of 2 (cell 3 1) 5 ≡ false) × (is_one_of 0 (cell 3 1) 3 ≡ false)
one_of_the_first = (refl, refl, refl, refl)

-- and none from task 1 on, where the token isn't the last edge's
no_cycle_from_another : ¬ CycleEdge two_in_a_ring 2 (λ l. 1 - l) 0 1
no_cycle_from_another is = absurd (omega (arith, is.first))

-- pipe 0 of two lines, whose cells are the tasks 0 and 2
pipe_edges_round : CycleEdge (pipe_net 2 (true ∷ false ∷ [])) 2 (λ l. cell 2 l 0) 0 1 × CycleEdge (pipe_net 2 (true ∷ false ∷ [])) 2 (λ l. cell 2 l 0) 1 4
pipe_edges_round = (record { below = omega arith; from = refl; to = refl; first = refl }, record { below = omega arith; from = refl; to = refl; first = refl })

edge_the_other_way : ¬ CycleEdge two_in_a_ring 2 (λ l. l) 0 1
edge_the_other_way is = absurd (omega (arith, is.from))

edge_to_another : ¬ CycleEdge four_tasks 3 (λ l. l + l) 0 0
edge_to_another is = absurd (omega (arith, is.to))

edge_that_is_not_there : ¬ CycleEdge two_in_a_ring 2 (λ l. 0) 0 2
edge_that_is_not_there is = absurd (omega (arith, is.below))

place_past_the_last : ¬ LiesAt 2 (λ l. l) 2
place_past_the_last is = absurd (omega (arith, is.below, is.is))

-- Each part of a cycle is asked for: a task at least, all of them among the tasks that are counted and no others, none
-- twice, and an edge to each.
abbrev only : ℕ → ℕ → Bool
only s t = t == s

abbrev any_task : ℕ → Bool
any_task t = true

cycle_of_none : ¬ IsCycle two_in_a_ring 0 (λ l. l) none
cycle_of_none is = absurd (omega (arith, is.some))

second_left_out : ¬ IsCycle two_in_a_ring 2 (λ l. l) (only 0)
second_left_out is = let within = is.is_in 1 (omega arith) in absurd (cc)

third_taken_in : ¬ IsCycle two_in_a_ring 2 (λ l. l) any_task
third_taken_in is = let third : LiesAt 2 (λ l. l) 2 = is.lies 2 refl in absurd (omega (arith, third.below, third.is))

-- two edges of a task to itself, of which the second begins with a token
abbrev over_and_over : NetRows
over_and_over = record { tasks = free ∷ []; edges = from_to 0 0 false ∷ from_to 0 0 true ∷ []; sems = [] }

task_twice : ¬ IsCycle over_and_over 2 (λ l. 0) (only 0)
task_twice is = absurd (omega (arith, is.distinct 0 1 (omega arith) (omega arith) refl))

no_way_back : ¬ IsCycle (record two_in_a_ring { edges = from_to 0 1 false ∷ [] }) 2 (λ l. l) first_two
no_way_back is = by_edge (is.edge 1) (is.edges 1 (omega arith))
  where
    by_edge : (e : ℕ) → CycleEdge (record two_in_a_ring { edges = from_to 0 1 false ∷ [] }) 2 (λ l. l) 1 e → ⊥
    by_edge zero is = absurd (omega (arith, is.from))
    by_edge (suc e) is = absurd (omega (arith, is.below))

uses : (uses_some first_two (Start 1 Source []) ≡ true) × (uses_some first_two (Start 2 Source []) ≡ false) × (uses_some first_two (Drop 0 Strong Limit) ≡ true) × (uses_some first_two (End 0 [] false) ≡ false) × (uses_some first_two (Fault 0 (Long 1)) ≡ false)
uses = (refl, refl, refl, refl, refl)

-- after a Start of task 0 it is task 1's turn, whatever another task does, and a Drop takes a turn too
abbrev one_turn : List Entry
one_turn = Start 0 Strong (First ∷ []) ∷ Start 2 Source [] ∷ []

second_goes : GoesRound 2 (λ l. l) first_two one_turn (Start 1 Strong []) × GoesRound 2 (λ l. l) first_two one_turn (Drop 1 Strong Limit)
second_goes = (λ among. refl, λ among. refl)

third_goes_when_it_will : GoesRound 2 (λ l. l) first_two one_turn (Start 2 Source []) × GoesRound 2 (λ l. l) first_two one_turn (Drop 2 Source Limit)
third_goes_when_it_will = (λ among. absurd (cc), λ among. absurd (cc))

first_goes_too_early : ¬ GoesRound 2 (λ l. l) first_two one_turn (Start 0 Strong [])
first_goes_too_early is = absurd (omega (arith, is refl))

drop_too_early : ¬ GoesRound 2 (λ l. l) first_two one_turn (Drop 0 Strong Limit)
drop_too_early is = absurd (omega (arith, is refl))

goes_on_behind_a_drop : GoesRound 2 (λ l. l) first_two (Drop 0 Strong Limit ∷ []) (Start 1 Strong [])
goes_on_behind_a_drop among = refl

-- Of two lines with a serial and a parallel pipe the first pipe's cells, tasks 0 and 2, are started in turn, and each
-- line's; the parallel pipe's needn't be.
abbrev cells_in_turn : List Entry
cells_in_turn = Start 0 Strong [] ∷ Start 2 Strong [] ∷ Start 3 Strong [] ∷ Start 1 Strong [] ∷ Start 0 Strong [] ∷ []

in_turn : IsInTurn 2 (true ∷ false ∷ []) cells_in_turn
in_turn = record { each_line = lines; each_pipe = pipes }
  where
    lines : (l : ℕ) → l < 2 → EachAfter (GoesRound 2 (cell 2 l) (is_one_of 2 (cell 2 l))) cells_in_turn
    lines zero below = (λ a. refl, (λ a. absurd (cc), (λ a. absurd (cc), (λ a. refl, (λ a. refl, tt)))))
    lines (suc zero) below = (λ a. absurd (cc), (λ a. refl, (λ a. refl, (λ a. absurd (cc), (λ a. absurd (cc), tt)))))
    lines (suc (suc l)) below = absurd (omega (arith, below))

    pipes : (p : ℕ) → slice_get (true ∷ false ∷ []) p ≡ Some true → EachAfter (GoesRound 2 (λ l. cell 2 l p) (is_one_of 2 (λ l. cell 2 l p))) cells_in_turn
    pipes zero serial = (λ a. refl, (λ a. refl, (λ a. absurd (cc), (λ a. absurd (cc), (λ a. refl, tt)))))
    pipes (suc zero) serial = absurd (cc)
    pipes (suc (suc p)) serial = absurd (cc)

serial_pipe_out_of_turn : ¬ IsInTurn 2 (true ∷ false ∷ []) (Start 2 Strong [] ∷ [])
serial_pipe_out_of_turn is = absurd (omega (arith, (is.each_pipe 0 refl).0 refl))

line_out_of_turn : ¬ IsInTurn 2 (true ∷ false ∷ []) (Start 1 Strong [] ∷ [])
line_out_of_turn is = absurd (omega (arith, (is.each_line 0 (omega arith)).0 refl))

-- line 1 begins with its second pipe, and, of a parallel and a serial pipe, the second with line 1
second_line_out_of_turn : ¬ IsInTurn 2 (true ∷ false ∷ []) (Start 3 Strong [] ∷ [])
second_line_out_of_turn is = absurd (omega (arith, (is.each_line 1 (omega arith)).0 refl))

second_pipe_out_of_turn : ¬ IsInTurn 2 (false ∷ true ∷ []) (Start 2 Strong [] ∷ Start 3 Strong [] ∷ [])
second_pipe_out_of_turn is = absurd (omega (arith, (is.each_pipe 1 refl).1.0 refl))

-- ---- steady nets

-- a ring of two tasks with a token before each
abbrev two_tokens : NetRows
two_tokens = record two_in_a_ring { edges = from_to 0 1 true ∷ from_to 1 0 true ∷ [] }

-- Where task 0 ends before task 1 starts, two tokens wait before that.
two_tokens_in_a_ring : ¬ KeepsSteady two_tokens
two_tokens_in_a_ring steady = absurd (omega (arith, (steady 1 (Start 0 Strong (First ∷ []) ∷ End 0 (0 ∷ []) false ∷ []) (may_start, (may_end, tt))).calm.0.1.1.0))
  where
    may_start : MayFollow two_tokens 1 [] (Start 0 Strong (First ∷ []))
    may_start = record {
      in_range = (omega arith, tt);
      release = (λ none. absurd (cc), (omega arith, tt));
      closing = tt;
      choice = tt;
      semaphore = record { within = tt; over = tt };
      halt_limit_stuck = record { dropped = omega arith; after_stuck = λ other. refl };
    }

    may_end : MayFollow two_tokens 1 (Start 0 Strong (First ∷ []) ∷ []) (End 0 (0 ∷ []) false)
    may_end = record {
      in_range = (omega arith, tt);
      release = tt;
      closing = refl;
      choice = (inl refl, refl);
      semaphore = record { within = tt; over = tt };
      halt_limit_stuck = record { dropped = tt; after_stuck = λ other. refl };
    }
