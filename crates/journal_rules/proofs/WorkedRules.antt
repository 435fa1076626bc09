-- The rules of journals, line by line, computed on small nets and journals.
use Rattle.std.proofs.Common.{◌≡◌, ℕ, zero, suc, ◌+◌, ◌<◌, ◌≤◌, true, false, List, [], ◌∷◌, ◌++◌, take, Some, None, ◌⊎◌, inl, inr, refl, arith}
use Rattle.std.specs.List.{IsDistinct}
use Rattle.task_graph.specs.declared.net.Shape.{Shape}
use Rattle.task_graph.specs.declared.net.Shape.TheVariants.{Plain, Choice, Many, Nested}
use Rattle.task_graph.specs.declared.net.TaskRow.{TaskRow}
use Rattle.task_graph.specs.declared.net.EdgeRow.{EdgeRow}
use Rattle.task_graph.specs.NetRows.{NetRows}
use Rattle.journal_rules.specs.declared.entry.Cause.TheVariants.{Source, Strong, Weak}
use Rattle.journal_rules.specs.declared.entry.Part.TheVariants.{From, First, Nothing}
use Rattle.journal_rules.specs.declared.entry.Why.TheVariants.{Long, Wide, Unmet, Inner, OverRelease}
use Rattle.journal_rules.specs.declared.entry.DropWhy.TheVariants.{Halted, Limit, Stuck}
use Rattle.journal_rules.specs.declared.entry.Entry.{Entry}
use Rattle.journal_rules.specs.declared.entry.Entry.TheVariants.{Start, End, Fault, Drop}
use Rattle.journal_rules.specs.Counts.{given, used, used_weak, used_source, start_at, is_open, NoneOpen, starts, faults}
use Rattle.journal_rules.specs.ReleaseRule.{IsReleased, ReleaseRule}
use Rattle.journal_rules.specs.ClosingRule.{ClosingRule}
use Rattle.journal_rules.specs.ChoiceRule.{GivesFit, InnerFits, ChoiceRule}
use Rattle.journal_rules.specs.SemaphoreRule.{takes, puts, taken, back, max_of, HasUnit, UnitsInBounds, closed_takers, other_putters, IsOverRelease, UnitFaultRule, SemaphoreRule}
use Rattle.journal_rules.specs.HaltLimitStuckRule.{MayBeStuck, LimitRule, AfterStuckRule}
use Rattle.journal_rules.specs.ShapeLegal.{IsInRange, ShapeLegal}
use Rattle.journal_rules.specs.Calm.{used_at, IsCalm}
use Rattle.journal_rules.specs.DataRule.{edges_of, last_part, MayFind, IsPartAt, DataRule}
use Rattle.journal_rules.specs.Complete.{least, Complete}
use Rattle.journal_rules.specs.Limits.{max_limit}

abbrev free : Shape → TaskRow
free shape = record { shape = shape; takes = []; puts = [] }

abbrev edge : ℕ → ℕ → EdgeRow
edge from to = record { from = from; to = to; start = false }

-- Task 0 leads to task 1 twice, by the edges 0 and 1. The Choice 2 leads to task 1 by the weak edge 2 and to itself by
-- the weak edge 3; the Many 3 to tasks 1 and 2 by the edges 4 and 5. Task 1 leads to the Choice by edge 6, and to
-- itself by edge 7, which begins with a token. The nested task 4 leads to tasks 2 and 3 by the edges 8 and 9.
abbrev net : NetRows
net = record {
  tasks = free Plain ∷ free Plain ∷ free Choice ∷ free Many ∷ free Nested ∷ [];
  edges = edge 0 1 ∷ edge 0 1 ∷ edge 2 1 ∷ edge 2 2 ∷ edge 3 1 ∷ edge 3 2 ∷ edge 1 2 ∷ record { from = 1; to = 1; start = true } ∷ edge 4 2 ∷ edge 4 3 ∷ [];
  sems = [];
}

-- Tokens. An End gives one to each edge that it names, once; nothing else gives any, but for the one at the beginning.
named_twice : given net 0 (End 0 (0 ∷ 0 ∷ []) false ∷ End 3 (1 ∷ 0 ∷ []) true ∷ []) ≡ 2
named_twice = refl

others_give_nothing : given net 0 (Start 0 Source [] ∷ Fault 0 Inner ∷ Drop 0 Source Halted ∷ End 0 (1 ∷ []) false ∷ []) ≡ 0
others_give_nothing = refl

first_token : given net 7 (End 0 (7 ∷ []) false ∷ []) ≡ 2
first_token = refl

no_edge_has_tokens : given net 10 [] ≡ 0
no_edge_has_tokens = refl

-- Releases are used by Starts and Drops, each by its own cause.
abbrev mixed : List Entry
mixed = Start 1 Strong (Nothing ∷ Nothing ∷ First ∷ []) ∷ Start 1 (Weak 2) (Nothing ∷ []) ∷ Drop 1 Strong Halted ∷ Start 2 Strong [] ∷ Drop 2 (Weak 2) Limit
    ∷ Start 2 (Weak 3) (Nothing ∷ []) ∷ Start 0 Source [] ∷ Drop 0 Source Halted ∷ Start 3 Source [] ∷ []

strong_uses : used 1 mixed ≡ 2
strong_uses = refl

weak_uses : used_weak 2 mixed ≡ 2
weak_uses = refl

source_uses : used_source 0 mixed ≡ 2
source_uses = refl

closing_uses_nothing : used 1 (End 0 [] false ∷ Fault 1 Inner ∷ []) + used_weak 2 (End 0 [] false ∷ Fault 1 Inner ∷ []) ≡ 0
closing_uses_nothing = refl

-- Starts, open ones and closed ones.
abbrev three_starts : List Entry
three_starts = Start 0 Source [] ∷ Start 3 Source [] ∷ End 0 [] false ∷ Start 4 Source [] ∷ Fault 3 Inner ∷ []

started_there : start_at three_starts 3 ≡ Some 4
started_there = refl

ended_there : start_at three_starts 2 ≡ None
ended_there = refl

nothing_there : start_at three_starts 5 ≡ None
nothing_there = refl

closed_by_end : is_open three_starts 0 ≡ false
closed_by_end = refl

still_open : is_open three_starts 1 ≡ true
still_open = refl

closed_by_fault : is_open three_starts 3 ≡ false
closed_by_fault = refl

end_is_not_open : is_open three_starts 2 ≡ false
end_is_not_open = refl

past_is_not_open : is_open three_starts 5 ≡ false
past_is_not_open = refl

one_open : ¬ NoneOpen three_starts
one_open is = let open_one : true ≡ false = is.1.0 in absurd (cc)

last_open : ¬ NoneOpen (Start 0 Source [] ∷ [])
last_open is = let open_one : true ≡ false = is.0 in absurd (cc)

none_open : NoneOpen (Start 0 Source [] ∷ End 0 [] false ∷ [])
none_open = (refl, (refl, tt))

counts : (starts three_starts ≡ 3) × (faults three_starts ≡ 1)
counts = (refl, refl)

-- Releases. A source has one in all.
source_released : IsReleased net (Start 3 Source [] ∷ Start 0 Strong [] ∷ []) 0 Source
source_released = (refl, refl)

source_used_up : ¬ IsReleased net (Drop 0 Source Halted ∷ []) 0 Source
source_used_up is = absurd (omega (arith, is.1))

no_source : ¬ IsReleased net [] 1 Source
no_source is = absurd (cc)

no_source_by_weak_edges : ¬ IsReleased net [] 2 Source
no_source_by_weak_edges is = absurd (cc)

-- By strong edges a task is released where each of them holds a token, two edges of one task counting apart.
abbrev both_given : List Entry
both_given = Start 0 Source [] ∷ End 0 (0 ∷ 1 ∷ []) false ∷ []

strong_released : IsReleased net both_given 1 Strong
strong_released = (λ none. absurd (cc), (omega arith, (omega arith, (omega arith, tt))))

last_edge_empty : ¬ IsReleased net (both_given ++ Start 1 Strong (From 1 ∷ From 1 ∷ First ∷ []) ∷ End 2 (7 ∷ []) false ∷ []) 1 Strong
last_edge_empty is = absurd (omega (arith, is.1.0))

one_edge_twice : ¬ IsReleased net (Start 0 Source [] ∷ End 0 (0 ∷ []) false ∷ Start 0 Source [] ∷ End 2 (0 ∷ []) false ∷ []) 1 Strong
one_edge_twice is = absurd (omega (arith, is.1.1.0))

round_used : ¬ IsReleased net (both_given ++ Drop 1 Strong Halted ∷ []) 1 Strong
round_used is = absurd (omega (arith, is.1.0))

weak_start_leaves_tokens : IsReleased net (both_given ++ Start 1 (Weak 2) (Nothing ∷ []) ∷ []) 1 Strong
weak_start_leaves_tokens = (λ none. absurd (cc), (omega arith, (omega arith, (omega arith, tt))))

no_strong_edges : ¬ IsReleased net both_given 0 Strong
no_strong_edges is = is.0 refl

-- By a weak edge it is released where that edge holds a token, whatever the others hold.
abbrev loop_given : List Entry
loop_given = End 0 (2 ∷ 3 ∷ []) false ∷ End 0 (3 ∷ []) false ∷ []

weak_released : IsReleased net loop_given 1 (Weak 2)
weak_released = (refl, refl, omega arith)

third_round : IsReleased net (loop_given ++ Start 2 (Weak 3) (Nothing ∷ []) ∷ End 2 (3 ∷ []) false ∷ Start 2 (Weak 3) (Nothing ∷ []) ∷ []) 2 (Weak 3)
third_round = (refl, refl, omega arith)

third_round_used : ¬ IsReleased net (loop_given ++ Start 2 (Weak 3) (Nothing ∷ []) ∷ Drop 2 (Weak 3) Limit ∷ []) 2 (Weak 3)
third_round_used is = absurd (omega (arith, is.2))

weak_of_another : ¬ IsReleased net loop_given 2 (Weak 2)
weak_of_another is = absurd (omega (arith, is.1))

strong_is_not_weak : ¬ IsReleased net both_given 1 (Weak 0)
strong_is_not_weak is = let weak : false ≡ true = is.0 in absurd (cc)

not_given : ¬ IsReleased net loop_given 1 (Weak 4)
not_given is = absurd (omega (arith, is.2))

-- Starts and Drops are held to this, Ends and Faults aren't.
drop_needs_release : ¬ ReleaseRule net [] (Drop 1 Strong Halted)
drop_needs_release is = absurd (omega (arith, is.1.0))

start_needs_release : ¬ ReleaseRule net [] (Start 1 Strong [])
start_needs_release is = absurd (omega (arith, is.1.0))

end_needs_none : ReleaseRule net [] (End 0 [] false) × ReleaseRule net [] (Fault 0 Inner)
end_needs_none = (tt, tt)

-- Ends and Faults close an open Start.
closes_open : ClosingRule three_starts (End 1 [] false) × ClosingRule three_starts (Fault 1 Inner)
closes_open = (refl, refl)

ends_twice : ¬ ClosingRule three_starts (End 0 [] false)
ends_twice is = absurd (cc)

faults_after_fault : ¬ ClosingRule three_starts (Fault 3 Inner)
faults_after_fault is = absurd (cc)

others_close_nothing : ClosingRule [] (Start 0 Source []) × ClosingRule [] (Drop 0 Source Halted)
others_close_nothing = (tt, tt)

-- What an End gives, by shape: all or none; one or none; different ones.
plain_all : GivesFit Plain (4 ∷ 6 ∷ []) (4 ∷ 6 ∷ [])
plain_all = inl refl

plain_none : GivesFit Plain (4 ∷ 6 ∷ []) []
plain_none = inr refl

neither : {gives out : List ℕ} → (gives ≡ out → ⊥) → (gives ≡ [] → ⊥) → (gives ≡ out) ⊎ (gives ≡ []) → ⊥
neither all none (inl is) = all is
neither all none (inr is) = none is

plain_some : ¬ GivesFit Plain (4 ∷ 6 ∷ []) (4 ∷ [])
plain_some is = neither (λ e. absurd (cc)) (λ e. absurd (cc)) is

plain_turned : ¬ GivesFit Plain (4 ∷ 6 ∷ []) (6 ∷ 4 ∷ [])
plain_turned is = neither (λ e. absurd (cc)) (λ e. absurd (cc)) is

choice_one : GivesFit Choice (4 ∷ 6 ∷ []) (6 ∷ [])
choice_one = (omega arith, (refl, tt))

choice_none : GivesFit Choice (4 ∷ 6 ∷ []) []
choice_none = (omega arith, tt)

choice_both : ¬ GivesFit Choice (4 ∷ 6 ∷ []) (4 ∷ 6 ∷ [])
choice_both is = absurd (omega (arith, is.0))

choice_of_another : ¬ GivesFit Choice (4 ∷ 6 ∷ []) (5 ∷ [])
choice_of_another is = let among : false ≡ true = is.1.0 in absurd (cc)

many_some : GivesFit Many (4 ∷ 6 ∷ 8 ∷ []) (8 ∷ 4 ∷ [])
unfolding IsDistinct
many_some = (((refl, tt), (tt, tt)), (refl, (refl, tt)))

many_twice : ¬ GivesFit Many (4 ∷ 6 ∷ 8 ∷ []) (8 ∷ 8 ∷ [])
unfolding IsDistinct
many_twice is = let same : true ≡ false = is.0.0.0 in absurd (cc)

many_of_another : ¬ GivesFit Many (4 ∷ 6 ∷ 8 ∷ []) (8 ∷ 5 ∷ [])
many_of_another is = let among : false ≡ true = is.1.1.0 in absurd (cc)

nested_all : GivesFit Nested (8 ∷ 9 ∷ []) (8 ∷ 9 ∷ [])
nested_all = inl refl

nested_none : GivesFit Nested (8 ∷ 9 ∷ []) []
nested_none = inr refl

nested_some : ¬ GivesFit Nested (8 ∷ 9 ∷ []) (9 ∷ [])
nested_some is = neither (λ e. absurd (cc)) (λ e. absurd (cc)) is

-- Only a nested task's End is inner, and it may be none.
nested_inner : InnerFits Nested true × InnerFits Nested false
nested_inner = (tt, tt)

plain_inner : ¬ InnerFits Plain true
plain_inner is = absurd (cc)

choice_inner : ¬ InnerFits Choice true
choice_inner is = absurd (cc)

many_inner : ¬ InnerFits Many true
many_inner is = absurd (cc)

-- An End is held to the shape and the edges of the task whose Start it closes.
abbrev two_starts : List Entry
two_starts = Start 0 Source [] ∷ Start 3 Source [] ∷ []

own_edges : ChoiceRule net two_starts (End 0 (0 ∷ 1 ∷ []) false) × ChoiceRule net two_starts (End 1 (5 ∷ []) false)
unfolding IsDistinct
own_edges = ((inl refl, refl), (((tt, tt), (refl, tt)), refl))

edges_of_the_other : ¬ ChoiceRule net two_starts (End 1 (0 ∷ []) false)
unfolding IsDistinct
edges_of_the_other is = let among : false ≡ true = is.0.1.0 in absurd (cc)

inner_of_many : ¬ ChoiceRule net two_starts (End 1 (5 ∷ []) true)
inner_of_many is = absurd (cc)

no_start_to_fit : ¬ ChoiceRule net two_starts (End 2 [] false)
no_start_to_fit is = is

others_choose_nothing : ChoiceRule net [] (Start 9 Source []) × ChoiceRule net [] (Fault 9 Inner) × ChoiceRule net [] (Drop 9 Source Limit)
others_choose_nothing = (tt, tt, tt)

-- Units. Task 0 takes semaphore 0 and puts it; 1 takes it alone; 2 puts it alone; 3 neither. Task 4 takes semaphore 1,
-- of two units, and puts it; task 5 takes both semaphores.
abbrev bound : List ℕ → List ℕ → TaskRow
bound takes puts = record { shape = Plain; takes = takes; puts = puts }

abbrev units : NetRows
units = record {
  tasks = bound (0 ∷ []) (0 ∷ []) ∷ bound (0 ∷ []) [] ∷ bound [] (0 ∷ []) ∷ bound [] [] ∷ bound (1 ∷ []) (1 ∷ []) ∷ bound (0 ∷ 1 ∷ []) [] ∷ [];
  edges = [];
  sems = 3 ∷ 2 ∷ [];
}

takes_and_puts : (takes units 0 1 ≡ true) × (puts units 0 1 ≡ false) × (takes units 0 2 ≡ false) × (puts units 0 2 ≡ true)
takes_and_puts = (refl, refl, refl, refl)

the_other_semaphore : (takes units 1 1 ≡ false) × (puts units 1 2 ≡ false) × (takes units 1 5 ≡ true) × (takes units 0 6 ≡ false)
the_other_semaphore = (refl, refl, refl, refl)

maxima : (max_of units 0 ≡ 3) × (max_of units 1 ≡ 2)
maxima = (refl, refl)

-- A unit goes out with a Start and comes back with an End of the start's own task; a Fault and a Drop give none back.
abbrev moved : List Entry
moved = Start 0 Source [] ∷ Start 1 Source [] ∷ Start 5 Source [] ∷ Start 4 Source [] ∷ End 0 [] false ∷ Fault 3 Inner ∷ End 1 [] false ∷ Drop 1 Source Halted ∷ []

out_of_first : (taken units 0 moved ≡ 3) × (back units 0 moved ≡ 1)
out_of_first = (refl, refl)

out_of_second : (taken units 1 moved ≡ 2) × (back units 1 moved ≡ 0)
out_of_second = (refl, refl)

unit_left : HasUnit units 0 moved
unit_left = omega arith

no_unit_left : ¬ HasUnit units 1 moved
no_unit_left is = absurd (omega (arith, is))

within_both : UnitsInBounds units moved 0 × UnitsInBounds units moved 1
within_both = ((omega arith, omega arith), (omega arith, omega arith))

too_many_out : ¬ UnitsInBounds units (moved ++ Start 5 Source [] ∷ []) 1
too_many_out is = absurd (omega (arith, is.1))

too_many_back : ¬ UnitsInBounds units (Start 2 Source [] ∷ End 0 [] false ∷ []) 0
too_many_back is = absurd (omega (arith, is.0))

-- Each semaphore is looked at, the last too.
second_over : ¬ SemaphoreRule units moved (Start 5 Source [])
second_over is = absurd (omega (arith, is.within.1.0.1))

first_over : ¬ SemaphoreRule units (Start 2 Source [] ∷ []) (End 0 [] false)
first_over is = absurd (omega (arith, is.within.0.0))

neither_over : SemaphoreRule units moved (Start 1 Source [])
neither_over = record { within = ((omega arith, omega arith), ((omega arith, omega arith), tt)); over = tt }

-- Of the closed starts those count that take and don't put, closed by an End or a Fault; of the others those that put
-- and don't take, open or closed, but the one at the place.
abbrev claims : List Entry
claims = Start 2 Source [] ∷ Start 1 Source [] ∷ Start 0 Source [] ∷ Start 2 Source [] ∷ Start 1 Source [] ∷ Fault 1 Inner ∷ End 2 [] false ∷ End 3 [] false ∷ Start 3 Source [] ∷ []

one_taker_closed : closed_takers units 0 claims ≡ 1
one_taker_closed = refl

one_other_putter : other_putters units 0 0 claims ≡ 1
one_other_putter = refl

two_other_putters : other_putters units 0 8 claims ≡ 2
two_other_putters = refl

none_of_the_second : (closed_takers units 1 claims ≡ 0) × (other_putters units 1 0 claims ≡ 0)
none_of_the_second = (refl, refl)

-- The over-release of a task that only puts: at some moment since its start the closed takers were no more than the
-- other putters. Its own start must be in it, a moment before it doesn't count, and none past the end is there.
putter_alone : IsOverRelease units (Start 2 Source [] ∷ []) 0 0 2
putter_alone = (refl, (1, omega arith, omega arith, omega arith))

abbrev closed_by_an_end : List Entry
closed_by_an_end = Start 1 Source [] ∷ End 0 [] false ∷ Start 2 Source [] ∷ []

taker_closed_before : ¬ IsOverRelease units closed_by_an_end 0 2 2
taker_closed_before is = never is.1.0 is.1.1 is.1.2 is.1.3
  where
    never : (n : ℕ) → 2 < n → n ≤ 3 → closed_takers units 0 (take n closed_by_an_end) + 0 ≤ other_putters units 0 2 (take n closed_by_an_end) → ⊥
    never zero past within few = omega arith
    never (suc zero) past within few = omega arith
    never (suc (suc zero)) past within few = omega arith
    never (suc (suc (suc zero))) past within few = omega (arith, few)
    never (suc (suc (suc (suc n)))) past within few = omega arith

taker_closed_since : IsOverRelease units (Start 2 Source [] ∷ Start 1 Source [] ∷ End 1 [] false ∷ []) 0 0 2
taker_closed_since = (refl, (1, omega arith, omega arith, omega arith))

abbrev closed_by_a_fault : List Entry
closed_by_a_fault = Start 1 Source [] ∷ Fault 0 Inner ∷ Start 2 Source [] ∷ []

taker_faulted_before : ¬ IsOverRelease units closed_by_a_fault 0 2 2
taker_faulted_before is = never is.1.0 is.1.1 is.1.2 is.1.3
  where
    never : (n : ℕ) → 2 < n → n ≤ 3 → closed_takers units 0 (take n closed_by_a_fault) + 0 ≤ other_putters units 0 2 (take n closed_by_a_fault) → ⊥
    never zero past within few = omega arith
    never (suc zero) past within few = omega arith
    never (suc (suc zero)) past within few = omega arith
    never (suc (suc (suc zero))) past within few = omega (arith, few)
    never (suc (suc (suc (suc n)))) past within few = omega arith

-- A task that takes what it puts brings its own unit, so another putter has to claim it.
own_unit : ¬ IsOverRelease units (Start 0 Source [] ∷ []) 0 0 0
own_unit is = never_own is.1.0 is.1.1 is.1.2 is.1.3
  where
    never_own : (n : ℕ) → 0 < n → n ≤ 1 → closed_takers units 0 (take n (Start 0 Source [] ∷ [])) + 1 ≤ other_putters units 0 0 (take n (Start 0 Source [] ∷ [])) → ⊥
    never_own zero past within few = omega arith
    never_own (suc zero) past within few = omega (arith, few)
    never_own (suc (suc n)) past within few = omega arith

own_unit_claimed : IsOverRelease units (Start 0 Source [] ∷ Start 2 Source [] ∷ []) 0 0 0
own_unit_claimed = (refl, (2, omega arith, omega arith, omega arith))

-- A task that doesn't put the semaphore never gives it back too often.
no_putter : ¬ IsOverRelease units (Start 1 Source [] ∷ Start 2 Source [] ∷ []) 0 0 1
no_putter is = let puts : false ≡ true = is.0 in absurd (cc)

not_of_the_second : ¬ IsOverRelease units (Start 2 Source [] ∷ []) 1 0 2
not_of_the_second is = let puts : false ≡ true = is.0 in absurd (cc)

-- Only a Fault that tells of a unit is asked for one, at a place where a Start stands.
other_whys : UnitFaultRule units [] (Fault 0 (Long 1)) × UnitFaultRule units [] (Fault 0 (Wide 1)) × UnitFaultRule units [] (Fault 0 (Unmet 1)) × UnitFaultRule units [] (Fault 0 Inner)
other_whys = (tt, tt, tt, tt)

unit_of_no_start : ¬ UnitFaultRule units [] (Fault 0 (OverRelease 0))
unit_of_no_start is = is

unit_of_its_start : UnitFaultRule units (Start 2 Source [] ∷ []) (Fault 0 (OverRelease 0))
unit_of_its_start = putter_alone

rule_tells : ¬ SemaphoreRule units (Start 1 Source [] ∷ []) (Fault 0 (OverRelease 0))
rule_tells is = let puts : false ≡ true = is.over.0 in absurd (cc)

-- Drops. Halted needs a Fault before; Limit nothing until the end; Stuck no Fault, nothing open, a semaphore that the
-- task takes and that has no unit.
halted : LimitRule units 9 (Start 3 Source [] ∷ Fault 0 Inner ∷ []) (Drop 1 Source Halted)
halted = omega arith

halted_without_fault : ¬ LimitRule units 9 (Start 3 Source [] ∷ End 0 [] false ∷ []) (Drop 1 Source Halted)
halted_without_fault is = absurd (omega (arith, is))

limited_any_time : LimitRule units 9 [] (Drop 1 Source Limit)
limited_any_time = tt

abbrev all_taken : List Entry
all_taken = Start 1 Source [] ∷ End 0 [] false ∷ Start 1 Source [] ∷ End 2 [] false ∷ Start 1 Source [] ∷ End 4 [] false ∷ []

stuck : LimitRule units 9 all_taken (Drop 0 Source (Stuck 0))
stuck = record { no_fault = refl; none_open = (refl, (refl, (refl, (refl, (refl, (refl, tt)))))); takes_it = refl; no_unit = λ has. absurd (omega (arith, has)) }

stuck_on_a_unit : ¬ MayBeStuck units [] 0 0
stuck_on_a_unit is = is.no_unit (omega arith)

stuck_on_another : ¬ MayBeStuck units all_taken 4 0
stuck_on_another is = let takes : false ≡ true = is.takes_it in absurd (cc)

stuck_while_running : ¬ MayBeStuck units (all_taken ++ Start 3 Source [] ∷ []) 0 0
stuck_while_running is = let closed : true ≡ false = is.none_open.1.1.1.1.1.1.0 in absurd (cc)

stuck_after_a_fault : ¬ MayBeStuck units (all_taken ++ Start 3 Source [] ∷ Fault 6 Inner ∷ []) 0 0
stuck_after_a_fault is = absurd (omega (arith, is.no_fault))

-- At most as many Starts as the limit; Ends and Faults at any time.
last_start : LimitRule units 2 (Start 3 Source [] ∷ End 0 [] false ∷ []) (Start 3 Source [])
last_start = omega arith

one_start_too_many : ¬ LimitRule units 2 (Start 3 Source [] ∷ Start 3 Source [] ∷ []) (Start 3 Source [])
one_start_too_many is = absurd (omega (arith, is))

closing_at_the_limit : LimitRule units 0 [] (End 0 [] false) × LimitRule units 0 [] (Fault 0 Inner)
closing_at_the_limit = (tt, tt)

-- After a Drop as stuck only such Drops.
stuck_again : AfterStuckRule (Drop 0 Source (Stuck 0) ∷ []) (Drop 1 Source (Stuck 0))
stuck_again other = absurd (cc)

start_after_stuck : ¬ AfterStuckRule (Drop 0 Source (Stuck 0) ∷ []) (Start 3 Source [])
start_after_stuck is = absurd (omega (arith, is refl))

end_after_stuck : ¬ AfterStuckRule (Drop 0 Source (Stuck 0) ∷ []) (End 0 [] false)
end_after_stuck is = absurd (omega (arith, is refl))

fault_after_stuck : ¬ AfterStuckRule (Drop 0 Source (Stuck 0) ∷ []) (Fault 0 Inner)
fault_after_stuck is = absurd (omega (arith, is refl))

halted_after_stuck : ¬ AfterStuckRule (Drop 0 Source (Stuck 0) ∷ []) (Drop 1 Source Halted)
halted_after_stuck is = absurd (omega (arith, is refl))

limit_after_stuck : ¬ AfterStuckRule (Drop 0 Source (Stuck 0) ∷ []) (Drop 1 Source Limit)
limit_after_stuck is = absurd (omega (arith, is refl))

other_drops_before : AfterStuckRule (Drop 0 Source Halted ∷ Drop 1 Source Limit ∷ []) (Start 3 Source [])
other_drops_before other = refl

-- Numbers are the net's: each kind of number by itself, the first past the end refused.
in_range : IsInRange net (Start 4 (Weak 9) []) × IsInRange net (End 9 (9 ∷ []) false) × IsInRange units (Fault 9 (OverRelease 1)) × IsInRange units (Drop 5 Strong (Stuck 1))
in_range = ((omega arith, omega arith), (omega arith, tt), omega arith, (omega arith, tt, omega arith))

no_such_task : ¬ IsInRange net (Start 5 Source [])
no_such_task is = absurd (omega (arith, is.0))

no_such_weak_edge : ¬ IsInRange net (Start 4 (Weak 10) [])
no_such_weak_edge is = absurd (omega (arith, is.1))

no_such_edge : ¬ IsInRange net (End 0 (9 ∷ 10 ∷ []) false)
no_such_edge is = absurd (omega (arith, is.1.0))

no_such_semaphore : ¬ IsInRange units (Fault 0 (OverRelease 2))
no_such_semaphore is = absurd (omega (arith, is))

no_task_to_drop : ¬ IsInRange units (Drop 6 Source Halted)
no_task_to_drop is = absurd (omega (arith, is.0))

no_edge_to_drop : ¬ IsInRange units (Drop 0 (Weak 0) Halted)
no_edge_to_drop is = absurd (omega (arith, is.1))

no_semaphore_to_drop_on : ¬ IsInRange units (Drop 0 Source (Stuck 2))
no_semaphore_to_drop_on is = absurd (omega (arith, is.2))

other_whys_in_range : IsInRange units (Fault 0 (Long 9)) × IsInRange units (Fault 0 (Wide 9)) × IsInRange units (Fault 0 (Unmet 9)) × IsInRange units (Fault 0 Inner) × IsInRange units (Drop 0 Source Limit)
other_whys_in_range = (tt, tt, tt, tt, (omega arith, tt, tt))

-- Calm edges: at no moment two tokens, by the uses of the target for a strong edge and of the edge for a weak one.
strong_used : used_at net 0 mixed ≡ 2
strong_used = refl

weak_used : used_at net 2 mixed ≡ 2
weak_used = refl

nothing_used_past_the_end : used_at net 10 mixed ≡ 0
nothing_used_past_the_end = refl

calm_edge : IsCalm net 0 (End 0 (0 ∷ []) false ∷ Start 1 Strong [] ∷ End 0 (0 ∷ []) false ∷ [])
calm_edge = (omega arith, (omega arith, (omega arith, (omega arith, tt))))

once_held_two : ¬ IsCalm net 0 (End 0 (0 ∷ []) false ∷ End 0 (0 ∷ []) false ∷ Start 1 Strong [] ∷ [])
once_held_two is = absurd (omega (arith, is.1.1.0))

holds_two_at_last : ¬ IsCalm net 2 (End 0 (2 ∷ []) false ∷ End 0 (2 ∷ []) false ∷ [])
holds_two_at_last is = absurd (omega (arith, is.1.1.0))

first_token_counts : ¬ IsCalm net 7 (End 0 (7 ∷ []) false ∷ [])
first_token_counts is = absurd (omega (arith, is.1.0))

-- Inputs: which edges, and at each what may be found.
edges_by_cause : (edges_of net 1 Source ≡ []) × (edges_of net 1 Strong ≡ 0 ∷ 1 ∷ 7 ∷ []) × (edges_of net 1 (Weak 2) ≡ 2 ∷ [])
edges_by_cause = (refl, refl, refl)

abbrev two_ends : List Entry
two_ends = Start 0 Source [] ∷ End 0 (0 ∷ 1 ∷ []) false ∷ Start 2 Source [] ∷ End 2 (2 ∷ []) false ∷ []

last_end_of_an_edge : (last_part 0 two_ends ≡ From 1) × (last_part 2 two_ends ≡ From 3) × (last_part 7 two_ends ≡ First) × (last_part 0 (two_ends ++ End 9 (0 ∷ []) false ∷ []) ≡ From 4)
last_end_of_an_edge = (refl, refl, refl, refl)

may_find_end : MayFind net two_ends 0 (From 1)
may_find_end = (refl, refl)

end_of_another_edge : ¬ MayFind net two_ends 0 (From 3)
end_of_another_edge is = absurd (cc)

no_end_there : ¬ MayFind net two_ends 0 (From 4)
no_end_there is = absurd (cc)

found_before : ¬ MayFind net (two_ends ++ Start 1 Strong (From 1 ∷ From 1 ∷ First ∷ []) ∷ []) 0 (From 1)
found_before is = absurd (omega (arith, is.1))

found_at_another_edge : MayFind net (two_ends ++ Start 1 Strong (From 1 ∷ Nothing ∷ First ∷ []) ∷ []) 1 (From 1)
found_at_another_edge = (refl, refl)

may_find_first : MayFind net two_ends 7 First
may_find_first = (refl, refl)

no_first_token : ¬ MayFind net two_ends 0 First
no_first_token is = absurd (omega (arith, is.0))

first_found_before : ¬ MayFind net (Start 1 Strong (Nothing ∷ Nothing ∷ First ∷ []) ∷ []) 7 First
first_found_before is = absurd (omega (arith, is.1))

may_find_nothing : MayFind net two_ends 0 Nothing
may_find_nothing = tt

-- Where the edge is calm it is the last End that signalled it.
nothing_on_calm : ¬ IsPartAt net (End 0 (0 ∷ []) false ∷ []) 0 Nothing
nothing_on_calm is = let last : Nothing ≡ From 0 = is.last (omega arith, (omega arith, tt)) in absurd (cc)

nothing_where_not_calm : IsPartAt net (End 0 (0 ∷ []) false ∷ End 0 (0 ∷ []) false ∷ []) 0 Nothing
nothing_where_not_calm = record { found = tt; last = λ calm. absurd (omega (arith, calm.1.1.0)) }

one_part_an_edge : ¬ DataRule net both_given (Start 1 Strong (From 1 ∷ From 1 ∷ []))
one_part_an_edge is = is.1.1

each_part_its_edge : ¬ DataRule net (Start 2 Source [] ∷ End 0 (2 ∷ []) false ∷ []) (Start 1 (Weak 2) (First ∷ []))
each_part_its_edge is = absurd (omega (arith, is.0.found.0))

source_finds_nothing : DataRule net [] (Start 0 Source [])
source_finds_nothing = tt

others_find_nothing : DataRule net [] (End 0 (9 ∷ []) false) × DataRule net [] (Fault 0 Inner) × DataRule net [] (Drop 1 Strong Halted)
others_find_nothing = (tt, tt, tt)

-- Finished: nothing open, and no release left of a source, a weak edge or a round of strong edges.
leasts : (least [] ≡ 0) × (least (4 ∷ []) ≡ 4) × (least (4 ∷ 2 ∷ 3 ∷ []) ≡ 2) × (least (1 ∷ 2 ∷ []) ≡ 1)
leasts = (refl, refl, refl, refl)

abbrev joined : NetRows
joined = record { tasks = free Plain ∷ free Plain ∷ free Plain ∷ []; edges = edge 0 2 ∷ edge 1 2 ∷ []; sems = [] }

abbrev joined_run : List Entry
joined_run = Start 0 Source [] ∷ End 0 (0 ∷ []) false ∷ Start 1 Source [] ∷ End 2 (1 ∷ []) false ∷ Start 2 Strong [] ∷ End 4 [] false ∷ []

finished : Complete joined 9 joined_run
finished = record {
  none_open = (refl, (refl, (refl, (refl, (refl, (refl, tt))))));
  sources = (λ is. refl, (λ is. refl, (λ is. absurd (cc), tt)));
  weak = (λ is. absurd (cc), (λ is. absurd (cc), tt));
  strong = (λ some. absurd (some refl), (λ some. absurd (some refl), (λ some. refl, tt)));
  limited = λ some. absurd (some refl);
}

more_on_the_last_edge : Complete joined 9 (joined_run ++ Start 3 Source [] ∷ End 6 (1 ∷ []) false ∷ [])
more_on_the_last_edge = record {
  none_open = (refl, (refl, (refl, (refl, (refl, (refl, (refl, (refl, tt))))))));
  sources = (λ is. refl, (λ is. refl, (λ is. absurd (cc), tt)));
  weak = (λ is. absurd (cc), (λ is. absurd (cc), tt));
  strong = (λ some. absurd (some refl), (λ some. absurd (some refl), (λ some. refl, tt)));
  limited = λ some. absurd (some refl);
}

round_left : ¬ Complete joined 9 (joined_run ++ End 0 (0 ∷ []) false ∷ End 0 (1 ∷ []) false ∷ [])
round_left is = let two : 1 ≡ 2 = is.strong.1.1.0 (λ none. absurd (cc)) in absurd (omega (arith, two))

second_source_left : ¬ Complete joined 9 (Start 0 Source [] ∷ End 0 (0 ∷ []) false ∷ [])
second_source_left is = let one : 0 ≡ 1 = is.sources.1.0 refl in absurd (omega (arith, one))

weak_token_left : ¬ Complete net 9 (End 0 (2 ∷ []) false ∷ [])
weak_token_left is = let one : 0 ≡ 1 = is.weak.1.1.0 refl in absurd (omega (arith, one))

limit_not_met : ¬ Complete joined 9 (Drop 0 Source Limit ∷ Drop 1 Source Limit ∷ [])
limit_not_met is = let made : 0 ≡ 9 = is.limited (λ none. absurd (omega (arith, none))) in absurd (omega (arith, made))

limit_met : Complete joined 0 (Drop 0 Source Limit ∷ Drop 1 Source Limit ∷ [])
limit_met = record {
  none_open = (refl, (refl, tt));
  sources = (λ is. refl, (λ is. refl, (λ is. absurd (cc), tt)));
  weak = (λ is. absurd (cc), (λ is. absurd (cc), tt));
  strong = (λ some. absurd (some refl), (λ some. absurd (some refl), (λ some. refl, tt)));
  limited = λ some. refl;
}

-- A rule looks at the entries before each entry, in order: an End can't come before its Start.
end_first : ¬ ShapeLegal joined 9 (End 1 (0 ∷ []) false ∷ Start 0 Source [] ∷ [])
end_first is = absurd (cc)

second_entry_too : ¬ ShapeLegal joined 9 (Start 0 Source [] ∷ Start 0 Source [] ∷ [])
second_entry_too is = absurd (omega (arith, is.1.0.release.1))

-- the greatest limit of a job, one more than 2 ^ 21
greatest_limit : max_limit ≡ 2097153
greatest_limit = refl
