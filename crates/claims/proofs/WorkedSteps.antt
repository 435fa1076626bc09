-- What a machine's steps do, which break is told of an entry, and the verdict, computed on a small net.
use Rattle.std.proofs.Common.{◌≡◌, ℕ, true, false, List, [], ◌∷◌, ◌++◌, Some, None, inl, refl, ap, arith}
use Rattle.task_graph.specs.NetRows.{NetRows}
use Rattle.task_graph.specs.declared.net.Shape.{Shape}
use Rattle.task_graph.specs.declared.net.Shape.TheVariants.{Plain, Choice}
use Rattle.task_graph.specs.declared.net.TaskRow.{TaskRow}
use Rattle.task_graph.specs.declared.net.EdgeRow.{EdgeRow}
use Rattle.journal_rules.specs.declared.entry.Cause.TheVariants.{Source, Strong, Weak}
use Rattle.journal_rules.specs.declared.entry.Part.TheVariants.{From, Nothing}
use Rattle.journal_rules.specs.declared.entry.Why.TheVariants.{Inner, OverRelease}
use Rattle.journal_rules.specs.declared.entry.DropWhy.TheVariants.{Halted, Limit, Stuck}
use Rattle.journal_rules.specs.declared.entry.Entry.{Entry}
use Rattle.journal_rules.specs.declared.entry.Entry.TheVariants.{Start, End, Fault, Drop}
use Rattle.journal_rules.specs.DataRule.{MayFind}
use Rattle.journal_rules.specs.ShapeLegal.{MayFollow}
use Rattle.net_machine.specs.declared.machine_error.MachineError.TheVariants as error
use Rattle.legal_run.specs.declared.verdict.Break.TheVariants.{NoSuch, AfterStuck, NotReleased, OverUnits, OverLimit, NotOpen, NotChosen, NothingOut, NotOver, NotHalted, NotStuck}
use Rattle.legal_run.specs.declared.verdict.Verdict.TheVariants.{Breaks as BreaksAt}
use Rattle.legal_run.specs.MachineState.{MachineState}
use Rattle.net_machine.specs.Machine.{Appends, start_entry, Starts, Ends, Faults, Drops, break_of, Refuses}
use Rattle.legal_run.specs.Refusal.{Breaks, IsRefusal}
use Rattle.legal_run.specs.Verdict.{IsVerdict}

abbrev free : Shape → TaskRow
free shape = record { shape = shape; takes = []; puts = [] }

abbrev edge : ℕ → ℕ → EdgeRow
edge from to = record { from = from; to = to; start = false }

-- Task 0 leads to task 1 by edge 0, and the Choice 2 does by the weak edge 1.
abbrev net : NetRows
net = record { tasks = free Plain ∷ free Plain ∷ free Choice ∷ []; edges = edge 0 1 ∷ edge 2 1 ∷ []; sems = [] }

-- task 0 has ended, and signalled its edge
abbrev ended : List Entry
ended = Start 0 Source [] ∷ End 0 (0 ∷ []) false ∷ []

abbrev at : List Entry → ℕ → MachineState
at journal limit = record { net = net; limit = limit; journal = journal }

-- A Start finds what waits at the edges of its cause.
entries_by_cause : (start_entry (at ended 9) 1 Strong ≡ Start 1 Strong (From 1 ∷ [])) × (start_entry (at ended 9) 1 (Weak 1) ≡ Start 1 (Weak 1) (Nothing ∷ [])) × (start_entry (at [] 9) 0 Source ≡ Start 0 Source [])
entries_by_cause = (refl, refl, refl)

may_start : MayFollow net 2 ended (Start 1 Strong (From 1 ∷ []))
may_start = record {
  in_range = (omega arith, tt);
  release = (λ none. absurd (cc), (omega arith, tt));
  closing = tt;
  choice = tt;
  semaphore = record { within = tt; over = tt };
  halt_limit_stuck = record { dropped = omega arith; after_stuck = λ other. refl };
}

-- The entry stands last, at the place of the next one, and could stand there by the net and the limit of the machine.
started : Starts (at ended 2) (at (ended ++ Start 1 Strong (From 1 ∷ []) ∷ []) 2) 1 Strong 2
started = record { stands = refl; allowed = may_start; after = refl }

started_elsewhere : ¬ Starts (at ended 2) (at (ended ++ Start 1 Strong (From 1 ∷ []) ∷ []) 2) 1 Strong 1
started_elsewhere is = absurd (omega (arith, is.stands))

started_in_front : ¬ Starts (at ended 2) (at (Start 1 Strong (From 1 ∷ []) ∷ ended) 2) 1 Strong 2
started_in_front is = let same = ap (λ (state : MachineState). state.journal) is.after in absurd (cc)

started_with_nothing : ¬ Starts (at ended 2) (at (ended ++ Start 1 Strong (Nothing ∷ []) ∷ []) 2) 1 Strong 2
started_with_nothing is = let same = ap (λ (state : MachineState). state.journal) is.after in absurd (cc)

started_with_more_starts_to_come : ¬ Starts (at ended 2) (at (ended ++ Start 1 Strong (From 1 ∷ []) ∷ []) 3) 1 Strong 2
started_with_more_starts_to_come is = let same = ap (λ (state : MachineState). state.limit) is.after in absurd (omega (arith, same))

started_past_the_limit : ¬ Starts (at ended 1) (at (ended ++ Start 1 Strong (From 1 ∷ []) ∷ []) 1) 1 Strong 2
started_past_the_limit is = absurd (omega (arith, is.allowed.halt_limit_stuck.dropped))

-- The other steps append their own entries.
entries_of_steps : (old new : MachineState) (place : ℕ) →
    (Ends old new 3 (5 ∷ []) true place ≡ Appends old new (End 3 (5 ∷ []) true) place)
    × (Faults old new 3 Inner place ≡ Appends old new (Fault 3 Inner) place)
    × (Drops old new 3 (Weak 5) Limit place ≡ Appends old new (Drop 3 (Weak 5) Limit) place)
entries_of_steps old new place = (refl, refl, refl)

-- Each error but the one of memory is a break of the same name.
errors_of_starts : (break_of error.NotReleased ≡ Some NotReleased) × (break_of (error.NoUnit 7) ≡ Some (OverUnits 7)) × (break_of error.AtLimit ≡ Some OverLimit)
errors_of_starts = (refl, refl, refl)

errors_of_ends : (break_of error.NotOpen ≡ Some NotOpen) × (break_of error.NotChosen ≡ Some NotChosen) × (break_of (error.NothingOut 7) ≡ Some (NothingOut 7)) × (break_of error.NotOver ≡ Some NotOver)
errors_of_ends = (refl, refl, refl, refl)

errors_of_drops : (break_of error.NotHalted ≡ Some NotHalted) × (break_of error.NotStuck ≡ Some NotStuck) × (break_of error.AfterStuck ≡ Some AfterStuck)
errors_of_drops = (refl, refl, refl)

other_errors : (break_of error.NoSuch ≡ Some NoSuch) × (break_of error.NoMemory ≡ None)
other_errors = (refl, refl)

-- A refusal names a break that is there; one for want of memory needs an entry that may follow.
no_such_task : IsRefusal net 2 ended (Start 3 Source []) NoSuch
no_such_task = record { breaks = λ is. omega (arith, is.0); first = λ other below. absurd (omega (arith, below)) }

refused : Refuses (at ended 2) (Start 3 Source []) error.NoSuch
refused = no_such_task

refused_without_cause : ¬ Refuses (at ended 2) (Start 1 Strong (From 1 ∷ [])) error.NoSuch
refused_without_cause is = is.breaks may_start.in_range

out_of_memory : Refuses (at ended 2) (Start 1 Strong (From 1 ∷ [])) error.NoMemory
out_of_memory = may_start

out_of_memory_for_a_break : ¬ Refuses (at ended 2) (Start 3 Source []) error.NoMemory
out_of_memory_for_a_break is = absurd (omega (arith, is.in_range.0))

refused_at_another_limit : ¬ Refuses (at ended 1) (Start 1 Strong (From 1 ∷ [])) error.NoMemory
refused_at_another_limit is = absurd (omega (arith, is.halt_limit_stuck.dropped))

-- Each break is of its own rule: an entry that breaks it and no rule that is told later or earlier by the same words,
-- and one that breaks another.
open_but_unfit : ¬ Breaks net 9 (Start 0 Source [] ∷ []) (End 0 (1 ∷ []) false) NotOpen
open_but_unfit is = is refl

closed_twice : Breaks net 9 ended (Fault 0 Inner) NotOpen
closed_twice is = absurd (cc)

fits_its_task : ¬ Breaks net 9 ended (End 0 (0 ∷ []) false) NotChosen
fits_its_task is = is (inl refl, refl)

fits_no_task : Breaks net 9 (Start 0 Source [] ∷ []) (End 0 (0 ∷ []) true) NotChosen
fits_no_task is = absurd (cc)

fits_no_start : Breaks net 9 [] (End 0 [] false) NotChosen
fits_no_start is = is

no_release : Breaks net 9 [] (Drop 1 Strong Limit) NotReleased
no_release is = absurd (omega (arith, is.1.0))

released_though_stuck : ¬ Breaks net 9 (Drop 0 Source (Stuck 0) ∷ ended) (Start 1 Strong []) NotReleased
released_though_stuck is = is (λ none. absurd (cc), (omega arith, tt))

start_after_stuck : Breaks net 9 (Drop 0 Source (Stuck 0) ∷ ended) (Start 1 Strong []) AfterStuck
start_after_stuck is = absurd (omega (arith, is refl))

no_start_after_stuck : ¬ Breaks net 9 ended (Start 0 Source []) AfterStuck
no_start_after_stuck is = is (λ other. refl)

at_the_limit : Breaks net 1 ended (Start 1 Strong []) OverLimit
at_the_limit is = omega (arith, is)

within_the_limit : ¬ Breaks net 2 ended (Start 1 Strong []) OverLimit
within_the_limit is = is (omega arith)

-- a semaphore of one unit, which task 0 takes and task 1 puts
abbrev unit_net : NetRows
unit_net = record { tasks = record { shape = Plain; takes = 0 ∷ []; puts = [] } ∷ record { shape = Plain; takes = []; puts = 0 ∷ [] } ∷ []; edges = []; sems = 1 ∷ [] }

abbrev taken : List Entry
taken = Start 0 Source [] ∷ End 0 [] false ∷ []

no_unit : Breaks unit_net 9 taken (Start 0 Source []) (OverUnits 0)
no_unit = record { has_it = (refl, λ has. omega (arith, has)); least = λ r below has. absurd (omega (arith, below)) }

unit_of_another : ¬ Breaks unit_net 9 taken (Start 0 Source []) (OverUnits 1)
unit_of_another is = let takes : false ≡ true = is.has_it.0 in absurd (cc)

nothing_out : Breaks unit_net 9 (Start 1 Source [] ∷ []) (End 0 [] false) (NothingOut 0)
nothing_out = record { has_it = (refl, refl); least = λ r below has. absurd (omega (arith, below)) }

unit_out : ¬ Breaks unit_net 9 (Start 0 Source [] ∷ Start 1 Source [] ∷ []) (End 1 [] false) (NothingOut 0)
unit_out is = absurd (omega (arith, is.has_it.1))

over_released : ¬ Breaks unit_net 9 (Start 1 Source [] ∷ []) (Fault 0 (OverRelease 0)) NotOver
over_released is = is (refl, (1, omega arith, omega arith, omega arith))

putter_of_none : Breaks unit_net 9 (Start 0 Source [] ∷ []) (Fault 0 (OverRelease 0)) NotOver
putter_of_none is = let puts : false ≡ true = is.0 in absurd (cc)

halted_too_early : Breaks net 9 [] (Drop 0 Source Halted) NotHalted
halted_too_early = (refl, λ is. omega (arith, is))

halted_is_not_stuck : ¬ Breaks net 9 [] (Drop 0 Source Halted) NotStuck
halted_is_not_stuck is = absurd (cc)

stuck_with_a_unit : Breaks unit_net 9 [] (Drop 0 Source (Stuck 0)) NotStuck
stuck_with_a_unit = (refl, λ is. is.no_unit (omega arith))

stuck_is_not_halted : ¬ Breaks unit_net 9 [] (Drop 0 Source (Stuck 0)) NotHalted
stuck_is_not_halted is = absurd (cc)

stuck_by_right : ¬ Breaks unit_net 9 taken (Drop 0 Source (Stuck 0)) NotStuck
stuck_by_right is = is.1 (record { no_fault = refl; none_open = (refl, (refl, tt)); takes_it = refl; no_unit = λ has. absurd (omega (arith, has)) })

stuck_without_need : Breaks unit_net 9 taken (Drop 1 Source (Stuck 0)) NotStuck
stuck_without_need = (refl, λ is. let takes : false ≡ true = is.takes_it in absurd (cc))

-- The verdict names the first entry that is refused; those before it are legal, whatever those behind it are.
may_begin : MayFollow net 2 [] (Start 0 Source [])
may_begin = record {
  in_range = (omega arith, tt);
  release = (refl, refl);
  closing = tt;
  choice = tt;
  semaphore = record { within = tt; over = tt };
  halt_limit_stuck = record { dropped = omega arith; after_stuck = λ other. refl };
}

abbrev second_unknown : List Entry
second_unknown = Start 0 Source [] ∷ Start 3 Source [] ∷ Start 4 Source [] ∷ []

breaks_at_the_second : IsVerdict net 2 second_unknown (BreaksAt 1 NoSuch)
breaks_at_the_second = ((may_begin, tt), record { breaks = λ is. omega (arith, is.0); first = λ other below. absurd (omega (arith, below)) })

breaks_at_the_third : ¬ IsVerdict net 2 second_unknown (BreaksAt 2 NoSuch)
breaks_at_the_third is = absurd (omega (arith, is.0.1.0.in_range.0))

-- A Start by a weak edge has found what it found there.
found_by_a_weak_start : ¬ MayFind net (End 9 (1 ∷ []) false ∷ Start 1 (Weak 1) (From 0 ∷ []) ∷ []) 1 (From 0)
found_by_a_weak_start is = absurd (omega (arith, is.1))
