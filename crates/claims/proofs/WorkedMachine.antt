-- What waits, what is left, which break is told and the verdict, computed on small nets and journals.
use Rattle.std.proofs.Common.{◌≡◌, ℕ, ◌≤◌, true, false, List, [], ◌∷◌, refl, arith}
use Rattle.task_graph.specs.declared.net.Shape.{Shape}
use Rattle.task_graph.specs.declared.net.Shape.TheVariants.{Plain, Choice}
use Rattle.task_graph.specs.declared.net.TaskRow.{TaskRow}
use Rattle.task_graph.specs.NetRows.{NetRows}
use Rattle.journal_rules.specs.declared.entry.Cause.TheVariants.{Source, Strong, Weak}
use Rattle.journal_rules.specs.declared.entry.Part.TheVariants.{From, First, Nothing}
use Rattle.journal_rules.specs.declared.entry.Why.TheVariants.{Inner}
use Rattle.journal_rules.specs.declared.entry.DropWhy.TheVariants.{Halted, Limit, Stuck}
use Rattle.journal_rules.specs.declared.entry.Entry.{Entry}
use Rattle.journal_rules.specs.declared.entry.Entry.TheVariants.{Start, End, Fault, Drop}
use Rattle.net_machine.specs.declared.ready.ReadyRelease.{ReadyRelease}
use Rattle.legal_run.specs.declared.verdict.Break.TheVariants.{NoSuch, AfterStuck, NotReleased, OverUnits, OverLimit, NotOpen, NotChosen, NothingOut, NotOver, NotHalted, NotStuck}
use Rattle.legal_run.specs.declared.verdict.Verdict.TheVariants.{Complete as Finished, Legal, Breaks as BreaksAt}
use Rattle.journal_rules.specs.Complete.{Complete}
use Rattle.net_machine.specs.Ready.{ready_list}
use Rattle.journal_rules.specs.TimesLeft.{times_left}
use Rattle.journal_rules.specs.Waiting.{waiting, waiting_parts, waiting_after}
use Rattle.legal_run.specs.Refusal.{StartsWithoutUnit, StartsAtLimit, EndsWithNothingOut, DropsWithoutCause, is_halted_why, rank, IsRefusal}
use Rattle.journal_rules.specs.MissingUnits.{IsLeast}
use Rattle.legal_run.specs.Verdict.{IsVerdict}

abbrev free : Shape → TaskRow
free shape = record { shape = shape; takes = []; puts = [] }

-- Task 0 leads to task 2 by edge 0, the Choice 1 by the weak edge 1, and task 2 to itself by edge 2, which begins with
-- a token.
abbrev net : NetRows
net = record {
  tasks = free Plain ∷ free Choice ∷ free Plain ∷ [];
  edges = record { from = 0; to = 2; start = false } ∷ record { from = 1; to = 2; start = false } ∷ record { from = 2; to = 2; start = true } ∷ [];
  sems = [];
}

-- What waits: the token of the beginning, the last gift, and nothing once it was used, by a Start or a Drop.
at_first : (waiting net 0 [] ≡ Nothing) × (waiting net 2 [] ≡ First) × (waiting net 3 [] ≡ Nothing)
at_first = (refl, refl, refl)

last_gift : waiting net 0 (End 9 (0 ∷ []) false ∷ End 9 (0 ∷ []) false ∷ End 9 (1 ∷ []) false ∷ []) ≡ From 1
last_gift = refl

gift_used : waiting net 0 (End 9 (0 ∷ []) false ∷ Start 2 Strong [] ∷ []) ≡ Nothing
gift_used = refl

gift_dropped : waiting net 0 (End 9 (0 ∷ []) false ∷ Drop 2 Strong Halted ∷ []) ≡ Nothing
gift_dropped = refl

gift_after_use : waiting net 0 (Start 2 Strong [] ∷ End 9 (0 ∷ []) false ∷ []) ≡ From 1
gift_after_use = refl

weak_start_leaves_it : waiting net 0 (End 9 (0 ∷ []) false ∷ Start 2 (Weak 1) [] ∷ []) ≡ From 0
weak_start_leaves_it = refl

first_dropped : waiting net 2 (Drop 2 Strong Halted ∷ []) ≡ Nothing
first_dropped = refl

parts_by_cause : (waiting_parts net 2 Strong (End 9 (0 ∷ []) false ∷ []) ≡ From 0 ∷ First ∷ []) × (waiting_parts net 2 (Weak 1) [] ≡ Nothing ∷ []) × (waiting_parts net 0 Source [] ≡ [])
parts_by_cause = (refl, refl, refl)

after_an_entry : (waiting_after net 0 7 First (End 9 (0 ∷ []) false) ≡ From 7) × (waiting_after net 0 7 First (Start 2 Strong []) ≡ Nothing) × (waiting_after net 0 7 First (Fault 9 Inner) ≡ First)
after_an_entry = (refl, refl, refl)

-- What is left: a source's one release, the least of the strong edges' tokens, and a weak edge's own.
abbrev given_twice : List Entry
given_twice = End 9 (0 ∷ 1 ∷ []) false ∷ End 9 (0 ∷ 1 ∷ []) false ∷ []

source_left : (times_left net [] 0 Source ≡ 1) × (times_left net (Drop 0 Source Halted ∷ []) 0 Source ≡ 0) × (times_left net [] 2 Source ≡ 0)
source_left = (refl, refl, refl)

strong_left : (times_left net given_twice 2 Strong ≡ 1) × (times_left net (Start 2 Strong [] ∷ given_twice) 2 Strong ≡ 0)
strong_left = (refl, refl)

weak_left : (times_left net given_twice 2 (Weak 1) ≡ 2) × (times_left net (Drop 2 (Weak 1) Halted ∷ given_twice) 2 (Weak 1) ≡ 1)
weak_left = (refl, refl)

abbrev left_of : ℕ → ℕ → ReadyRelease
left_of t times = record { task = t; cause = Source; times = times }

all_left : ready_list net (Drop 0 Source Halted ∷ given_twice) ≡ left_of 1 1 ∷ record { task = 2; cause = Strong; times = 1 } ∷ record { task = 2; cause = Weak 1; times = 2 } ∷ []
all_left = refl

-- Task 0 takes both semaphores, of one unit each, and task 1 puts both.
abbrev units : NetRows
units = record {
  tasks = record { shape = Plain; takes = 0 ∷ 1 ∷ []; puts = [] } ∷ record { shape = Plain; takes = []; puts = 0 ∷ 1 ∷ [] } ∷ [];
  edges = [];
  sems = 1 ∷ 1 ∷ [];
}

two_is_least : IsLeast (λ s. 2 ≤ s) 2
two_is_least = record { has_it = omega arith; least = λ r below has. omega (arith, below, has) }

three_is_not : ¬ IsLeast (λ s. 2 ≤ s) 3
three_is_not is = is.least 2 (omega arith) (omega arith)

one_has_it_not : ¬ IsLeast (λ s. 2 ≤ s) 1
one_has_it_not is = absurd (omega (arith, is.has_it))

-- Of two semaphores without a unit, or with nothing out, the lower is told.
second_taker : ¬ StartsWithoutUnit units (Start 0 Source [] ∷ []) (Start 0 Source []) 1
second_taker is = is.least 0 (omega arith) (refl, λ has. omega (arith, has))

unit_to_take : ¬ StartsWithoutUnit units [] (Start 0 Source []) 0
unit_to_take is = is.has_it.1 (omega arith)

no_taker : ¬ StartsWithoutUnit units (Start 0 Source [] ∷ []) (Start 1 Source []) 0
no_taker is = let takes : false ≡ true = is.has_it.0 in absurd (cc)

second_putter : ¬ EndsWithNothingOut units (Start 1 Source [] ∷ []) (End 0 [] false) 1
second_putter is = is.least 0 (omega arith) (refl, refl)

unit_to_put : ¬ EndsWithNothingOut units (Start 0 Source [] ∷ Start 1 Source [] ∷ []) (End 1 [] false) 0
unit_to_put is = absurd (omega (arith, is.has_it.1))

at_the_limit : StartsAtLimit 1 (Start 0 Source [] ∷ []) (Start 1 Source [])
at_the_limit is = omega (arith, is)

before_the_limit : ¬ StartsAtLimit 1 [] (Start 1 Source [])
before_the_limit is = is (omega arith)

only_starts : (¬ StartsAtLimit 0 [] (End 0 [] false)) × (¬ StartsAtLimit 0 [] (Fault 0 Inner)) × (¬ StartsAtLimit 0 [] (Drop 0 Source Limit))
only_starts = (λ is. is, λ is. is, λ is. is)

halted_without_fault : DropsWithoutCause is_halted_why units [] (Drop 0 Source Halted)
halted_without_fault = (refl, λ is. omega (arith, is))

halted_with_fault : ¬ DropsWithoutCause is_halted_why units (Start 0 Source [] ∷ Fault 0 Inner ∷ []) (Drop 1 Source Halted)
halted_with_fault is = is.1 (omega arith)

other_reasons : (is_halted_why Limit ≡ false) × (is_halted_why (Stuck 0) ≡ false)
other_reasons = (refl, refl)

ranks : (rank NoSuch ≡ 0) × (rank AfterStuck ≡ 1) × (rank NotReleased ≡ 2) × (rank (OverUnits 9) ≡ 3) × (rank OverLimit ≡ 4) × (rank NotOpen ≡ 5)
ranks = (refl, refl, refl, refl, refl, refl)

later_ranks : (rank NotChosen ≡ 6) × (rank (NothingOut 9) ≡ 7) × (rank NotOver ≡ 8) × (rank NotHalted ≡ 9) × (rank NotStuck ≡ 10)
later_ranks = (refl, refl, refl, refl, refl)

-- A break is told where it is there, and the first of those that are.
no_such_task : IsRefusal units 9 [] (Start 2 Source []) NoSuch
no_such_task = record { breaks = λ is. omega (arith, is.0); first = λ other below. absurd (omega (arith, below)) }

not_there : ¬ IsRefusal units 9 [] (Start 1 Source []) NoSuch
not_there is = is.breaks (omega arith, tt)

not_the_first : ¬ IsRefusal units 9 [] (Start 2 Source []) NotReleased
not_the_first is = is.first NoSuch (omega arith) (λ range. omega (arith, range.0))

-- The verdicts: finished or not, and the first entry that is refused.
abbrev no_tasks : NetRows
no_tasks = record { tasks = []; edges = []; sems = [] }

nothing_to_do : Complete no_tasks 9 []
nothing_to_do = record { none_open = tt; sources = tt; weak = tt; strong = tt; limited = λ some. absurd (some refl) }

finished : IsVerdict no_tasks 9 [] Finished
finished = (tt, nothing_to_do)

finished_is_told : ¬ IsVerdict no_tasks 9 [] Legal
finished_is_told is = is.1 nothing_to_do

not_finished : ¬ IsVerdict units 9 [] Finished
not_finished is = let one : 0 ≡ 1 = is.1.sources.0 refl in absurd (omega (arith, one))

breaks_at_once : IsVerdict units 9 (Start 2 Source [] ∷ []) (BreaksAt 0 NoSuch)
breaks_at_once = (tt, no_such_task)

no_entry_to_refuse : ¬ IsVerdict units 9 [] (BreaksAt 0 NoSuch)
no_entry_to_refuse is = is.1

legal_is_no_break : ¬ IsVerdict units 9 (Start 1 Source [] ∷ []) (BreaksAt 0 NoSuch)
legal_is_no_break is = not_there is.1
