-- The definitions over runs, computed on small ones.
use Rattle.std.proofs.Common.{◌≡◌, ℕ, ◌+◌, List, [], ◌∷◌, true, false, Option, Some, None, length, map, refl, sym, ap, ◌∙◌, arith}
use Rattle.std.specs.Prelude.{pos, negsuc, ◌==◌, if◌then◌else◌}
use Rattle.std.specs.Arc.{arc_value}
use Rattle.std.specs.Global.{Global}
use Rattle.std.specs.declared.sync.Arc.{Arc}
use Rattle.task_graph.specs.NetRows.{NetRows}
use Rattle.task_graph.specs.declared.net.Shape.TheVariants.{Plain, Choice, Many, Nested}
use Rattle.task_graph.specs.declared.net.TaskRow.{TaskRow}
use Rattle.journal_rules.specs.declared.entry.Cause.{Cause}
use Rattle.journal_rules.specs.declared.entry.Cause.TheVariants.{Source, Strong, Weak}
use Rattle.journal_rules.specs.DataRule.{edges_of}
use Rattle.journal_rules.specs.declared.entry.Part.TheVariants.{From, First, Nothing}
use Rattle.journal_rules.specs.declared.entry.Why.TheVariants.{Long, Wide, Unmet, Inner, OverRelease}
use Rattle.journal_rules.specs.declared.entry.DropWhy.TheVariants.{Limit, Stuck}
use Rattle.journal_rules.specs.declared.entry.Entry.{Entry}
use Rattle.journal_rules.specs.declared.entry.Entry.TheVariants.{Start, End, Fault, Drop}
use Rattle.join_words.specs.Ins.{InputValue, value, first, nothing}
use Rattle.run_frame.specs.declared.job.Answer.TheVariants.{All, None as NoneOf, Indices}
use Rattle.run_frame.specs.declared.job.Done.{Done}
use Rattle.run_frame.specs.declared.job.Done.TheVariants.{Value, Inner as InnerJob}
use Rattle.run_frame.specs.declared.run.ValueRow.{ValueRow}
use Rattle.run_frame.specs.declared.run.FrameRun.{FrameRun, out-FrameRun}
use Rattle.run_frame.specs.declared.job.JobError.TheVariants.{Fault as FaultOf, NoMemory}
use Rattle.run_frame.specs.Meaning.{Meaning, FitsShape, DoneFits, AnswerFits, IsCauseOf, IsRelease, ErrorAllowed, IsOwnWhy}
use Rattle.run_frame.specs.LastEnds.{last_end}
use Rattle.run_frame.specs.Runs.{value_at, found_ins, IsFine}
use Rattle.run_frame.specs.Rows.{RowsFit, ends_from}
use Rattle.run_frame.specs.WorkRule.{WorkRule, gives_of}
use Rattle.run_frame.specs.NestedRule.{NestedRule, job_of, journal_of}

-- Jobs that are numbers. A task of job j gives j and all that it finds, added up, to all its successors, or hands
-- on that number as a job, and may fault with its own number as a length. A run of job j is gathered to j, or to
-- a fault that is j wide.
abbrev added : List (InputValue ℕ) → ℕ
added [] = 0
added (value n ∷ found) = n + added found
added (none ∷ found) = added found

abbrev task : TaskRow
task = record { shape = Plain; takes = []; puts = [] }

abbrev net : NetRows
net = record { tasks = task ∷ task ∷ []; edges = (record { from = 0; to = 1; start = false }) ∷ []; sems = [] }

abbrev may_answer : ℕ → ℕ → List (InputValue ℕ) → Done ℕ ℕ → Type 0
may_answer j t found (Value n answer) = (n ≡ j + added found) × (answer ≡ All)
may_answer j t found (InnerJob k) = k ≡ j + added found

abbrev numbers : Meaning ℕ ℕ
numbers = record {
  net = λ j. net;
  limit = λ j. 2;
  answers = may_answer;
  faults = λ j t found why. why ≡ Long t;
  gathers = λ j run n. n ≡ j;
  gather_faults = λ j run why. why ≡ Wide j;
  follows = λ j run k. k ≡ j + 1;
}

-- the same, but that a task always hands on a job, or that gathering may name any fault
abbrev hands_on : ℕ → ℕ → List (InputValue ℕ) → Done ℕ ℕ → Type 0
hands_on j t found (Value n answer) = ⊥
hands_on j t found (InnerJob k) = Unit {0}

abbrev handing_on : Meaning ℕ ℕ
handing_on = record numbers { answers = hands_on }

abbrev any_gather : Meaning ℕ ℕ
any_gather = record numbers { gather_faults = λ j run why. Unit {0} }

-- the first task started
abbrev begun : List Entry
begun = Start 0 Source [] ∷ []

-- the first task ended with a value, at place 1, and the second found that value
abbrev second_begun : List Entry
second_begun = Start 0 Source [] ∷ End 0 (0 ∷ []) false ∷ Start 1 Strong (From 1 ∷ []) ∷ []

-- Which answers fit a shape: all edges a task that doesn't choose, indices one that does, and one index a choice.
all_of_plain : FitsShape Plain All
all_of_plain = tt

index_of_plain : ¬ FitsShape Plain (Indices (pos 0 ∷ []))
index_of_plain is = is

all_of_choice : ¬ FitsShape Choice All
all_of_choice is = is

one_index : FitsShape Choice (Indices (pos 4 ∷ []))
one_index = refl

no_index : ¬ FitsShape Choice (Indices [])
no_index is = absurd (omega (arith, is))

two_indices : ¬ FitsShape Choice (Indices (pos 4 ∷ pos 6 ∷ []))
two_indices is = absurd (omega (arith, is))

all_of_many : ¬ FitsShape Many All
all_of_many is = is

indices_of_many : FitsShape Many (Indices (pos 4 ∷ pos 6 ∷ []))
indices_of_many = tt

all_of_nested : FitsShape Nested All
all_of_nested = tt

index_of_nested : ¬ FitsShape Nested (Indices (pos 0 ∷ []))
index_of_nested is = is

-- No edge fits each shape.
none_of_plain : FitsShape Plain NoneOf
none_of_plain = tt

none_of_choice : FitsShape Choice NoneOf
none_of_choice = tt

none_of_many : FitsShape Many NoneOf
none_of_many = tt

none_of_nested : FitsShape Nested NoneOf
none_of_nested = tt

-- Only a nested task answers with a job.
nested_job : DoneFits {J = ℕ} {V = ℕ} Nested (InnerJob 7)
nested_job = refl

plain_job : ¬ DoneFits {J = ℕ} {V = ℕ} Plain (InnerJob 7)
plain_job is = absurd (cc)

choosing_job : ¬ DoneFits {J = ℕ} {V = ℕ} Choice (InnerJob 7)
choosing_job is = absurd (cc)

value_by_shape : ¬ DoneFits {J = ℕ} {V = ℕ} Many (Value 7 All)
value_by_shape is = is

-- An answer is held to the shape of its own task; a number that is no task's may answer anything.
abbrev choice_then_plain : NetRows
choice_then_plain = record {
  tasks = record { shape = Choice; takes = []; puts = [] } ∷ task ∷ [];
  edges = record { from = 0; to = 1; start = false } ∷ record { from = 1; to = 0; start = false } ∷ record { from = 1; to = 1; start = true } ∷ [];
  sems = [];
}

plain_answers_all : AnswerFits {J = ℕ} {V = ℕ} choice_then_plain 1 (Value 7 All)
plain_answers_all = tt

choice_answers_all : ¬ AnswerFits {J = ℕ} {V = ℕ} choice_then_plain 0 (Value 7 All)
choice_answers_all is = is

no_task_answers : AnswerFits {J = ℕ} {V = ℕ} choice_then_plain 2 (Value 7 All)
no_task_answers = tt

-- The inputs of a start have one part for each edge of some cause by which its task can be released: task 1 there by
-- its two strong in-edges or by its weak one, task 0 by its strong in-edge, a source by none.
by_two_edges : IsRelease choice_then_plain 1 1
by_two_edges = record { in_range = omega arith; cause = Strong; can_release = λ none. absurd (cc); size = refl }

by_weak_edge : IsRelease choice_then_plain 1 1
by_weak_edge = record { in_range = omega arith; cause = Weak 0; can_release = (refl, refl); size = refl }

not_without_parts : ¬ IsRelease choice_then_plain 1 0
not_without_parts is = by_cause is.cause is.can_release is.size
  where
    by_cause : (cause : Cause) → IsCauseOf choice_then_plain 1 cause → 0 ≡ length (edges_of choice_then_plain 1 cause) → ⊥
    by_cause Source can size = absurd (cc)
    by_cause Strong can size = absurd (omega (arith, size))
    by_cause (Weak e) can size = absurd (omega (arith, size))

source_has_none : IsRelease net 0 0
source_has_none = record { in_range = omega arith; cause = Source; can_release = refl; size = refl }

no_task_released : ¬ IsRelease net 2 0
no_task_released is = absurd (omega (arith, is.in_range))

no_strong_release_of_source : ¬ IsCauseOf net 0 Strong
no_strong_release_of_source is = is refl

strong_edge_is_no_weak_cause : ¬ IsCauseOf choice_then_plain 0 (Weak 1)
strong_edge_is_no_weak_cause is = absurd (cc)

weak_edge_of_another : ¬ IsCauseOf choice_then_plain 0 (Weak 0)
weak_edge_of_another is = absurd (omega (arith, is.1))

edge_past_the_end : ¬ IsCauseOf choice_then_plain 0 (Weak 3)
edge_past_the_end is = is.1

-- A fault that an error names is one that the job may name on what it found; an allocation may always fail.
named_fault : ErrorAllowed numbers 2 1 [] (FaultOf (Long 1))
named_fault = refl

other_named_fault : ¬ ErrorAllowed numbers 2 1 [] (FaultOf (Long 2))
other_named_fault is = absurd (cc)

no_memory : ErrorAllowed numbers 2 1 [] NoMemory
no_memory = tt

-- The work's own faults tell of no inner run and of no unit.
own_long : IsOwnWhy (Long 0)
own_long = tt

own_wide : IsOwnWhy (Wide 0)
own_wide = tt

own_unmet : IsOwnWhy (Unmet 0)
own_unmet = tt

not_own_inner : ¬ IsOwnWhy Inner
not_own_inner is = is

not_own_unit : ¬ IsOwnWhy (OverRelease 0)
not_own_unit is = is

-- What an answer gives: all edges, none, or those at its indices, each once and none out of range.
all_given : gives_of (4 ∷ 6 ∷ []) All ≡ 4 ∷ 6 ∷ []
all_given = refl

none_given : gives_of (4 ∷ 6 ∷ []) NoneOf ≡ []
none_given = refl

chosen_given : gives_of (4 ∷ 6 ∷ []) (Indices (pos 1 ∷ pos 5 ∷ negsuc 0 ∷ pos 0 ∷ pos 1 ∷ [])) ≡ 6 ∷ 4 ∷ []
chosen_given = refl

-- A run is fine with nothing cut short: without a fault, and without a drop at the limit or for want of a unit.
fine : IsFine begun
fine = record { no_fault = refl; none_limited = refl; none_stuck = refl }

not_fine_faulted : ¬ IsFine (Start 0 Source [] ∷ Fault 0 (Long 7) ∷ [])
not_fine_faulted is = absurd (cc)

not_fine_limited : ¬ IsFine (Drop 0 Source Limit ∷ [])
not_fine_limited is = absurd (cc)

not_fine_stuck : ¬ IsFine (Drop 0 Source (Stuck 0) ∷ [])
not_fine_stuck is = absurd (cc)

-- The claims below speak of two values, at the places 1 and 3, and of a run that some start made.
module _ (five ten : Arc ℕ Global) (run : FrameRun ℕ ℕ) where
  abbrev rows : List (ValueRow ℕ)
  rows = record { place = 1; value = five } ∷ record { place = 3; value = ten } ∷ []

  abbrev no_run : ℕ → Option (FrameRun ℕ ℕ)
  no_run n = None

  abbrev the_run : ℕ → Option (FrameRun ℕ ℕ)
  the_run n = Some run

  -- A value stands at its row's place, and at no other.
  second_value : value_at rows 3 ≡ Some (arc_value ten)
  second_value = refl

  no_value : value_at rows 2 ≡ None
  no_value = refl

  -- Of two rows of one place the first counts.
  first_value : value_at (record { place = 1; value = ten } ∷ rows) 1 ≡ Some (arc_value ten)
  first_value = refl

  -- An End without a value is found as nothing.
  found_without_value : found_ins rows (From 2 ∷ []) ≡ nothing ∷ []
  found_without_value = refl

  -- Two values of a run with one End don't fit it.
  one_value_too_many : (out-FrameRun ℕ ℕ run).values ≡ rows → journal_of run ≡ second_begun → ¬ RowsFit run
  one_value_too_many values journal fit =
      let same : 1 ∷ 3 ∷ [] ≡ 1 ∷ [] = ap (map (λ (row : ValueRow ℕ). row.place)) (sym values) ∙ fit.values ∙ ap (ends_from 0) journal in
      let two_is_one : 2 ≡ 1 = ap length same in
      absurd (omega (arith, two_is_one))

  -- What is found: the value of an end, the token of the beginning, nothing.
  three_parts : found_ins rows (From 1 ∷ First ∷ Nothing ∷ []) ≡ value (arc_value five) ∷ first ∷ nothing ∷ []
  three_parts = refl

  -- An end's value is what the work may answer on what its start found: the job's number and that value.
  second_end : arc_value ten ≡ 2 + (arc_value five + 0) → WorkRule numbers 2 rows no_run second_begun (End 2 [] false)
  second_end sum = record { answer = All; allowed = (sum, refl); chosen = refl }

  wrong_value : arc_value ten ≡ 3 + arc_value five → ¬ WorkRule numbers 2 rows no_run second_begun (End 2 [] false)
  wrong_value sum is = absurd (omega (arith, sum, is.allowed.0))

  -- An end without a value breaks the rule, and so does one that gives other edges than its answer.
  end_without_value : ¬ WorkRule numbers 2 rows no_run (Start 0 Source [] ∷ Start 1 Strong [] ∷ []) (End 0 (0 ∷ []) false)
  end_without_value is = is

  edge_held_back : ¬ WorkRule numbers 2 rows no_run begun (End 0 [] false)
  edge_held_back is = let given = ap (gives_of (0 ∷ [])) is.allowed.1 in absurd (cc)

  -- It is held to the start that it closes, and to no entry that is none.
  end_of_an_end : ¬ WorkRule numbers 2 rows no_run (second_begun) (End 1 [] false)
  end_of_an_end is = is

  end_of_nothing : ¬ WorkRule numbers 2 rows no_run second_begun (End 3 [] false)
  end_of_nothing is = is

  end_of_first : ¬ (arc_value ten ≡ 2) → ¬ WorkRule numbers 2 rows no_run second_begun (End 0 (0 ∷ []) false)
  end_of_first other is = other is.allowed.0

  -- A start and a drop do no work, nor does an inner end.
  start_works : WorkRule numbers 2 rows no_run [] (Start 0 Source [])
  start_works = tt

  drop_works : WorkRule numbers 2 rows no_run [] (Drop 0 Source Limit)
  drop_works = tt

  inner_end_works : WorkRule numbers 2 [] no_run begun (End 0 [] true)
  inner_end_works = tt

  -- A fault without a run is one that the work may name, and never tells of an inner run.
  own_fault : WorkRule numbers 2 rows no_run begun (Fault 0 (Long 0))
  own_fault = refl

  other_fault : ¬ WorkRule numbers 2 rows no_run begun (Fault 0 (Long 7))
  other_fault is = absurd (cc)

  fault_of_inner : ¬ WorkRule numbers 2 rows no_run begun (Fault 0 Inner)
  fault_of_inner is = is

  -- One that tells of a unit stands in place of a value that the work has answered: a task that answers with a job
  -- can't be closed so.
  unit_fault : WorkRule numbers 2 rows no_run begun (Fault 0 (OverRelease 0))
  unit_fault = record { value = 2; answer = All; allowed = (refl, refl) }

  unit_fault_of_nested : ¬ WorkRule handing_on 2 rows no_run begun (Fault 0 (OverRelease 0))
  unit_fault_of_nested is = is.allowed

  -- A fault beside a run is held to the run alone.
  fault_beside_run : WorkRule numbers 2 rows the_run begun (Fault 0 (Long 7))
  fault_beside_run = tt

  wide_fault : ¬ WorkRule numbers 2 rows no_run begun (Fault 0 (Wide 0))
  wide_fault is = absurd (cc)

  unmet_fault : ¬ WorkRule numbers 2 rows no_run begun (Fault 0 (Unmet 0))
  unmet_fault is = absurd (cc)

  fault_of_an_end : ¬ WorkRule numbers 2 rows no_run second_begun (Fault 1 (Long 0))
  fault_of_an_end is = is

  fault_of_a_drop : ¬ WorkRule numbers 2 rows no_run (Drop 0 Source Limit ∷ []) (Fault 0 (Long 0))
  fault_of_a_drop is = is

  -- An inner end has a run: of the job that was answered, fine, and gathered to its value.
  inner_end : job_of run ≡ 2 → IsFine (journal_of run) → arc_value five ≡ 2 → NestedRule numbers 2 rows the_run begun (End 0 (0 ∷ []) true)
  inner_end job calm is = record { answered = job; fine = calm; gathered = cc; all_edges = refl }

  inner_end_holds_back : ¬ NestedRule numbers 2 rows the_run begun (End 0 [] true)
  inner_end_holds_back is = absurd (cc)

  inner_end_without_run : ¬ NestedRule numbers 2 rows no_run begun (End 0 (0 ∷ []) true)
  inner_end_without_run is = is

  inner_end_of_other_job : job_of run ≡ 3 → ¬ NestedRule numbers 2 rows the_run begun (End 0 (0 ∷ []) true)
  inner_end_of_other_job job is = absurd (cc)

  inner_end_not_fine : ¬ IsFine (journal_of run) → ¬ NestedRule numbers 2 rows the_run begun (End 0 (0 ∷ []) true)
  inner_end_not_fine broken is = broken is.fine

  inner_end_not_gathered : job_of run ≡ 2 → arc_value five ≡ 3 → ¬ NestedRule numbers 2 rows the_run begun (End 0 (0 ∷ []) true)
  inner_end_not_gathered job other is = absurd (cc)

  -- No other end has a run, and no start.
  plain_end_with_run : ¬ NestedRule numbers 2 rows the_run begun (End 0 (0 ∷ []) false)
  plain_end_with_run is = is

  start_with_run : ¬ NestedRule numbers 2 rows the_run [] (Start 0 Source [])
  start_with_run is = absurd (cc)

  drop_with_run : ¬ NestedRule numbers 2 rows the_run [] (Drop 0 Source Limit)
  drop_with_run is = absurd (cc)

  -- A fault tells of its run where that isn't fine, and there alone.
  inner_fault : job_of run ≡ 2 → ¬ IsFine (journal_of run) → NestedRule numbers 2 rows the_run begun (Fault 0 Inner)
  inner_fault job broken = (job, broken)

  inner_fault_of_fine : IsFine (journal_of run) → ¬ NestedRule numbers 2 rows the_run begun (Fault 0 Inner)
  inner_fault_of_fine calm is = is.1 calm

  -- Of a run that is fine a fault is one that gathering it may name.
  gather_fault : job_of run ≡ 2 → IsFine (journal_of run) → NestedRule numbers 2 rows the_run begun (Fault 0 (Wide 2))
  gather_fault job calm = (job, (calm, cc))

  no_gather_fault : ¬ NestedRule numbers 2 rows the_run begun (Fault 0 (Long 0))
  no_gather_fault is = absurd (cc)

  -- So for each why of the work's own; one that tells of a unit needs a run that is fine, and no more.
  gather_fault_needs_fine : ¬ IsFine (journal_of run) → ¬ NestedRule numbers 2 rows the_run begun (Fault 0 (Wide 2))
  gather_fault_needs_fine broken is = broken is.1.0

  long_needs_fine : ¬ IsFine (journal_of run) → ¬ NestedRule any_gather 2 rows the_run begun (Fault 0 (Long 2))
  long_needs_fine broken is = broken is.1.0

  unmet_needs_fine : ¬ IsFine (journal_of run) → ¬ NestedRule any_gather 2 rows the_run begun (Fault 0 (Unmet 2))
  unmet_needs_fine broken is = broken is.1.0

  no_unmet_fault : ¬ NestedRule numbers 2 rows the_run begun (Fault 0 (Unmet 0))
  no_unmet_fault is = absurd (cc)

  no_wide_fault : job_of run ≡ 2 → ¬ NestedRule numbers 2 rows the_run begun (Fault 0 (Wide 3))
  no_wide_fault job is = absurd (cc)

  unit_fault_beside_run : job_of run ≡ 2 → IsFine (journal_of run) → NestedRule numbers 2 rows the_run begun (Fault 0 (OverRelease 0))
  unit_fault_beside_run job calm = (job, calm)

  unit_fault_needs_fine : ¬ IsFine (journal_of run) → ¬ NestedRule numbers 2 rows the_run begun (Fault 0 (OverRelease 0))
  unit_fault_needs_fine broken is = broken is.1

  -- The run beside a fault is of the job that was answered, on the work of the start that the fault closes.
  fault_of_other_job : job_of run ≡ 3 → ¬ NestedRule numbers 2 rows the_run begun (Fault 0 Inner)
  fault_of_other_job job is = absurd (cc)

  -- It is the run at the place of the fault, and not at that of the start.
  abbrev run_at_end : ℕ → Option (FrameRun ℕ ℕ)
  run_at_end n = if n == 1 then Some run else None

  fault_has_its_own_run : job_of run ≡ 3 → ¬ NestedRule numbers 2 rows run_at_end begun (Fault 0 Inner)
  fault_has_its_own_run job is = absurd (cc)

  fault_of_no_start : ¬ NestedRule numbers 2 rows the_run begun (Fault 1 Inner)
  fault_of_no_start is = is

  inner_end_without_value : ¬ NestedRule numbers 2 [] the_run begun (End 0 (0 ∷ []) true)
  inner_end_without_value is = is

  inner_end_of_no_start : ¬ NestedRule numbers 2 rows the_run begun (End 1 (0 ∷ []) true)
  inner_end_of_no_start is = is

  -- Without a run a fault, a plain end, a start and a drop are nothing to this rule.
  fault_without_run : NestedRule numbers 2 rows no_run begun (Fault 0 (Long 7))
  fault_without_run = tt

  plain_end_without_run : NestedRule numbers 2 rows no_run begun (End 0 [] false)
  plain_end_without_run = tt

  start_without_run : NestedRule numbers 2 rows no_run [] (Start 0 Source [])
  start_without_run = refl

  drop_without_run : NestedRule numbers 2 rows no_run [] (Drop 0 Source Limit)
  drop_without_run = refl

-- The last End of a task: the later of two, that of its own start, and none where there is none.
abbrev twice : List Entry
twice = Start 0 Source [] ∷ Start 1 Strong [] ∷ End 1 [] false ∷ End 0 [] false ∷ Start 1 Strong [] ∷ End 4 [] false ∷ Start 0 Source [] ∷ Fault 6 (Long 0) ∷ []

later_end : last_end twice 1 ≡ Some 5
later_end = refl

own_end : last_end twice 0 ≡ Some 3
own_end = refl

no_end : last_end twice 2 ≡ None
no_end = refl

ends_of_both : ends_from 0 twice ≡ 2 ∷ 3 ∷ 5 ∷ []
ends_of_both = refl

-- A fault and a drop have their places too.
ends_behind_others : ends_from 0 (Fault 9 Inner ∷ End 9 [] false ∷ Drop 0 Source Limit ∷ End 9 [] true ∷ []) ≡ 1 ∷ 3 ∷ []
ends_behind_others = refl
