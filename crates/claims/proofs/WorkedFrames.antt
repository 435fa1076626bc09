-- What works may come to, and what the steps of frames do, computed on small ones.
use Rattle.std.proofs.Common.{◌≡◌, ◌≢◌, ℕ, zero, suc, ◌+◌, ◌≤◌, true, false, List, [], ◌∷◌, ◌++◌, length, map, Option, Some, None, inl, inr, refl, ap, sym, subst, ◌∙◌, arith}
use Rattle.std.specs.Arc.{arc_value, arc_with_value}
use Rattle.std.specs.Borrow.{Bor}
use Rattle.std.specs.Global.{Global}
use Rattle.std.specs.declared.sync.Arc.{Arc}
use Rattle.std.specs.declared.snapshot.Snapshot.{Snapshot}
use Rattle.std.specs.declared.vec.Vec.{Vec}
use Rattle.std.specs.Prelude.{◌⊎◌, min, All, slice_get}
use Rattle.std.proofs.lemmas.List.{length-append, length-map}
use Rattle.std.proofs.lemmas.List.Elements.{All-from_recursion, All-head}
use Rattle.std.proofs.lemmas.Option.{none-some}
use Rattle.atomic_table.specs.Seated.{TableId}
use Rattle.task_graph.specs.NetRows.{NetRows}
use Rattle.task_graph.specs.declared.net.Shape.{Shape}
use Rattle.task_graph.specs.declared.net.Shape.TheVariants.{Plain, Choice, Nested}
use Rattle.task_graph.specs.declared.net.TaskRow.{TaskRow}
use Rattle.task_graph.specs.declared.net.EdgeRow.{EdgeRow}
use Rattle.journal_rules.specs.declared.entry.Cause.TheVariants.{Source, Strong}
use Rattle.journal_rules.specs.declared.entry.Part.TheVariants.{From}
use Rattle.journal_rules.specs.declared.entry.Why.{Why}
use Rattle.journal_rules.specs.declared.entry.Why.TheVariants.{Long, Wide, Unmet, Inner, OverRelease}
use Rattle.journal_rules.specs.declared.entry.DropWhy.TheVariants.{Halted, Limit, Stuck}
use Rattle.journal_rules.specs.declared.entry.Entry.{Entry}
use Rattle.journal_rules.specs.declared.entry.Entry.TheVariants.{Start, End, Fault, Drop}
use Rattle.join_words.specs.Ins.{InputValue, value, parts_of, found_of}
use Rattle.join_words.specs.declared.ins.Ins.{Ins}
use Rattle.table_steps.specs.OneJournal.{AreInOneJournal}
use Rattle.join_tables.specs.Parts.{parts_in}
use Rattle.join_words.specs.declared.ins.Given.{Given}
use Rattle.join_words.specs.declared.ins.Given.TheVariants as given
use Rattle.join_tables.specs.States.{FreshState, TurnState, fresh_state, turn_with}
use Rattle.join_tables.specs.Keeping.{KeeperState, keeper_state, drop_of, start_of, with_places}
use Rattle.join_tables.specs.declared.parts.FoundParts.{FoundParts}
use Rattle.join_tables.specs.declared.turns.EndedStart.{EndedStart}
use Rattle.join_tables.specs.declared.fates.Failure.{Failure}
use Rattle.join_tables.specs.declared.fates.Dropping.{Dropping}
use Rattle.join_tables.specs.declared.fates.Fate.{Fate}
use Rattle.join_tables.specs.declared.fates.Fate.TheVariants.{Ended, Faulted, Dropped, AllDropped}
use Rattle.semaphore_turns.specs.Settlements.{AreDrops}
use Rattle.semaphore_turns.specs.WokenTurns.{WaitedFor}
use Rattle.run_frame.specs.declared.job.Answer.TheVariants.{All as Each}
use Rattle.run_frame.specs.declared.job.Done.{Done}
use Rattle.run_frame.specs.declared.job.Done.TheVariants.{Value, Inner as InnerJob}
use Rattle.run_frame.specs.declared.job.JobError.TheVariants.{Fault as FaultOf, NoMemory as NoMemoryOf}
use Rattle.run_frame.specs.declared.run.ValueRow.{ValueRow}
use Rattle.run_frame.specs.declared.run.FrameRun.{FrameRun}
use Rattle.run_frame.specs.Meaning.{Meaning, ErrorAllowed, GatherErrorAllowed}
use Rattle.run_frame.specs.Runs.{IsFine}
use Rattle.run_frame.specs.LastEnds.{last_before, last_value}
use Rattle.run_frame.specs.WorkRule.{WorkRule, gives_of}
use Rattle.run_frame.specs.NestedRule.{NestedRule, job_of, journal_of}
use Rattle.run_frame.specs.Legal.{IsKept}
use Rattle.nested_runs.specs.Totals.{all_spans}
use Rattle.span_book.specs.SpanBooks.{TallyState, tally_state, teller_state}
use Rattle.table_runs.specs.AllowedFates.{IsAllowed, work_with}
use Rattle.table_runs.specs.RunKeys.{FrameKey, key_of, table_in}
use Rattle.table_frames.specs.Frames.{ReleaseView, BacklogView, release_in, root_frame, root_job, depth_of, book_of, IsTellerOf, IsAccounted, frames_around, IsInnermost, AtFrame, HasTable, backlog_view, MayTake}
use Rattle.table_frames.specs.Holders.{HoldsRelease}
use Rattle.table_runs.specs.StepReleases.{IsFateOf, given_by, release_of, AreMadeBy, GivesEdges, MayRelease, Uses}
use Rattle.table_runs.specs.JournalFacts.{IsInJournal, HasEntries}
use Rattle.table_frames.specs.Steps.{IsRootRun, IsStateOf, IsClosed, BeginsFrame, units_of, UsesRelease, UsesAtOnce, ParksRelease, OpensInner, StepsTo, StepsRelease}
use Rattle.table_runs.specs.Openings.{HasNoFirst, IsOverAtOnce}
use Rattle.table_frames.specs.BacklogResults.{TakesIn, MayTakeIn, ResumesStart, ClosesRun, IsFrameOf, BringsTo, IsOver, BringsFates, IsLeftOf, DropsParked, SettlesFrame}
use Rattle.table_frames.specs.declared.closed_run.ClosedRun.{ClosedRun}
use Rattle.table_frames.specs.declared.release.HeldBy.TheVariants as held
use Rattle.table_frames.specs.declared.step_results.Brought.{Brought}
use Rattle.table_frames.specs.declared.step_results.State.TheVariants.{Went, Parked, Inner as HasInner, Resumed, Closed}
use Rattle.table_frames.specs.declared.step_results.Stepped.{Stepped}

abbrev free : Shape → TaskRow
free shape = record { shape = shape; takes = []; puts = [] }

abbrev edge : ℕ → ℕ → EdgeRow
edge from to = record { from = from; to = to; start = false }

-- a plain task that leads to a nested one, and that to a plain one
abbrev line : NetRows
line = record { tasks = free Plain ∷ free Nested ∷ free Plain ∷ []; edges = edge 0 1 ∷ edge 1 2 ∷ []; sems = [] }

-- Jobs that are numbers. What a task of a job comes to is the number of the job, that of the task, and all that it has
-- found, added up: as a value, as a job that it hands on, or as the number of a fault.
abbrev added : List (InputValue ℕ) → ℕ
added [] = 0
added (value n ∷ found) = n + added found
added (none ∷ found) = added found

abbrev may_answer : ℕ → ℕ → List (InputValue ℕ) → Done ℕ ℕ → Type 0
may_answer j t found (Value n answer) = (n ≡ j + t + added found) × (answer ≡ Each)
may_answer j t found (InnerJob k) = k ≡ j + t + added found

abbrev may_fault : ℕ → ℕ → List (InputValue ℕ) → Why → Type 0
may_fault j t found (Long n) = n ≡ j + t + added found
may_fault j t found (Wide n) = n ≡ j + t + added found
may_fault j t found (Unmet n) = n ≡ j + t + added found
may_fault j t found Inner = ⊥
may_fault j t found (OverRelease s) = ⊥

abbrev sums : Meaning ℕ ℕ
sums = record {
  net = λ j. line;
  limit = λ j. j + 2;
  answers = may_answer;
  faults = may_fault;
  gathers = λ j run n. n ≡ j;
  gather_faults = λ j run why. may_fault j 0 [] why;
  follows = λ j run k. k ≡ j + 1;
}

-- the same, but that task 0 answers a value and each other task a job; or that a task answers a value where it has
-- found something, and nothing else
abbrev first_answers : ℕ → ℕ → List (InputValue ℕ) → Done ℕ ℕ → Type 0
first_answers j zero found (Value n answer) = Unit {0}
first_answers j zero found (InnerJob k) = ⊥
first_answers j (suc t) found (Value n answer) = ⊥
first_answers j (suc t) found (InnerJob k) = Unit {0}

abbrev first_alone : Meaning ℕ ℕ
first_alone = record sums { answers = first_answers }

abbrev finders_answer : ℕ → ℕ → List (InputValue ℕ) → Done ℕ ℕ → Type 0
finders_answer j t [] done = ⊥
finders_answer j t (x ∷ found) (Value n answer) = Unit {0}
finders_answer j t (x ∷ found) (InnerJob k) = ⊥

abbrev finders : Meaning ℕ ℕ
finders = record sums { answers = finders_answer }

-- An error is one that the task may name on what it found.
error_of_what_was_found : ErrorAllowed sums 2 1 (value 7 ∷ []) (FaultOf (Long 10)) × ¬ ErrorAllowed sums 2 1 (value 7 ∷ []) (FaultOf (Long 3))
error_of_what_was_found = (refl, λ is. absurd (omega (arith, is)))

-- gathering may name the job's number as a fault of one kind
abbrev gathering : (ℕ → Why) → Meaning ℕ ℕ
gathering kind = record sums { gather_faults = λ j run why. why ≡ kind j }

-- an error of gathering is one that it may name, or tells of an allocation
error_of_gathering : (run : FrameRun ℕ ℕ) → GatherErrorAllowed (gathering Wide) 2 run (FaultOf (Wide 2)) × ¬ GatherErrorAllowed (gathering Wide) 2 run (FaultOf (Wide 3)) × ¬ GatherErrorAllowed (gathering Wide) 2 run (FaultOf (Long 2)) × GatherErrorAllowed (gathering Wide) 2 run NoMemoryOf
error_of_gathering run = (refl, (λ is. absurd (cc)), (λ is. absurd (cc)), tt)

-- a task may name what is its own, and what it found, as a fault of one kind
abbrev faulting : (ℕ → Why) → Meaning ℕ ℕ
faulting kind = record sums { faults = λ j t found why. why ≡ kind (j + t + added found) }

-- the first task was started
abbrev first_begun : List Entry
first_begun = Start 0 Source [] ∷ []

-- the nested task was started, and found the value of the first
abbrev second_begun : List Entry
second_begun = Start 0 Source [] ∷ End 0 (0 ∷ []) false ∷ Start 1 Strong (From 1 ∷ []) ∷ []

-- The claims below speak of two values, at the places 1 and 3, and of a run that some start made.
module _ (five ten : Arc ℕ Global) (run : FrameRun ℕ ℕ) where
  abbrev rows : List (ValueRow ℕ)
  rows = record { place = 1; value = five } ∷ record { place = 3; value = ten } ∷ []

  abbrev no_run : ℕ → Option (FrameRun ℕ ℕ)
  no_run n = None

  abbrev the_run : ℕ → Option (FrameRun ℕ ℕ)
  the_run n = Some run

  -- The run beside an end is of the job that its task answers on what was found, and the end signals the edges of its
  -- own task.
  second_inner_end : job_of run ≡ 3 + (arc_value five + 0) → IsFine (journal_of run) → arc_value ten ≡ job_of run → NestedRule sums 2 rows the_run second_begun (End 2 (1 ∷ []) true)
  second_inner_end job fine gathered = record { answered = job; fine = fine; gathered = gathered; all_edges = refl }

  edges_of_the_first : ¬ NestedRule sums 2 rows the_run second_begun (End 2 (0 ∷ []) true)
  edges_of_the_first is = let same = is.all_edges in absurd (cc)

  nothing_found_by_the_second : arc_value five ≡ 7 → job_of run ≡ 3 → ¬ NestedRule sums 2 rows the_run second_begun (End 2 (1 ∷ []) true)
  nothing_found_by_the_second seven job is = absurd (omega (arith, seven, job, is.answered))

  run_of_what_was_found : arc_value five ≡ 7 → job_of run ≡ 3 → ¬ NestedRule sums 2 rows the_run second_begun (Fault 2 Inner)
  run_of_what_was_found seven job is = absurd (omega (arith, seven, job, is.0))

  -- Of a run that is fine a fault is of the kind that gathering it may name.
  gathered_to_its_kind : job_of run ≡ 2 → IsFine (journal_of run) → NestedRule (gathering Long) 2 rows the_run first_begun (Fault 0 (Long 2)) × NestedRule (gathering Unmet) 2 rows the_run first_begun (Fault 0 (Unmet 2))
  gathered_to_its_kind job fine = ((job, (fine, cc)), (job, (fine, cc)))

  gathered_to_another_kind : ¬ NestedRule (gathering Wide) 2 rows the_run first_begun (Fault 0 (Long 2)) × ¬ NestedRule (gathering Wide) 2 rows the_run first_begun (Fault 0 (Unmet 2)) × ¬ NestedRule (gathering Long) 2 rows the_run first_begun (Fault 0 (Wide 2))
  gathered_to_another_kind = (λ is. let same = is.1.1 in absurd (cc), λ is. let same = is.1.1 in absurd (cc), λ is. let same = is.1.1 in absurd (cc))

  -- A fault of each kind is one that the task may name on what it found.
  fault_of_what_was_found : arc_value five ≡ 7 → WorkRule sums 2 rows no_run second_begun (Fault 2 (Long 10)) × WorkRule sums 2 rows no_run second_begun (Fault 2 (Wide 10)) × WorkRule sums 2 rows no_run second_begun (Fault 2 (Unmet 10))
  fault_of_what_was_found seven = (omega (arith, seven), omega (arith, seven), omega (arith, seven))

  faults_by_their_kind : WorkRule (faulting Long) 2 rows no_run first_begun (Fault 0 (Long 2)) × WorkRule (faulting Wide) 2 rows no_run first_begun (Fault 0 (Wide 2)) × WorkRule (faulting Unmet) 2 rows no_run first_begun (Fault 0 (Unmet 2))
  faults_by_their_kind = (refl, refl, refl)

  faults_of_another_kind : ¬ WorkRule (faulting Wide) 2 rows no_run first_begun (Fault 0 (Long 2)) × ¬ WorkRule (faulting Long) 2 rows no_run first_begun (Fault 0 (Wide 2)) × ¬ WorkRule (faulting Wide) 2 rows no_run first_begun (Fault 0 (Unmet 2))
  faults_of_another_kind = (λ is. absurd (cc), λ is. absurd (cc), λ is. absurd (cc))

  fault_of_a_fault : ¬ WorkRule sums 2 rows no_run (Start 0 Source [] ∷ Fault 0 (Long 2) ∷ []) (Fault 1 (Long 2))
  fault_of_a_fault is = is

  fault_of_nothing_found : arc_value five ≡ 7 → ¬ WorkRule sums 2 rows no_run second_begun (Fault 2 (Long 3))
  fault_of_nothing_found seven is = absurd (omega (arith, seven, is))

  -- A fault that tells of a unit stands in place of a value that this task may answer, on what it found.
  unit_fault_of_the_second : ¬ WorkRule first_alone 2 rows no_run second_begun (Fault 2 (OverRelease 0))
  unit_fault_of_the_second is = is.allowed

  unit_fault_of_a_finder : WorkRule finders 2 rows no_run second_begun (Fault 2 (OverRelease 0))
  unit_fault_of_a_finder = record { value = 0; answer = Each; allowed = tt }

  unit_fault_without_inputs : ¬ WorkRule finders 2 rows no_run (Start 0 Source [] ∷ []) (Fault 0 (OverRelease 0))
  unit_fault_without_inputs is = is.allowed

  -- The value of a task's last end; and the last end before some place.
  abbrev twice : List Entry
  twice = Start 0 Source [] ∷ End 0 [] false ∷ Start 0 Source [] ∷ End 2 [] false ∷ Start 1 Strong [] ∷ []

  value_of_the_last_end : last_value twice rows 0 ≡ Some (arc_value ten)
  value_of_the_last_end = refl

  no_value_without_an_end : last_value twice rows 1 ≡ None
  no_value_without_an_end = refl

  drop_behind_an_end : (last_before (Start 0 Source [] ∷ End 0 [] false ∷ Drop 0 Source Limit ∷ []) 0 3 ≡ Some 1) × (last_before (Drop 0 Source Limit ∷ []) 0 1 ≡ None)
  drop_behind_an_end = (refl, refl)

  last_end_before : (last_before twice 0 3 ≡ Some 1) × (last_before twice 0 4 ≡ Some 3) × (last_before twice 0 1 ≡ None)
  last_end_before = (refl, refl, refl)

-- Two sources, of which the first leads to another task.
abbrev flat : NetRows
flat = record { tasks = free Plain ∷ free Plain ∷ free Plain ∷ []; edges = edge 0 1 ∷ []; sems = [] }

-- the jobs above, over this net and without jobs that are handed on
abbrev flat_answer : ℕ → ℕ → List (InputValue ℕ) → Done ℕ ℕ → Type 0
flat_answer j t found (Value n answer) = (n ≡ j + t + added found) × (answer ≡ Each)
flat_answer j t found (InnerJob k) = ⊥

abbrev flat_sums : Meaning ℕ ℕ
flat_sums = record sums { net = λ j. flat; answers = flat_answer }

-- no answer and no fault
abbrev mute : Meaning ℕ ℕ
mute = record flat_sums { answers = λ j t found done. ⊥; faults = λ j t found why. ⊥ }

-- a task that takes semaphore 0 and puts 1, and one that takes 1
abbrev shares : NetRows
shares = record { tasks = record { shape = Plain; takes = 0 ∷ []; puts = 1 ∷ [] } ∷ record { shape = Plain; takes = 1 ∷ []; puts = [] } ∷ []; edges = []; sems = 1 ∷ 2 ∷ [] }

abbrev share_sums : Meaning ℕ ℕ
share_sums = record flat_sums { net = λ j. shares }

-- A condition that leads to two tasks, of which the first leads to the second.
abbrev fork : NetRows
fork = record { tasks = free Choice ∷ free Plain ∷ free Plain ∷ []; edges = edge 0 1 ∷ edge 0 2 ∷ edge 1 2 ∷ []; sems = [] }

-- Frames of two tables, with a book of spans: one in no other, and one of another job inside it. There is another book.
module _ (n m b c : TableId) (other : m ≢ n) (foreign : c ≢ b) where
  abbrev key : FrameKey ℕ
  key = record { table = n; job = 2; book = Some b }

  abbrev own : List (FrameKey ℕ)
  own = key ∷ []

  abbrev inside : List (FrameKey ℕ)
  inside = record { table = m; job = 9; book = Some b } ∷ own

  outermost_frame : (root_frame inside ≡ Some key) × (root_frame own ≡ Some key) × (root_frame {J = ℕ} [] ≡ None)
  outermost_frame = (refl, refl, refl)

  job_of_the_outermost : (root_job inside ≡ Some 2) × (root_job own ≡ Some 2) × (root_job {J = ℕ} [] ≡ None)
  job_of_the_outermost = (refl, refl, refl)

  depths : (depth_of {J = ℕ} [] ≡ 0) × (depth_of own ≡ 0) × (depth_of inside ≡ 1)
  depths = (refl, refl, refl)

  deepest : (around : List (FrameKey ℕ)) → length around ≡ 4294967296 → depth_of (key ∷ around) ≡ 4294967295
  deepest around long = ap (λ k. min k 4294967295) long

  -- the book is that of the outermost, whatever the inmost has
  abbrev bookless : FrameKey ℕ → FrameKey ℕ
  bookless frame = record frame { book = None }

  -- the name in an option, or another
  abbrev name_in : TableId → Option TableId → TableId
  name_in k None = k
  name_in k (Some name) = name

  named : (k : TableId) {x y : TableId} → ◌≡◌ {A = Option TableId} (Some x) (Some y) → x ≡ y
  named k same = ap (name_in k) same

  book_of_the_outermost : (book_of own ≡ Some b) × (book_of (bookless key ∷ own) ≡ Some b) × (book_of (key ∷ bookless key ∷ []) ≡ None) × (book_of {J = ℕ} [] ≡ None)
  book_of_the_outermost = (refl, refl, refl, refl)

  teller_of_the_book : IsTellerOf inside (teller_state b 4) × ¬ IsTellerOf inside (teller_state c 4) × IsTellerOf {J = ℕ} [] (teller_state c 4)
  teller_of_the_book = (refl, foreign, tt)

  no_frame_around : frames_around {J = ℕ} None ≡ []
  no_frame_around = refl

  frames_of_the_parent : (parent : Arc (List (FrameKey ℕ)) Global) → arc_value parent ≡ inside → frames_around (Some parent) ≡ inside
  frames_of_the_parent parent is = is

  table_of_the_inmost : HasTable inside m × ¬ HasTable inside n × ¬ HasTable {J = ℕ} [] n
  table_of_the_inmost = (refl, (λ is. other (sym is)), λ is. is)

  inmost : IsInnermost key own × ¬ IsInnermost key inside × ¬ IsInnermost key []
  inmost = (refl, (λ is. other (ap (λ (k : FrameKey ℕ). k.table) is)), λ is. is)

  fact_of_the_inmost : AtFrame inside (λ frame. frame.job ≡ 9) × ¬ AtFrame inside (λ frame. frame.job ≡ 2) × ¬ AtFrame {J = ℕ} [] (λ frame. Unit {0})
  fact_of_the_inmost = (refl, (λ is. absurd (omega (arith, is))), λ is. is)

  table_with_its_net : ((table_in flat_sums key).table ≡ n) × ((table_in flat_sums key).net ≡ flat) × ((table_in flat_sums key).limit ≡ 4)
  table_with_its_net = (refl, refl, refl)

  release_of_a_frame : release_in own (fresh_state n 1 Strong) ≡ record { frames = own; task = 1; cause = Strong }
  release_of_a_frame = refl

  key_of_a_keeper : (keeper : KeeperState ℕ) → keeper.table ≡ n → key_of record { job = 2; keeper = keeper; inside = 5; book = Some b } ≡ key
  key_of_a_keeper keeper is = ap (λ (t : TableId). record key { table = t }) is

  -- What holds a release is a turn of its frame's own table, with its task and its cause.
  abbrev own_release : ReleaseView ℕ
  own_release = release_in own (fresh_state n 1 Strong)

  held_by_its_turn : (turn : Bor FreshState) → turn.now ≡ fresh_state n 1 Strong → HoldsRelease {V = ℕ} own_release (held.Fresh turn)
  held_by_its_turn turn is = (ap (λ (f : FreshState). f.table) is, ap (λ (f : FreshState). f.task) is, ap (λ (f : FreshState). f.cause) is)

  held_by_a_turn_of_another_task : (turn : Bor FreshState) → turn.now ≡ fresh_state n 2 Strong → ¬ HoldsRelease {V = ℕ} own_release (held.Fresh turn)
  held_by_a_turn_of_another_task turn is holds = absurd (omega (arith, ap (λ (f : FreshState). f.task) is, holds.1))

  held_by_a_turn_of_another_cause : (turn : Bor FreshState) → turn.now ≡ fresh_state n 1 Source → ¬ HoldsRelease {V = ℕ} own_release (held.Fresh turn)
  held_by_a_turn_of_another_cause turn is holds = let no : Source ≡ Strong = sym (ap (λ (f : FreshState). f.cause) is) ∙ holds.2 in absurd (cc)

  held_by_a_turn_of_another_table : (turn : Bor FreshState) → turn.now ≡ fresh_state m 1 Strong → ¬ HoldsRelease {V = ℕ} own_release (held.Fresh turn)
  held_by_a_turn_of_another_table turn is holds = other (sym (ap (λ (f : FreshState). f.table) is) ∙ holds.0)

  -- One that was parked holds it while it wasn't refused and has no unit.
  held_by_a_parked_turn : (turn : Bor TurnState) → turn.now ≡ turn_with n 1 Strong None [] (4 ∷ []) → HoldsRelease {V = ℕ} own_release (held.Turn turn)
  held_by_a_parked_turn turn is = (ap (λ (f : TurnState). f.table) is, ap (λ (f : TurnState). f.task) is, ap (λ (f : TurnState). f.cause) is, ap (λ (f : TurnState). f.refused) is, ap (λ (f : TurnState). f.held) is)

  held_by_a_parked_turn_of_another_table : (turn : Bor TurnState) → turn.now ≡ turn_with m 1 Strong None [] [] → ¬ HoldsRelease {V = ℕ} own_release (held.Turn turn)
  held_by_a_parked_turn_of_another_table turn is holds = other (sym (ap (λ (f : TurnState). f.table) is) ∙ holds.0)

  held_by_a_parked_turn_of_another_task : (turn : Bor TurnState) → turn.now ≡ turn_with n 2 Strong None [] [] → ¬ HoldsRelease {V = ℕ} own_release (held.Turn turn)
  held_by_a_parked_turn_of_another_task turn is holds = absurd (omega (arith, ap (λ (f : TurnState). f.task) is, holds.1))

  held_by_a_parked_turn_of_another_cause : (turn : Bor TurnState) → turn.now ≡ turn_with n 1 Source None [] [] → ¬ HoldsRelease {V = ℕ} own_release (held.Turn turn)
  held_by_a_parked_turn_of_another_cause turn is holds = let no : Source ≡ Strong = sym (ap (λ (f : TurnState). f.cause) is) ∙ holds.2 in absurd (cc)

  held_by_a_refused_turn : (turn : Bor TurnState) → turn.now ≡ turn_with n 1 Strong (Some Limit) [] [] → ¬ HoldsRelease {V = ℕ} own_release (held.Turn turn)
  held_by_a_refused_turn turn is holds = let no : Some Limit ≡ None = sym (ap (λ (f : TurnState). f.refused) is) ∙ holds.3 in absurd (cc)

  held_by_a_turn_with_a_unit : (turn : Bor TurnState) → turn.now ≡ turn_with n 1 Strong None (0 ∷ []) [] → ¬ HoldsRelease {V = ℕ} own_release (held.Turn turn)
  held_by_a_turn_with_a_unit turn is holds = absurd (omega (arith, ap length (sym (ap (λ (f : TurnState). f.held) is) ∙ holds.4)))

  -- A backlog takes what is done in its own frame, and an empty one what is done in any.
  takes_of_its_frame : MayTake {V = ℕ} (backlog_view own []) own × MayTake {V = ℕ} (backlog_view [] []) own
  takes_of_its_frame = (inr refl, inl refl)

  takes_of_no_other : ¬ MayTake {V = ℕ} (backlog_view inside []) own
  takes_of_no_other (inl none) = absurd (omega (arith, ap length none))
  takes_of_no_other (inr same) = absurd (omega (arith, ap length same))

  -- ---- What became of releases. A start of task 1 found the value 7.
  module _ (five : Arc ℕ Global) (this : FoundParts ℕ) (found : parts_of this.ins.value ≡ given.Value 1 (arc_with_value five 7) ∷ []) where
    abbrev ended : ℕ → ℕ → EndedStart ℕ
    ended v t = record { task = t; cause = Strong; start = 2; found = this; value = arc_with_value five v; place = 3; gives = []; inner = false }

    abbrev failed : Why → Failure ℕ
    failed why = record { task = 1; cause = Strong; start = 2; found = this; place = 3; why = why }

    abbrev dropped : Dropping
    dropped = record { task = 2; cause = Source; place = 4; why = Halted }

    found_seven : (work_with 1 this.ins.value).found ≡ value 7 ∷ []
    found_seven = ap (map found_of) found

    sum_found : (2 + 1 + added (work_with 1 this.ins.value).found) ≡ 10
    sum_found = ap (λ got. 2 + 1 + added got) found_seven

    ends_with_its_sum : IsAllowed flat_sums 2 (Ended (ended 10 1)) None
    ends_with_its_sum = record { by_job = record { answer = Each; allowed = (sym sum_found, refl); chosen = refl }; kept = tt }

    ends_with_another_sum : ¬ IsAllowed flat_sums 2 (Ended (ended 3 1)) None
    ends_with_another_sum is = of_answer is.by_job.answer is.by_job.allowed
      where
        of_answer : (answer : _) → flat_answer 2 1 (work_with 1 this.ins.value).found (Value 3 answer) → ⊥
        of_answer answer allowed = absurd (omega (arith, sum_found, allowed.0))

    ends_with_an_edge_not_chosen : ¬ IsAllowed flat_sums 2 (Ended (record (ended 10 1) { gives = 0 ∷ [] })) None
    ends_with_an_edge_not_chosen is = let edges : ◌≡◌ {A = List ℕ} (0 ∷ []) [] = is.by_job.chosen ∙ ap (gives_of []) is.by_job.allowed.1 in absurd (cc)

    inner_end_without_a_run : ¬ IsAllowed flat_sums 2 (Ended (record (ended 10 1) { inner = true })) None
    inner_end_without_a_run is = is.by_job

    faults_with_its_sum : IsAllowed flat_sums 2 (Faulted (failed (Long 10))) None × ¬ IsAllowed flat_sums 2 (Faulted (failed (Long 3))) None × ¬ IsAllowed flat_sums 2 (Faulted (failed Inner)) None
    faults_with_its_sum = (record { by_job = sym sum_found; kept = tt }, (λ is. absurd (omega (arith, sum_found, is.by_job))), λ is. is.by_job)

    each_drop_is_allowed : IsAllowed mute 2 (Dropped dropped) None
    each_drop_is_allowed = record { by_job = refl; kept = tt }

    -- With a run in place of its work: the run is of the job that the task answers, it may be kept, and what the start
    -- comes to is what the run is gathered to.
    module _ (run : FrameRun ℕ ℕ) where
      abbrev inner_end : Fate ℕ
      inner_end = Ended (record (ended 10 1) { gives = 1 ∷ []; inner = true })

      ends_with_its_run : job_of run ≡ 10 → IsFine (journal_of run) → IsKept sums run → IsAllowed sums 2 inner_end (Some run)
      ends_with_its_run job fine kept = record { by_job = record { answered = job ∙ sym sum_found; fine = fine; gathered = sym job; all_edges = refl }; kept = kept }

      ends_with_a_run_cut_short : ¬ IsFine (journal_of run) → ¬ IsAllowed sums 2 inner_end (Some run)
      ends_with_a_run_cut_short cut is = cut is.by_job.fine

      ends_with_the_run_of_another_job : job_of run ≡ 3 → ¬ IsAllowed sums 2 inner_end (Some run)
      ends_with_the_run_of_another_job job is = absurd (omega (arith, sum_found, job, is.by_job.answered))

      ends_with_a_run_that_may_not_be_kept : ¬ IsKept sums run → ¬ IsAllowed sums 2 inner_end (Some run)
      ends_with_a_run_that_may_not_be_kept never is = never is.kept

      ends_as_its_work_beside_a_run : ¬ IsAllowed sums 2 (Ended (ended 10 1)) (Some run)
      ends_as_its_work_beside_a_run is = is.by_job

      faults_with_a_run_cut_short : job_of run ≡ 10 → ¬ IsFine (journal_of run) → IsKept sums run → IsAllowed sums 2 (Faulted (failed Inner)) (Some run)
      faults_with_a_run_cut_short job cut kept = record { by_job = (job ∙ sym sum_found, cut); kept = kept }

      faults_with_a_fine_run : IsFine (journal_of run) → ¬ IsAllowed sums 2 (Faulted (failed Inner)) (Some run)
      faults_with_a_fine_run fine is = is.by_job.1 fine

      drops_with_a_run : ¬ IsAllowed mute 2 (Dropped dropped) (Some run)
      drops_with_a_run is = let none : ◌≡◌ {A = Option (FrameRun ℕ ℕ)} (Some run) None = is.by_job in absurd (cc)

    fate_of_its_release : IsFateOf 1 Strong (Ended (ended 10 1)) × IsFateOf 1 Strong (Faulted (failed (Long 10))) × IsFateOf {V = ℕ} 2 Source (Dropped dropped)
    fate_of_its_release = ((refl, refl), (refl, refl), (refl, refl))

    fate_of_another_release : ¬ IsFateOf 0 Strong (Ended (ended 10 1)) × ¬ IsFateOf 1 Source (Faulted (failed (Long 10))) × ¬ IsFateOf {V = ℕ} 0 Source (Dropped dropped)
    fate_of_another_release = ((λ is. absurd (omega (arith, is.0))), (λ is. let no = is.1 in absurd (cc)), λ is. absurd (omega (arith, is.0)))

    -- a release becomes a Drop of its own, and not those of a rest
    drops_of_a_rest : (drops : Vec Dropping Global) → IsAllowed mute 2 (AllDropped drops) None × ¬ IsFateOf {V = ℕ} 2 Source (AllDropped drops) × (given_by {V = ℕ} (AllDropped drops) ≡ [])
    drops_of_a_rest drops = (record { by_job = refl; kept = tt }, (λ is. is), refl)

    edges_that_were_given : (given_by (Ended (record (ended 10 0) { gives = 0 ∷ [] })) ≡ 0 ∷ []) × (given_by (Faulted (failed (Long 10))) ≡ []) × (given_by {V = ℕ} (Dropped dropped) ≡ [])
    edges_that_were_given = (refl, refl, refl)

  -- ---- Releases that a step makes: by the edges that were given, in their order, behind those that were there, and
  -- then the task itself once more where strong edges released it.
  abbrev zeroth : FreshState
  zeroth = fresh_state n 0 Source

  abbrev first : FreshState
  first = fresh_state n 1 Strong

  abbrev second : FreshState
  second = fresh_state n 2 Source

  release_by_its_edge : release_of flat n 0 ≡ first
  release_by_its_edge = refl

  gives_its_edge : GivesEdges flat n (0 ∷ []) [] (first ∷ []) × GivesEdges flat n (0 ∷ []) (second ∷ []) (second ∷ first ∷ [])
  gives_its_edge = (record { more = first ∷ []; after_is = refl; made = inl (refl, tt) }, record { more = first ∷ []; after_is = refl; made = inl (refl, tt) })

  gives_and_releases_nothing : GivesEdges flat n (0 ∷ []) [] []
  gives_and_releases_nothing = record { more = []; after_is = refl; made = (refl, tt) }

  -- a weak edge always makes a release, a strong one may make none, and the releases are in the order of the edges
  made_by_each : AreMadeBy fork n (0 ∷ 2 ∷ []) (release_of fork n 0 ∷ release_of fork n 2 ∷ []) × AreMadeBy fork n (0 ∷ 2 ∷ []) (release_of fork n 0 ∷ [])
  made_by_each = (inl (refl, inl (refl, tt)), inl (refl, (refl, tt)))

  made_by_a_weak_edge_alone : ¬ AreMadeBy fork n (0 ∷ []) []
  made_by_a_weak_edge_alone by = let no : true ≡ false = by.0 in absurd (cc)

  made_in_another_order : ¬ AreMadeBy fork n (0 ∷ 1 ∷ []) (release_of fork n 1 ∷ release_of fork n 0 ∷ [])
  made_in_another_order (inl (same, by)) = absurd (omega (arith, ap (λ (f : FreshState). f.task) same))
  made_in_another_order (inr (strong, by)) = let no : true ≡ false = strong in absurd (cc)

  gives_before_what_was_there : ¬ GivesEdges flat n (0 ∷ []) (second ∷ []) (first ∷ second ∷ [])
  gives_before_what_was_there is = absurd (omega (arith, ap first_task is.after_is))
    where
      first_task : List FreshState → ℕ
      first_task [] = 0
      first_task (f ∷ more) = f.task

  releases_without_an_edge : ¬ GivesEdges flat n [] [] (first ∷ [])
  releases_without_an_edge is = subst (AreMadeBy flat n []) (sym is.after_is) is.made

  released_again : MayRelease n 1 Strong [] (first ∷ []) × MayRelease n 1 Strong [] []
  released_again = (record { again = first ∷ []; after_is = refl; is = inr (refl, refl) }, record { again = []; after_is = refl; is = inl refl })

  source_again : ¬ MayRelease n 0 Source [] (zeroth ∷ [])
  source_again is = never is.again is.after_is is.is
    where
      never : (again : List FreshState) → zeroth ∷ [] ≡ again → ((again ≡ []) ⊎ ((Source ≡ Strong) × (again ≡ fresh_state n 0 Strong ∷ []))) → ⊥
      never again after (inl none) = absurd (omega (arith, ap length (after ∙ none)))
      never again after (inr (cause, same)) = absurd (cc)

  -- ---- Runs that are over as they begin, and those that aren't.
  abbrev no_tasks : NetRows
  no_tasks = record { tasks = []; edges = []; sems = [] }

  nothing_to_begin : HasNoFirst no_tasks
  nothing_to_begin table = refl

  over_as_it_began : (run : FrameRun ℕ ℕ) → all_spans run ≡ 0 → IsOverAtOnce (record flat_sums { net = λ j. no_tasks }) (Some run)
  over_as_it_began run none = record { no_first = λ table. refl; no_spans = none }

  over_with_a_span : (run : FrameRun ℕ ℕ) → all_spans run ≡ 1 → ¬ IsOverAtOnce (record flat_sums { net = λ j. no_tasks }) (Some run)
  over_with_a_span run one is = absurd (omega (arith, one, is.no_spans))

  over_at_once : IsOverAtOnce {V = ℕ} flat_sums None
  over_at_once = tt

  goes_on_inside_the_step : (run : FrameRun ℕ ℕ) → ¬ IsOverAtOnce flat_sums (Some run)
  goes_on_inside_the_step run is = absurd (omega (arith, ap length (is.no_first n)))

  -- ---- Runs that are given out, with the account of their book.
  module _ (run : FrameRun ℕ ℕ) (parked : Snapshot TurnState) (releases : Vec (ReleaseView ℕ) Global) where
    abbrev closed : TallyState → ClosedRun ℕ ℕ
    closed spans = record { run = run; spans = spans }

    abbrev closed_in : TableId → ClosedRun ℕ ℕ
    closed_in book = closed (tally_state book 0 0 7 3)

    is_accounted : all_spans run ≡ 7 → IsAccounted (closed_in b)
    is_accounted seven = record { tellers = refl; told = refl; noted = sym seven }

    accounted_with_a_teller : ¬ IsAccounted (closed (tally_state b 1 0 7 3))
    accounted_with_a_teller is = absurd (omega (arith, is.tellers))

    accounted_with_what_one_told : ¬ IsAccounted (closed (tally_state b 0 7 7 3))
    accounted_with_what_one_told is = absurd (omega (arith, is.told))

    accounted_without_a_span : all_spans run ≡ 8 → ¬ IsAccounted (closed_in b)
    accounted_without_a_span eight is = absurd (omega (arith, eight, is.noted))

    closes_run : IsKept flat_sums run → job_of run ≡ 2 → all_spans run ≡ 7 → IsRootRun flat_sums inside (closed_in b)
    closes_run kept job seven = record { kept = kept; job = ap Some (sym job); book = refl; account = is_accounted seven }

    closes_an_illegal_run : ¬ IsKept flat_sums run → ¬ IsRootRun flat_sums own (closed_in b)
    closes_an_illegal_run never is = never is.kept

    closes_the_inner_job : job_of run ≡ 9 → ¬ IsRootRun flat_sums inside (closed_in b)
    closes_the_inner_job job is = let same : ◌≡◌ {A = Option ℕ} (Some 2) (Some 9) = is.job ∙ ap Some job in absurd (cc)

    closes_in_another_book : ¬ IsRootRun flat_sums inside (closed_in c)
    closes_in_another_book is = foreign (named b (sym is.book))

    closes_unaccounted : all_spans run ≡ 8 → ¬ IsRootRun flat_sums inside (closed_in b)
    closes_unaccounted eight is = accounted_without_a_span eight is.account

    closes_the_run_alone : (fates : List (Fate ℕ)) → IsKept flat_sums run → job_of run ≡ 2 → HasEntries run fates → all_spans run ≡ 7 → ClosesRun flat_sums own fates (closed_in b)
    closes_the_run_alone fates kept job entries seven = record { frame = key; frames_are = refl; job = job; kept = kept; entries = entries; book = refl; account = is_accounted seven }

    closes_a_run_inside : (spans : TallyState) (fates : List (Fate ℕ)) → ¬ ClosesRun flat_sums inside fates (closed spans)
    closes_a_run_inside spans fates is = absurd (omega (arith, ap length is.frames_are))

    closes_a_run_of_another_job : (fates : List (Fate ℕ)) → job_of run ≡ 9 → ¬ ClosesRun flat_sums own fates (closed_in b)
    closes_a_run_of_another_job fates job is = absurd (omega (arith, ap job_of_first is.frames_are, is.job, job))
      where
        job_of_first : List (FrameKey ℕ) → ℕ
        job_of_first [] = 0
        job_of_first (frame ∷ around) = frame.job

    closes_the_run_in_another_book : (fates : List (Fate ℕ)) → ¬ ClosesRun flat_sums own fates (closed_in c)
    closes_the_run_in_another_book fates is = foreign (named b (sym (ap book_of is.frames_are ∙ is.book)))

    closes_the_run_unaccounted : (fates : List (Fate ℕ)) → all_spans run ≡ 8 → ¬ ClosesRun flat_sums own fates (closed_in b)
    closes_the_run_unaccounted fates eight is = accounted_without_a_span eight is.account

    brings_a_closed_run : (fates : List (Fate ℕ)) → ClosesRun flat_sums own fates (closed_in b) → BringsTo flat_sums own fates (backlog_view own []) (Closed (closed_in b)) × ¬ BringsTo flat_sums own fates (backlog_view [] []) (Closed (closed_in b))
    brings_a_closed_run fates closes = ((closes, refl), λ is. absurd (omega (arith, ap (λ (left : BacklogView ℕ ℕ). length left.frames) is.1)))

    goes_on : IsStateOf flat_sums own Went × ¬ IsStateOf flat_sums own (Parked parked) × ¬ IsStateOf flat_sums own (HasInner releases) × ¬ IsStateOf flat_sums own (Resumed releases)
    goes_on = (tt, (λ is. is), (λ is. is), λ is. is)

    gives_its_run_out : IsKept flat_sums run → job_of run ≡ 2 → all_spans run ≡ 7 → IsStateOf flat_sums own (Closed (closed_in b)) × ¬ IsStateOf flat_sums own (Closed (closed_in c))
    gives_its_run_out kept job seven = (record { kept = kept; job = ap Some (sym job); book = refl; account = is_accounted seven }, λ is. foreign (named b (sym is.book)))

    closed_alone : IsClosed (Closed (closed_in b)) × ¬ IsClosed {J = ℕ} {V = ℕ} Went × ¬ IsClosed {J = ℕ} {V = ℕ} (Parked parked) × ¬ IsClosed {J = ℕ} {V = ℕ} (HasInner releases)
    closed_alone = (tt, (λ is. is), (λ is. is), λ is. is)

    -- A run is over where it is given out, and where its start is resumed.
    over_and_not : IsOver (Closed (closed_in b)) × IsOver {J = ℕ} {V = ℕ} (Resumed releases) × ¬ IsOver {J = ℕ} {V = ℕ} Went × ¬ IsOver {J = ℕ} {V = ℕ} (Parked parked) × ¬ IsOver {J = ℕ} {V = ℕ} (HasInner releases)
    over_and_not = (tt, tt, (λ is. is), (λ is. is), λ is. is)

  -- ---- A beginning, a step and a bringing as a whole.
  abbrev both_released : List (FrameKey ℕ) → List (ReleaseView ℕ)
  both_released frames = release_in frames zeroth ∷ release_in frames second ∷ []

  begins_frame : (stepped : Stepped ℕ ℕ) → stepped.released.items ≡ both_released own → stepped.state ≡ Went → BeginsFrame flat_sums 2 b stepped
  begins_frame stepped released went = record {
    frame = key;
    job_is = refl;
    book_is = refl;
    released = released;
    frames = subst (All (λ (release : ReleaseView ℕ). release.frames ≡ own)) (sym released) (All-from_recursion (λ (release : ReleaseView ℕ). release.frames ≡ own) (both_released own) (refl, (refl, tt)));
    state = subst (IsStateOf flat_sums own) (sym went) tt;
  }

  begins_without_the_second_source : (stepped : Stepped ℕ ℕ) → stepped.released.items ≡ release_in own zeroth ∷ [] → ¬ BeginsFrame flat_sums 2 b stepped
  begins_without_the_second_source stepped released is = absurd (omega (arith, ap length released, ap length is.released))

  frame_begun : (job : ℕ) (book : TableId) (stepped : Stepped ℕ ℕ) → stepped.released.items ≡ both_released own → (is : BeginsFrame flat_sums job book stepped) → own ≡ is.frame ∷ []
  frame_begun job book stepped released is =
      let frames = subst (All (λ (release : ReleaseView ℕ). release.frames ≡ is.frame ∷ [])) released is.frames in
      All-head (λ (release : ReleaseView ℕ). release.frames ≡ is.frame ∷ []) (release_in own zeroth) (release_in own second ∷ []) frames

  begins_in_another_book : (stepped : Stepped ℕ ℕ) → stepped.released.items ≡ both_released own → ¬ BeginsFrame flat_sums 2 c stepped
  begins_in_another_book stepped released is = foreign (named b (sym (ap book_of (frame_begun 2 c stepped released is) ∙ is.book_is)))

  begins_the_frame_of_another_job : (stepped : Stepped ℕ ℕ) → stepped.released.items ≡ both_released own → ¬ BeginsFrame flat_sums 3 b stepped
  begins_the_frame_of_another_job stepped released is =
      absurd (omega (arith, ap root_job_number (frame_begun 3 b stepped released is), is.job_is))
    where
      root_job_number : List (FrameKey ℕ) → ℕ
      root_job_number [] = 0
      root_job_number (frame ∷ around) = frame.job

  begins_parked : (stepped : Stepped ℕ ℕ) (turn : Snapshot TurnState) → stepped.state ≡ Parked turn → ¬ BeginsFrame flat_sums 2 b stepped
  begins_parked stepped turn parked is = subst (IsStateOf flat_sums (is.frame ∷ [])) parked is.state

  -- The first task starts without inputs, ends with the value 2 and gives its edge.
  module _ (five : Arc ℕ Global) (nothing : FoundParts ℕ) (found : parts_of nothing.ins.value ≡ []) where
    abbrev end_of_the_first : Fate ℕ
    end_of_the_first = Ended (record { task = 0; cause = Source; start = 0; found = nothing; value = arc_with_value five 2; place = 1; gives = 0 ∷ []; inner = false })

    nothing_found : (2 + 0 + added (work_with 0 nothing.ins.value).found) ≡ 2
    nothing_found = ap (λ (got : List (Given ℕ)). 2 + 0 + added (map found_of got)) found

    allowed : IsAllowed flat_sums 2 end_of_the_first None
    allowed = record { by_job = record { answer = Each; allowed = (sym nothing_found, refl); chosen = refl }; kept = tt }

    uses : Uses flat zeroth end_of_the_first [] (first ∷ [])
    uses = record { of = (refl, refl); makes = record { between = first ∷ []; gives = gives_its_edge.0; again = record { again = []; after_is = refl; is = inl refl } } }

    uses_another_release : ¬ Uses flat second end_of_the_first [] (first ∷ [])
    uses_another_release is = absurd (omega (arith, is.of.0))

    abbrev none_done : BacklogView ℕ ℕ
    none_done = backlog_view [] []

    abbrev first_done : BacklogView ℕ ℕ
    first_done = backlog_view own (end_of_the_first ∷ [])

    uses_release : IsInJournal flat_sums 2 end_of_the_first → UsesRelease flat_sums key (release_in own zeroth) none_done first_done (first ∷ [])
    uses_release within = record {
      fate = end_of_the_first;
      run = None;
      by_end = first ∷ [];
      allowed = allowed;
      journal = within;
      uses = uses;
      wakes = record { woken = []; after_is = refl; waited = All-from_recursion (WaitedFor (table_in flat_sums key) []) [] tt; few = omega arith };
      backlog = refl;
    }

    uses_at_once : IsInJournal flat_sums 2 end_of_the_first → UsesAtOnce flat_sums key (release_in own zeroth) none_done first_done (first ∷ [])
    unfolding uses_release
    uses_at_once within = record { uses = uses_release within; inner = tt }

    -- the fate that is with a frame, where there is one
    abbrev first_fate : List (Fate ℕ) → Fate ℕ
    first_fate [] = end_of_the_first
    first_fate (f ∷ more) = f

    fate_is : (meaning : Meaning ℕ ℕ) (release : ReleaseView ℕ) (made : List FreshState) (is : UsesRelease meaning key release none_done first_done made) → is.fate ≡ end_of_the_first
    fate_is meaning release made is = sym (ap (λ (b : BacklogView ℕ ℕ). first_fate b.fates) is.backlog)

    uses_it_as_its_work_may_not : (made : List FreshState) → ¬ UsesRelease mute key (release_in own zeroth) none_done first_done made
    uses_it_as_its_work_may_not made is = never is.run (subst (λ fate. IsAllowed mute 2 fate is.run) (fate_is mute (release_in own zeroth) made is) is.allowed)
      where
        never : (run : Option (FrameRun ℕ ℕ)) → ¬ IsAllowed mute 2 end_of_the_first run
        never None is = is.by_job.allowed
        never (Some run) is = is.by_job

    uses_it_outside_of_a_journal : (made : List FreshState) → ¬ IsInJournal flat_sums 2 end_of_the_first → ¬ UsesRelease flat_sums key (release_in own zeroth) none_done first_done made
    uses_it_outside_of_a_journal made outside is = outside (subst (IsInJournal flat_sums 2) (fate_is flat_sums (release_in own zeroth) made is) is.journal)

    uses_another_for_it : (made : List FreshState) → ¬ UsesRelease flat_sums key (release_in own second) none_done first_done made
    uses_another_for_it made is = absurd (omega (arith, (subst (IsFateOf 2 Source) (fate_is flat_sums (release_in own second) made is) is.uses.of).0))

    uses_it_and_keeps_no_fate : (made : List FreshState) → ¬ UsesRelease flat_sums key (release_in own zeroth) none_done (backlog_view own []) made
    uses_it_and_keeps_no_fate made is = absurd (omega (arith, ap (λ (b : BacklogView ℕ ℕ). length b.fates) is.backlog))

    steps_to_nothing_else : (made : List FreshState) (closed : ClosedRun ℕ ℕ) (releases : Vec (ReleaseView ℕ) Global) → ¬ StepsTo flat_sums key (release_in own zeroth) none_done first_done made (Resumed releases) × ¬ StepsTo flat_sums key (release_in own zeroth) none_done first_done made (Closed closed)
    steps_to_nothing_else made closed releases = ((λ is. is), λ is. is)

    steps_on : IsInJournal flat_sums 2 end_of_the_first → StepsTo flat_sums key (release_in own zeroth) none_done first_done (first ∷ []) Went
    steps_on within = uses_at_once within

    steps_on_without_a_fate : (made : List FreshState) → ¬ StepsTo flat_sums key (release_in own zeroth) none_done (backlog_view own []) made Went
    steps_on_without_a_fate made is = uses_it_and_keeps_no_fate made is.uses

    steps_release : IsInJournal flat_sums 2 end_of_the_first → (stepped : Stepped ℕ ℕ) → stepped.released.items ≡ release_in own first ∷ [] → stepped.state ≡ Went
        → StepsRelease flat_sums (release_in own zeroth) none_done first_done stepped
    steps_release within stepped released went = record {
      frame = key;
      around = [];
      frames_are = refl;
      made = first ∷ [];
      to = subst (StepsTo flat_sums key (release_in own zeroth) none_done first_done (first ∷ [])) (sym went) (uses_at_once within);
      released = released;
      frames = subst (All (λ (next : ReleaseView ℕ). next.frames ≡ own)) (sym released) (All-from_recursion (λ (next : ReleaseView ℕ). next.frames ≡ own) (release_in own first ∷ []) (refl, tt));
      backlog = refl;
    }

    steps_in_no_frame : (stepped : Stepped ℕ ℕ) (new : BacklogView ℕ ℕ) → ¬ StepsRelease flat_sums (release_in [] zeroth) none_done new stepped
    steps_in_no_frame stepped new is = absurd (omega (arith, ap length is.frames_are))

    steps_with_the_backlog_of_another : (stepped : Stepped ℕ ℕ) → ¬ StepsRelease flat_sums (release_in own zeroth) none_done (backlog_view inside (end_of_the_first ∷ [])) stepped
    steps_with_the_backlog_of_another stepped is = absurd (omega (arith, ap length is.backlog))

    steps_and_keeps_no_fate : (stepped : Stepped ℕ ℕ) → stepped.state ≡ Went → ¬ StepsRelease flat_sums (release_in own zeroth) none_done (backlog_view own []) stepped
    steps_and_keeps_no_fate stepped went is =
        let used : UsesAtOnce flat_sums is.frame (release_in own zeroth) none_done (backlog_view own []) is.made = subst (StepsTo flat_sums is.frame (release_in own zeroth) none_done (backlog_view own []) is.made) went is.to in
        absurd (omega (arith, ap (λ (b : BacklogView ℕ ℕ). length b.fates) used.uses.backlog))

    steps_to_releases_of_another_frame : (stepped : Stepped ℕ ℕ) (new : BacklogView ℕ ℕ) → stepped.released.items ≡ release_in inside first ∷ []
        → ¬ StepsRelease flat_sums (release_in own zeroth) none_done new stepped
    steps_to_releases_of_another_frame stepped new released is =
        let frames = subst (All (λ (next : ReleaseView ℕ). next.frames ≡ own)) released is.frames in
        absurd (omega (arith, ap length (All-head (λ (next : ReleaseView ℕ). next.frames ≡ own) (release_in inside first) [] frames)))

    steps_into_a_run_that_is_not_answered : (stepped : Stepped ℕ ℕ) (new : BacklogView ℕ ℕ) (releases : Vec (ReleaseView ℕ) Global) → stepped.state ≡ HasInner releases → ¬ StepsRelease flat_sums (release_in own zeroth) none_done new stepped
    steps_into_a_run_that_is_not_answered stepped new releases inner is = (subst (StepsTo flat_sums is.frame (release_in own zeroth) none_done new is.made) inner is.to).answered

  -- ---- A run in place of a task's work. Task 1 found the value 7 and answers the job 10, whose one source is task 0.
  module _ (seven : Arc ℕ Global) (ins : Ins ℕ) (found : parts_of ins ≡ given.Value 1 (arc_with_value seven 7) ∷ []) where
    abbrev opened : FrameKey ℕ
    opened = record { table = m; job = 10; book = Some b }

    abbrev first_inside : List (ReleaseView ℕ)
    first_inside = release_in (opened ∷ own) (fresh_state m 0 Source) ∷ []

    abbrev opens : BacklogView ℕ ℕ → List (ReleaseView ℕ) → Type 0
    opens new releases = OpensInner sums key own_release (backlog_view own []) new [] releases

    ten_answered : 10 ≡ 2 + 1 + added (map found_of (parts_of ins))
    ten_answered = sym (ap (λ (got : List (Given ℕ)). 2 + 1 + added (map found_of got)) found)

    opens_a_run : AreInOneJournal line 4 (with_places (start_of 2 1 Strong (parts_in ins) ∷ [])) → opens (backlog_view own []) first_inside
    opens_a_run stands = record {
      place = 2;
      ins = ins;
      journal = stands;
      inner = opened;
      book = refl;
      answered = ten_answered;
      first_are = refl;
      some = λ none. absurd (omega (arith, ap length none));
      again = record { again = []; after_is = refl; is = inl refl };
      backlog = refl;
    }

    opens_a_run_with_nothing_to_do : (new : BacklogView ℕ ℕ) → ¬ opens new []
    opens_a_run_with_nothing_to_do new is = is.some refl

    opens_a_run_and_adds_a_fate : (fate : Fate ℕ) → ¬ opens (backlog_view own (fate ∷ [])) first_inside
    opens_a_run_and_adds_a_fate fate is = absurd (omega (arith, ap (λ (b : BacklogView ℕ ℕ). length b.fates) is.backlog))

    opens_a_run_in_another_book : (new : BacklogView ℕ ℕ) → ¬ opens new (release_in (bookless opened ∷ own) (fresh_state m 0 Source) ∷ [])
    opens_a_run_in_another_book new is = none-some b (ap first_book is.first_are ∙ is.book)
      where
        book_of_first : List (FrameKey ℕ) → Option TableId
        book_of_first [] = Some b
        book_of_first (frame ∷ around) = frame.book

        first_book : List (ReleaseView ℕ) → Option TableId
        first_book [] = Some b
        first_book (r ∷ more) = book_of_first r.frames

    opens_a_run_without_its_source : (new : BacklogView ℕ ℕ) → ¬ opens new (release_in (opened ∷ own) (fresh_state m 1 Source) ∷ [])
    opens_a_run_without_its_source new is = absurd (omega (arith, ap first_task is.first_are))
      where
        first_task : List (ReleaseView ℕ) → ℕ
        first_task [] = 0
        first_task (r ∷ more) = r.task

  -- ---- Units. Task 0 takes semaphore 0 and puts 1, and task 1 takes 1.
  units_of_each : (units_of shares 0 ≡ 0 ∷ 1 ∷ []) × (units_of shares 1 ≡ 1 ∷ []) × (units_of shares 2 ≡ [])
  units_of_each = (refl, refl, refl)

  abbrev taker : FreshState
  taker = fresh_state n 1 Strong

  -- It is dropped, for which its units wake others.
  module _ (d : Dropping) (its : (d.task ≡ 0) × (d.cause ≡ Source)) where
    abbrev drop_done : BacklogView ℕ ℕ
    drop_done = backlog_view own (Dropped d ∷ [])

    uses_and_wakes : IsInJournal share_sums 2 (Dropped d) → UsesRelease share_sums key (release_in own zeroth) (backlog_view [] []) drop_done (taker ∷ [])
    uses_and_wakes within = record {
      fate = Dropped d;
      run = None;
      by_end = [];
      allowed = record { by_job = refl; kept = tt };
      journal = within;
      uses = record { of = its; makes = record { between = []; gives = record { more = []; after_is = refl; made = tt }; again = record { again = []; after_is = refl; is = inl refl } } };
      wakes = record { woken = taker ∷ []; after_is = refl; waited = All-from_recursion (WaitedFor (table_in share_sums key) (0 ∷ 1 ∷ [])) (taker ∷ []) (record { table_is = refl; takes = refl }, tt); few = omega arith };
      backlog = refl;
    }

    -- what was dropped gives no edge, and a source isn't released again
    none_by_no_edge : (made : List FreshState) → AreMadeBy shares n [] made → length made ≡ 0
    none_by_no_edge [] by = refl
    none_by_no_edge (f ∷ made) by = absurd by

    none_again : (again : List FreshState) → (again ≡ []) ⊎ ((Source ≡ Strong) × (again ≡ fresh_state n 0 Strong ∷ [])) → length again ≡ 0
    none_again again (inl none) = ap length none
    none_again again (inr (cause, same)) = absurd (cc)

    none_by_its_end : (made : List FreshState) → Uses {V = ℕ} shares zeroth (Dropped d) [] made → length made ≡ 0
    none_by_its_end made used =
        let by_edges = ap length used.makes.gives.after_is in
        let all = ap length used.makes.again.after_is in
        omega (arith, by_edges, all, length-append used.makes.between used.makes.again.again, none_by_no_edge used.makes.gives.more used.makes.gives.made, none_again used.makes.again.again used.makes.again.is)

    fate_of_it : (new : Fate ℕ) → ◌≡◌ {A = BacklogView ℕ ℕ} drop_done (backlog_view own (new ∷ [])) → new ≡ Dropped d
    fate_of_it new same = sym (ap (λ (b : BacklogView ℕ ℕ). first_of b.fates) same)
      where
        first_of : List (Fate ℕ) → Fate ℕ
        first_of [] = Dropped d
        first_of (f ∷ more) = f

    uses_and_wakes_at_most : (made : List FreshState) → UsesRelease share_sums key (release_in own zeroth) (backlog_view [] []) drop_done made → length made ≤ 2
    uses_and_wakes_at_most made is =
        let used = subst (λ fate. Uses shares zeroth fate [] is.by_end) (fate_of_it is.fate is.backlog) is.uses in
        let all = ap length is.wakes.after_is in
        omega (arith, all, is.wakes.few, length-append is.by_end is.wakes.woken, none_by_its_end is.by_end used)

    uses_and_wakes_a_third : ¬ UsesRelease share_sums key (release_in own zeroth) (backlog_view [] []) drop_done (taker ∷ taker ∷ taker ∷ [])
    uses_and_wakes_a_third is = absurd (omega (arith, uses_and_wakes_at_most (taker ∷ taker ∷ taker ∷ []) is))

  -- It is parked for want of a unit of semaphore 0.
  abbrev parked_turn : TurnState
  parked_turn = turn_with n 0 Source None [] (1 ∷ [])

  abbrev no_fate : BacklogView ℕ ℕ
  no_fate = backlog_view own []

  parks_release : ParksRelease share_sums key (release_in own zeroth) (backlog_view [] []) no_fate [] parked_turn
  parks_release = record {
    is = refl;
    sem = 0;
    waits = record { table_is = refl; refused = refl; held = refl; takes = refl };
    none = omega arith;
    woken = [];
    wakes = record { woken = []; after_is = refl; waited = All-from_recursion (WaitedFor (table_in share_sums key) (0 ∷ [])) [] tt; few = omega arith };
    again = record { again = []; after_is = refl; is = inl refl };
    backlog = refl;
  }

  -- what it woke comes before the same task, where that is released once more
  parks_wakes_and_releases_again : ParksRelease {V = ℕ} share_sums key (release_in own (fresh_state n 0 Strong)) (backlog_view [] []) no_fate (zeroth ∷ fresh_state n 0 Strong ∷ []) (turn_with n 0 Strong None [] (1 ∷ []))
  parks_wakes_and_releases_again = record {
    is = refl;
    sem = 0;
    waits = record { table_is = refl; refused = refl; held = refl; takes = refl };
    none = omega arith;
    woken = zeroth ∷ [];
    wakes = record { woken = zeroth ∷ []; after_is = refl; waited = All-from_recursion (WaitedFor (table_in share_sums key) (0 ∷ [])) (zeroth ∷ []) (record { table_is = refl; takes = refl }, tt); few = omega arith };
    again = record { again = fresh_state n 0 Strong ∷ []; after_is = refl; is = inr (refl, refl) };
    backlog = refl;
  }

  parks_another : (made : List FreshState) → ¬ ParksRelease share_sums key (release_in own zeroth) (backlog_view [] []) no_fate made (turn_with n 1 Source None [] (2 ∷ []))
  parks_another made is = absurd (omega (arith, ap (λ (f : FreshState). f.task) is.is))

  parks_it_with_a_unit : (made : List FreshState) → ¬ ParksRelease share_sums key (release_in own zeroth) (backlog_view [] []) no_fate made (turn_with n 0 Source None (0 ∷ []) (1 ∷ []))
  parks_it_with_a_unit made is = absurd (omega (arith, ap length is.waits.held))

  parks_it_without_a_step : (made : List FreshState) → ¬ ParksRelease share_sums key (release_in own zeroth) (backlog_view [] []) no_fate made (turn_with n 0 Source None [] [])
  parks_it_without_a_step made is = is.none

  parks_it_and_adds_a_fate : (made : List FreshState) (fate : Fate ℕ) → ¬ ParksRelease share_sums key (release_in own zeroth) (backlog_view [] []) (backlog_view own (fate ∷ [])) made parked_turn
  parks_it_and_adds_a_fate made fate is = absurd (omega (arith, ap (λ (b : BacklogView ℕ ℕ). length b.fates) is.backlog))

  -- one semaphore that it takes wakes one, and it isn't released again
  parks_it_and_makes_at_most : (made : List FreshState) → ParksRelease share_sums key (release_in own zeroth) (backlog_view [] []) no_fate made parked_turn → length made ≤ 1
  parks_it_and_makes_at_most made is =
      let woken = ap length is.wakes.after_is in
      let all = ap length is.again.after_is in
      omega (arith, woken, all, is.wakes.few, length-append is.woken is.again.again, none_more is.again.again is.again.is)
    where
      none_more : (again : List FreshState) → (again ≡ []) ⊎ ((Source ≡ Strong) × (again ≡ fresh_state n 0 Strong ∷ [])) → length again ≡ 0
      none_more again (inl none) = ap length none
      none_more again (inr (cause, same)) = absurd (cc)

  parks_it_and_wakes_for_what_it_puts : ¬ ParksRelease share_sums key (release_in own zeroth) (backlog_view [] []) no_fate (taker ∷ taker ∷ []) parked_turn
  parks_it_and_wakes_for_what_it_puts is = absurd (omega (arith, parks_it_and_makes_at_most (taker ∷ taker ∷ []) is))

  module _ (parked : Snapshot TurnState) (its : parked.value ≡ parked_turn) where
    steps_to_a_park : StepsTo share_sums key (release_in own zeroth) (backlog_view [] []) no_fate [] (Parked parked)
    steps_to_a_park = subst (ParksRelease share_sums key (release_in own zeroth) (backlog_view [] []) no_fate []) (sym its) parks_release

    steps_to_a_park_with_a_fate : (made : List FreshState) (fate : Fate ℕ) → ¬ StepsTo share_sums key (release_in own zeroth) (backlog_view [] []) (backlog_view own (fate ∷ [])) made (Parked parked)
    steps_to_a_park_with_a_fate made fate is = parks_it_and_adds_a_fate made fate (subst (ParksRelease share_sums key (release_in own zeroth) (backlog_view [] []) (backlog_view own (fate ∷ [])) made) its is)

    steps_and_parks : (stepped : Stepped ℕ ℕ) → stepped.released.items ≡ [] → stepped.state ≡ Parked parked → StepsRelease share_sums (release_in own zeroth) (backlog_view [] []) no_fate stepped
    steps_and_parks stepped released state = record {
      frame = key;
      around = [];
      frames_are = refl;
      made = [];
      to = subst (StepsTo share_sums key (release_in own zeroth) (backlog_view [] []) no_fate []) (sym state) steps_to_a_park;
      released = released;
      frames = subst (All (λ (next : ReleaseView ℕ). next.frames ≡ own)) (sym released) (All-from_recursion (λ (next : ReleaseView ℕ). next.frames ≡ own) [] tt);
      backlog = refl;
    }

    -- what is handed out is what was made
    parks_and_hands_out_two : (stepped : Stepped ℕ ℕ) → stepped.released.items ≡ release_in own taker ∷ release_in own taker ∷ [] → stepped.state ≡ Parked parked
        → ¬ StepsRelease share_sums (release_in own zeroth) (backlog_view [] []) no_fate stepped
    parks_and_hands_out_two stepped released state is =
        let frame : key ≡ is.frame = first_frame is.frame is.around is.frames_are in
        let to = subst (ParksRelease share_sums is.frame (release_in own zeroth) (backlog_view [] []) no_fate is.made) its (subst (StepsTo share_sums is.frame (release_in own zeroth) (backlog_view [] []) no_fate is.made) state is.to) in
        let of_key = subst (λ frame. ParksRelease share_sums frame (release_in own zeroth) (backlog_view [] []) no_fate is.made parked_turn) (sym frame) to in
        absurd (omega (arith, ap length released, ap length is.released, length-map is.made (release_in own), parks_it_and_makes_at_most is.made of_key))
      where
        first_frame : (frame : FrameKey ℕ) (around : List (FrameKey ℕ)) → own ≡ frame ∷ around → key ≡ frame
        first_frame frame around same = ap head_of same
          where
            head_of : List (FrameKey ℕ) → FrameKey ℕ
            head_of [] = key
            head_of (f ∷ more) = f

  -- ---- What becomes of what is parked in a frame.
  module _ (drops : Vec Dropping Global) (d : Dropping) where
    abbrev all_dropped : BacklogView ℕ ℕ
    all_dropped = backlog_view own (AllDropped drops ∷ [])

    drops_what_is_parked : DropsParked own all_dropped
    drops_what_is_parked = record { fate = AllDropped drops; drops = tt; backlog = refl }

    drops_one_alone : ¬ DropsParked {V = ℕ} own (backlog_view own (Dropped d ∷ []))
    drops_one_alone is = subst (λ (fate : Fate ℕ). AreDrops fate) (sym (ap (λ (b : BacklogView ℕ ℕ). first_of b.fates) is.backlog)) is.drops
      where
        first_of : List (Fate ℕ) → Fate ℕ
        first_of [] = AllDropped drops
        first_of (f ∷ more) = f

    drops_in_another_frame : ¬ DropsParked {V = ℕ} own (backlog_view inside (AllDropped drops ∷ []))
    drops_in_another_frame is = absurd (omega (arith, ap (λ (b : BacklogView ℕ ℕ). length b.frames) is.backlog))

    settles_and_goes_on : SettlesFrame {V = ℕ} own (backlog_view [] []) (Some own_release) × ¬ SettlesFrame own all_dropped (Some own_release)
    settles_and_goes_on = ((refl, refl), λ is. absurd (omega (arith, ap (λ (b : BacklogView ℕ ℕ). length b.fates) is.1)))

    settles_for_another_frame : ¬ SettlesFrame {V = ℕ} own (backlog_view [] []) (Some (release_in inside (fresh_state m 1 Strong)))
    settles_for_another_frame is = absurd (omega (arith, ap length is.0))

    settles_with_nothing : SettlesFrame {V = ℕ} own (backlog_view [] []) None × SettlesFrame own all_dropped None
    settles_with_nothing = (inl refl, inr drops_what_is_parked)

    settles_in_another_frame : ¬ SettlesFrame {V = ℕ} own (backlog_view inside (AllDropped drops ∷ [])) None
    settles_in_another_frame (inl none) = absurd (omega (arith, ap (λ (b : BacklogView ℕ ℕ). length b.fates) none))
    settles_in_another_frame (inr dropped) = drops_in_another_frame dropped

  -- What is brought is with the keeper, which found how many turns were live: the run is closed where that was one.
  module _ (fate : Fate ℕ) (before : List ℕ) where
    abbrev keeper_that_found : ℕ → KeeperState ℕ
    keeper_that_found k = keeper_state n (fate ∷ []) (k ∷ before)

    goes_on_before_the_last : TakesIn own (fate ∷ []) ⊥ (keeper_that_found 2)
    goes_on_before_the_last = record { table = refl; earlier = []; fates_are = refl; before = before; found = (refl, (λ over. absurd over, λ two. absurd (omega (arith, two)))) }

    goes_on_after_the_last : ¬ TakesIn own (fate ∷ []) ⊥ (keeper_that_found 1)
    goes_on_after_the_last is = is.found.1.1 refl

    over_before_the_last : ¬ TakesIn own (fate ∷ []) (Unit {0}) (keeper_that_found 2)
    over_before_the_last is = absurd (omega (arith, is.found.1.0 tt))

    taken_in_by_another_keeper : ¬ TakesIn inside (fate ∷ []) ⊥ (keeper_that_found 2)
    taken_in_by_another_keeper is = other (sym is.table)

    not_taken_in : ¬ TakesIn own (fate ∷ []) ⊥ (keeper_state n [] (2 ∷ before))
    not_taken_in is = by_earlier is.earlier is.fates_are
      where
        by_earlier : (earlier : List (Fate ℕ)) → [] ≡ earlier ++ fate ∷ [] → ⊥
        by_earlier [] same = absurd (cc)
        by_earlier (first_of ∷ more) same = absurd (cc)

    -- where it took in nothing the run goes on, also while fates are laid aside
    none_taken_in : MayTakeIn {J = ℕ} {V = ℕ} own [] ⊥ None × MayTakeIn {J = ℕ} {V = ℕ} own (fate ∷ []) ⊥ None × ¬ MayTakeIn {J = ℕ} {V = ℕ} own (fate ∷ []) (Unit {0}) None
    none_taken_in = ((λ over. over), (λ over. over), λ is. is tt)

    some_taken_in : MayTakeIn own (fate ∷ []) ⊥ (Some (keeper_that_found 2)) × ¬ MayTakeIn own (fate ∷ []) ⊥ (Some (keeper_that_found 1))
    some_taken_in = (goes_on_before_the_last, goes_on_after_the_last)

    -- A bringing that failed leaves the backlog as it was, or empty: then it is of its frame, of the one around, or of
    -- none.
    leaves_what_was : IsLeftOf {J = ℕ} {V = ℕ} (backlog_view inside (fate ∷ [])) (backlog_view inside (fate ∷ []))
    leaves_what_was = inl refl

    leaves_nothing_of_a_frame : IsLeftOf {J = ℕ} {V = ℕ} (backlog_view inside (fate ∷ [])) (backlog_view own []) × IsLeftOf {J = ℕ} {V = ℕ} (backlog_view inside (fate ∷ [])) (backlog_view [] [])
    leaves_nothing_of_a_frame = (inr (refl, inr (inl refl)), inr (refl, inr (inr refl)))

    leaves_fates_to_another_frame : ¬ IsLeftOf {J = ℕ} {V = ℕ} (backlog_view inside (fate ∷ [])) (backlog_view own (fate ∷ []))
    leaves_fates_to_another_frame (inl same) = absurd (omega (arith, ap (λ (b : BacklogView ℕ ℕ). length b.frames) same))
    leaves_fates_to_another_frame (inr left) = let none = left.0 in absurd (cc)

    leaves_nothing_of_a_frame_inside : ¬ IsFrameOf {J = ℕ} own inside
    leaves_nothing_of_a_frame_inside (inl same) = absurd (omega (arith, ap length same))
    leaves_nothing_of_a_frame_inside (inr (inl same)) = absurd (omega (arith, ap length same))
    leaves_nothing_of_a_frame_inside (inr (inr same)) = absurd (omega (arith, ap length same))

    nothing_of_no_frame : IsFrameOf {J = ℕ} [] [] × ¬ IsFrameOf {J = ℕ} [] own
    nothing_of_no_frame = (refl, λ is. absurd (omega (arith, ap length is)))

  -- What a run was brought has to be in its journal.
  entry_missing : (d : Dropping) (run : FrameRun ℕ ℕ) → journal_of run ≡ [] → ¬ HasEntries run (Dropped d ∷ [])
  entry_missing d run none has = let got = subst (λ (h : List Entry). slice_get h d.place ≡ Some (drop_of d).entry) none has.0 in absurd (cc)

  brings_to : (parked : Snapshot TurnState) (releases : Vec (ReleaseView ℕ) Global) → BringsTo {V = ℕ} flat_sums own [] (backlog_view own []) Went × ¬ BringsTo {V = ℕ} flat_sums own [] (backlog_view inside []) Went
      × ¬ BringsTo {V = ℕ} flat_sums own [] (backlog_view own []) (Parked parked) × ¬ BringsTo {V = ℕ} flat_sums own [] (backlog_view own []) (HasInner releases)
  brings_to parked releases = (refl, (λ is. absurd (omega (arith, ap (λ (b : BacklogView ℕ ℕ). length b.frames) is))), (λ is. is), λ is. is)

  brings_and_closes_a_run_inside : (brought : Brought ℕ ℕ) (new : BacklogView ℕ ℕ) (closed : ClosedRun ℕ ℕ) → brought.state ≡ Closed closed → ¬ BringsFates flat_sums inside [] new brought
  brings_and_closes_a_run_inside brought new closed to is = absurd (omega (arith, ap length (subst (BringsTo flat_sums inside [] new) to is.to).0.frames_are))

  -- No start is resumed of a frame that is in no other, nor of one whose run has another job.
  resumes_outermost : (released : List (ReleaseView ℕ)) (new : BacklogView ℕ ℕ) → ¬ ResumesStart flat_sums own [] released new
  resumes_outermost released new is = absurd (omega (arith, ap length is.frames_are))

  resumes_with_another_run : (released : List (ReleaseView ℕ)) (new : BacklogView ℕ ℕ) → (is : ResumesStart flat_sums inside [] released new) → job_of is.run ≡ 9
  resumes_with_another_run released new is = is.job ∙ sym (ap job_of_first is.frames_are)
    where
      job_of_first : List (FrameKey ℕ) → ℕ
      job_of_first [] = 0
      job_of_first (frame ∷ around) = frame.job
