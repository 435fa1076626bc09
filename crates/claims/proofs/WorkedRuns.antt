-- What a release comes to in a run over a table, before it is done and then, on a plain task that leads to a nested
-- one.
use Rattle.std.proofs.Common.{◌≡◌, ◌≢◌, ℕ, zero, suc, ◌+◌, ◌<◌, ◌≤◌, Bool, true, false, List, [], ◌∷◌, length, map, Option, Some, None, inl, inr, refl, ap, sym, subst, ◌∙◌, arith}
use Rattle.std.specs.Prelude.{◌⊎◌, ◌==◌}
use Rattle.std.specs.Global.{Global}
use Rattle.std.specs.Vec.{vec_capacity, vec_len}
use Rattle.std.specs.declared.vec.Vec.{Vec}
use Rattle.std.proofs.lemmas.List.Elements.{All-from_recursion, All-head}
use Rattle.std.proofs.lemmas.Option.{none-some}
use Rattle.atomic_table.specs.Seated.{TableId}
use Rattle.task_graph.specs.NetRows.{NetRows}
use Rattle.task_graph.specs.declared.net.Shape.{Shape}
use Rattle.task_graph.specs.declared.net.Shape.TheVariants.{Plain, Choice, Nested}
use Rattle.task_graph.specs.declared.net.TaskRow.{TaskRow}
use Rattle.task_graph.specs.declared.net.EdgeRow.{EdgeRow}
use Rattle.journal_rules.specs.declared.entry.Cause.TheVariants.{Source, Strong}
use Rattle.journal_rules.specs.declared.entry.Why.TheVariants.{Long, Inner as InnerWhy, OverRelease}
use Rattle.journal_rules.specs.declared.entry.DropWhy.TheVariants.{Limit, Halted}
use Rattle.join_words.specs.Ins.{InputValue}
use Rattle.join_words.specs.declared.ins.Ins.{Ins}
use Rattle.table_steps.specs.Giving.{one_if}
use Rattle.join_tables.specs.Batches.{batch_state}
use Rattle.join_tables.specs.Keeping.{TellsRun, entries_told}
use Rattle.join_tables.specs.Parts.{parts_in}
use Rattle.join_tables.specs.Shares.{shared_state}
use Rattle.join_tables.specs.States.{FreshState, TurnState, RunningState, StartUnits, fresh_state, turn_with, running_state, spent_state}
use Rattle.join_tables.specs.declared.fates.Dropping.{Dropping}
use Rattle.join_tables.specs.declared.fates.Fate.{Fate}
use Rattle.join_tables.specs.declared.fates.Fate.TheVariants.{Dropped}
use Rattle.run_frame.specs.Legal.{IsKept}
use Rattle.run_frame.specs.Meaning.{Meaning}
use Rattle.run_frame.specs.NestedRule.{job_of, journal_of}
use Rattle.run_frame.specs.Runs.{IsFine}
use Rattle.run_frame.specs.declared.job.Answer.TheVariants.{All as Each}
use Rattle.run_frame.specs.declared.job.Done.{Done as DoneBy}
use Rattle.run_frame.specs.declared.job.Done.TheVariants.{Value, Inner as InnerJob}
use Rattle.run_frame.specs.declared.run.FrameRun.{FrameRun}
use Rattle.run_frame.specs.declared.run.InnerRow.{InnerRow}
use Rattle.table_runs.specs.Attempts.{release_tried, edges_due, units_due, room_due, MayEnd, MayFault, MayDrop, IsOutcomeIn, again_list, IsAgain, IsAttemptIn}
use Rattle.table_runs.specs.Begins.{Begins}
use Rattle.table_runs.specs.CollectedRelease.{TakesUp}
use Rattle.table_runs.specs.DoneTurns.{HasSame, HasSpace, IsNoTurn}
use Rattle.table_runs.specs.JournalFacts.{IsInJournal}
use Rattle.table_runs.specs.OpenStarts.{OpenStartView, StartStands, IsOpenFor, IsStartOf}
use Rattle.table_runs.specs.Openings.{IsInnerIn, Tries}
use Rattle.table_runs.specs.RunKeys.{FrameKey, key_of}
use Rattle.table_runs.specs.Runs.{AreOf, MayWork, IsDone, AreDoneIn}
use Rattle.table_runs.specs.Spans.{spans_kept}
use Rattle.table_runs.specs.inside.FateRuns.{FateWithRun, in_rows, placed_runs}
use Rattle.table_runs.specs.declared.attempt.Attempt.{Attempt}
use Rattle.table_runs.specs.declared.attempt.Ending.{Ending}
use Rattle.table_runs.specs.declared.attempt.InnerBegun.{InnerBegun}
use Rattle.table_runs.specs.declared.attempt.Outcome.{Outcome}
use Rattle.table_runs.specs.declared.attempt.Outcome.TheVariants.{Ends, Faults, Drops}
use Rattle.table_runs.specs.declared.attempt.Tried.TheVariants as tried
use Rattle.table_runs.specs.declared.done_turns.DoneTurns.{DoneTurns}
use Rattle.table_runs.specs.declared.table_run.Begun.{Begun}
use Rattle.table_runs.specs.declared.table_run.TakenUp.{TakenUp}
use Rattle.claims.proofs.WorkedTurns.{net as shares}

abbrev free : Shape → TaskRow
free shape = record { shape = shape; takes = []; puts = [] }

abbrev edge : ℕ → ℕ → EdgeRow
edge from to = record { from = from; to = to; start = false }

-- a plain task that leads to a nested one
abbrev chain : NetRows
chain = record { tasks = free Plain ∷ free Nested ∷ []; edges = edge 0 1 ∷ []; sems = [] }

-- the same with a condition in front
abbrev fork : NetRows
fork = record { tasks = free Choice ∷ free Nested ∷ []; edges = edge 0 1 ∷ []; sems = [] }

abbrev no_tasks : NetRows
no_tasks = record { tasks = []; edges = []; sems = [] }

-- Jobs that are numbers: task 0 answers its job as a value, with all edges, and each other task the job after it.
abbrev may_answer : ℕ → ℕ → List (InputValue ℕ) → DoneBy ℕ ℕ → Type 0
may_answer j zero found (Value n answer) = (n ≡ j) × (answer ≡ Each)
may_answer j (suc t) found (Value n answer) = ⊥
may_answer j zero found (InnerJob k) = ⊥
may_answer j (suc t) found (InnerJob k) = k ≡ j + 1

abbrev adds : Meaning ℕ ℕ
adds = record {
  net = λ j. chain;
  limit = λ j. 3;
  answers = may_answer;
  faults = λ j t found why. why ≡ Long j;
  gathers = λ j run n. n ≡ j;
  gather_faults = λ j run why. why ≡ Long j;
  follows = λ j run k. k ≡ j + 1;
}

-- jobs that answer anything
abbrev lax : Meaning ℕ ℕ
lax = record adds { answers = λ j t found done. Unit {0} }

abbrev no_units : StartUnits
no_units = record { back = []; to_credit = []; credited = []; to_claim = []; refused = None }

one_at_most : (b : Bool) → one_if b + 0 ≤ 1
one_at_most true = omega arith
one_at_most false = omega arith

abbrev owing_units : StartUnits
owing_units = record no_units { to_credit = 0 ∷ [] }

abbrev claiming_units : StartUnits
claiming_units = record no_units { to_claim = 0 ∷ [] }

-- A run of job 2 over one table, with a book of its spans; and another table.
module _ (n m b : TableId) (other : m ≢ n) (ins : Ins ℕ) where
  abbrev key : FrameKey ℕ
  key = record { table = n; job = 2; book = Some b }

  abbrev running_in : TableId → ℕ → StartUnits → RunningState ℕ
  running_in k t units = running_state k t Source 4 ins units []

  abbrev running : ℕ → RunningState ℕ
  running t = running_in n t no_units

  abbrev dropped_turn : TurnState
  dropped_turn = turn_with n 0 Source (Some Limit) [] []

  abbrev ending : RunningState ℕ → ℕ → Ending ℕ
  ending r v = record { running = r; gives = 0 ∷ []; value = shared_state v 1 false; inner = false }

  -- ---- What is due of an outcome.
  tried_by_its_release : (release_tried n (Ends (ending (running 0) 2)) ≡ fresh_state n 0 Source) × (release_tried n (Faults (running 1) InnerWhy) ≡ fresh_state n 1 Source) × (release_tried {V = ℕ} n (Drops dropped_turn Limit) ≡ fresh_state n 0 Source)
  tried_by_its_release = (refl, refl, refl)

  edges_of_an_end : (edges_due (Ends (ending (running 0) 2)) ≡ 1) × (edges_due (Faults (running 0) InnerWhy) ≡ 0) × (edges_due {V = ℕ} (Drops dropped_turn Limit) ≡ 0)
  edges_of_an_end = (refl, refl, refl)

  -- an end gives back what its task puts, a drop what it takes
  units_by_outcome : (units_due shares (Ends (ending (running 3) 2)) ≡ 0 ∷ []) × (units_due shares (Faults (running 3) InnerWhy) ≡ []) × (units_due {V = ℕ} shares (Drops (record dropped_turn { task = 2 }) Limit) ≡ 0 ∷ [])
  units_by_outcome = (refl, refl, refl)

  abbrev attempt : Outcome ℕ → Option FreshState → Option (FrameRun ℕ ℕ) → Attempt ℕ ℕ
  attempt outcome again inner = record { outcome = outcome; again = again; inner = inner }

  abbrev next : FreshState
  next = fresh_state n 1 Strong

  room_with_the_next : (room_due (attempt (Ends (ending (running 0) 2)) (Some next) None) ≡ 2) × (room_due (attempt (Ends (ending (running 0) 2)) None None) ≡ 1) × (room_due (attempt (Drops dropped_turn Limit) (Some next) None) ≡ 1)
  room_with_the_next = (refl, refl, refl)

  next_in_a_list : (again_list (Some next) ≡ next ∷ []) × (again_list None ≡ [])
  next_in_a_list = (refl, refl)

  released_again_by_strong_edges : IsAgain n 1 Strong (Some next) × IsAgain n 1 Source None
  released_again_by_strong_edges = ((refl, refl), tt)

  source_released_again : ¬ IsAgain n 1 Source (Some (fresh_state n 1 Source)) × ¬ IsAgain n 1 Source (Some next)
  source_released_again = ((λ is. let no : Source ≡ Strong = is.0 in absurd (cc)), λ is. let no : Source ≡ Strong = is.0 in absurd (cc))

  another_released_again : ¬ IsAgain n 0 Strong (Some next)
  another_released_again is = absurd (omega (arith, ap (λ (f : FreshState). f.task) is.1))

  -- ---- How a start may end.
  may_end : MayEnd adds key None (ending (running 0) 2)
  may_end = record {
    table = refl;
    credited = record { none_left = refl; all = λ s. refl };
    claimed = record { none_left = refl; not_refused = refl; all = λ s. refl };
    fits = record { in_range = (omega arith, tt); once = λ e. one_at_most (0 == e); fits = (inl refl, refl) };
    shares = refl;
    parcels = λ bare. absurd (cc);
    allowed = record { answer = Each; allowed = (refl, refl); chosen = refl };
  }

  ends_in_another_table : ¬ MayEnd adds key None (ending (running_in m 0 no_units) 2)
  ends_in_another_table is = other is.table

  ends_before_it_credits : ¬ MayEnd adds key None (ending (running_in n 0 owing_units) 2)
  ends_before_it_credits is = let no : ◌≡◌ {A = List ℕ} (0 ∷ []) [] = is.credited.none_left in absurd (cc)

  ends_before_it_claims : ¬ MayEnd adds key None (ending (running_in n 0 claiming_units) 2)
  ends_before_it_claims is = let no : ◌≡◌ {A = List ℕ} (0 ∷ []) [] = is.claimed.none_left in absurd (cc)

  -- its work may answer an edge that its task hasn't, but the end doesn't give it
  ends_with_an_edge_of_none : ¬ MayEnd lax key None (record (ending (running 1) 2) { gives = 0 ∷ [] })
  ends_with_an_edge_of_none is = fits is.fits.fits.0
    where
      fits : (◌≡◌ {A = List ℕ} (0 ∷ []) [] ⊎ ◌≡◌ {A = List ℕ} (0 ∷ []) []) → ⊥
      fits (inl same) = absurd (omega (arith, ap length same))
      fits (inr same) = absurd (omega (arith, ap length same))

  ends_without_owners : ¬ MayEnd adds key None (record (ending (running 0) 2) { value = shared_state 2 0 false })
  ends_without_owners is = absurd (omega (arith, is.shares))

  ends_bare_behind_a_condition : ¬ MayEnd (record adds { net = λ j. fork }) key None (record (ending (running 0) 2) { value = shared_state 2 1 true })
  ends_bare_behind_a_condition is = let no : true ≡ false = (is.parcels refl).strong 0 in absurd (cc)

  ends_with_another_value : ¬ MayEnd adds key None (ending (running 0) 3)
  ends_with_another_value is = absurd (omega (arith, is.allowed.allowed.0))

  -- ---- How it may fault, and how a release is dropped.
  may_fault : MayFault adds key None (running 0) (Long 2)
  may_fault = record { table = refl; credited = record { none_left = refl; all = λ s. refl }; tells = tt; allowed = refl }

  faults_in_another_table : ¬ MayFault adds key None (running_in m 0 no_units) (Long 2)
  faults_in_another_table is = other is.table

  faults_before_it_credits : ¬ MayFault adds key None (running_in n 0 owing_units) (Long 2)
  faults_before_it_credits is = let no : ◌≡◌ {A = List ℕ} (0 ∷ []) [] = is.credited.none_left in absurd (cc)

  faults_for_a_unit_that_was_not_refused : ¬ MayFault lax key None (running 0) (OverRelease 0)
  faults_for_a_unit_that_was_not_refused is = let no : ◌≡◌ {A = Option ℕ} None (Some 0) = is.tells in absurd (cc)

  faults_for_another_reason : ¬ MayFault adds key None (running 0) (Long 3)
  faults_for_another_reason is = let no : Long 3 ≡ Long 2 = is.allowed in absurd (cc)

  may_drop : MayDrop key dropped_turn Limit
  may_drop = record { table = refl; refused = refl; held = refl }

  drops_in_another_table : ¬ MayDrop key (record dropped_turn { table = m }) Limit
  drops_in_another_table is = other is.table

  drops_for_another_reason : ¬ MayDrop key dropped_turn Halted
  drops_for_another_reason is = let no : Some Limit ≡ Some Halted = is.refused in absurd (cc)

  drops_with_a_unit : ¬ MayDrop key (record dropped_turn { held = 0 ∷ [] }) Limit
  drops_with_a_unit is = let no : ◌≡◌ {A = List ℕ} (0 ∷ []) [] = is.held in absurd (cc)

  outcomes : IsOutcomeIn adds key None (Ends (ending (running 0) 2)) × IsOutcomeIn adds key None (Faults (running 0) (Long 2)) × IsOutcomeIn adds key None (Drops dropped_turn Limit)
  outcomes = (may_end, may_fault, (may_drop, refl))

  no_outcomes : ¬ IsOutcomeIn adds key None (Ends (ending (running 0) 3)) × ¬ IsOutcomeIn adds key None (Faults (running 0) (Long 3)) × ¬ IsOutcomeIn adds key None (Drops dropped_turn Halted)
  no_outcomes = (ends_with_another_value, faults_for_another_reason, λ is. drops_for_another_reason is.0)

  -- ---- An attempt as a whole.
  is_attempt : IsAttemptIn adds key (attempt (Ends (ending (running 0) 2)) None None)
  is_attempt = record { outcome = may_end; kept = tt; again = tt }

  attempt_at_another_value : ¬ IsAttemptIn adds key (attempt (Ends (ending (running 0) 3)) None None)
  attempt_at_another_value is = ends_with_another_value is.outcome

  attempt_of_a_source_again : ¬ IsAttemptIn adds key (attempt (Ends (ending (running 0) 2)) (Some (fresh_state n 0 Strong)) None)
  attempt_of_a_source_again is = let no : Source ≡ Strong = is.again.0 in absurd (cc)

  -- ---- A release that was taken up.
  abbrev taken : TurnState → Option FreshState → TakenUp ℕ
  taken turn again = record { turn = turn; again = again; woken = None }

  abbrev fresh_turn : TurnState
  fresh_turn = turn_with n 1 Strong None [] (5 ∷ [])

  takes_up : TakesUp n next (taken fresh_turn (Some next))
  takes_up = record { table = refl; task = refl; cause = refl; refused = refl; held = refl; again = (refl, refl) }

  takes_up_in_another_table : ¬ TakesUp n next (taken (record fresh_turn { table = m }) None)
  takes_up_in_another_table is = other is.table

  takes_up_another_task : ¬ TakesUp n next (taken (record fresh_turn { task = 0 }) None)
  takes_up_another_task is = absurd (omega (arith, is.task))

  takes_up_by_another_cause : ¬ TakesUp n next (taken (record fresh_turn { cause = Source }) None)
  takes_up_by_another_cause is = let no : Source ≡ Strong = is.cause in absurd (cc)

  takes_up_one_that_was_refused : ¬ TakesUp n next (taken (record fresh_turn { refused = Some Limit }) None)
  takes_up_one_that_was_refused is = let no : Some Limit ≡ None = is.refused in absurd (cc)

  takes_up_with_a_unit : ¬ TakesUp n next (taken (record fresh_turn { held = 0 ∷ [] }) None)
  takes_up_with_a_unit is = let no : ◌≡◌ {A = List ℕ} (0 ∷ []) [] = is.held in absurd (cc)

  takes_up_and_releases_another : ¬ TakesUp n next (taken fresh_turn (Some (fresh_state n 0 Strong)))
  takes_up_and_releases_another is = absurd (omega (arith, ap (λ (f : FreshState). f.task) is.again.1))

  -- ---- Turns that are done. Task 0 was dropped.
  module _ (rows more : Vec (InnerRow ℕ ℕ) Global) (d : Dropping) where
    abbrev done : Option TableId → List (Fate ℕ) → ℕ → DoneTurns ℕ ℕ
    done table fates room = record { batch = batch_state table fates room; inner = rows }

    same_turns : more.items ≡ rows.items → HasSame (done (Some n) (Dropped d ∷ []) 1) (record { batch = batch_state (Some n) (Dropped d ∷ []) 2; inner = more })
    same_turns same = record { table = refl; fates = refl; inner = same }

    turns_of_another_table : ¬ HasSame (done (Some n) [] 1) (done (Some m) [] 1)
    turns_of_another_table same = other (ap (λ (t : Option TableId). elim t [ None ↦ n | Some k ↦ k ]) same.table)

    one_turn_more : ¬ HasSame (done (Some n) [] 1) (done (Some n) (Dropped d ∷ []) 1)
    one_turn_more same = absurd (omega (arith, ap length same.fates))

    one_run_more : length rows.items ≡ 0 → length more.items ≡ 1 → ¬ HasSame (done (Some n) [] 1) (record { batch = batch_state (Some n) [] 1; inner = more })
    one_run_more none one same = absurd (omega (arith, none, one, ap length same.inner))

    space_for_one : vec_len rows < vec_capacity rows → HasSpace (done (Some n) (Dropped d ∷ []) 2) × ¬ HasSpace (done (Some n) (Dropped d ∷ []) 1)
    space_for_one below = (record { turn = omega arith; run = below }, λ has. absurd (omega (arith, has.turn)))

    space_for_no_run : ¬ (vec_len rows < vec_capacity rows) → ¬ HasSpace (done (Some n) [] 2)
    space_for_no_run full has = full has.run

    no_turn : rows.items ≡ [] → IsNoTurn (done None [] 5)
    no_turn none = record { table = refl; fates = refl; inner = none }

    no_turn_of_a_table : ¬ IsNoTurn (done (Some n) [] 5)
    no_turn_of_a_table is = let no : Some n ≡ None = is.table in absurd (cc)

    no_turn_but_one : ¬ IsNoTurn (done None (Dropped d ∷ []) 5)
    no_turn_but_one is = absurd (omega (arith, ap length is.fates))

    no_turn_but_a_run : length rows.items ≡ 1 → ¬ IsNoTurn (done None [] 5)
    no_turn_but_a_run one is = absurd (omega (arith, one, ap length is.inner))

    done_with_its_drop : IsInJournal adds 2 (Dropped d) → IsDone adds key (record { spent = spent_state n (Dropped d); inner = None })
    done_with_its_drop within = record { table = refl; allowed = record { by_job = refl; kept = tt }; journal = within }

    done_in_another_table : ¬ IsDone adds key (record { spent = spent_state m (Dropped d); inner = None })
    done_in_another_table is = other is.table

    done_with_a_run_of_a_drop : (run : FrameRun ℕ ℕ) → ¬ IsDone adds key (record { spent = spent_state n (Dropped d); inner = Some run })
    done_with_a_run_of_a_drop run is = let no : ◌≡◌ {A = Option (FrameRun ℕ ℕ)} (Some run) None = is.allowed.by_job in absurd (cc)

    done_outside_of_a_journal : ¬ IsInJournal adds 2 (Dropped d) → ¬ IsDone adds key (record { spent = spent_state n (Dropped d); inner = None })
    done_outside_of_a_journal outside is = outside is.journal

    drops_without_a_run : rows.items ≡ [] → AreDoneIn adds key (done (Some n) (Dropped d ∷ []) 1)
    drops_without_a_run none = record {
      table = refl;
      allowed = record { turns = record { fate = Dropped d; run = None } ∷ []; fates_are = refl; rows_are = sym (ap in_rows none); each = (record { by_job = refl; kept = tt }, tt) };
    }

    drops_of_another_table : ¬ AreDoneIn adds key (done (Some m) (Dropped d ∷ []) 1)
    drops_of_another_table are = other are.table

    -- rows that have no fate
    rows_alone : (r : InnerRow ℕ ℕ) → rows.items ≡ r ∷ [] → ¬ AreDoneIn adds key (done (Some n) [] 1)
    rows_alone r one are = by_turns are.allowed.turns are.allowed.fates_are (are.allowed.rows_are ∙ ap in_rows one)
      where
        by_turns : (turns : List (FateWithRun ℕ ℕ)) → map (λ (turn : FateWithRun ℕ ℕ). turn.fate) turns ≡ [] → placed_runs turns ≡ in_rows (r ∷ []) → ⊥
        by_turns [] fates placed = absurd (omega (arith, ap length placed))
        by_turns (turn ∷ turns) fates placed = absurd (omega (arith, ap length fates))

  of_their_table : AreOf n (next ∷ []) × AreOf n []
  of_their_table = (All-from_recursion (λ (f : FreshState). f.table ≡ n) (next ∷ []) (refl, tt), All-from_recursion (λ (f : FreshState). f.table ≡ n) [] tt)

  of_another_table : ¬ AreOf m (next ∷ [])
  of_another_table of = other (sym (All-head (λ (f : FreshState). f.table ≡ m) next [] of))

  -- ---- A run that begins: task 0 is its source.
  abbrev source : FreshState
  source = fresh_state n 0 Source

  module _ (begun : Begun ℕ ℕ) (run_is : begun.run ≡ key) where
    begins : begun.fresh.items ≡ source ∷ [] → key_of begun.kept ≡ key → spans_kept begun.kept ≡ 0 → Begins adds 2 begun
    begins first kept no_spans = record {
      job_is = ap (λ (k : FrameKey ℕ). k.job) run_is;
      first = first ∙ ap (λ (k : FrameKey ℕ). fresh_state k.table 0 Source ∷ []) (sym run_is);
      fresh = subst (AreOf begun.run.table) (sym first) (All-from_recursion (λ (f : FreshState). f.table ≡ begun.run.table) (source ∷ []) (sym (ap (λ (k : FrameKey ℕ). k.table) run_is), tt));
      kept = kept ∙ sym run_is;
      no_spans = no_spans;
      nothing = λ none. absurd (omega (arith, ap length (sym first ∙ none)));
    }

    begins_with_another_job : ¬ Begins adds 3 begun
    begins_with_another_job is = absurd (omega (arith, is.job_is, ap (λ (k : FrameKey ℕ). k.job) run_is))

    begins_without_its_source : begun.fresh.items ≡ [] → ¬ Begins adds 2 begun
    begins_without_its_source none is = absurd (omega (arith, ap length (sym none ∙ is.first)))

    begins_with_another_keeper : key_of begun.kept ≡ record key { table = m } → ¬ Begins adds 2 begun
    begins_with_another_keeper kept is = other (ap (λ (k : FrameKey ℕ). k.table) (sym kept ∙ is.kept ∙ run_is))

    begins_with_a_span : spans_kept begun.kept ≡ 1 → ¬ Begins adds 2 begun
    begins_with_a_span one is = absurd (omega (arith, one, is.no_spans))

    finished_without_a_task : begun.fresh.items ≡ [] → Begins (record adds { net = λ j. no_tasks }) 2 begun → TellsRun no_tasks 3 (entries_told begun.kept.keeper.fates)
    finished_without_a_task none is = is.nothing none

  -- ---- A start of the nested task that is open for the job after its own.
  module _ (parts : length (parts_in ins) ≡ 1) where
    abbrev nested : RunningState ℕ
    nested = running_state n 1 Strong 2 ins no_units []

    may_work : MayWork chain nested
    may_work = record {
      release = record { in_tasks = omega arith; in_range = tt; fits = λ none. absurd (cc) };
      parts = parts;
      claims = record { credited = record { none_left = refl; all = λ s. refl }; back = λ s. refl; to_claim = λ s. refl; refused = refl };
    }

    works_by_no_edge : ¬ MayWork chain (record nested { cause = Source })
    works_by_no_edge may = absurd (omega (arith, parts, may.parts))

    works_though_claimed : ¬ MayWork chain (record nested { units = record no_units { refused = Some 0 } })
    works_though_claimed may = let no : ◌≡◌ {A = Option ℕ} (Some 0) None = may.claims.refused in absurd (cc)

    is_open : StartStands adds 2 nested → IsOpenFor adds key 3 nested
    is_open stands = record { table = refl; may = may_work; journal = stands; answered = refl }

    open_in_another_table : ¬ IsOpenFor adds key 3 (record nested { table = m })
    open_in_another_table is = other is.table

    open_outside_of_a_journal : ¬ StartStands adds 2 nested → ¬ IsOpenFor adds key 3 nested
    open_outside_of_a_journal outside is = outside is.journal

    open_for_another_job : ¬ IsOpenFor adds key 4 nested
    open_for_another_job is = absurd (omega (arith, is.answered))

    abbrev open_start : OpenStartView ℕ ℕ
    open_start = record { frame = key; running = nested }

    start_of_its_job : StartStands adds 2 nested → IsStartOf adds 3 open_start × ¬ IsStartOf adds 4 open_start
    start_of_its_job stands = (is_open stands, open_for_another_job)

    -- In its place a run has begun over the other table.
    module _ (begun : Begun ℕ ℕ) (run_is : begun.run ≡ record { table = m; job = 3; book = Some b }) (begins : Begins adds begun.run.job begun) where
      abbrev inner_begun : OpenStartView ℕ ℕ → Option FreshState → InnerBegun ℕ ℕ
      inner_begun start again = record { begun = begun; start = start; again = again }

      begun_in_its_place : StartStands adds 2 nested → begun.fresh.items ≢ [] → IsInnerIn adds key (inner_begun open_start (Some next))
      begun_in_its_place stands some = record {
        frame_is = refl;
        start = subst (λ (k : FrameKey ℕ). IsStartOf adds k.job open_start) (sym run_is) (is_open stands);
        begins = begins;
        book = ap (λ (k : FrameKey ℕ). k.book) run_is;
        some = some;
        again = (refl, refl);
      }

      begun_with_nothing_to_do : begun.fresh.items ≡ [] → ¬ IsInnerIn adds key (inner_begun open_start None)
      begun_with_nothing_to_do none is = is.some none

      begun_in_another_run : ¬ IsInnerIn adds key (inner_begun (record open_start { frame = record key { table = m } }) None)
      begun_in_another_run is = other (ap (λ (k : FrameKey ℕ). k.table) is.frame_is)

      begun_and_releases_another : ¬ IsInnerIn adds key (inner_begun open_start (Some source))
      begun_and_releases_another is = absurd (omega (arith, ap (λ (f : FreshState). f.task) is.again.1))

      tries_and_begins : StartStands adds 2 nested → begun.fresh.items ≢ [] → Tries adds key next (tried.Inner (inner_begun open_start None))
      tries_and_begins stands some = (record { frame_is = refl; start = subst (λ (k : FrameKey ℕ). IsStartOf adds k.job open_start) (sym run_is) (is_open stands); begins = begins; book = ap (λ (k : FrameKey ℕ). k.book) run_is; some = some; again = tt }, refl)

      tries_another_and_begins : ¬ Tries adds key source (tried.Inner (inner_begun open_start None))
      tries_another_and_begins is = absurd (omega (arith, ap (λ (f : FreshState). f.task) is.1))

    begun_for_another_job : (begun : Begun ℕ ℕ) → begun.run.job ≡ 4 → ¬ IsInnerIn adds key (record { begun = begun; start = open_start; again = None })
    begun_for_another_job begun job is = absurd (omega (arith, job, is.start.answered))

    begun_with_another_book : (begun : Begun ℕ ℕ) → begun.run.book ≡ None → ¬ IsInnerIn adds key (record { begun = begun; start = open_start; again = None })
    begun_with_another_book begun none is = none-some b (sym none ∙ is.book)

  tries_and_ends : Tries adds key source (tried.Done (attempt (Ends (ending (running 0) 2)) None None))
  tries_and_ends = (is_attempt, refl, tt)

  tries_another : ¬ Tries adds key next (tried.Done (attempt (Ends (ending (running 0) 2)) None None))
  tries_another is = absurd (omega (arith, ap (λ (f : FreshState). f.task) is.1))

  tries_to_another_value : ¬ Tries adds key source (tried.Done (attempt (Ends (ending (running 0) 3)) None None))
  tries_to_another_value is = attempt_at_another_value is.0

  -- ---- With a run in place of its work.
  module _ (run : FrameRun ℕ ℕ) (job : job_of run ≡ 3) where
    abbrev cut_short : Attempt ℕ ℕ
    cut_short = attempt (Faults (running 1) InnerWhy) None (Some run)

    attempt_cut_short : ¬ IsFine (journal_of run) → IsKept adds run → IsAttemptIn adds key cut_short
    attempt_cut_short cut kept = record { outcome = record { table = refl; credited = record { none_left = refl; all = λ s. refl }; tells = tt; allowed = (job, cut) }; kept = kept; again = tt }

    attempt_with_a_run_that_may_not_be_kept : ¬ IsKept adds run → ¬ IsAttemptIn adds key cut_short
    attempt_with_a_run_that_may_not_be_kept never is = never is.kept

    drops_with_a_run : ¬ IsOutcomeIn adds key (Some run) (Drops dropped_turn Limit)
    drops_with_a_run is = let no : ◌≡◌ {A = Option (FrameRun ℕ ℕ)} (Some run) None = is.1 in absurd (cc)

    -- a run in which something is to be done isn't over in the same call
    tries_and_runs_inside : ¬ Tries adds key (fresh_state n 1 Source) (tried.Done cut_short)
    tries_and_runs_inside is = absurd (omega (arith, ap length (is.2.no_first n)))
