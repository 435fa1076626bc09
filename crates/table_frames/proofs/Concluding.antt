-- What a step comes to.
use Rattle.std.proofs.Common.{◌≡◌, ℕ, ◌≤◌, inl, inr, Bool, true, false, ◌||◌, List, [], ◌∷◌, ◌++◌, length, map, Option, Some, None, Result, Ok, Err, refl, sym, ap, ◌∙◌, subst, arith, get_or}
use Rattle.std.specs.Prelude.{All, IfOk}
use Rattle.std.specs.List.{list_any}
use Rattle.std.specs.declared.snapshot.Snapshot.{Snapshot}
use Rattle.std.proofs.lemmas.Bool.{false≢true}
use Rattle.std.proofs.lemmas.List.{length-append}
use Rattle.std.proofs.lemmas.List.Folds.{list_any-append}
use Rattle.journal_rules.specs.declared.entry.Cause.{Cause}
use Rattle.journal_rules.specs.SemaphoreRule.{takes}
use Rattle.semaphore_turns.specs.Semaphores.{put_by, taken_by}
use Rattle.semaphore_turns.specs.WaitingTurns.{release_of}
use Rattle.semaphore_turns.specs.WokenTurns.{ParksTurn, WaitedFor, Wakes}
use Rattle.semaphore_turns.specs.declared.parks.Parking.TheVariants.{Parked, Taken}
use Rattle.task_graph.specs.NetRows.{NetRows}
use Rattle.atomic_table.specs.Seated.{TableId}
use Rattle.join_tables.specs.States.{FreshState, RunningState, TableState, TurnState, fresh_state}
use Rattle.run_frame.specs.Meaning.{Meaning}
use Rattle.table_frames.specs.Frames.{AtFrame, BacklogView, HasTable, ReleaseView, backlog_view, release_in}
use Rattle.table_runs.specs.RunKeys.{FrameKey, table_in}
use Rattle.table_runs.specs.StepReleases.{MayRelease, Uses}
use Rattle.table_frames.specs.Steps.{BeginsFrame, IsStateOf, StepsRelease, StepsTo, UsesRelease, units_of}
use Rattle.table_runs.specs.Openings.{IsOverAtOnce}
use Rattle.join_words.specs.Ins.{found_of, parts_of}
use Rattle.table_steps.specs.OneJournal.{AreInOneJournal}
use Rattle.join_tables.specs.Keeping.{start_of, with_places}
use Rattle.join_tables.specs.Parts.{parts_in}
use Rattle.run_frame.specs.declared.job.Done.TheVariants.{Inner as InnerJob}
use Rattle.table_frames.specs.inside.Openings.{OpensFrame}
use Rattle.table_frames.specs.inside.TriedReleases.{TriesAt, TriesRelease, IsTakenIn}
use Rattle.table_runs.specs.declared.attempt.InnerBegun.{InnerBegun}
use Rattle.table_runs.specs.declared.attempt.Tried.TheVariants.{Inner as InnerTried}
use Rattle.table_runs.specs.Attempts.{IsAgain, again_list, release_tried, units_due}
use Rattle.table_runs.specs.declared.table_run.TakenUp.{TakenUp}
use Rattle.table_runs.specs.Begins.{Begins}
use Rattle.table_frames.specs.inside.AttemptEnds.{Concludes}
use Rattle.table_runs.specs.declared.attempt.Attempt.{Attempt}
use Rattle.table_runs.specs.declared.attempt.Outcome.{Outcome}
use Rattle.table_runs.specs.declared.attempt.Outcome.TheVariants.{Ends, Faults, Drops}
use Rattle.table_frames.specs.declared.step_results.State.{State}
use Rattle.table_frames.specs.declared.step_results.State.TheVariants.{Went, Parked as ParkedState, Inner as InnerState, Resumed as ResumedState, Closed as ClosedState}
use Rattle.table_frames.specs.declared.step_results.Stepped.{Stepped}
use Rattle.table_runs.specs.declared.table_run.Begun.{Begun}
use Rattle.table_frames.proofs.Handing.{all_in}

-- what waited for the units that an attempt gives back waited for units of its task
due_listed : {V : Type 0} (test : ℕ → Bool) (net : NetRows) (n : TableId) (outcome : Outcome V) → list_any test (units_due net outcome) ≡ true → list_any test (units_of net (release_tried n outcome).task) ≡ true
due_listed test net n (Ends ending) is = list_any-append test (taken_by net ending.running.task) (put_by net ending.running.task) ∙ second (list_any test (taken_by net ending.running.task)) (list_any test (put_by net ending.running.task)) is
  where
    second : (a b : Bool) → b ≡ true → a || b ≡ true
    second true b _ = refl
    second false b is = is
due_listed test net n (Faults running why) is = absurd (false≢true is)
due_listed test net n (Drops turn why) is = list_any-append test (taken_by net turn.task) (put_by net turn.task) ∙ first (list_any test (taken_by net turn.task)) (list_any test (put_by net turn.task)) is
  where
    first : (a b : Bool) → a ≡ true → a || b ≡ true
    first true b _ = refl
    first false b is = absurd (false≢true is)

due_few : {V : Type 0} (net : NetRows) (n : TableId) (outcome : Outcome V) → length (units_due net outcome) ≤ length (units_of net (release_tried n outcome).task)
due_few net n (Ends ending) = omega (arith, length-append (taken_by net ending.running.task) (put_by net ending.running.task))
due_few net n (Faults running why) = omega arith
due_few net n (Drops turn why) = omega (arith, length-append (taken_by net turn.task) (put_by net turn.task))

pub wakes_due : {V : Type 0} (table : TableState) (outcome : Outcome V) (before after : List FreshState) → Wakes table (units_due table.net outcome) before after → Wakes table (units_of table.net (release_tried table.table outcome).task) before after
wakes_due table outcome before after wakes = record {
  woken = wakes.woken;
  after_is = wakes.after_is;
  waited = λ k d below. each (get_or wakes.woken k d) (wakes.waited k d below);
  few = omega (arith, wakes.few, due_few table.net table.table outcome);
}
  where
    each : (release : FreshState) → WaitedFor table (units_due table.net outcome) release → WaitedFor table (units_of table.net (release_tried table.table outcome).task) release
    each release waited = record { table_is = waited.table_is; takes = due_listed (λ sem. takes table.net sem release.task) table.net table.table outcome waited.takes }

pub same_tried : {V : Type 0} (n : TableId) (outcome : Outcome V) → fresh_state n (release_tried n outcome).task (release_tried n outcome).cause ≡ release_tried n outcome
same_tried n (Ends ending) = refl
same_tried n (Faults running why) = refl
same_tried n (Drops turn why) = refl

-- the release of an attempt is used up
abbrev pub used_up : {J V : Type 0} (meaning : Meaning J V) (frames : List (FrameKey J)) (attempt : Attempt J V) (mid old new : BacklogView J V) (made : List FreshState) → mid.fates ≡ old.fates → (concludes : Concludes meaning frames attempt mid new made)
    → UsesRelease meaning concludes.frame (release_in frames (release_tried concludes.frame.table attempt.outcome)) old new made
used_up meaning frames attempt mid old new made same concludes =
    let frame = concludes.frame in
    record {
      fate = concludes.fate;
      run = attempt.inner;
      by_end = concludes.by_end;
      allowed = concludes.allowed;
      journal = concludes.journal;
      uses = subst (λ r. Uses (meaning.net frame.job) r concludes.fate [] concludes.by_end) (sym (same_tried frame.table attempt.outcome)) concludes.uses;
      wakes = wakes_due (table_in meaning frame) attempt.outcome concludes.by_end made concludes.wakes;
      backlog = concludes.backlog ∙ ap (λ fs. backlog_view frames (fs ++ concludes.fate ∷ [])) same;
    }

-- a step that used its release up
pub steps_release : {J V : Type 0} (meaning : Meaning J V) (frames : List (FrameKey J)) (fresh : FreshState) (attempt : Attempt J V) (old mid new : BacklogView J V) (made : List FreshState) (stepped : Stepped J V) → HasTable frames fresh.table → mid.fates ≡ old.fates → Concludes meaning frames attempt mid new made → TriesRelease frames attempt fresh → IsOverAtOnce meaning attempt.inner
    → stepped.released.items ≡ map (release_in frames) made → stepped.state ≡ Went → StepsRelease meaning (release_in frames fresh) old new stepped
steps_release {J} meaning frames fresh attempt old mid new made stepped has same concludes tries at_once released state =
    let frame = concludes.frame in
    let table : fresh.table ≡ frame.table = subst (λ fs. HasTable fs fresh.table) concludes.frames_are has in
    let tried : release_tried frame.table attempt.outcome ≡ fresh = subst (λ fs. TriesRelease fs attempt fresh) concludes.frames_are tries in
    let uses = subst (λ r. Uses (meaning.net frame.job) r concludes.fate [] concludes.by_end) tried concludes.uses in
    let wakes = wakes_due (table_in meaning frame) attempt.outcome concludes.by_end made concludes.wakes in
    record {
      frame = frame;
      around = concludes.around;
      frames_are = concludes.frames_are;
      made = made;
      to = subst (StepsTo meaning frame (release_in frames fresh) old new made) (sym state) (record {
        uses = record {
          fate = concludes.fate;
          run = attempt.inner;
          by_end = concludes.by_end;
          allowed = concludes.allowed;
          journal = concludes.journal;
          uses = subst (λ n. Uses (meaning.net frame.job) (fresh_state n fresh.task fresh.cause) concludes.fate [] concludes.by_end) table uses;
          wakes = subst (λ (t : ℕ). Wakes (table_in meaning frame) (units_of (meaning.net frame.job) t) concludes.by_end made) (ap (λ (f : FreshState). f.task) tried) wakes;
          backlog = concludes.backlog ∙ ap (λ fs. backlog_view frames (fs ++ concludes.fate ∷ [])) same;
        };
        inner = at_once;
      });
      released = released;
      frames = subst (All (λ (next : ReleaseView J). next.frames ≡ frames)) (sym released) (all_in frames made);
      backlog = ap (λ (b : BacklogView J _). b.frames) concludes.backlog;
    }

may_again : (n : TableId) (t : ℕ) (cause : Cause) (woken : List FreshState) (again : Option FreshState) → IsAgain n t cause again → MayRelease n t cause woken (woken ++ again_list again)
may_again n t cause woken None is = record { again = []; after_is = refl; is = inl refl }
may_again n t cause woken (Some again) is = record { again = again ∷ []; after_is = refl; is = inr (is.0, ap (λ f. f ∷ []) is.1) }

-- the Start of such a release is in one journal
abbrev StandsAs : {J V : Type 0} → Meaning J V → RunningState V → J → FreshState → Type 0
StandsAs meaning r job f = AreInOneJournal (meaning.net job) (meaning.limit job) (with_places (start_of r.place f.task f.cause (parts_in r.ins) ∷ []))

-- a step that opened a run for it
pub opens_release : {J V : Type 0} (meaning : Meaning J V) (frames : List (FrameKey J)) (fresh : FreshState) (inner : InnerBegun J V) (old new : BacklogView J V) (stepped : Stepped J V) → TriesAt meaning frames fresh (InnerTried inner) → OpensFrame meaning frames inner stepped → new ≡ backlog_view frames old.fates → StepsRelease meaning (release_in frames fresh) old new stepped
opens_release meaning [] fresh inner old new stepped tries opens backlog = absurd tries
opens_release {J} {V} meaning (frame ∷ around) fresh inner old new stepped tries opens backlog =
    let r = inner.start.running in
    let is = tries.0 in
    let of = tries.1 in
    let task : r.task ≡ fresh.task = ap (λ (f : FreshState). f.task) of in
    let cause : r.cause ≡ fresh.cause = ap (λ (f : FreshState). f.cause) of in
    record {
      frame = frame;
      around = around;
      frames_are = refl;
      made = again_list inner.again;
      to = subst (StepsTo meaning frame (release_in (frame ∷ around) fresh) old new (again_list inner.again)) (sym opens.state) (record {
        place = r.place;
        ins = r.ins;
        journal = subst (λ (f : FreshState). StandsAs meaning r frame.job f) of (subst (λ (k : FrameKey J). StandsAs meaning r k.job (fresh_state frame.table r.task r.cause)) is.frame_is is.start.journal);
        inner = inner.begun.run;
        book = is.book;
        answered = subst (λ (t : ℕ). meaning.answers frame.job t (map found_of (parts_of r.ins)) (InnerJob inner.begun.run.job)) task
            (subst (λ (k : FrameKey J). meaning.answers k.job r.task (map found_of (parts_of r.ins)) (InnerJob inner.begun.run.job)) is.frame_is is.start.answered);
        first_are = opens.first_are ∙ ap (map (release_in (inner.begun.run ∷ frame ∷ around))) is.begins.first;
        some = λ none. is.some (none_left_in inner.begun.fresh.items (sym opens.first_are ∙ none));
        again = subst (λ (c : Cause). MayRelease frame.table fresh.task c [] (again_list inner.again)) cause
            (subst (λ (t : ℕ). MayRelease frame.table t r.cause [] (again_list inner.again)) task (may_again frame.table r.task r.cause [] inner.again is.again));
        backlog = backlog;
      });
      released = opens.released;
      frames = subst (All (λ (next : ReleaseView J). next.frames ≡ frame ∷ around)) (sym opens.released) (all_in (frame ∷ around) (again_list inner.again));
      backlog = ap (λ (b : BacklogView J _). b.frames) backlog;
    }
  where
    none_left_in : (fs : List FreshState) → map (release_in (inner.begun.run ∷ frame ∷ around)) fs ≡ [] → fs ≡ []
    none_left_in [] is = refl
    none_left_in (f ∷ fs) is = absurd (cc)

-- a step that parked it
pub parks_release : {J V : Type 0} (meaning : Meaning J V) (frames : List (FrameKey J)) (taken : TakenUp V) (turn : Snapshot TurnState) (old new : BacklogView J V) (woken made : List FreshState) (stepped : Stepped J V) → AtFrame frames (λ key. IsTakenIn key taken)
    → AtFrame frames (λ key. ParksTurn {V = V} (table_in meaning key) taken.turn (Parked turn) [] woken) → made ≡ woken ++ again_list taken.again → new ≡ backlog_view frames old.fates → stepped.released.items ≡ map (release_in frames) made → stepped.state ≡ ParkedState turn
    → StepsRelease meaning (release_in frames (release_of taken.turn)) old new stepped
parks_release meaning [] taken turn old new woken made stepped is parks made_is backlog released state = absurd is
parks_release {J} meaning (frame ∷ around) taken turn old new woken made stepped is parks made_is backlog released state =
    let parked = parks.0 in
    record {
      frame = frame;
      around = around;
      frames_are = refl;
      made = made;
      to = subst (StepsTo meaning frame (release_in (frame ∷ around) (release_of taken.turn)) old new made) (sym state) (record {
        is = λ k. fresh_state ((parked.same.table ∙ is.table) k) (parked.same.task k) (parked.same.cause k);
        sem = parked.sem;
        waits = parked.waits;
        none = parked.none;
        woken = woken;
        wakes = parks.1;
        again = subst (MayRelease frame.table taken.turn.task taken.turn.cause woken) (sym made_is) (may_again frame.table taken.turn.task taken.turn.cause woken taken.again is.again);
        backlog = backlog;
      });
      released = released;
      frames = subst (All (λ (next : ReleaseView J). next.frames ≡ frame ∷ around)) (sym released) (all_in (frame ∷ around) made);
      backlog = ap (λ (b : BacklogView J _). b.frames) backlog;
    }

-- a turn that got its units while it was to be parked is the same release
pub same_release : {J V : Type 0} (meaning : Meaning J V) (frames : List (FrameKey J)) (old turn : TurnState) (before after : List FreshState) → AtFrame frames (λ key. ParksTurn {V = V} (table_in meaning key) old (Taken turn) before after) → release_of turn ≡ release_of old
same_release meaning [] old turn before after parks = absurd parks
same_release meaning (frame ∷ around) old turn before after parks = λ k. fresh_state (parks.0.table k) (parks.0.task k) (parks.0.cause k)

-- a step from a backlog with the same fates
steps_from : {J V : Type 0} (meaning : Meaning J V) (release : ReleaseView J) (old mid new : BacklogView J V) (stepped : Stepped J V) → mid.fates ≡ old.fates → StepsRelease meaning release mid new stepped → StepsRelease meaning release old new stepped
steps_from {J} {V} meaning release old mid new stepped same steps = record {
  frame = steps.frame;
  around = steps.around;
  frames_are = steps.frames_are;
  made = steps.made;
  to = by_state stepped.state steps.to;
  released = steps.released;
  frames = steps.frames;
  backlog = steps.backlog;
}
  where
    by_state : (state : State J V) → StepsTo meaning steps.frame release mid new steps.made state → StepsTo meaning steps.frame release old new steps.made state
    by_state Went w = let u = w.uses in record { uses = record { fate = u.fate; run = u.run; by_end = u.by_end; allowed = u.allowed; journal = u.journal; uses = u.uses; wakes = u.wakes; backlog = u.backlog ∙ ap (λ fs. backlog_view release.frames (fs ++ u.fate ∷ [])) same }; inner = w.inner }
    by_state (ParkedState turn) p = record { is = p.is; sem = p.sem; waits = p.waits; none = p.none; woken = p.woken; wakes = p.wakes; again = p.again; backlog = p.backlog ∙ ap (backlog_view release.frames) same }
    by_state (InnerState first) o = record { place = o.place; ins = o.ins; journal = o.journal; inner = o.inner; book = o.book; answered = o.answered; first_are = o.first_are; some = o.some; again = o.again; backlog = o.backlog ∙ ap (backlog_view release.frames) same }
    by_state (ResumedState releases) u = absurd u
    by_state (ClosedState run) u = absurd u

pub ok_steps : {J V E : Type 0} (meaning : Meaning J V) (other release : ReleaseView J) (old mid new : BacklogView J V) (result : Result (Stepped J V) E) → other ≡ release → mid.fates ≡ old.fates → IfOk result (StepsRelease meaning other mid new) → IfOk result (StepsRelease meaning release old new)
ok_steps meaning other release old mid new (Ok stepped) is same steps = steps_from meaning release old mid new stepped same (subst (λ r. StepsRelease meaning r mid new stepped) is steps)
ok_steps meaning other release old mid new (Err e) is same steps = tt

pub has_table : {J V : Type 0} (frames : List (FrameKey J)) (taken : TakenUp V) → AtFrame frames (λ key. IsTakenIn key taken) → HasTable frames taken.turn.table
has_table [] taken is = absurd is
has_table (frame ∷ around) taken is = is.table

-- a beginning
pub begins_frame : {J V : Type 0} (meaning : Meaning J V) (job : J) (book : TableId) (begun : Begun J V) (stepped : Stepped J V) → Begins meaning job begun → begun.run.book ≡ Some book → stepped.released.items ≡ map (release_in (begun.run ∷ [])) begun.fresh.items → IsStateOf meaning (begun.run ∷ []) stepped.state → BeginsFrame meaning job book stepped
begins_frame {J} meaning job book begun stepped begins of released state = record {
  frame = begun.run;
  job_is = begins.job_is;
  book_is = of;
  released = released ∙ ap (map (release_in (begun.run ∷ []))) begins.first;
  frames = subst (All (λ (release : ReleaseView J). release.frames ≡ begun.run ∷ [])) (sym released) (all_in (begun.run ∷ []) begun.fresh.items);
  state = state;
}
