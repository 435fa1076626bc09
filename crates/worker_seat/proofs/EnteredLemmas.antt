-- Seats before and after each was entered.
use Rattle.std.proofs.Common.{◌≡◌, ◌<◌, ◌≤◌, ◌+◌, ◌++◌, ◌∙◌, ℕ, zero, suc, Bool, true, false, List, [], ◌∷◌, Some, None, All, length, map, take, drop, refl, ap, sym, subst, inl, inr, arith}
use Rattle.std.proofs.lemmas.List.Elements.{All-map}
use Rattle.std.proofs.Math.Seq.{take-append_seam}
use Rattle.std.proofs.lemmas.List.{length-map}
use Rattle.std.proofs.lemmas.List.Sums.{sum_by-cons}
use Rattle.std.specs.Prelude.{◌-◌, ◌^◌, min, sum_by, slice_index_or, Option, IfSome, IsSome, IsNone, Result, Ok, Err, OnOk}
use Rattle.run_frame.specs.declared.run.FrameRun.{FrameRun}
use Rattle.run_frame.specs.Meaning.{Meaning}
use Rattle.run_frame.specs.NestedRule.{job_of}
use Rattle.worker_seat.specs.declared.crew.Crew.{Crew}
use Rattle.worker_seat.specs.declared.seat.WorkerSeat.{WorkerSeat}
use Rattle.worker_seat.specs.Seats.{RunBook, SeatState, IsClosedWith, at_job, away, found_closed, left_refused, refused_seat}
use Rattle.worker_seat.specs.inside.Runs.{RunView}
use Rattle.worker_seat.specs.Crews.{moved, state_of, watcher_of, crew_of, told_in_run, AreAtOneRun, AreEntered, AreSeatsOf, AreSent, AreSpansOf, AreWatched, HasFound, HasWatched, IsEntered, IsFoundRunOf, IsKeptOf, IsOpen, IsSeatOf, IsServed, IsToldMore, MayEnter, MayHaveBook}

abbrev some_or : {Y : Type 0} → Y → Option Y → Y
some_or y None = y
some_or y (Some z) = z

-- what is written back of all of a list
all_written : {Y : Type 0} (items new : List Y) (len : ℕ) → length new ≡ len → take len (new ++ drop (length new) items) ≡ new
all_written items new len e = subst (λ (n : ℕ). take n (new ++ drop (length new) items) ≡ new) e (take-append_seam new (drop (length new) items))

-- an item of a list that was changed as a whole
map_at : {A B : Type 0} (f : A → B) (xs : List A) (k : ℕ) (d : A) (e : B) → k < length xs → slice_index_or (map f xs) k e ≡ f (slice_index_or xs k d)
map_at f [] k d e lt = absurd (omega arith)
map_at f (x ∷ xs) zero d e lt = refl
map_at f (x ∷ xs) (suc k) d e lt = map_at f xs k d e (omega arith)

module _ {J V X : Type 0} where
  -- all seats were sent to a run of which there is a teller for each
  pub sent_to : {A E : Type 0} (o : Result A E) (crew : Crew J V) (run : RunView J) (job : J) (old lent new : List (WorkerSeat J X V)) (len : ℕ) → run.book.tellers ≡ (crew_of crew).seats → run.job ≡ job → lent ≡ old
      → length lent ≡ len → OnOk o (new ≡ map (moved (at_job run.job run.book)) lent) → OnOk o (AreSent (crew_of crew).seats job old (take len (new ++ drop (length new) old)))
  sent_to (Ok a) crew run job old lent new len tellers of_job same long sent = record {
    book = run.book;
    count = tellers;
    seats_are = all_written old new len (ap length sent ∙ length-map lent (moved (at_job run.job run.book)) ∙ long) ∙ sent
        ∙ ap (λ (j : J). map (moved (at_job j run.book)) lent) of_job ∙ ap (λ (zs : List (WorkerSeat J X V)). map (moved (at_job job run.book)) zs) same;
  }
  sent_to (Err e) crew run job old lent new len tellers of_job same long sent = tt

  -- seats that were sent to a run may be entered
  pub may_enter : (crew : Crew J V) (count : ℕ) (job : J) (xs sent ys : List (WorkerSeat J X V)) → All (IsSeatOf crew) xs → AreSent count job xs sent → ys ≡ sent → All (MayEnter crew) ys
  may_enter crew count job xs sent ys all are e =
      subst (λ (zs : List (WorkerSeat J X V)). All (MayEnter crew) zs) (sym (e ∙ are.seats_are))
      (All-map (MayEnter crew) (moved (at_job job are.book)) xs (λ k d lt. record { of_crew = all k d lt; busy = tt }))

  -- a seat that was entered keeps what found_closed and refused_seat leave alone
  kept_by : {Y : Type 0} (told : X → ℕ) (f : SeatState J → Y) → ((s : SeatState J) (c r : Bool) (n : ℕ) → f record s { closed = c; refused = r; told = n } ≡ f s)
      → (old new : WorkerSeat J X V) → IsEntered told old new → f (state_of new) ≡ f (state_of old)
  kept_by told f same old new (inl watched) = ap f watched.state ∙ same (state_of old) _ _ _
  kept_by told f same old new (inr refused) = ap f refused ∙ same (state_of old) _ _ _

  -- a run that is of seats at the run of a job is of that job
  run_of_job : (meaning : Meaning J V) (job : J) (xs : List (WorkerSeat J X V)) (run : FrameRun J V)
      → All (λ (s : WorkerSeat J X V). (state_of s).job ≡ Some job) xs → IsFoundRunOf meaning xs run → IsKeptOf meaning job run
  run_of_job meaning job xs run all is = record { kept = is.kept; same = by_place is.found.0 is.found.1 is.found.2 is.found.3 is.found.4 }
    where
      by_place : (k : ℕ) (one : WorkerSeat J X V) → k < length xs → slice_index_or xs k one ≡ one → IsClosedWith (job_of run) (state_of one) → job_of run ≡ job
      by_place k one below at closed = ap (some_or job) (sym closed.1 ∙ ap (λ (s : WorkerSeat J X V). (state_of s).job) (sym at) ∙ all k one below)

  pub run_is_kept : (meaning : Meaning J V) (job : J) (xs : List (WorkerSeat J X V)) (o : Option (FrameRun J V))
      → All (λ (s : WorkerSeat J X V). (state_of s).job ≡ Some job) xs → IfSome o (IsFoundRunOf meaning xs) → IfSome o (IsKeptOf meaning job)
  run_is_kept meaning job xs None all is = tt
  run_is_kept meaning job xs (Some run) all is = run_of_job meaning job xs run all is

  -- seats that leave their run are still those of their crew
  away_seats : (crew : Crew J V) (xs : List (WorkerSeat J X V)) → AreSeatsOf crew xs → AreSeatsOf crew (map (moved away) xs)
  away_seats crew xs are = record {
    of_crew = All-map (IsSeatOf crew) (moved away) xs (λ k d lt. are.of_crew k d lt);
    count = length-map xs (moved away) ∙ are.count;
    one_run = record { book = are.one_run.book; count = are.one_run.count; each = All-map (MayHaveBook are.one_run.book) (moved away) xs (λ k d lt. tt) };
  }

  left_seats : (crew : Crew J V) (xs : List (WorkerSeat J X V)) → AreSeatsOf crew xs → AreSeatsOf crew (map (moved left_refused) xs)
  left_seats crew xs are = record {
    of_crew = All-map (IsSeatOf crew) (moved left_refused) xs (λ k d lt. are.of_crew k d lt);
    count = length-map xs (moved left_refused) ∙ are.count;
    one_run = record { book = are.one_run.book; count = are.one_run.count; each = All-map (MayHaveBook are.one_run.book) (moved left_refused) xs (λ k d lt. tt) };
  }

  pub refused_seats : (crew : Crew J V) (old new : List (WorkerSeat J X V)) → new ≡ map (moved left_refused) old → AreSeatsOf crew old → AreSeatsOf crew new
  refused_seats crew old new e are = subst (AreSeatsOf crew) (sym e) (left_seats crew old are)

  -- of seats that are all refused no watcher is spoken of
  pub refused_watched : (told : X → ℕ) (old new : List (WorkerSeat J X V)) → new ≡ map (moved left_refused) old → AreWatched told old new
  refused_watched told old new e k d lt served =
      let one : (state_of (slice_index_or new k d)).refused ≡ true = ap (λ (zs : List (WorkerSeat J X V)). (state_of (slice_index_or zs k d)).refused) e ∙ ap (λ (s : WorkerSeat J X V). (state_of s).refused) (map_at (moved left_refused) old k d d lt) in
      absurd (let both : true ≡ false = sym one ∙ served in cc)

  pub finished_seats : (crew : Crew J V) (old new : List (WorkerSeat J X V)) (o : Option (FrameRun J V)) → (IsSome o → new ≡ map (moved away) old)
      → (IsNone o → All IsOpen old × (new ≡ old)) → AreSeatsOf crew old → AreSeatsOf crew new
  finished_seats crew old new None left stay are = subst (AreSeatsOf crew) (sym (stay refl).1) are
  finished_seats crew old new (Some run) left stay are = subst (AreSeatsOf crew) (sym (left refl)) (away_seats crew old are)

  -- seats that have left their run are at none
  pub free_after : (old new : List (WorkerSeat J X V)) → new ≡ map (moved away) old → All (λ (s : WorkerSeat J X V). (state_of s).job ≡ None) new
  free_after old new e =
      let P : WorkerSeat J X V → Type 0 = λ s. (state_of s).job ≡ None in
      subst (λ (zs : List (WorkerSeat J X V)). All P zs) (sym e) (All-map P (moved away) old (λ k d lt. refl))

  -- leaving a run changes no count
  away_told : (xs : List (WorkerSeat J X V)) → sum_by told_in_run (map (moved away) xs) ≡ sum_by told_in_run xs
  away_told [] = refl
  away_told (x ∷ xs) = sum_by-cons told_in_run (moved away x) (map (moved away) xs) ∙ ap (λ (n : ℕ). told_in_run x + n) (away_told xs) ∙ sym (sum_by-cons told_in_run x xs)

  -- all seats of a crew after they were sent to a run and entered
  module _ (told : X → ℕ) (crew : Crew J V) (job : J) (xs sent lent new : List (WorkerSeat J X V)) (len : ℕ) (are : AreSeatsOf crew xs)
      (e : AreSent (crew_of crew).seats job xs sent) (value : lent ≡ sent) (long : length lent ≡ len) (same : length new ≡ length lent) (entered : AreEntered told lent new) where
    abbrev after : List (WorkerSeat J X V)
    after = take len (new ++ drop (length new) sent)

    after_is : after ≡ new
    after_is = all_written sent new len (same ∙ long)

    lent_is : lent ≡ map (moved (at_job job e.book)) xs
    lent_is = value ∙ e.seats_are

    as_long : length lent ≡ length xs
    as_long = ap length lent_is ∙ length-map xs (moved (at_job job e.book))

    lent_at : (k : ℕ) (d : WorkerSeat J X V) → k < length xs → slice_index_or lent k d ≡ moved (at_job job e.book) (slice_index_or xs k d)
    lent_at k d lt = ap (λ (zs : List (WorkerSeat J X V)). slice_index_or zs k d) lent_is ∙ map_at (moved (at_job job e.book)) xs k d d lt

    entered_at : (k : ℕ) (d : WorkerSeat J X V) → k < length xs → IsEntered told (moved (at_job job e.book) (slice_index_or xs k d)) (slice_index_or new k d)
    entered_at k d lt = subst (λ (s : WorkerSeat J X V). IsEntered told s (slice_index_or new k d)) (lent_at k d lt) (entered k d (omega (arith, lt, as_long)))

    below : (k : ℕ) → k < length new → k < length xs
    below k lt = omega (arith, lt, same, as_long)

    new_seats : AreSeatsOf crew new
    new_seats = record {
      of_crew = λ k d lt. kept_by told (λ s. s.list) (λ s c r n. refl) _ (slice_index_or new k d) (entered_at k d (below k lt)) ∙ are.of_crew k d (below k lt);
      count = same ∙ as_long ∙ are.count;
      one_run = record {
        book = e.book;
        count = e.count;
        each = λ k d lt. subst (λ (o : Option RunBook). IfSome o (λ own. own ≡ e.book)) (sym (kept_by told (λ s. s.book) (λ s c r n. refl) _ (slice_index_or new k d) (entered_at k d (below k lt)))) refl;
      };
    }

    pub seats_after : AreSeatsOf crew after
    seats_after = subst (AreSeatsOf crew) (sym after_is) new_seats

    pub at_run_after : All (λ (s : WorkerSeat J X V). (state_of s).job ≡ Some job) after
    at_run_after =
        subst (λ (zs : List (WorkerSeat J X V)). All (λ (s : WorkerSeat J X V). (state_of s).job ≡ Some job) zs) (sym after_is)
        (λ k d lt. kept_by told (λ s. s.job) (λ s c r n. refl) _ (slice_index_or new k d) (entered_at k d (below k lt)))

    -- a seat that was served has found the run closed
    served_found : (old one : WorkerSeat J X V) → IsEntered told old one → IsServed one → HasWatched told old one
    served_found old one (inl watched) served = watched
    served_found old one (inr refused) served = absurd (let both : true ≡ false = sym (ap (λ (s : SeatState J). s.refused) refused) ∙ served in cc)

    watched_at : (k : ℕ) (d : WorkerSeat J X V) → k < length xs → IsServed (slice_index_or new k d) → HasWatched told (moved (at_job job e.book) (slice_index_or xs k d)) (slice_index_or new k d)
    watched_at k d lt served = served_found _ (slice_index_or new k d) (entered_at k d lt) served

    found_at : (k : ℕ) (d : WorkerSeat J X V) → k < length xs → IsServed (slice_index_or new k d) → HasFound (slice_index_or new k d)
    found_at k d lt served = ap (λ (s : SeatState J). s.closed) (watched_at k d lt served).state

    told_at : (k : ℕ) (d : WorkerSeat J X V) → k < length xs → IsServed (slice_index_or new k d) → IsToldMore told (told_in_run (slice_index_or new k d)) (watcher_of (slice_index_or xs k d)) (watcher_of (slice_index_or new k d))
    told_at k d lt served =
        let watched = watched_at k d lt served in
        let counted : told_in_run (slice_index_or new k d) ≡ 0 + watched.count = ap (λ (s : SeatState J). s.told) watched.state in
        let same_count : watched.count ≡ told_in_run (slice_index_or new k d) = omega (arith, counted) in
        watched.watcher_told ∙ ap (λ (n : ℕ). min (told (watcher_of (slice_index_or xs k d)) + n) (2 ^ 64 - 1)) same_count

    -- what was told once the seats have left the run, or none has found it closed
    pub watched_after : (last : List (WorkerSeat J X V)) (o : Option (FrameRun J V)) → (IsSome o → last ≡ map (moved away) after) → (IsNone o → All IsOpen after × (last ≡ after)) → AreWatched told xs last
    watched_after last None left stay k d lt served =
        let here : last ≡ new = (stay refl).1 ∙ after_is in
        let one : IsServed (slice_index_or new k d) = ap (λ (zs : List (WorkerSeat J X V)). (state_of (slice_index_or zs k d)).refused) (sym here) ∙ served in
        let open_seat : IsOpen (slice_index_or new k d) = subst (λ (zs : List (WorkerSeat J X V)). All IsOpen zs) after_is (stay refl).0 k d (omega (arith, lt, same, as_long)) in
        absurd (let both : true ≡ false = sym (found_at k d lt one) ∙ open_seat in cc)
    watched_after last (Some run) left stay k d lt served =
        let here : slice_index_or last k d ≡ moved away (slice_index_or new k d) =
        ap (λ (zs : List (WorkerSeat J X V)). slice_index_or zs k d) (left refl ∙ ap (map (moved away)) after_is) ∙ map_at (moved away) new k d d (omega (arith, lt, same, as_long)) in
        subst (λ (s : WorkerSeat J X V). IsServed s → IsToldMore told (told_in_run s) (watcher_of (slice_index_or xs k d)) (watcher_of s)) (sym here) (λ one. told_at k d lt one) served

    served_all : (last : List (WorkerSeat J X V)) → last ≡ map (moved away) after → All IsServed last → All HasFound after
    served_all last is all =
        let away_new : last ≡ map (moved away) new = is ∙ ap (map (moved away)) after_is in
        let one : (k : ℕ) (d : WorkerSeat J X V) → k < length new → IsServed (slice_index_or new k d) = λ k d lt.
        sym (ap (λ (s : WorkerSeat J X V). (state_of s).refused) (ap (λ (zs : List (WorkerSeat J X V)). slice_index_or zs k d) away_new ∙ map_at (moved away) new k d d lt))
        ∙ all k d (let long_as : length last ≡ length new = ap length away_new ∙ length-map new (moved away) in omega (arith, lt, long_as)) in
        subst (λ (zs : List (WorkerSeat J X V)). All HasFound zs) (sym after_is) (λ k d lt. found_at k d (below k lt) (one k d lt))

    spans_of : (last : List (WorkerSeat J X V)) (run : FrameRun J V) → last ≡ map (moved away) after → (All HasFound after → AreSpansOf after run) → All IsServed last → AreSpansOf last run
    spans_of last run is counts all = ap (sum_by told_in_run) is ∙ away_told after ∙ counts (served_all last is all)

    pub spans_after : (last : List (WorkerSeat J X V)) (o : Option (FrameRun J V)) → (IsSome o → last ≡ map (moved away) after) → IfSome o (λ run. All HasFound after → AreSpansOf after run)
        → IfSome o (λ run. All IsServed last → AreSpansOf last run)
    spans_after last None left counts = tt
    spans_after last (Some run) left counts = spans_of last run (left refl) counts
