-- What a worker has done stays of its run.
use Rattle.std.proofs.Common.{◌≡◌, ◌<◌, ◌++◌, List, [], ◌∷◌, length, map, Some, None, inl, inr, refl, sym, ap, subst, ◌∙◌, arith}
use Rattle.std.proofs.lemmas.List.Elements.{All-map}
use Rattle.std.specs.Prelude.{◌≢◌, ◌⊎◌, Option, IfSome, Result, Ok, Err, IfOk, OnOk, slice_index_or}
use Rattle.atomic_table.specs.Seated.{TableId}
use Rattle.join_tables.specs.States.{FreshState}
use Rattle.join_tables.specs.declared.fates.Fate.{Fate}
use Rattle.run_frame.specs.Meaning.{Meaning}
use Rattle.run_frame.specs.NestedRule.{job_of}
use Rattle.table_frames.specs.BacklogResults.{BringsFates, BringsTo, ResumesStart, SettlesFrame}
use Rattle.span_book.specs.SpanBooks.{TellerState}
use Rattle.table_frames.specs.Frames.{BacklogView, IsTellerOf, ReleaseView, book_at, book_of, release_in, root_frame, root_job}
use Rattle.table_runs.specs.RunKeys.{FrameKey}
use Rattle.table_frames.specs.Steps.{StepsRelease, StepsTo}
use Rattle.table_frames.specs.declared.step_results.Brought.{Brought}
use Rattle.table_frames.specs.declared.step_results.State.{State}
use Rattle.table_frames.specs.declared.step_results.State.TheVariants.{Went, Parked, Inner, Resumed, Closed}
use Rattle.table_frames.specs.declared.step_results.Stepped.{Stepped}
use Rattle.worker_seat.specs.declared.item.NumberedRelease.{NumberedRelease}
use Rattle.worker_seat.specs.declared.work.FrameWork.{FrameWork}
use Rattle.worker_seat.specs.inside.Numbers.{NumberView}
use Rattle.worker_seat.specs.inside.Runs.{AreIn, IsItemOf, IsNumberOf, IsWithin}
use Rattle.worker_seat.proofs.SeatingLemmas.{last_is}
use Rattle.worker_seat.specs.inside.Works.{GoesOnAt, IsAt, IsTurnedTo, IsWorkOf, LeavesWork, OpensIn}

abbrev some_or : {Y : Type 0} → Y → Option Y → Y
some_or y None = y
some_or y (Some other) = other

module _ {J : Type 0} where
  abbrev job_in : Option (FrameKey J) → Option J
  job_in None = None
  job_in (Some frame) = Some frame.job

  job_of_root : (frames : List (FrameKey J)) → root_job frames ≡ job_in (root_frame frames)
  job_of_root [] = refl
  job_of_root (frame ∷ []) = refl
  job_of_root (frame ∷ around ∷ more) = job_of_root (around ∷ more)

  -- a run of the outermost frame is of the job of the worker's run
  pub same_job : (run frames : List (FrameKey J)) (job closed : J) → root_job run ≡ Some job → IsWithin run frames → root_job frames ≡ Some closed → closed ≡ job
  same_job run frames job closed of_run within of_frames =
      ap (some_or job) (sym of_frames ∙ job_of_root frames ∙ ap job_in within ∙ sym (job_of_root run) ∙ of_run)

  -- frames that are the same are of the same run
  pub within_same : (run frames same : List (FrameKey J)) → IsWithin run frames → same ≡ frames → IsWithin run same
  within_same run frames same within is = subst (IsWithin run) (sym is) within

  -- the frame around one is of the same run
  pub within_around : (run frames : List (FrameKey J)) (inner frame : FrameKey J) (around : List (FrameKey J)) → frames ≡ inner ∷ frame ∷ around → IsWithin run frames → IsWithin run (frame ∷ around)
  within_around run frames inner frame around is within = sym (ap root_frame is) ∙ within

  -- and so is one inside it
  pub within_inside : (run : List (FrameKey J)) (inner : FrameKey J) (frames : List (FrameKey J)) (frame : FrameKey J) (around : List (FrameKey J)) → frames ≡ frame ∷ around → IsWithin run frames → IsWithin run (inner ∷ frames)
  within_inside run inner frames frame around is within = ap (λ (fs : List (FrameKey J)). root_frame (inner ∷ fs)) is ∙ sym (ap root_frame is) ∙ within

  -- a teller of the book of a run is of that of its frames
  pub teller_within : (run frames : List (FrameKey J)) (teller : TellerState) → IsWithin run frames → IsTellerOf run teller → IsTellerOf frames teller
  teller_within run frames teller within is = subst (λ (root : Option (FrameKey J)). IfSome (book_at root) (λ book. teller.book ≡ book)) (sym within) is

  -- and stays so while its book is the same
  pub same_teller : (run : List (FrameKey J)) (old new : TellerState) → IsTellerOf run old → new.book ≡ old.book → IsTellerOf run new
  same_teller run old new is same = subst (λ (own : TableId). IfSome (book_of run) (λ book. own ≡ book)) (sym same) is

  -- a run of the outermost frame has the book of the worker's run
  pub same_book : (run frames : List (FrameKey J)) (book closed : TableId) → book_of run ≡ Some book → IsWithin run frames → book_of frames ≡ Some closed → closed ≡ book
  same_book run frames book closed of_run within of_frames = ap (some_or book) (sym of_frames ∙ ap book_at within ∙ of_run)

  -- the teller of a run's book is one of its number
  pub new_teller : (run : List (FrameKey J)) (book : TableId) (teller : TellerState) → book_of run ≡ Some book → teller.book ≡ book → IsTellerOf run teller
  new_teller run book teller of_run is = subst (λ (o : Option TableId). IfSome o (λ b. teller.book ≡ b)) (sym of_run) is

  pub teller_of : (run : List (FrameKey J)) (book : TableId) (teller : TellerState) → book_of run ≡ Some book → IsTellerOf run teller → teller.book ≡ book
  teller_of run book teller of_run is = subst (λ (o : Option TableId). IfSome o (λ b. teller.book ≡ b)) of_run is

  -- releases that a frame made are of that frame
  pub made_in : (frames : List (FrameKey J)) (made : List FreshState) → AreIn frames (map (release_in frames) made)
  made_in frames made = All-map (λ (release : ReleaseView J). release.frames ≡ frames) (release_in frames) made (λ k d lt. refl)

  -- the first of some releases
  pub some_below : (releases : List (ReleaseView J)) → releases ≢ [] → 0 < length releases
  some_below [] some = absurd (some refl)
  some_below (r ∷ rs) some = omega arith

  pub first_in : (frames : List (FrameKey J)) (releases : List (ReleaseView J)) (first : ReleaseView J) → AreIn frames releases → first ≡ slice_index_or releases 0 first → 0 < length releases → first.frames ≡ frames
  first_in frames releases first are is some = ap (λ (r : ReleaseView J). r.frames) is ∙ are 0 first some

  -- the last of some releases
  pub last_in : (frames : List (FrameKey J)) (releases rest : List (ReleaseView J)) (last : ReleaseView J) → AreIn frames releases → releases ≡ rest ++ last ∷ [] → last.frames ≡ frames
  last_in frames releases rest last are is = last_is (λ (r : ReleaseView J). r.frames ≡ frames) releases rest last are is

  -- a number of their frame is one of the last of them
  pub last_at : (number at : NumberView J) (releases rest : List (ReleaseView J)) (last : ReleaseView J) → IsAt number at.frames at → AreIn at.frames releases → releases ≡ rest ++ last ∷ [] → IsAt number last.frames at
  last_at number at releases rest last of_frame are is = subst (λ (fs : List (FrameKey J)). IsAt number fs at) (sym (last_in at.frames releases rest last are is)) of_frame

  -- a number of these frames is of its own
  pub number_self : (number : NumberView J) (frames : List (FrameKey J)) (at : NumberView J) → IsAt number frames at → IsAt number at.frames at
  number_self number frames at is = record { begun = is.begun; frames_are = refl; within = within_same number.frames frames at.frames is.within is.frames_are }

  -- a number of a release is of the frame of all of them
  pub number_in : (number : NumberView J) (frames : List (FrameKey J)) (first : ReleaseView J) (at : NumberView J) → IsAt number first.frames at → first.frames ≡ frames → IsAt number frames at
  number_in number frames first at is same = subst (λ (fs : List (FrameKey J)). IsAt number fs at) same is

  -- which have it then
  pub releases_in : (number : NumberView J) (frames : List (FrameKey J)) (releases : List (ReleaseView J)) (at : NumberView J) → IsAt number frames at → AreIn frames releases → AreIn at.frames releases
  releases_in number frames releases at is are = subst (λ (fs : List (FrameKey J)). AreIn fs releases) (sym is.frames_are) are

module _ {J : Type 0} (number : NumberView J) where
  -- the number that is there, with a backlog of these frames
  abbrev IsNumbered : List (FrameKey J) → Option (NumberView J) → Type 0
  IsNumbered frames o = IfSome o (λ at. (at.begun ≡ number.begun) × ((frames ≡ []) ⊎ (frames ≡ at.frames)))

  none_at : (old new : List (FrameKey J)) (o : Option (NumberView J)) → IsNumbered old o → new ≡ [] → IsNumbered new o
  none_at old new None is none = tt
  none_at old new (Some at) is none = (is.0, inl none)

  same_at : (old new frames : List (FrameKey J)) (o : Option (NumberView J)) → IsNumbered old o → IfSome o (λ at. at.frames ≡ frames) → new ≡ frames → IsNumbered new o
  same_at old new frames None is turned same = tt
  same_at old new frames (Some at) is turned same = (is.0, inr (same ∙ sym turned))

  numbers_of : (frames to : List (FrameKey J)) (o : Option (NumberView J)) → IsNumbered frames o → frames ≢ [] → to ≡ frames → IsWithin number.frames to → IfSome o (IsAt number to)
  numbers_of frames to None is some same within = tt
  numbers_of frames to (Some at) is some same within = record { begun = is.0; frames_are = by is.1; within = within }
    where
      by : (frames ≡ []) ⊎ (frames ≡ at.frames) → at.frames ≡ to
      by (inl none) = absurd (some none)
      by (inr here) = sym here ∙ sym same

module _ {J V : Type 0} (number : NumberView J) where
  -- the worker has turned to these frames, which are the same
  pub turned_as : (frames to : List (FrameKey J)) (work : FrameWork J V) → IsTurnedTo frames work → frames ≡ to → IsTurnedTo to work
  turned_as frames to work is same = subst (λ (fs : List (FrameKey J)). IsTurnedTo fs work) same is

  -- a backlog that isn't empty is of a frame of the run
  pub one_run : (work : FrameWork J V) → IsWorkOf number work → work.backlog.frames ≢ [] → IsWithin number.frames work.backlog.frames
  one_run work is some = by is.within
    where
      by : (work.backlog.frames ≡ []) ⊎ IsWithin number.frames work.backlog.frames → IsWithin number.frames work.backlog.frames
      by (inl none) = absurd (some none)
      by (inr within) = within

  -- the backlog is of the frame of which it was
  pub stays_of : (old new : FrameWork J V) → IsWorkOf number old → new.backlog.frames ≡ old.backlog.frames → new.frame ≡ old.frame → new.teller.book ≡ old.teller.book → IsWorkOf number new
  stays_of old new is frames frame book = record {
    within = subst (λ (fs : List (FrameKey J)). (fs ≡ []) ⊎ IsWithin number.frames fs) (sym frames) is.within;
    at = subst (IsNumbered number new.backlog.frames) (sym frame) (subst (λ (fs : List (FrameKey J)). IsNumbered number fs old.frame) (sym frames) is.at);
    teller = same_teller number.frames old.teller new.teller is.teller book;
  }

  -- the backlog is of no frame now
  pub none_of : (old new : FrameWork J V) → IsWorkOf number old → new.backlog.frames ≡ [] → new.frame ≡ old.frame → new.teller.book ≡ old.teller.book → IsWorkOf number new
  none_of old new is none frame book = record {
    within = inl none;
    at = subst (IsNumbered number new.backlog.frames) (sym frame) (none_at number old.backlog.frames new.backlog.frames old.frame is.at none);
    teller = same_teller number.frames old.teller new.teller is.teller book;
  }

  -- the backlog has what a step did in the frame to which the worker had turned
  pub steps_of : (old new : FrameWork J V) (frames : List (FrameKey J)) → IsWorkOf number old → IsTurnedTo frames old → IsWithin number.frames frames
      → new.backlog.frames ≡ frames → new.frame ≡ old.frame → new.teller.book ≡ old.teller.book → IsWorkOf number new
  steps_of old new frames is turned within same frame book = record {
    within = inr (within_same number.frames frames new.backlog.frames within same);
    at = subst (IsNumbered number new.backlog.frames) (sym frame) (same_at number old.backlog.frames new.backlog.frames frames old.frame is.at turned.at same);
    teller = same_teller number.frames old.teller new.teller is.teller book;
  }

  -- no number is there
  pub unnumbered : (new : FrameWork J V) → IsWithin number.frames new.backlog.frames → new.frame ≡ None → IsTellerOf number.frames new.teller → IsWorkOf number new
  unnumbered new within none teller = record { within = inr within; at = subst (IsNumbered number new.backlog.frames) (sym none) tt; teller = teller }

  -- this number is there, of the frame of the backlog
  pub numbered : (new : FrameWork J V) (frames : List (FrameKey J)) (at : NumberView J) → IsAt number frames at → new.backlog.frames ≡ frames → new.frame ≡ Some at → IsTellerOf number.frames new.teller → IsWorkOf number new
  numbered new frames at is same frame teller = record {
    within = inr (within_same number.frames frames new.backlog.frames is.within same);
    at = subst (IsNumbered number new.backlog.frames) (sym frame) (is.begun, inr (same ∙ sym is.frames_are));
    teller = teller;
  }

  -- nothing is in the backlog, and this number is there
  pub turned_of : (new : FrameWork J V) (at : NumberView J) → at.begun ≡ number.begun → new.backlog.frames ≡ [] → new.frame ≡ Some at → IsTellerOf number.frames new.teller → IsWorkOf number new
  turned_of new at begun none frame teller = record { within = inl none; at = subst (IsNumbered number new.backlog.frames) (sym frame) (begun, inl none); teller = teller }

  -- a release of the frame of a number, with it, is an item of the run
  pub item_of : (release : ReleaseView J) (at : NumberView J) → IsAt number at.frames at → release.frames ≡ at.frames → IsItemOf {V = V} number record { release = release; frame = at }
  item_of release at is same = record { within = within_same number.frames at.frames release.frames is.within same; frame = sym same; begun = is.begun }

  -- the number of an item is of its frame, and of what that frame released
  pub frame_of_item : (item : NumberedRelease J V) → IsItemOf number item → IsAt number item.frame.frames item.frame
  frame_of_item item is = record { begun = is.begun; frames_are = refl; within = within_same number.frames item.release.frames item.frame.frames is.within is.frame }

  pub released_of_item : (item : NumberedRelease J V) (released : List (ReleaseView J)) → IsItemOf number item → AreIn item.release.frames released → AreIn item.frame.frames released
  released_of_item item released is are = subst (λ (fs : List (FrameKey J)). AreIn fs released) (sym is.frame) are

  -- a step of the frame to which the worker had turned
  pub after_step : (meaning : Meaning J V) (release : ReleaseView J) (old new : FrameWork J V) (stepped : Stepped J V) → IsWorkOf number old → IsTurnedTo release.frames old
      → IsWithin number.frames release.frames → new.frame ≡ old.frame → new.teller.book ≡ old.teller.book → StepsRelease meaning release old.backlog new.backlog stepped → IsWorkOf number new
  after_step meaning release old new stepped is turned within frame book steps = steps_of old new release.frames is turned within steps.backlog frame book

  opens_in : (meaning : Meaning J V) (release : ReleaseView J) (old new : BacklogView J V) (frame : FrameKey J) (around : List (FrameKey J)) (made : List FreshState) (state : State J V)
      → release.frames ≡ frame ∷ around → IsWithin number.frames release.frames → StepsTo meaning frame release old new made state → OpensIn number state
  opens_in meaning release old new frame around made Went are within to = tt
  opens_in meaning release old new frame around made (Parked turn) are within to = tt
  opens_in meaning release old new frame around made (Inner first) are within to =
      let frames : List (FrameKey J) = to.inner ∷ release.frames in (
        record {
          frames = frames;
          within = within_inside number.frames to.inner release.frames frame around are within;
          each = subst (AreIn frames) (sym to.first_are) (made_in frames _);
        },
        to.some,
      )
  opens_in meaning release old new frame around made (Resumed released) are within to = tt
  opens_in meaning release old new frame around made (Closed run) are within to = tt

  pub opened_by_step : (meaning : Meaning J V) (release : ReleaseView J) (old new : BacklogView J V) (stepped : Stepped J V) → IsWithin number.frames release.frames
      → StepsRelease meaning release old new stepped → OpensIn number stepped.state
  opened_by_step meaning release old new stepped within steps = opens_in meaning release old new steps.frame steps.around steps.made stepped.state steps.frames_are within steps.to

  abbrev frames_of : BacklogView J V → List (FrameKey J)
  frames_of backlog = backlog.frames

  -- What a start has released that goes on is in the frame of the backlog, which is of the run.
  goes_on : (meaning : Meaning J V) (frames : List (FrameKey J)) (fates : List (Fate V)) (released : List (ReleaseView J)) (new : BacklogView J V) → IsWithin number.frames frames
      → ResumesStart meaning frames fates released new → IsWithin number.frames new.frames × AreIn new.frames released
  goes_on meaning frames fates released new within resumes =
      let here : new.frames ≡ resumes.release.frames = ap frames_of resumes.uses.backlog in
      let inside = within_around number.frames frames resumes.inner resumes.frame resumes.around resumes.frames_are within in (
        within_same number.frames _ new.frames inside (here ∙ resumes.release_frames),
        subst (AreIn new.frames) (sym resumes.released_are) (subst (λ (fs : List (FrameKey J)). AreIn fs (map (release_in resumes.release.frames) resumes.made)) (sym here) (made_in resumes.release.frames resumes.made)),
      )

  brought_to : (meaning : Meaning J V) (job : J) (book : TableId) (old new : FrameWork J V) (fates : List (Fate V)) (state : State J V) → IsNumberOf job book number → IsWorkOf number old
      → old.backlog.frames ≢ [] → new.frame ≡ old.frame → new.teller.book ≡ old.teller.book → BringsTo meaning old.backlog.frames fates new.backlog state → LeavesWork meaning job book number new state
  brought_to meaning job book old new fates Went of_run is some frame teller to =
      let same : new.backlog.frames ≡ old.backlog.frames = ap frames_of to in
      (stays_of old new is same frame teller, ap (λ (b : BacklogView J V). b.fates) to, λ none. some (sym same ∙ none))
  brought_to meaning job book old new fates (Parked turn) of_run is some frame teller to = absurd to
  brought_to meaning job book old new fates (Inner first) of_run is some frame teller to = absurd to
  brought_to meaning job book old new fates (Resumed released) of_run is some frame teller to =
      let on = goes_on meaning old.backlog.frames fates released.items new.backlog (one_run old is some) to in
      (on.0, on.1, same_teller number.frames old.teller new.teller is.teller teller)
  brought_to meaning job book old new fates (Closed closed) of_run is some frame teller to =
      let closes = to.0 in
      let within = one_run old is some in
      let root : root_job old.backlog.frames ≡ Some (job_of closed.run) = ap root_job closes.frames_are ∙ ap Some (sym closes.job) in
      let named : book_of old.backlog.frames ≡ Some closed.spans.book = ap book_of closes.frames_are ∙ closes.book in (
        record {
          kept = closes.kept;
          of_job = same_job number.frames old.backlog.frames job (job_of closed.run) of_run.of_job within root;
          in_book = same_book number.frames old.backlog.frames book closed.spans.book of_run.in_book within named;
          account = closes.account;
        },
        stays_of old new is (ap frames_of to.1) frame teller,
      )

  -- what a bringing leaves
  pub leaves_work : (meaning : Meaning J V) (job : J) (book : TableId) (old new : FrameWork J V) (brought : Brought J V) → IsNumberOf job book number → IsWorkOf number old → old.backlog.frames ≢ []
      → new.frame ≡ old.frame → new.teller.book ≡ old.teller.book → BringsFates meaning old.backlog.frames old.backlog.fates new.backlog brought → LeavesWork meaning job book number new brought.state
  leaves_work meaning job book old new brought of_run is some frame teller brings = brought_to meaning job book old new old.backlog.fates brought.state of_run is some frame teller brings.to

  settled : (old new : FrameWork J V) (goes : Option (ReleaseView J)) → IsWorkOf number old → new.frame ≡ old.frame → new.teller.book ≡ old.teller.book → SettlesFrame old.backlog.frames new.backlog goes → IsWorkOf number new
  settled old new (Some release) is frame book (same, none) = none_of old new is (ap frames_of none) frame book
  settled old new None is frame book (inl none) = none_of old new is (ap frames_of none) frame book
  settled old new None is frame book (inr drops) = stays_of old new is (ap frames_of drops.backlog) frame book

  -- what a settling leaves
  pub after_settling : {E : Type 0} (old new : FrameWork J V) (o : Result (Option (ReleaseView J)) E) → IsWorkOf number old → new.frame ≡ old.frame → new.teller.book ≡ old.teller.book
      → IfOk o (SettlesFrame old.backlog.frames new.backlog) → OnOk o (IsWorkOf number new)
  after_settling old new (Ok goes) is frame book settles = settled old new goes is frame book settles
  after_settling old new (Err e) is frame book settles = tt

  goes_at : (old new : FrameWork J V) (goes : Option (ReleaseView J)) → IsWorkOf number old → old.backlog.frames ≢ [] → new.frame ≡ old.frame → SettlesFrame old.backlog.frames new.backlog goes
      → IfSome goes (GoesOnAt number new)
  goes_at old new None is some frame settles = tt
  goes_at old new (Some release) is some frame (same, none) =
      let within = within_same number.frames old.backlog.frames release.frames (one_run old is some) same in
      record { within = within; at = subst (λ (o : Option (NumberView J)). IfSome o (IsAt number release.frames)) (sym frame) (numbers_of number old.backlog.frames release.frames old.frame is.at some same within) }

  pub goes_after_settling : {E : Type 0} (old new : FrameWork J V) (o : Result (Option (ReleaseView J)) E) → IsWorkOf number old → old.backlog.frames ≢ [] → new.frame ≡ old.frame
      → IfOk o (SettlesFrame old.backlog.frames new.backlog) → IfOk o (λ goes. IfSome goes (GoesOnAt number new))
  goes_after_settling old new (Ok goes) is some frame settles = goes_at old new goes is some frame settles
  goes_after_settling old new (Err e) is some frame settles = tt
