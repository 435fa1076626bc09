-- What a worker has done and not brought yet.
use Rattle.std.specs.Prelude.{◌≡◌, ◌≢◌, ◌⊎◌, ◌+◌, ℕ, List, [], ◌∷◌, ◌++◌, IfSome}
use Rattle.join_tables.specs.declared.fates.Fate.{Fate}
use Rattle.atomic_table.specs.Seated.{TableId}
use Rattle.run_frame.specs.Meaning.{Meaning}
use Rattle.span_profile.specs.Watch.{TellsOn}
use Rattle.table_runs.specs.RunKeys.{FrameKey}
use Rattle.table_runs.specs.Spans.{spans_in}
use Rattle.table_frames.specs.Frames.{BacklogView, IsTellerOf, MayTake, ReleaseView}
use Rattle.table_frames.specs.declared.step_results.State.{State}
use Rattle.table_frames.specs.declared.step_results.State.TheVariants.{Went, Parked, Inner, Resumed, Closed}
use Rattle.worker_seat.specs.inside.Numbers.{NumberView}
use Rattle.worker_seat.specs.inside.Runs.{AreIn, AreOfFrame, IsClosedOf, IsWithin}
use Rattle.worker_seat.specs.declared.work.FrameWork.{FrameWork}

-- a number of a frame of the run with this number, which is these frames
pub record IsAt {J : Type 0} (number : NumberView J) (frames : List (FrameKey J)) (at : NumberView J) : Type 0 where
  pub begun : at.begun ≡ number.begun
  pub frames_are : at.frames ≡ frames
  pub within : IsWithin number.frames frames

-- It is of a frame of the run with this number, or of none. Where a number is there, it is of that frame. The teller is
-- of the book of the run's spans.
pub record IsWorkOf {J V : Type 0} (number : NumberView J) (work : FrameWork J V) : Type 0 where
  pub within : (work.backlog.frames ≡ []) ⊎ IsWithin number.frames work.backlog.frames
  pub at : IfSome work.frame (λ at. (at.begun ≡ number.begun) × ((work.backlog.frames ≡ []) ⊎ (work.backlog.frames ≡ at.frames)))
  pub teller : IsTellerOf number.frames work.teller

-- the spans that a worker's steps have ended: those that its teller told, and those of what isn't brought yet
abbrev pub spans_ended : {J V : Type 0} → FrameWork J V → ℕ
spans_ended work = work.teller.told + spans_in work.backlog.fates

-- Where the watcher was told the spans that the steps had ended, it was told those that they have ended now.
abbrev pub KeepsTold : {J V X : Type 0} → (X → ℕ) → FrameWork J V → X → FrameWork J V → X → Type 0
KeepsTold told old_work old new_work new = TellsOn told (spans_ended old_work) (spans_ended new_work) old new

-- Where the newest of a backlog ended a span, the watcher was told that one.
abbrev pub TellsNewest : {J V X : Type 0} → (X → ℕ) → BacklogView J V → X → X → Type 0
TellsNewest {J} {V} told backlog old new = (n : ℕ) (earlier : List (Fate V)) (fate : Fate V) → backlog.fates ≡ earlier ++ fate ∷ [] → TellsOn told n (n + spans_in (fate ∷ [])) old new

-- after a step, by what is with the run then: where it used its release up, a watcher was told the span that it ended,
-- if it ended one
abbrev pub TellsStep : {J V X : Type 0} → (X → ℕ) → State J V → BacklogView J V → X → X → Type 0
TellsStep told Went backlog old new = TellsNewest told backlog old new
TellsStep told _ backlog old new = new ≡ old

-- after a bringing: where a start goes on in the frame around, a watcher was told its span
abbrev pub TellsBringing : {J V X : Type 0} → (X → ℕ) → State J V → BacklogView J V → X → X → Type 0
TellsBringing told (Resumed released) backlog old new = TellsNewest told backlog old new
TellsBringing told _ backlog old new = new ≡ old

-- A step of these frames may add to it. Where a number is there, it is of these frames.
pub record IsTurnedTo {J V : Type 0} (frames : List (FrameKey J)) (work : FrameWork J V) : Type 0 where
  pub may : MayTake work.backlog frames
  pub at : IfSome work.frame (λ at. at.frames ≡ frames)

-- a step leaves the run as it is, but for a run that it may have opened inside it, with these first releases
abbrev pub OpensIn : {J V : Type 0} → NumberView J → State J V → Type 0
OpensIn number Went = Unit {0}
OpensIn number (Parked turn) = Unit {0}
OpensIn number (Inner first) = AreOfFrame number first.items × (first.items ≢ [])
OpensIn number (Resumed released) = Unit {0}
OpensIn number (Closed closed) = Unit {0}

-- What a bringing leaves of it: nothing but its frame; where a run inside is over, the frame around, of which these
-- releases are; or the whole run is over.
abbrev pub LeavesWork : {J V : Type 0} → Meaning J V → J → TableId → NumberView J → FrameWork J V → State J V → Type 0
LeavesWork meaning job book number work Went = IsWorkOf number work × (work.backlog.fates ≡ []) × (work.backlog.frames ≢ [])
LeavesWork meaning job book number work (Parked turn) = ⊥
LeavesWork meaning job book number work (Inner first) = ⊥
LeavesWork meaning job book number work (Resumed released) = IsWithin number.frames work.backlog.frames × AreIn work.backlog.frames released.items × IsTellerOf number.frames work.teller
LeavesWork meaning job book number work (Closed closed) = IsClosedOf meaning job book closed × IsWorkOf number work

-- a release goes on in the frame of which a number is there, if one is
pub record GoesOnAt {J V : Type 0} (number : NumberView J) (work : FrameWork J V) (release : ReleaseView J) : Type 0 where
  pub within : IsWithin number.frames release.frames
  pub at : IfSome work.frame (IsAt number release.frames)
