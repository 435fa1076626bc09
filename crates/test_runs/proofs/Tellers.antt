-- The releases of a run by one thread stay in its book.
use Rattle.std.proofs.Common.{◌≡◌, ◌<◌, ◌+◌, ◌++◌, ℕ, List, [], ◌∷◌, length, map, Option, Some, None, Result, Ok, Err, OnOk, inl, inr, refl, sym, ap, subst, ◌∙◌}
use Rattle.std.specs.Prelude.{All, IfSome, drop, slice_index_or, take}
use Rattle.std.proofs.lemmas.List.Elements.{All-append, All-drop, All-map, All-push, All-take, All-weaker}
use Rattle.atomic_table.specs.Seated.{TableId}
use Rattle.join_tables.specs.States.{FreshState}
use Rattle.join_tables.specs.declared.fates.Fate.{Fate}
use Rattle.run_frame.specs.Meaning.{Meaning}
use Rattle.table_frames.specs.BacklogResults.{BringsFates, BringsTo, SettlesFrame}
use Rattle.table_frames.specs.Frames.{BacklogView, ReleaseView, book_of, release_in}
use Rattle.table_frames.specs.Steps.{BeginsFrame, IsStateOf, StepsRelease, StepsTo}
use Rattle.table_frames.specs.declared.closed_run.ClosedRun.{ClosedRun}
use Rattle.table_frames.specs.declared.step_results.Brought.{Brought}
use Rattle.table_frames.specs.declared.step_results.State.TheVariants.{Went, Inner, Resumed, Closed}
use Rattle.table_frames.specs.declared.step_results.Stepped.{Stepped}
use Rattle.std.specs.Global.{Global}
use Rattle.std.specs.declared.vec.Vec.{Vec}
use Rattle.table_runs.specs.RunKeys.{FrameKey}
use Rattle.test_runs.specs.inside.Tellers.{AreIn, IsIn}

-- the name in an option, or this
abbrev name_in : TableId → Option TableId → TableId
name_in book None = book
name_in book (Some name) = name

module _ {J : Type 0} (book : TableId) where
  abbrev IsOf : ReleaseView J → Type 0
  IsOf release = IsIn book release.frames

  -- frames that have a book have this one
  pub in_book : (frames : List (FrameKey J)) (own : TableId) → book_of frames ≡ Some own → IsIn book frames → book ≡ own
  in_book frames own is within = subst (λ (o : Option TableId). IfSome o (λ b. book ≡ b)) is within

  pub has_book : (frames : List (FrameKey J)) → book_of frames ≡ Some book → IsIn book frames
  has_book frames is = subst (λ (o : Option TableId). IfSome o (λ b. book ≡ b)) (sym is) refl

  same_in : (frames same : List (FrameKey J)) → same ≡ frames → IsIn book frames → IsIn book same
  same_in frames same is within = subst (IsIn book) (sym is) within

  -- a frame inside another is in its book, and the one around a frame
  inside : (inner : FrameKey J) (frames : List (FrameKey J)) (frame : FrameKey J) (around : List (FrameKey J)) → frames ≡ frame ∷ around → IsIn book frames → IsIn book (inner ∷ frames)
  inside inner frames frame around is within = subst (λ (fs : List (FrameKey J)). IsIn book (inner ∷ fs)) (sym is) (subst (IsIn book) is within)

  all_of : (frames : List (FrameKey J)) (releases : List (ReleaseView J)) → IsIn book frames → All (λ (release : ReleaseView J). release.frames ≡ frames) releases → All IsOf releases
  all_of frames releases within = All-weaker (λ (release : ReleaseView J). release.frames ≡ frames) IsOf (λ release is. same_in frames release.frames is within) releases

  made_of : (frames : List (FrameKey J)) (made : List FreshState) → IsIn book frames → All IsOf (map (release_in frames) made)
  made_of frames made within = All-map IsOf (release_in frames) made (λ k d lt. within)

  -- ---- The lists of a run.
  pub none_left : (releases : List (ReleaseView J)) (frames : List (FrameKey J)) → frames ≡ [] → AreIn book releases [] → AreIn book releases frames
  none_left releases frames none are = subst (AreIn book releases) (sym none) are

  pub picked : (releases rest : List (ReleaseView J)) (frames : List (FrameKey J)) (i : ℕ) (release : ReleaseView J) → AreIn book releases frames → i < length releases → release ≡ slice_index_or releases i release → rest ≡ take i releases ++ drop (i + 1) releases → AreIn book rest release.frames
  picked releases rest frames i release are below is left = record {
    each = subst (All IsOf) (sym left) (All-append IsOf (take i releases) (drop (i + 1) releases) (All-take IsOf i releases are.each) (All-drop IsOf (i + 1) releases are.each));
    backlog = subst IsOf (sym is) (are.each i release below);
  }

  pub added : {A E : Type 0} (result : Result A E) (releases new : List (ReleaseView J)) (frames : List (FrameKey J)) → AreIn book releases frames → OnOk result (new ≡ releases) → OnOk result (AreIn book new frames)
  added (Ok _) releases new frames are is = subst (λ (rs : List (ReleaseView J)). AreIn book rs frames) (sym is) are
  added (Err _) releases new frames are is = tt

  module _ {V : Type 0} (meaning : Meaning J V) where
    pub begun : (job : J) (stepped : Stepped J V) → BeginsFrame meaning job book stepped → AreIn book stepped.released.items []
    begun job stepped begins = record { each = all_of (begins.frame ∷ []) stepped.released.items (has_book (begins.frame ∷ []) begins.book_is) begins.frames; backlog = tt }

    pub closed_at_once : (job : J) (stepped : Stepped J V) (closed : ClosedRun J V) → BeginsFrame meaning job book stepped → stepped.state ≡ Closed closed → closed.spans.book ≡ book
    closed_at_once job stepped closed begins is =
        let root = subst (IsStateOf meaning (begins.frame ∷ [])) is begins.state in
        ap (name_in book) (sym root.book ∙ begins.book_is)

    pub after_step : (releases : List (ReleaseView J)) (release : ReleaseView J) (old new : BacklogView J V) (stepped : Stepped J V) → AreIn book releases release.frames → StepsRelease meaning release old new stepped → AreIn book (releases ++ stepped.released.items) new.frames
    after_step releases release old new stepped are steps = record {
      each = All-append IsOf releases stepped.released.items are.each (all_of release.frames stepped.released.items are.backlog steps.frames);
      backlog = same_in release.frames new.frames steps.backlog are.backlog;
    }

    pub opened : (releases : List (ReleaseView J)) (release : ReleaseView J) (old new : BacklogView J V) (stepped : Stepped J V) (first : Vec (ReleaseView J) Global) → IsIn book release.frames → AreIn book releases new.frames → StepsRelease meaning release old new stepped → stepped.state ≡ Inner first → AreIn book (releases ++ first.items) new.frames
    opened releases release old new stepped first within are steps is =
        let opens = subst (StepsTo meaning steps.frame release old new steps.made) is steps.to in
        record {
          each = All-append IsOf releases first.items are.each (subst (All IsOf) (sym opens.first_are) (made_of (opens.inner ∷ release.frames) _ (inside opens.inner release.frames steps.frame steps.around steps.frames_are within)));
          backlog = are.backlog;
        }

    module _ (releases : List (ReleaseView J)) (frames : List (FrameKey J)) (fates : List (Fate V)) (new : BacklogView J V) (brought : Brought J V) (are : AreIn book releases frames) (brings : BringsFates meaning frames fates new brought) where
      pub closed_last : (closed : ClosedRun J V) → brought.state ≡ Closed closed → closed.spans.book ≡ book
      closed_last closed is =
          let closes = (subst (BringsTo meaning frames fates new) is brings.to).0 in
          sym (in_book frames closed.spans.book (ap book_of closes.frames_are ∙ closes.book) are.backlog)

      pub resumed : (released : Vec (ReleaseView J) Global) → brought.state ≡ Resumed released → AreIn book (releases ++ released.items) new.frames
      resumed released is =
          let resumes = subst (BringsTo meaning frames fates new) is brings.to in
          let within : IsIn book resumes.release.frames = same_in (resumes.frame ∷ resumes.around) resumes.release.frames resumes.release_frames (subst (IsIn book) resumes.frames_are are.backlog) in
          record {
            each = All-append IsOf releases released.items are.each (subst (All IsOf) (sym resumes.released_are) (made_of resumes.release.frames resumes.made within));
            backlog = same_in resumes.release.frames new.frames (ap (λ (b : BacklogView J V). b.frames) resumes.uses.backlog) within;
          }

      pub went : brought.state ≡ Went → (new.fates ≡ []) × (new.frames ≡ frames)
      went is =
          let same = subst (BringsTo meaning frames fates new) is brings.to in
          (ap (λ (b : BacklogView J V). b.fates) same, ap (λ (b : BacklogView J V). b.frames) same)

  pub woken : {V : Type 0} (releases : List (ReleaseView J)) (frames : List (FrameKey J)) (new : BacklogView J V) (release : ReleaseView J) → AreIn book releases frames → SettlesFrame frames new (Some release) → AreIn book (releases ++ release ∷ []) new.frames
  woken releases frames new release are settles = record {
    each = All-push IsOf releases release are.each (same_in frames release.frames settles.0 are.backlog);
    backlog = same_in [] new.frames (ap (λ (b : BacklogView J _). b.frames) settles.1) tt;
  }

  pub none_woken : {V : Type 0} (releases : List (ReleaseView J)) (frames : List (FrameKey J)) (new : BacklogView J V) → AreIn book releases frames → SettlesFrame frames new None → AreIn book releases new.frames
  none_woken releases frames new are (inl none) = record { each = are.each; backlog = same_in [] new.frames (ap (λ (b : BacklogView J _). b.frames) none) tt }
  none_woken releases frames new are (inr drops) = record { each = are.each; backlog = same_in frames new.frames (ap (λ (b : BacklogView J _). b.frames) drops.backlog) are.backlog }
