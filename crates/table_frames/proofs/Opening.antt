-- What the work of a release comes to in the frames of a step, and how a run begins inside them.
use Rattle.std.proofs.Common.{◌≡◌, ◌≢◌, ℕ, List, [], ◌∷◌, ◌++◌, length, Option, Some, None, append-nil, refl, sym, ap, ◌∙◌, subst}
use Rattle.std.specs.Prelude.{IsSome}
use Rattle.std.proofs.lemmas.List.Elements.{All-push}
use Rattle.atomic_table.specs.Seated.{TableId}
use Rattle.journal_rules.specs.declared.entry.Cause.{Cause}
use Rattle.join_tables.specs.States.{FreshState}
use Rattle.run_frame.specs.Meaning.{Meaning}
use Rattle.span_book.specs.SpanBooks.{SpansState}
use Rattle.table_frames.specs.Frames.{AtFrame, HasTable, book_of, root_job}
use Rattle.run_frame.specs.declared.run.FrameRun.{FrameRun}
use Rattle.table_runs.specs.Spans.{spans_made}
use Rattle.table_frames.specs.inside.Books.{HasOneBook, IsOneBook}
use Rattle.table_frames.specs.inside.FrameBatches.{HasBack}
use Rattle.table_runs.specs.RunKeys.{FrameKey}
use Rattle.table_runs.specs.Openings.{IsOverAtOnce}
use Rattle.table_runs.specs.Attempts.{IsAgain, again_list}
use Rattle.table_frames.specs.inside.TriedReleases.{IsAttemptAt, TriesRelease, IsInnerAt, TriesAt}
use Rattle.table_runs.specs.Begins.{Begins}
use Rattle.table_runs.specs.OpenStarts.{IsStartOf, OpenStartView}
use Rattle.table_frames.specs.inside.LockedRuns.{first_frame, lock_key_in, lock_key_of, locked_run}
use Rattle.table_runs.specs.Runs.{AreOf}
use Rattle.table_runs.specs.declared.attempt.Attempt.{Attempt}
use Rattle.table_runs.specs.declared.attempt.InnerBegun.{InnerBegun}
use Rattle.table_runs.specs.declared.attempt.Tried.{Tried}
use Rattle.table_runs.specs.declared.table_run.Begun.{Begun}
use Rattle.table_runs.specs.declared.attempt.Tried.TheVariants.{Done, Inner}

-- the first of some frames is the first of those around a frame inside them
pub first_is : {J : Type 0} (frames : List (FrameKey J)) (key : FrameKey J) → AtFrame frames (λ k. key ≡ k) → Some key ≡ first_frame frames
first_is [] key at = absurd at
first_is (frame ∷ around) key at = ap Some at

-- there is a frame
pub some_frame : {J : Type 0} (frames : List (FrameKey J)) (p : FrameKey J → Type 0) → AtFrame frames p → frames ≢ []
some_frame [] p at = absurd at
some_frame (frame ∷ around) p at = λ none. absurd (cc)

-- the releases of a frame, with the next one of a task
pub with_again : (n : TableId) (t : ℕ) (cause : Cause) (ready all : List FreshState) (again : Option FreshState) → IsAgain n t cause again → all ≡ ready ++ again_list again → AreOf n ready → AreOf n all
with_again n t cause ready all None is added of = subst (AreOf n) (sym (added ∙ append-nil ready)) of
with_again n t cause ready all (Some again) is added of = subst (AreOf n) (sym added) (All-push (λ (f : FreshState). f.table ≡ n) ready again of (ap (λ (f : FreshState). f.table) is.1))

-- the outermost run is that of the frame around
pub root_inside : {J : Type 0} (key : FrameKey J) (around : List (FrameKey J)) (p : FrameKey J → Type 0) → AtFrame around p → root_job around ≡ root_job (key ∷ around)
root_inside key [] p at = absurd at
root_inside key (frame ∷ more) p at = refl

module _ {J V : Type 0} (meaning : Meaning J V) where
  -- work that is done
  pub tries_done : (frames frames' : List (FrameKey J)) (release : FreshState) (tried : Tried J V) (attempt : Attempt J V) → frames' ≡ frames → tried ≡ Done attempt → TriesAt meaning frames' release tried → IsAttemptAt meaning frames attempt × TriesRelease frames attempt release × IsOverAtOnce meaning attempt.inner
  tries_done frames frames' release tried attempt same is tries = by_frames frames (subst (λ fs. TriesAt meaning fs release (Done attempt)) same (subst (TriesAt meaning frames' release) is tries))
    where
      by_frames : (fs : List (FrameKey J)) → TriesAt meaning fs release (Done attempt) → IsAttemptAt meaning fs attempt × TriesRelease fs attempt release × IsOverAtOnce meaning attempt.inner
      by_frames [] a = absurd a
      by_frames (frame ∷ around) a = a

  -- a run that was over as it began has no span
  pub none_made : (frames : List (FrameKey J)) (run : Option (FrameRun J V)) → IsOverAtOnce meaning run → HasBack frames (spans_made run) None
  none_made frames None over = record { is = tt; spans = refl }
  none_made frames (Some run) over = record { is = tt; spans = sym over.no_spans }

  -- a run that has begun in its place
  pub tries_inner : (frames frames' : List (FrameKey J)) (release : FreshState) (tried : Tried J V) (inner : InnerBegun J V) → frames' ≡ frames → tried ≡ Inner inner → TriesAt meaning frames' release tried → TriesAt meaning frames release (Inner inner)
  tries_inner frames frames' release tried inner same is tries = subst (λ fs. TriesAt meaning fs release (Inner inner)) same (subst (TriesAt meaning frames' release) is tries)

  pub opened_at : (frames : List (FrameKey J)) (release : FreshState) (inner : InnerBegun J V) → TriesAt meaning frames release (Inner inner) → IsInnerAt meaning frames inner
  opened_at [] release inner tries = absurd tries
  opened_at (frame ∷ around) release inner tries = tries.0

  -- a run that has begun is of its own job
  pub begins_own : (job : J) (begun : Begun J V) → Begins meaning job begun → Begins meaning begun.run.job begun
  begins_own job begun begins = subst (λ (j : J). Begins meaning j begun) (sym begins.job_is) begins

  -- What of such a run doesn't depend on the frames around the first.
  pub record BeginsAt (frames : List (FrameKey J)) (inner : InnerBegun J V) : Type 0 where
    pub start : IsStartOf meaning inner.begun.run.job inner.start
    pub frame : AtFrame frames (λ key. inner.start.frame ≡ key)
    pub begins : Begins meaning inner.begun.run.job inner.begun
    pub book : inner.begun.run.book ≡ inner.start.frame.book

  pub begins_at : (frames : List (FrameKey J)) (inner : InnerBegun J V) → IsInnerAt meaning frames inner → BeginsAt frames inner
  begins_at [] inner is = absurd is
  begins_at (frame ∷ around) inner is = record { start = is.start; frame = is.frame_is; begins = is.begins; book = is.book ∙ sym (ap (λ (k : FrameKey J). k.book) is.frame_is) }

  -- the key of the lock of a frame made inside these, and the start that is under it
  pub inner_key : (frames around : List (FrameKey J)) (begun : Begun J V) (spans : SpansState) (start : OpenStartView J V) → around ≡ frames → Begins meaning begun.run.job begun → spans.depth ≡ length frames → AtFrame frames (λ key. start.frame ≡ key) → lock_key_of (locked_run begun.kept spans (Some start)) ≡ lock_key_in begun.run around
  inner_key frames around begun spans start same begins depth at = λ i. record { frame = begins.kept i; around = (first_is frames start.frame at ∙ ap first_frame (sym same)) i; depth = (depth ∙ ap length (sym same)) i }

  -- its book is that of the frames around it
  pub own_book : (frames : List (FrameKey J)) (run : FrameKey J) (start : FrameKey J) (book : TableId) → run.book ≡ start.book → AtFrame frames (λ key. start ≡ key) → book_of frames ≡ Some book → IsOneBook frames → run.book ≡ Some book
  own_book [] run start book same at is one = absurd at
  own_book (frame ∷ around) run start book same at is one = same ∙ ap (λ (k : FrameKey J). k.book) at ∙ sym one ∙ is

  pub inner_book : (frames : List (FrameKey J)) (run : FrameKey J) (start : FrameKey J) (book : TableId) → run.book ≡ start.book → AtFrame frames (λ key. start ≡ key) → book_of frames ≡ Some book → IsOneBook frames → HasOneBook run frames
  inner_book [] run start book same at is one = absurd at
  inner_book (frame ∷ around) run start book same at is one =
      let own = own_book (frame ∷ around) run start book same at is one in
      record { some = subst IsSome (sym own) refl; same = is ∙ sym own }

  pub inner_start : (begun : Begun J V) (start : OpenStartView J V) → Begins meaning begun.run.job begun → IsStartOf meaning begun.run.job start → IsStartOf meaning begun.kept.job start
  inner_start begun start begins is = subst (λ (j : J). IsStartOf meaning j start) (sym (ap (λ (k : FrameKey J). k.job) begins.kept)) is

  -- the next release of its task is of the frame
  pub again_at : (frames : List (FrameKey J)) (inner : InnerBegun J V) (again : FreshState) → inner.again ≡ Some again → IsInnerAt meaning frames inner → HasTable frames again.table
  again_at [] inner again some is = absurd is
  again_at (frame ∷ around) inner again some is =
      let told = subst (IsAgain frame.table inner.start.running.task inner.start.running.cause) some is.again in
      ap (λ (f : FreshState). f.table) told.1
