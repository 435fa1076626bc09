-- A run that is over, and the start whose work it was.
use Rattle.std.proofs.Common.{◌≡◌, ℕ, ◌+◌, List, [], ◌∷◌, ◌++◌, Option, Some, None, length, refl, sym, ap, ◌∙◌, subst}
use Rattle.std.specs.Prelude.{◌↔◌, IfSome, slice_get}
use Rattle.std.specs.Arc.{arc_value}
use Rattle.std.specs.Global.{Vec}
use Rattle.std.specs.List.{AllByRecursion}
use Rattle.std.specs.Option.{option_map}
use Rattle.atomic_table.specs.Seated.{TableId}
use Rattle.join_tables.specs.Findings.{FindsOne}
use Rattle.join_tables.specs.Rests.{IsOfTable}
use Rattle.join_tables.specs.Keeping.{KeeperState, LeavesOf, entries_of, entries_told}
use Rattle.join_tables.specs.declared.fates.Fate.{Fate}
use Rattle.join_tables.specs.declared.keeper.Recorded.{Recorded}
use Rattle.join_tables.specs.declared.keeper.Remaining.TheVariants.{More, All as AllTaken}
use Rattle.run_frame.specs.Legal.{IsKept}
use Rattle.run_frame.specs.Meaning.{Meaning}
use Rattle.run_frame.specs.NestedRule.{job_of, journal_of}
use Rattle.run_frame.specs.declared.run.FrameRun.{FrameRun}
use Rattle.table_frames.specs.BacklogResults.{BringsFates, MayTakeIn, ResumesStart, TakesIn}
use Rattle.nested_runs.specs.Totals.{all_spans}
use Rattle.span_book.specs.SpanBooks.{SpansState}
use Rattle.table_frames.specs.Frames.{AtFrame, BacklogView, HasTable, IsAccounted, ReleaseView, backlog_view, book_of, release_in}
use Rattle.table_frames.specs.declared.closed_run.ClosedRun.{ClosedRun}
use Rattle.table_runs.specs.RunKeys.{FrameKey, RunKeeperView, key_of}
use Rattle.table_runs.specs.JournalFacts.{HasEntries}
use Rattle.table_frames.specs.inside.AttemptEnds.{HandsOn}
use Rattle.table_runs.specs.Attempts.{release_tried}
use Rattle.table_frames.specs.inside.FrameBatches.{IsBackIn}
use Rattle.table_frames.specs.inside.LockedRuns.{ComesInto, IsLockedAt, KeepsLast, LockKey, LockedRunView, first_frame, frame_of, lock_key_in, lock_key_of}
use Rattle.table_runs.specs.OpenStarts.{IsStartOf, OpenStartView}
use Rattle.table_frames.specs.inside.Overs.{IsEnd, IsInnerRunOf, IsOverOf, KeepsFates, Resumes}
use Rattle.table_runs.specs.declared.attempt.Attempt.{Attempt}
use Rattle.table_frames.specs.declared.over.InnerOver.{InnerOver}
use Rattle.table_frames.specs.declared.over.Kept.{Kept}
use Rattle.table_frames.specs.declared.over.Over.{Over}
use Rattle.table_frames.specs.declared.over.Over.TheVariants.{No, Alone, Inside}
use Rattle.table_frames.specs.declared.step_results.State.TheVariants.{Resumed}
use Rattle.table_frames.proofs.Concluding.{used_up}

all_behind : {X : Type 0} (P : X → Type 0) (xs ys : List X) → AllByRecursion P (xs ++ ys) → AllByRecursion P ys
all_behind P [] ys all = all
all_behind P (x ∷ xs) ys all = all_behind P xs ys all.1

-- what holds of the entries of fates holds of those of the later ones
of_later : {V : Type 0} (P : Recorded → Type 0) (fates later : List (Fate V)) → AllByRecursion P (entries_told (fates ++ later)) → AllByRecursion P (entries_told later)
of_later P [] later all = all
of_later P (fate ∷ fates) later all = of_later P fates later (all_behind P (entries_of fate) (entries_told (fates ++ later)) all)

later_entries : {J V : Type 0} (earlier later all : List (Fate V)) (run : FrameRun J V) → all ≡ earlier ++ later → HasEntries run all → HasEntries run later
later_entries earlier later all run same entries = of_later (λ (r : Recorded). slice_get (journal_of run) r.place ≡ Some r.entry) earlier later (subst (λ (told : List (Fate _)). HasEntries run told) same entries)

no_around : {J : Type 0} (around : List (FrameKey J)) → None ≡ first_frame around → around ≡ []
no_around [] is = refl
no_around (frame ∷ more) is = absurd (cc)

-- a start is of the frame around
pub start_at : {J : Type 0} (key : FrameKey J) (around : List (FrameKey J)) → Some key ≡ first_frame around → AtFrame around (λ k. key ≡ k)
start_at key [] is = absurd (cc)
start_at key (frame ∷ more) is = cc

-- a start is in no frame that is in no other
pub not_outermost : {J V : Type 0} (key : FrameKey J) (around : List (FrameKey J)) (locked : LockedRunView J V) (start : OpenStartView J V) → lock_key_of locked ≡ lock_key_in key around → locked.start ≡ Some start → around ≡ [] → ⊥
not_outermost {J} key around locked start is some none =
    let told : ◌≡◌ {A = Option (FrameKey J)} (Some start.frame) None = sym (ap frame_of some) ∙ ap (λ (k : LockKey J). k.around) is ∙ ap first_frame none in
    absurd (cc)

-- it is inside none
pub is_outermost : {J V : Type 0} (frames : List (FrameKey J)) (locked : LockedRunView J V) → IsLockedAt frames locked → locked.start ≡ None → locked.spans.depth ≡ 0
is_outermost [] locked is none = absurd is
is_outermost {J} (key ∷ around) locked is none = ap (λ (k : LockKey J). k.depth) is ∙ ap length (no_around around (sym (ap frame_of none) ∙ ap (λ (k : LockKey J). k.around) is))

-- the book of the frames around is that of all
pub book_around : {J : Type 0} (key : FrameKey J) (around : List (FrameKey J)) (p : FrameKey J → Type 0) → AtFrame around p → book_of around ≡ book_of (key ∷ around)
book_around key [] p at = absurd at
book_around key (frame ∷ more) p at = refl

-- a run inside these frames came back to the one with this book and depth
pub comes_into : {J : Type 0} (frames : List (FrameKey J)) (book : TableId) (depth : ℕ) (returned : Option SpansState) → book_of frames ≡ Some book → length frames ≡ 1 + depth → IfSome returned (IsBackIn frames) → IfSome returned (ComesInto book depth)
comes_into frames book depth None of deep is = tt
comes_into frames book depth (Some inner) of deep is = record { same = some_same inner.book book (sym is.book ∙ of); below = is.depth ∙ deep; all = is.all }
  where
    some_same : (n m : TableId) → ◌≡◌ {A = Option TableId} (Some n) (Some m) → n ≡ m
    some_same n m is = cc

-- there are turns of the frame
pub some_table : (n : TableId) (t : Option TableId) → IsOfTable n t → (t ≡ None → ⊥) → t ≡ Some n
some_table n None is some = absurd (some refl)
some_table n (Some m) is some = ap Some is

-- of the number that was found
finds_so : (p q : ℕ → Type 0) (before after : List ℕ) → ((n : ℕ) → p n → q n) → FindsOne p before after → FindsOne q before after
finds_so p q before [] so finds = absurd finds
finds_so p q before (n ∷ rest) so finds = (finds.0, so n finds.1)

-- A keeper has taken in turns, of which the last one was live alone, or one of several.
pub takes_last : {J V : Type 0} (frames : List (FrameKey J)) (fates : List (Fate V)) (over : Type 0) (old new : LockedRunView J V) → over → HasTable frames new.kept.keeper.table → KeepsLast fates old new AllTaken → TakesIn frames fates over new.kept.keeper
takes_last frames fates over old new is table keeps = record {
  table = table;
  earlier = keeps.earlier;
  fates_are = keeps.fates_are;
  before = old.kept.keeper.found;
  found = finds_so (λ n. LeavesOf n AllTaken) (λ n. over ↔ (n ≡ 1)) old.kept.keeper.found new.kept.keeper.found (λ n left. (λ o. left, λ one. is)) keeps.found;
}

pub takes_more : {J V : Type 0} (frames : List (FrameKey J)) (fates : List (Fate V)) (over : Type 0) (old new : LockedRunView J V) → ¬ over → HasTable frames new.kept.keeper.table → KeepsLast fates old new More → TakesIn frames fates over new.kept.keeper
takes_more frames fates over old new is table keeps = record {
  table = table;
  earlier = keeps.earlier;
  fates_are = keeps.fates_are;
  before = old.kept.keeper.found;
  found = finds_so (λ n. LeavesOf n More) (λ n. over ↔ (n ≡ 1)) old.kept.keeper.found new.kept.keeper.found (λ n left. (λ o. absurd (is o), λ one. absurd (left one))) keeps.found;
}

module _ {J V : Type 0} (meaning : Meaning J V) where
  -- what has the entries of fates has those of the later ones
  pub over_of : (frames : List (FrameKey J)) (earlier later all : List (Fate V)) (over : Over J V) → all ≡ earlier ++ later → IsOverOf meaning frames all over → IsOverOf meaning frames later over
  over_of frames earlier later all No same is = tt
  over_of frames earlier later all (Alone closed) same is = record { frame = is.frame; frames_are = is.frames_are; job = is.job; kept = is.kept; entries = later_entries earlier later all closed.run same is.entries; book = is.book; account = is.account }
  over_of frames earlier later all (Inside inner) same is = record { key = is.key; frames_are = is.frames_are; job = is.job; over = is.over; entries = later_entries earlier later all inner.run same is.entries }

  -- a run inside another that is over, whose start goes on
  pub resumes_start : (frames : List (FrameKey J)) (fates : List (Fate V)) (inner : InnerOver J V) (released : List (ReleaseView J)) (new : BacklogView J V) → IsInnerRunOf meaning frames fates inner → Resumes meaning inner released new → ResumesStart meaning frames fates released new
  resumes_start frames fates inner released new is resumes = record {
    inner = is.key;
    frame = resumes.frame;
    around = resumes.around;
    frames_are = is.frames_are ∙ ap (λ fs. is.key ∷ fs) resumes.frames_are;
    run = inner.run;
    job = is.job;
    entries = is.entries;
    release = resumes.release;
    release_frames = resumes.release_frames;
    made = resumes.made;
    uses = resumes.uses;
    run_is = resumes.run_is;
    edges = resumes.edges;
    released_are = resumes.released_are;
  }

  pub brings_inner : (frames : List (FrameKey J)) (fates : List (Fate V)) (kept : Kept J V) (inner : InnerOver J V) (released : Vec (ReleaseView J)) (new : BacklogView J V) → kept.over ≡ Inside inner → KeepsFates meaning frames fates kept → Resumes meaning inner released.items new
      → BringsFates meaning frames fates new (record { state = Resumed released; keeper = kept.keeper })
  brings_inner frames fates kept inner released new is keeps resumes =
      let over = subst (IsOverOf meaning frames fates) is keeps.over in
      record {
        to = resumes_start frames fates inner released.items new over resumes;
        keeper = subst (λ (o : Over J V). MayTakeIn frames fates (IsEnd o) (option_map (λ s. s.value) kept.keeper)) is keeps.keeper;
      }

  -- the run of a frame in no other
  pub over_alone : (frames : List (FrameKey J)) (locked : LockedRunView J V) (closed : ClosedRun J V) → IsLockedAt frames locked → locked.start ≡ None → IsKept meaning closed.run → job_of closed.run ≡ locked.kept.job → HasEntries closed.run locked.kept.keeper.fates
      → locked.kept.book ≡ Some closed.spans.book → IsAccounted closed → IsOverOf meaning frames locked.kept.keeper.fates (Alone closed)
  over_alone [] locked closed is none kept job entries book account = absurd is
  over_alone (key ∷ around) locked closed is none kept job entries book account = record {
    frame = key;
    frames_are = ap (λ fs. key ∷ fs) (no_around around (sym (ap frame_of none) ∙ ap (λ (k : LockKey J). k.around) is));
    job = job ∙ ap (λ (k : LockKey J). k.frame.job) is;
    kept = kept;
    entries = entries;
    book = sym (ap (λ (k : LockKey J). k.frame.book) is) ∙ book;
    account = account;
  }

  -- the run of a frame inside another
  pub over_inside : (key : FrameKey J) (around : List (FrameKey J)) (locked : LockedRunView J V) (inner : InnerOver J V) → lock_key_of locked ≡ lock_key_in key around → locked.start ≡ Some inner.start → IfSome locked.start (IsStartOf meaning locked.kept.job) → arc_value inner.parent ≡ around
      → IsKept meaning inner.run → job_of inner.run ≡ locked.kept.job → HasEntries inner.run locked.kept.keeper.fates → locked.spans ≡ inner.spans → book_of around ≡ Some inner.spans.book → inner.spans.back ≡ inner.spans.opened → inner.spans.noted ≡ all_spans inner.run → IsOverOf meaning (key ∷ around) locked.kept.keeper.fates (Inside inner)
  over_inside key around locked inner is some start parent kept job entries same book back noted =
      let at = start_at inner.start.frame around (sym (ap frame_of some) ∙ ap (λ (k : LockKey J). k.around) is) in
      record {
        key = key;
        frames_are = ap (λ fs. key ∷ fs) (sym parent);
        job = job ∙ ap (λ (k : LockKey J). k.frame.job) is;
        over = record {
          frame = subst (λ (fs : List (FrameKey J)). AtFrame fs (λ k. inner.start.frame ≡ k)) (sym parent) at;
          start = subst (λ (j : J). IsStartOf meaning j inner.start) (sym job) (subst (λ (s : Option (OpenStartView J V)). IfSome s (IsStartOf meaning locked.kept.job)) some start);
          kept = kept;
          back = record {
            is = record {
              book = ap book_of parent ∙ book;
              depth = sym (ap (λ (s : SpansState). s.depth) same) ∙ ap (λ (k : LockKey J). k.depth) is ∙ ap length (sym parent);
              all = back;
            };
            spans = noted;
          };
        };
        entries = entries;
      }

  -- its start is used up in the frame around
  pub resumes : (inner : InnerOver J V) (frames : List (FrameKey J)) (attempt : Attempt J V) (old new : BacklogView J V) (released : List (ReleaseView J)) → arc_value inner.parent ≡ frames → old.fates ≡ [] → attempt.inner ≡ Some inner.run → attempt.again ≡ None → HandsOn meaning frames attempt old new released → Resumes meaning inner released new
  resumes inner frames attempt old new released parent none run again hands =
      let concludes = hands.concludes in
      let frame = concludes.frame in
      let fresh = release_tried frame.table attempt.outcome in
      record {
        frame = frame;
        around = concludes.around;
        frames_are = parent ∙ concludes.frames_are;
        release = release_in frames fresh;
        release_frames = concludes.frames_are;
        made = hands.made;
        uses = used_up meaning frames attempt old (backlog_view [] []) new hands.made none concludes;
        run_is = run;
        edges = concludes.edges again;
        released_are = hands.released_are;
      }
