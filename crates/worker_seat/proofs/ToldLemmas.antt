-- Watchers are told the spans that the steps of their workers end.
use Rattle.std.proofs.Common.{◌≡◌, ◌+◌, ◌++◌, ℕ, List, [], ◌∷◌, Some, None, inl, inr, refl, sym, ap, subst, ◌∙◌, arith}
use Rattle.std.specs.Prelude.{Bool, true, false, ◌-◌, ◌^◌, min, if◌then◌else◌, Option, Result, Ok, Err, IfOk, OnOk}
use Rattle.atomic_table.specs.Seated.{TableId}
use Rattle.join_tables.specs.States.{FreshState}
use Rattle.span_book.specs.SpanBooks.{TellerState, teller_state}
use Rattle.join_tables.specs.declared.fates.Fate.{Fate}
use Rattle.join_tables.specs.declared.fates.Fate.TheVariants.{Ended, Faulted, Dropped, AllDropped}
use Rattle.journal_rules.proofs.Snoc.{count_by_push}
use Rattle.run_frame.specs.Meaning.{Meaning}
use Rattle.semaphore_turns.specs.Settlements.{AreDrops}
use Rattle.table_frames.specs.BacklogResults.{BringsFates, BringsTo, SettlesFrame}
use Rattle.table_frames.specs.Frames.{BacklogView, ReleaseView}
use Rattle.table_frames.specs.Steps.{StepsRelease, StepsTo}
use Rattle.table_frames.specs.declared.step_results.Brought.{Brought}
use Rattle.table_frames.specs.declared.step_results.State.{State}
use Rattle.table_frames.specs.declared.step_results.State.TheVariants.{Went, Parked, Inner, Resumed, Closed}
use Rattle.table_frames.specs.declared.step_results.Stepped.{Stepped}
use Rattle.table_runs.specs.RunKeys.{FrameKey}
use Rattle.table_runs.specs.Spans.{ends_span, spans_in}
use Rattle.worker_seat.specs.declared.work.FrameWork.{FrameWork}
use Rattle.worker_seat.specs.inside.Works.{KeepsTold, TellsBringing, TellsNewest, TellsStep, spans_ended}

module _ {V : Type 0} where
  -- the spans of one fate more
  one_more_fate : (fates : List (Fate V)) (fate : Fate V) → spans_in (fates ++ fate ∷ []) ≡ spans_in fates + spans_in (fate ∷ [])
  one_more_fate fates fate = count_by_push ends_span fates fate ∙ ap (λ (n : ℕ). spans_in fates + n) (alone fate)
    where
      alone : (one : Fate V) → (if ends_span one then 1 else 0) ≡ spans_in (one ∷ [])
      alone (Ended e) = refl
      alone (Faulted f) = refl
      alone (Dropped d) = refl
      alone (AllDropped drops) = refl

  -- what was parked ends no span as it is dropped
  drops_no_span : (fate : Fate V) → AreDrops fate → spans_in (fate ∷ []) ≡ 0
  drops_no_span (Ended e) drops = absurd drops
  drops_no_span (Faulted f) drops = absurd drops
  drops_no_span (Dropped d) drops = absurd drops
  drops_no_span (AllDropped all) drops = refl

abbrev fates_of : {J V : Type 0} → BacklogView J V → List (Fate V)
fates_of backlog = backlog.fates

module _ {J V X : Type 0} (told : X → ℕ) where
  -- the watcher was told nothing, and no span has ended
  pub told_same : (old new : FrameWork J V) (watcher : X) → spans_ended new ≡ spans_ended old → KeepsTold told old watcher new watcher
  told_same old new watcher same before was = was ∙ ap (λ (n : ℕ). min (before + n) (2 ^ 64 - 1)) (sym same)

  -- one after the other
  pub told_then : (one two three : FrameWork J V) (first second third : X) → KeepsTold told one first two second → KeepsTold told two second three third → KeepsTold told one first three third
  told_then one two three first second third here there before was = there before (here before was)

  -- also where no span ends at the next call, if it comes off
  pub told_with : {A E : Type 0} (o : Result A E) (one two three : FrameWork J V) (first second : X) → KeepsTold told one first two second → OnOk o (spans_ended three ≡ spans_ended two)
      → OnOk o (KeepsTold told one first three second)
  told_with (Ok a) one two three first second here same = told_then one two three first second second here (told_same two three second same)
  told_with (Err e) one two three first second here same = tt

  pub told_after : {A E : Type 0} (o : Result A E) (one two three : FrameWork J V) (first second third : X) → KeepsTold told one first two second → OnOk o (KeepsTold told two second three third)
      → OnOk o (KeepsTold told one first three third)
  told_after (Ok a) one two three first second third here there = told_then one two three first second third here there
  told_after (Err e) one two three first second third here there = tt

  -- the newest fate is told of these, to which it was added
  told_newest : (old new : FrameWork J V) (earlier : List (Fate V)) (fate : Fate V) (before_it after_it : X) → new.backlog.fates ≡ earlier ++ fate ∷ []
      → spans_ended new ≡ spans_ended old + spans_in (fate ∷ []) → TellsNewest told new.backlog before_it after_it → KeepsTold told old before_it new after_it
  told_newest old new earlier fate before_it after_it are more tells before was =
      tells (spans_ended old) earlier fate are before was ∙ ap (λ (n : ℕ). min (before + n) (2 ^ 64 - 1)) (sym more)

  same_told : (old new : FrameWork J V) (before_it after_it : X) → spans_ended new ≡ spans_ended old → after_it ≡ before_it → KeepsTold told old before_it new after_it
  same_told old new before_it after_it same is = subst (λ (x : X). KeepsTold told old before_it new x) (sym is) (told_same old new before_it same)

  abbrev teller_told : FrameWork J V → ℕ
  teller_told work = work.teller.told

  -- where the teller is the same, those are the spans of the backlog
  ended_with : (old new : FrameWork J V) (more : ℕ) → new.teller ≡ old.teller → spans_in new.backlog.fates ≡ spans_in old.backlog.fates + more → spans_ended new ≡ spans_ended old + more
  ended_with old new more same are = let teller = ap (λ (t : TellerState). t.told) same in omega (arith, teller, are)

  ended_same : (old new : FrameWork J V) → new.teller ≡ old.teller → new.backlog.fates ≡ old.backlog.fates → spans_ended new ≡ spans_ended old
  ended_same old new same are = let teller = ap (λ (t : TellerState). t.told) same in let fates = ap spans_in are in omega (arith, teller, fates)

  -- the spans that a step ended are told
  stepped_to : (meaning : Meaning J V) (release : ReleaseView J) (old new : FrameWork J V) (frame : FrameKey J) (made : List FreshState) (state : State J V) (before_it after_it : X) → new.teller ≡ old.teller
      → StepsTo meaning frame release old.backlog new.backlog made state → TellsStep told state new.backlog before_it after_it → KeepsTold told old before_it new after_it
  stepped_to meaning release old new frame made Went before_it after_it same to tells =
      let fate = to.uses.fate in
      let are = ap fates_of to.uses.backlog in
      told_newest old new old.backlog.fates fate before_it after_it are
      (ended_with old new (spans_in (fate ∷ [])) same (ap spans_in are ∙ one_more_fate old.backlog.fates fate)) tells
  stepped_to meaning release old new frame made (Parked turn) before_it after_it same to tells = same_told old new before_it after_it (ended_same old new same (ap fates_of to.backlog)) tells
  stepped_to meaning release old new frame made (Inner first) before_it after_it same to tells = same_told old new before_it after_it (ended_same old new same (ap fates_of to.backlog)) tells
  stepped_to meaning release old new frame made (Resumed released) before_it after_it same to tells = absurd to
  stepped_to meaning release old new frame made (Closed closed) before_it after_it same to tells = absurd to

  pub told_step : (meaning : Meaning J V) (release : ReleaseView J) (old new : FrameWork J V) (stepped : Stepped J V) (before_it after_it : X) → new.teller ≡ old.teller
      → StepsRelease meaning release old.backlog new.backlog stepped → TellsStep told stepped.state new.backlog before_it after_it → KeepsTold told old before_it new after_it
  told_step meaning release old new stepped before_it after_it same steps tells =
      stepped_to meaning release old new steps.frame steps.made stepped.state before_it after_it same steps.to tells

  -- where the backlog was brought, its spans are those of the teller
  ended_by : (old new : FrameWork J V) (more : ℕ) (book : TableId) → new.teller ≡ teller_state book (old.teller.told + spans_in old.backlog.fates) → spans_in new.backlog.fates ≡ more
      → spans_ended new ≡ spans_ended old + more
  ended_by old new more book is are = let teller = ap (λ (t : TellerState). t.told) is in omega (arith, teller, are)

  ended_brought : (old new : FrameWork J V) (book : TableId) → new.teller ≡ teller_state book (old.teller.told + spans_in old.backlog.fates) → new.backlog.fates ≡ []
      → spans_ended new ≡ spans_ended old
  ended_brought old new book is none = let more = ended_by old new 0 book is (ap spans_in none) in omega (arith, more)

  brought_told : (meaning : Meaning J V) (old new : FrameWork J V) (book : TableId) (state : State J V) (before_it after_it : X) → new.teller ≡ teller_state book (old.teller.told + spans_in old.backlog.fates)
      → BringsTo meaning old.backlog.frames old.backlog.fates new.backlog state → TellsBringing told state new.backlog before_it after_it → KeepsTold told old before_it new after_it
  brought_told meaning old new book Went before_it after_it is to tells = same_told old new before_it after_it (ended_brought old new book is (ap fates_of to)) tells
  brought_told meaning old new book (Parked turn) before_it after_it is to tells = absurd to
  brought_told meaning old new book (Inner first) before_it after_it is to tells = absurd to
  brought_told meaning old new book (Resumed released) before_it after_it is to tells =
      let fate = to.uses.fate in
      let are = ap fates_of to.uses.backlog in
      told_newest old new [] fate before_it after_it are (ended_by old new (spans_in (fate ∷ [])) book is (ap spans_in are)) tells
  brought_told meaning old new book (Closed closed) before_it after_it is to tells = same_told old new before_it after_it (ended_brought old new book is (ap fates_of to.1)) tells

  pub told_bringing : (meaning : Meaning J V) (old new : FrameWork J V) (book : TableId) (brought : Brought J V) (before_it after_it : X) → new.teller ≡ teller_state book (old.teller.told + spans_in old.backlog.fates)
      → BringsFates meaning old.backlog.frames old.backlog.fates new.backlog brought → TellsBringing told brought.state new.backlog before_it after_it → KeepsTold told old before_it new after_it
  told_bringing meaning old new book brought before_it after_it is brings tells = brought_told meaning old new book brought.state before_it after_it is brings.to tells

module _ {J V : Type 0} where
  settled_spans : (old new : FrameWork J V) (goes : Option (ReleaseView J)) → old.backlog.fates ≡ [] → new.teller ≡ old.teller → SettlesFrame old.backlog.frames new.backlog goes → spans_in new.backlog.fates ≡ 0
  settled_spans old new (Some release) none same (frames, brought) = ap (λ (b : BacklogView J V). spans_in b.fates) brought
  settled_spans old new None none same (inl brought) = ap (λ (b : BacklogView J V). spans_in b.fates) brought
  settled_spans old new None none same (inr drops) = ap (λ (b : BacklogView J V). spans_in b.fates) drops.backlog ∙ drops_no_span drops.fate drops.drops

  -- a settling ends no span
  pub spans_settled : {E : Type 0} (old new : FrameWork J V) (o : Result (Option (ReleaseView J)) E) → old.backlog.fates ≡ [] → new.teller ≡ old.teller
      → IfOk o (SettlesFrame old.backlog.frames new.backlog) → OnOk o (spans_ended new ≡ spans_ended old)
  spans_settled old new (Ok goes) none same settles =
      let teller = ap (λ (t : TellerState). t.told) same in
      let were : spans_in old.backlog.fates ≡ 0 = ap spans_in none in
      let are = settled_spans old new goes none same settles in
      omega (arith, teller, were, are)
  spans_settled old new (Err e) none same settles = tt
