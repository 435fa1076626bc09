-- What serving a desk comes to, by what a pass has seen before and after.
use Rattle.std.proofs.Common.{◌≡◌, ◌≢◌, ℕ, Bool, true, false, List, [], ◌∷◌, ◌++◌, Some, length, ◌⊎◌, inl, inr, refl, sym, ap, ◌∙◌, subst, arith}
use Rattle.std.specs.Prelude.{◌≤◌, slice_get}
use Rattle.std.proofs.lemmas.List.{length-append, length_push}
use Rattle.std.specs.declared.alloc.Global.{Global}
use Rattle.std.specs.declared.vec.Vec.{Vec}
use Rattle.std.specs.declared.snapshot.Snapshot.{Snapshot}
use Rattle.atomic_table.specs.Seated.{TableId}
use Rattle.tickets.specs.Books.{ticket_state}
use Rattle.topology_runs.specs.Told.{AreToldRounds}
use Rattle.desk_book.specs.declared.entry.Ask.{Ask}
use Rattle.desk_book.specs.declared.entry.DeskEntry.{DeskEntry}
use Rattle.desk_book.specs.declared.entry.DeskEntry.TheVariants.{Asked, Took, Ended}
use Rattle.desk_book.specs.declared.turn.Turn.TheVariants.{Waiting, Open, Over}
use Rattle.desk_book.specs.declared.outstanding.Outstanding.TheVariants.{Pass}
use Rattle.desk_book.specs.Asks.{new_ask}
use Rattle.desk_book.specs.Histories.{turn_of, IsFirstToTake, IsOldestWaiting, NoneWaits, EachIsPassedOver}
use Rattle.desk_book.specs.Passes.{PassState, pass_state}
use Rattle.run_desk.specs.declared.service.Served.TheVariants.{Ran, Cut, Busy, Empty}
use Rattle.run_desk.specs.Serving.{HasServed, IsServed, HasRunRounds, RunsRounds, WasCut}
use Rattle.run_frame.specs.Meaning.{Meaning}
use Rattle.run_frame.specs.declared.run.FrameRun.{FrameRun}
use Rattle.nested_runs.specs.Rounds.{AreAllRounds, LastWasCut, times}
use Rattle.library_claims.proofs.WorkedDeskRuns.{none, history, no_rounds}
use Rattle.library_claims.proofs.WorkedDesks.{some_same, asked, one_open, two_open, turns, first_is_first, second_is_not_first, third_waits, third_is_passed_over, none_is_passed_over, none_waits, one_waits}

-- a run was cut, or not
cut : WasCut (Cut 0) × ¬ WasCut (Ran 0) × ¬ WasCut (Busy 0) × ¬ WasCut Empty
cut = (tt, (λ is. is), (λ is. is), (λ is. is))

-- the first ask was taken after all had asked, and has ended since
abbrev served_first : Bool → List DeskEntry
served_first whole = one_open ++ Ended 0 whole ∷ []

-- the second was taken before it
abbrev served_second : List DeskEntry
served_second = asked ++ Took 1 ∷ Ended 1 true ∷ []

-- What a pass has seen: three asks, of which none was taken; that the first has ended, whole or cut; that it is open;
-- that the second has ended alone; that two are open; and that all have ended.
module _ (r : TableId) (three whole short one second two all : Snapshot (Vec DeskEntry Global)) (has_three : three.value.items ≡ asked) (has_whole : whole.value.items ≡ served_first true)
    (has_short : short.value.items ≡ served_first false) (has_one : one.value.items ≡ one_open) (has_second : second.value.items ≡ served_second)
    (has_two : two.value.items ≡ two_open) (has_all : all.value.items ≡ turns) where
  abbrev pass_with : Snapshot (Vec DeskEntry Global) → PassState
  pass_with entries = pass_state 0 (Some (ticket_state r 3 (Pass 0 entries)))

  served_whole : HasServed (pass_with three) (pass_with whole) 0 true
  served_whole = record {
    before = asked;
    longer = ([], ap (λ entries. entries ++ []) (sym has_three));
    first = first_is_first;
    taken = (Ended 0 true ∷ [], has_whole);
    ended = ap (λ entries. turn_of entries 0) has_whole;
  }

  served_cut : HasServed (pass_with three) (pass_with short) 0 false
  served_cut = record {
    before = asked;
    longer = ([], ap (λ entries. entries ++ []) (sym has_three));
    first = first_is_first;
    taken = (Ended 0 false ∷ [], has_short);
    ended = ap (λ entries. turn_of entries 0) has_short;
  }

  -- not with all rounds and cut, not another ask, and not one that has not ended
  served_otherwise : ¬ HasServed (pass_with three) (pass_with whole) 0 false × ¬ HasServed (pass_with three) (pass_with short) 0 true × ¬ HasServed (pass_with three) (pass_with whole) 1 true × ¬ HasServed (pass_with three) (pass_with one) 0 true
  served_otherwise = (
    (λ has. let e : Over true ≡ Over false = ap (λ entries. turn_of entries 0) (sym has_whole) ∙ has.ended in cc),
    (λ has. let e : Over false ≡ Over true = ap (λ entries. turn_of entries 0) (sym has_short) ∙ has.ended in cc),
    (λ has. let e : Waiting ≡ Over true = ap (λ entries. turn_of entries 1) (sym has_whole) ∙ has.ended in cc),
    (λ has. let e : Open ≡ Over true = ap (λ entries. turn_of entries 0) (sym has_one) ∙ has.ended in cc),
  )

  -- not one that had been taken before the pass looked first
  served_before : ¬ HasServed (pass_with whole) (pass_with whole) 0 true
  served_before has =
      let seen_before = ap length has.longer.1 ∙ length-append whole.value.items has.longer.0 in
      let seen_after = ap length has.taken.1 ∙ length-append (has.before ++ Took 0 ∷ []) has.taken.0 in
      absurd (omega (arith, seen_before, seen_after, length_push has.before (Took 0)))

  -- and not the second while the first waits
  served_out_of_turn : ¬ HasServed (pass_with three) (pass_with second) 1 true
  served_out_of_turn has =
      by_more has.longer.0 (has.longer.1 ∙ ap (λ entries. entries ++ has.longer.0) has_three) (sym has_second ∙ has.taken.1)
    where
      by_more : (more : List DeskEntry) → has.before ≡ asked ++ more → served_second ≡ (has.before ++ Took 1 ∷ []) ++ has.taken.0 → ⊥
      by_more [] is same = second_is_not_first (subst (λ entries. IsFirstToTake entries 1) is has.first)
      by_more (entry ∷ []) is same =
          let e : served_second ≡ asked ++ entry ∷ Took 1 ∷ has.taken.0 = same ∙ ap (λ entries. (entries ++ Took 1 ∷ []) ++ has.taken.0) is in cc
      by_more (entry ∷ other ∷ more) is same =
          let e = ap length same ∙ length-append (has.before ++ Took 1 ∷ []) has.taken.0 in
          absurd (omega (arith, e, length_push has.before (Took 1), ap length is))

  -- what serving comes to
  serves : IsServed (pass_with three) (pass_with whole) (Ran 0) × IsServed (pass_with three) (pass_with short) (Cut 0) × ¬ IsServed (pass_with three) (pass_with whole) (Cut 0) × ¬ IsServed (pass_with three) (pass_with short) (Ran 0)
  serves = (served_whole, served_cut, served_otherwise.0, served_otherwise.1)

  busy : IsServed (pass_with three) (pass_with two) (Busy 2) × ¬ IsServed (pass_with three) (pass_with three) (Busy 0)
  busy = (
    subst (λ entries. IsOldestWaiting entries 2 × EachIsPassedOver entries) (sym has_two) (third_waits, third_is_passed_over),
    (λ is. none_is_passed_over (subst EachIsPassedOver has_three is.1)),
  )

  empty : IsServed (pass_with three) (pass_with all) Empty × ¬ IsServed (pass_with three) (pass_with two) Empty
  empty = (subst NoneWaits (sym has_all) none_waits, (λ is. one_waits (subst NoneWaits has_two is)))

-- What the workers ran, where a caller asked for no round of the one graph that a desk has.
module _ {J V X : Type 0} (meaning : Meaning J V) (told : X → ℕ) (job : J) (run : FrameRun J V) (watcher other : X) (differ : watcher ≢ other) where
  ran_one : HasRunRounds meaning told (job ∷ []) history (watcher ∷ []) (watcher ∷ []) 0
  ran_one = record {
    ask = none;
    asked = refl;
    job = job;
    of_graph = refl;
    runs = [];
    rounds = no_rounds meaning job run;
    watched = λ there. refl;
  }

  -- not another ask, not of a graph that isn't there
  ran_none : ¬ HasRunRounds {V = V} meaning told (job ∷ []) history (watcher ∷ []) (watcher ∷ []) 1 × ¬ HasRunRounds {V = V} meaning told [] history (watcher ∷ []) (watcher ∷ []) 0
  ran_none = ((λ has. let e = has.asked in absurd (cc)), (λ has. let e = has.of_graph in absurd (cc)))

  -- and watchers that were told of nothing stay as they are
  ran_otherwise : ¬ HasRunRounds {V = V} meaning told (job ∷ []) history (watcher ∷ []) (other ∷ []) 0
  ran_otherwise has = by_runs has.runs (few has.ask (some_same has.asked) has.rounds.first.few) (has.watched (λ is. absurd (cc)))
    where
      few : (ask : Ask) → none ≡ ask → length has.runs ≤ ask.times → length has.runs ≡ 0
      few ask same less = let e = subst (λ (a : Ask). length has.runs ≤ a.times) (sym same) less in omega (arith, e)

      by_runs : (runs : List (FrameRun J V)) → length runs ≡ 0 → AreToldRounds told runs (watcher ∷ []) (other ∷ []) → ⊥
      by_runs [] count is = differ (sym (some_same (ap (λ xs. slice_get xs 0) is)))
      by_runs (run ∷ more) count is = absurd (omega (arith, count))

  ran_nothing : RunsRounds {V = V} meaning told (job ∷ []) history (watcher ∷ []) (watcher ∷ []) Empty × RunsRounds {V = V} meaning told (job ∷ []) history (watcher ∷ []) (watcher ∷ []) (Busy 0)
  ran_nothing = (refl, refl)

  ran_something : ¬ RunsRounds {V = V} meaning told (job ∷ []) history (watcher ∷ []) (other ∷ []) Empty × ¬ RunsRounds {V = V} meaning told (job ∷ []) history (watcher ∷ []) (other ∷ []) (Busy 0) × ¬ RunsRounds {V = V} meaning told (job ∷ []) history (watcher ∷ []) (other ∷ []) (Ran 0)
  ran_something = (changes, changes, ran_otherwise)
    where
      changes : ¬ (other ∷ [] ≡ watcher ∷ [])
      changes is = differ (sym (some_same (ap (λ xs. slice_get xs 0) is)))

-- What the workers ran, where a caller asked for one round of the second of two graphs.
abbrev one_round : Ask
one_round = new_ask 0 0 1 1

abbrev of_the_second : List DeskEntry
of_the_second = Asked one_round ∷ Took 0 ∷ Ended 0 true ∷ []

module _ {J V X : Type 0} (meaning : Meaning J V) (told : X → ℕ) (another job : J) (old new : List X) (has : HasRunRounds {V = V} meaning told (another ∷ job ∷ []) of_the_second old new 0) where
  its_ask : has.ask ≡ one_round
  its_ask = sym (some_same has.asked)

  -- it is a round of that graph's job
  ran_its_job : has.job ≡ job
  ran_its_job = sym (some_same (ap (λ (ask : Ask). slice_get (another ∷ job ∷ []) ask.graph) (sym its_ask) ∙ has.of_graph))

  -- and there is one
  ran_one_at_least : has.runs ≢ []
  ran_one_at_least none = by_end (subst (λ runs. AreAllRounds meaning has.job (times has.ask.times) runs) none has.rounds).over
    where
      by_end : (length {A = FrameRun J V} [] ≡ has.ask.times) ⊎ (false ≡ true) ⊎ LastWasCut {J = J} {V = V} [] → ⊥
      by_end (inl count) = let one = ap (λ (ask : Ask). ask.times) its_ask in absurd (omega (arith, count, one))
      by_end (inr (inl is)) = absurd (cc)
      by_end (inr (inr cut)) = cut
