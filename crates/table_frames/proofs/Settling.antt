-- What a look at the parked releases of a frame leads to.
use Rattle.std.proofs.Common.{◌≡◌, ℕ, ◌-◌, [], ◌∷◌, ◌++◌, length, reverse, List, Option, Some, None, sym, ap, subst, arith}
use Rattle.std.specs.Prelude.{All}
use Rattle.std.specs.declared.snapshot.Snapshot.{Snapshot}
use Rattle.semaphore_turns.specs.Semaphores.{taken_by}
use Rattle.semaphore_turns.specs.declared.parks.Parking.TheVariants.{Parked}
use Rattle.table_runs.specs.Attempts.{IsAgain, again_list}
use Rattle.table_frames.specs.inside.TriedReleases.{IsTakenIn}
use Rattle.table_runs.specs.declared.table_run.TakenUp.{TakenUp}
use Rattle.std.proofs.lemmas.List.{get_or-reverse, length-reverse}
use Rattle.atomic_table.specs.Seated.{TableId}
use Rattle.std.specs.List.{AllByRecursion}
use Rattle.std.proofs.lemmas.List.Elements.{All-append, All-cons, All-nil, All-from_recursion, recursion_from_All}
use Rattle.run_frame.specs.Meaning.{Meaning}
use Rattle.semaphore_turns.specs.Settlements.{AreDrops, Settles}
use Rattle.semaphore_turns.specs.declared.settlement.Settled.{Settled}
use Rattle.semaphore_turns.specs.declared.settlement.Settled.TheVariants.{Over}
use Rattle.join_tables.specs.States.{FreshState, SpentState, TableState, TurnState}
use Rattle.semaphore_turns.specs.WokenTurns.{ParksTurn, Wakes}
use Rattle.table_runs.specs.Runs.{AreOf}
use Rattle.table_frames.specs.Frames.{AtFrame, HasTable}
use Rattle.table_runs.specs.RunKeys.{FrameKey, table_in}

pub settled_over : {J V : Type 0} (meaning : Meaning J V) (frames frames' : List (FrameKey J)) (settled : Settled V) (spent : SpentState V) → frames' ≡ frames → settled ≡ Over spent → AtFrame frames (λ key. Settles (table_in meaning key) settled) → HasTable frames' spent.table × AreDrops spent.fate
settled_over {J} meaning frames frames' settled spent same is at = subst (λ (fs : List (FrameKey J)). HasTable fs spent.table × AreDrops spent.fate) (sym same) (by_frames frames (subst (λ s. AtFrame frames (λ key. Settles (table_in meaning key) s)) is at))
  where
    by_frames : (fs : List (FrameKey J)) → AtFrame fs (λ key. Settles (table_in meaning key) (Over spent)) → HasTable fs spent.table × AreDrops spent.fate
    by_frames [] a = absurd a
    by_frames (frame ∷ around) a = a

-- releases that were woken are of the table
pub woken_of : (table : TableState) (sems : List ℕ) (before after : List FreshState) → AreOf table.table before → Wakes table sems before after → AreOf table.table after
woken_of table sems before after of wakes =
    subst (AreOf table.table) (sym wakes.after_is) (All-from_recursion (λ (f : FreshState). f.table ≡ table.table) (before ++ wakes.woken) (both before (recursion_from_All (λ (f : FreshState). f.table ≡ table.table) before of)))
  where
    own : AllByRecursion (λ (f : FreshState). f.table ≡ table.table) wakes.woken
    own = recursion_from_All (λ (f : FreshState). f.table ≡ table.table) wakes.woken (λ k d below. (wakes.waited k d below).table_is)

    both : (fs : List FreshState) → AllByRecursion (λ (f : FreshState). f.table ≡ table.table) fs → AllByRecursion (λ (f : FreshState). f.table ≡ table.table) (fs ++ wakes.woken)
    both [] all = own
    both (f ∷ fs) all = (all.0, both fs all.1)

-- releases that were added, the first last
pub added_of : (n : TableId) (ready made all : List FreshState) → all ≡ ready ++ reverse made → AreOf n ready → AreOf n made → AreOf n all
added_of n ready made all is of_ready of_made =
    subst (AreOf n) (sym is) (All-append (λ (f : FreshState). f.table ≡ n) ready (reverse made) of_ready (λ k d below. subst (λ (f : FreshState). f.table ≡ n) (sym (get_or-reverse made k d (omega (arith, below, length-reverse made)))) (of_made (length made - 1 - k) d (omega (arith, below, length-reverse made)))))

-- what is handed out where a release was parked is of the frame
pub parked_made : {J V : Type 0} (meaning : Meaning J V) (frames : List (FrameKey J)) (taken : TakenUp V) (turn : Snapshot TurnState) (none woken made : List FreshState) → AtFrame frames (λ key. IsTakenIn key taken) → none ≡ [] → AtFrame frames (λ key. ParksTurn {V = V} (table_in meaning key) taken.turn (Parked turn) none woken)
    → made ≡ woken ++ again_list taken.again → All (λ (f : FreshState). HasTable frames f.table) made
parked_made meaning [] taken turn none woken made is empty parks made_is = absurd is
parked_made meaning (frame ∷ around) taken turn none woken made is empty parks made_is =
    subst (AreOf frame.table) (sym made_is) (All-append (λ (f : FreshState). f.table ≡ frame.table) woken (again_list taken.again) of_woken (of_again taken.again is.again))
  where
    of_woken : AreOf frame.table woken
    of_woken = woken_of (table_in meaning frame) (taken_by (meaning.net frame.job) taken.turn.task) none woken (subst (AreOf frame.table) (sym empty) (All-nil (λ (f : FreshState). f.table ≡ frame.table))) parks.1

    of_again : (again : Option FreshState) → IsAgain frame.table taken.turn.task taken.turn.cause again → AreOf frame.table (again_list again)
    of_again None a = All-nil (λ (f : FreshState). f.table ≡ frame.table)
    of_again (Some f) a = All-cons (λ (r : FreshState). r.table ≡ frame.table) f [] (ap (λ (r : FreshState). r.table) a.1) (All-nil (λ (r : FreshState). r.table ≡ frame.table))
