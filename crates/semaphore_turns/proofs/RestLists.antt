-- Turns of a rest with their semaphores, and releases that are woken.
use Rattle.std.proofs.Common.{◌≡◌, ◌≢◌, ℕ, zero, suc, ◌+◌, ◌-◌, ◌<◌, ◌≤◌, Bool, true, false, ◌||◌, List, [], ◌∷◌, ◌++◌, length, take, append_assoc, refl, sym, ap, ◌∙◌, subst, arith, get_or}
use Rattle.std.specs.Prelude.{slice_get, IsTrue, IsSomeAnd}
use Rattle.std.specs.List.{AllByRecursion, list_any}
use Rattle.std.proofs.lemmas.Bool.{false≢true}
use Rattle.std.proofs.lemmas.List.{take_more, length-append}
use Rattle.std.proofs.lemmas.List.Elements.{All-push}
use Rattle.task_graph.specs.NetRows.{NetRows}
use Rattle.journal_rules.specs.declared.entry.DropWhy.{DropWhy}
use Rattle.journal_rules.specs.SemaphoreRule.{takes}
use Rattle.table_steps.specs.Giving.{times}
use Rattle.join_tables.specs.States.{FreshState, TableState, TurnState}
use Rattle.join_tables.specs.RestStates.{RestState, parked_as}
use Rattle.join_tables.specs.Rests.{DropsOf, HandsOut, IsOfTable, LastTakes}
use Rattle.join_tables.specs.declared.rests.Parked.{Parked}
use Rattle.join_tables.specs.declared.rests.RestDrop.TheVariants.{More}
use Rattle.semaphore_turns.specs.WaitingTurns.{WaitsAt, release_of}
use Rattle.semaphore_turns.specs.WokenTurns.{WaitedFor, WakesAtMost}
use Rattle.semaphore_turns.specs.inside.RestTurns.{AreFull, MayDropAll, RestsOn, TakeThese}
use Rattle.semaphore_turns.proofs.UnitCounts.{one_more}

all_push : {X : Type 0} (P : X → Type 0) (xs : List X) (x : X) → AllByRecursion P xs → P x → AllByRecursion P (xs ++ x ∷ [])
all_push P [] x all one = (one, tt)
all_push P (y ∷ ys) x all one = (all.0, all_push P ys x all.1 one)

all_pop : {X : Type 0} (P : X → Type 0) (xs : List X) (x : X) → AllByRecursion P (xs ++ x ∷ []) → AllByRecursion P xs × P x
all_pop P [] x all = (tt, all.0)
all_pop P (y ∷ ys) x all = let rest = all_pop P ys x all.1 in ((all.0, rest.0), rest.1)

pub all_at : {X : Type 0} (P : X → Type 0) (xs : List X) (i : ℕ) (d : X) → i < length xs → AllByRecursion P xs → P (get_or xs i d)
all_at P [] i d below all = absurd (omega (arith, below))
all_at P (x ∷ xs) zero d below all = all.0
all_at P (x ∷ xs) (suc i) d below all = all_at P xs i d (omega (arith, below)) all.1

module _ (net : NetRows) where
  pub these_length : (turns : List Parked) (sems : List ℕ) → TakeThese net turns sems → length sems ≡ length turns
  these_length [] [] these = refl
  these_length [] (s ∷ sems) these = absurd these
  these_length (p ∷ turns) [] these = absurd these
  these_length (p ∷ turns) (s ∷ sems) these = ap suc (these_length turns sems these.1)

  these_push : (turns : List Parked) (sems : List ℕ) (p : Parked) (s : ℕ) → TakeThese net turns sems → IsTrue (takes net s p.task) → TakeThese net (turns ++ p ∷ []) (sems ++ s ∷ [])
  these_push [] [] p s these it = (it, tt)
  these_push [] (z ∷ sems) p s these it = absurd these
  these_push (q ∷ turns) [] p s these it = absurd these
  these_push (q ∷ turns) (z ∷ sems) p s these it = (these.0, these_push turns sems p s these.1 it)

  none_these : (p : Parked) (turns : List Parked) → TakeThese net (turns ++ p ∷ []) [] → ⊥
  none_these p [] these = these
  none_these p (q ∷ turns) these = these

  these_none : (s : ℕ) (sems : List ℕ) → TakeThese net [] (sems ++ s ∷ []) → ⊥
  these_none s [] these = these
  these_none s (z ∷ sems) these = these

  these_pop : (turns : List Parked) (sems : List ℕ) (p : Parked) (s : ℕ) → TakeThese net (turns ++ p ∷ []) (sems ++ s ∷ []) → TakeThese net turns sems × IsTrue (takes net s p.task)
  these_pop [] [] p s these = (tt, these.0)
  these_pop [] (z ∷ sems) p s these = absurd (these_none s sems these.1)
  these_pop (q ∷ turns) [] p s these = absurd (none_these p turns these.1)
  these_pop (q ∷ turns) (z ∷ sems) p s these = let rest = these_pop turns sems p s these.1 in ((these.0, rest.0), rest.1)

  last_takes : (turns : List Parked) (sems : List ℕ) (s : ℕ) → TakeThese net turns (sems ++ s ∷ []) → LastTakes net s turns
  last_takes [] sems s these = absurd (these_none s sems these)
  last_takes (p ∷ []) [] s these = these.0
  last_takes (p ∷ []) (z ∷ sems) s these = absurd (these_none s sems these.1)
  last_takes (p ∷ q ∷ turns) [] s these = absurd these.1
  last_takes (p ∷ q ∷ turns) (z ∷ sems) s these =
      let later : suc (length (q ∷ turns) - 1) ≡ length (p ∷ q ∷ turns) - 1 = omega arith in
      subst (λ k. IsSomeAnd (slice_get {X = Parked} (p ∷ q ∷ turns) k) (λ (r : Parked). IsTrue (takes net s r.task))) later (last_takes (q ∷ turns) sems s these.1)

-- a turn more, or one fewer
pub rests_more : (table : TableState) (rest more : RestState) (sems sems' : List ℕ) (turn : TurnState) (s : ℕ) → RestsOn table rest sems → IsOfTable table.table more.table → more.turns ≡ rest.turns ++ parked_as turn.task turn.cause ∷ [] → sems' ≡ sems ++ s ∷ [] → s < length table.net.sems
    → IsTrue (takes table.net s turn.task) → RestsOn table more sems'
rests_more table rest more sems sems' turn s on of turns_are sems_are below it = record {
  table_is = of;
  take_these = subst (λ ts. TakeThese table.net ts sems') (sym turns_are) (subst (TakeThese table.net (rest.turns ++ parked_as turn.task turn.cause ∷ [])) (sym sems_are) (these_push table.net rest.turns sems (parked_as turn.task turn.cause) s on.take_these it));
  in_range = subst (AllByRecursion (λ z. z < length table.net.sems)) (sym sems_are) (all_push (λ z. z < length table.net.sems) sems s on.in_range below);
}

pub record IsPopped (table : TableState) (left : RestState) (sems : List ℕ) (turn : TurnState) (s : ℕ) : Type 0 where
  pub rests : RestsOn table left sems
  pub in_range : s < length table.net.sems
  pub waits : WaitsAt turn table s

pub popped : (table : TableState) (rest left : RestState) (turn : TurnState) (sems sems' : List ℕ) (s : ℕ) → RestsOn table rest sems → HandsOut table.table rest left turn → sems ≡ sems' ++ s ∷ [] → IsPopped table left sems' turn s
popped table rest left turn sems sems' s on out sems_are =
    let these = these_pop table.net left.turns sems' (parked_as turn.task turn.cause) s (subst (TakeThese table.net (left.turns ++ parked_as turn.task turn.cause ∷ [])) sems_are (subst (λ ts. TakeThese table.net ts sems) out.turns on.take_these)) in
    let range = all_pop (λ z. z < length table.net.sems) sems' s (subst (AllByRecursion (λ z. z < length table.net.sems)) sems_are on.in_range) in
    record {
      rests = record { table_is = out.table; take_these = these.0; in_range = range.0 };
      in_range = range.1;
      waits = record {
        table_is = ap (λ (t : TurnState). t.table) out.is;
        refused = ap (λ (t : TurnState). t.refused) out.is;
        held = ap (λ (t : TurnState). t.held) out.is;
        takes = these.1;
      };
    }

-- no semaphore is left where no turn is
pub none_left : (table : TableState) (rest : RestState) (sems : List ℕ) → RestsOn table rest sems → rest.turns ≢ [] → length sems ≡ 0 → ⊥
none_left table rest sems on some none = by_turns rest.turns refl
  where
    by_turns : (turns : List Parked) → rest.turns ≡ turns → ⊥
    by_turns [] is = some is
    by_turns (p ∷ turns) is = omega (arith, these_length table.net rest.turns sems on.take_these, none, ap length is)

-- the last turn may be dropped for want of a unit of its semaphore
pub record MayDropLast (net : NetRows) (rest : RestState) (s : ℕ) : Type 0 where
  pub full : 1 ≤ times s rest.full
  pub takes_it : LastTakes net s rest.turns

pub may_drop : (table : TableState) (rest : RestState) (sems sems' : List ℕ) (s : ℕ) → RestsOn table rest sems → sems ≡ sems' ++ s ∷ [] → AreFull sems rest.full → MayDropLast table.net rest s
may_drop table rest sems sems' s on sems_are full = record {
  full = (all_pop (λ z. 1 ≤ times z rest.full) sems' s (subst (λ l. AreFull l rest.full) sems_are full)).1;
  takes_it = last_takes table.net rest.turns sems' s (subst (TakeThese table.net rest.turns) sems_are on.take_these);
}

pub record IsDropped (table : TableState) (left : RestState) (sems : List ℕ) (faulted : Bool) : Type 0 where
  pub rests : RestsOn table left sems
  pub may : MayDropAll left sems faulted

pub dropped_last : (V : Type 0) (table : TableState) (rest left : RestState) (why : DropWhy) (sems sems' : List ℕ) (s : ℕ) (faulted : Bool) → RestsOn table rest sems → MayDropAll rest sems faulted → DropsOf {V = V} table.table rest why (More left) → sems ≡ sems' ++ s ∷ []
    → IsDropped table left sems' faulted
dropped_last V table rest left why sems sems' s faulted on may drops sems_are =
    let last = drops.1.last in
    let these = these_pop table.net left.turns sems' last s (subst (TakeThese table.net (left.turns ++ last ∷ [])) sems_are (subst (λ ts. TakeThese table.net ts sems) drops.1.turns_are on.take_these)) in
    record {
      rests = record {
        table_is = subst (IsOfTable table.table) (sym (ap (λ (r : RestState). r.table) drops.0)) refl;
        take_these = these.0;
        in_range = (all_pop (λ z. z < length table.net.sems) sems' s (subst (AllByRecursion (λ z. z < length table.net.sems)) sems_are on.in_range)).0;
      };
      may = (
        ap (λ (r : RestState). r.alone) drops.0 ∙ may.0,
        λ no. (all_pop (λ z. 1 ≤ times z left.full) sems' s (subst (λ l. AreFull l left.full) sems_are (subst (AreFull sems) (sym (ap (λ (r : RestState). r.full) drops.0)) (may.1 no)))).0,
        drops.2,
      );
    }

-- one semaphore more is found without a unit
still_full : (sems full : List ℕ) (s : ℕ) → AreFull sems full → AreFull sems (s ∷ full)
still_full [] full s all = tt
still_full (z ∷ sems) full s all = (omega (arith, all.0), still_full sems full s all.1)

pub full_more : (sems full : List ℕ) (i s : ℕ) → i < length sems → s ≡ get_or sems i 0 → AreFull (take i sems) full → AreFull (take (i + 1) sems) (s ∷ full)
full_more sems full i s below is all =
    subst (λ l. AreFull l (s ∷ full)) (sym (take_more sems i 0 below ∙ ap (λ (z : ℕ). take i sems ++ z ∷ []) (sym is))) (all_push (λ z. 1 ≤ times z (s ∷ full)) (take i sems) s (still_full (take i sems) full s all) here)
  where
    here : 1 ≤ times s (s ∷ full)
    here = omega (arith, one_more s)

-- a release that was woken is one more
pub woke_none : (table : TableState) (sems : List ℕ) (i : ℕ) (before after after' : List FreshState) → WakesAtMost table sems i before after → after' ≡ after → WakesAtMost table sems (i + 1) before after'
woke_none table sems i before after after' wakes same = record { woken = wakes.woken; after_is = same ∙ wakes.after_is; waited = wakes.waited; few = omega (arith, wakes.few) }

pub woke_one : (table : TableState) (sems : List ℕ) (i : ℕ) (before after after' : List FreshState) (release : FreshState) (turn : TurnState) → i < length sems → WakesAtMost table sems i before after → after' ≡ after ++ release ∷ [] → release ≡ release_of turn → WaitsAt turn table (get_or sems i 0)
    → WakesAtMost table sems (i + 1) before after'
woke_one table sems i before after after' release turn below wakes more is waits = record {
  woken = wakes.woken ++ release ∷ [];
  after_is = more ∙ ap (λ l. l ++ release ∷ []) wakes.after_is ∙ append_assoc before wakes.woken (release ∷ []);
  waited = All-push (WaitedFor table sems) wakes.woken release wakes.waited waited;
  few = omega (arith, wakes.few, length-append wakes.woken (release ∷ []));
}
  where
    any_at : (test : ℕ → Bool) (xs : List ℕ) (n : ℕ) → n < length xs → IsTrue (test (get_or xs n 0)) → IsTrue (list_any test xs)
    any_at test [] n within it = absurd (omega (arith, within))
    any_at test (x ∷ xs) zero within it = first (test x) (list_any test xs) it
      where
        first : (a b : Bool) → a ≡ true → IsTrue (a || b)
        first true b _ = refl
        first false b is = absurd (false≢true is)
    any_at test (x ∷ xs) (suc n) within it = second (test x) (list_any test xs) (any_at test xs n (omega (arith, within)) it)
      where
        second : (a b : Bool) → b ≡ true → IsTrue (a || b)
        second true b _ = refl
        second false b is = is

    waited : WaitedFor table sems release
    waited = record {
      table_is = ap (λ (f : FreshState). f.table) is ∙ waits.table_is;
      takes = any_at (λ sem. takes table.net sem release.task) sems i below (subst (λ t. IsTrue (takes table.net (get_or sems i 0) t)) (sym (ap (λ (f : FreshState). f.task) is)) waits.takes);
    }
