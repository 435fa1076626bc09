-- What turns do with units of semaphores, on the net of `WorkedTurns`: task 0 takes and puts semaphores 0 and 2, task 1
-- needs none, task 2 only takes semaphore 0, and task 3 only puts it. Semaphore 0 has two units, each other one.
use Rattle.std.proofs.Common.{◌≡◌, ◌≢◌, ℕ, true, false, List, [], ◌∷◌, length, Option, Some, None, refl, ap, sym, subst, arith}
use Rattle.std.specs.Prelude.{All}
use Rattle.std.specs.Global.{Global}
use Rattle.std.specs.declared.snapshot.Snapshot.{Snapshot}
use Rattle.std.specs.declared.vec.Vec.{Vec}
use Rattle.std.proofs.lemmas.List.Elements.{All-from_recursion, All-head}
use Rattle.task_graph.specs.NetRows.{NetRows}
use Rattle.atomic_table.specs.Seated.{TableId}
use Rattle.journal_rules.specs.declared.entry.Cause.TheVariants.{Source, Strong}
use Rattle.journal_rules.specs.declared.entry.DropWhy.TheVariants.{Limit, Halted}
use Rattle.journal_rules.specs.declared.entry.Entry.TheVariants.{Start}
use Rattle.join_words.specs.declared.ins.Ins.{Ins}
use Rattle.table_steps.specs.Credits.{AllowsOver}
use Rattle.join_tables.specs.Claims.{grant_one, refuse_one}
use Rattle.join_tables.specs.States.{TableState, FreshState, TurnState, StartUnits, RunningState, fresh_state, turn_with, running_state, spent_state}
use Rattle.join_tables.specs.declared.fates.Dropping.{Dropping}
use Rattle.join_tables.specs.declared.fates.Fate.TheVariants.{Dropped, AllDropped}
use Rattle.semaphore_turns.specs.Semaphores.{taken_by, put_by}
use Rattle.semaphore_turns.specs.HeldUnits.{HoldsFirst, HoldsAll, IsSameTurn, FoundNone, LacksUnit, TakesUnits}
use Rattle.semaphore_turns.specs.UnitClaims.{HasToClaim, ClaimsUnits}
use Rattle.semaphore_turns.specs.WaitingTurns.{WaitsAt, yard_of, release_of}
use Rattle.semaphore_turns.specs.WokenTurns.{WaitedFor, WakesAtMost, Wakes, ParkedFor, ParksTurn}
use Rattle.semaphore_turns.specs.Settlements.{AreDrops, Settles}
use Rattle.semaphore_turns.specs.ReadyTurns.{ready_as, IsUnheld}
use Rattle.semaphore_turns.specs.declared.takes.TakenUnits.TheVariants as taken
use Rattle.semaphore_turns.specs.declared.claims.ClaimedUnits.TheVariants as claimed
use Rattle.semaphore_turns.specs.declared.parks.Parking.TheVariants as parking
use Rattle.semaphore_turns.specs.declared.settlement.Settled.TheVariants as settled
use Rattle.semaphore_turns.specs.declared.ready_kind.ReadyKind.TheVariants as ready
use Rattle.claims.proofs.WorkedTurns.{net, one_of_each, puts_alone, putter, lender, credits_first, claims_first, has_claimed, no_over_release_of_a_taker, needs}

taken_by_each : (taken_by net 0 ≡ 0 ∷ 2 ∷ []) × (taken_by net 1 ≡ []) × (taken_by net 2 ≡ 0 ∷ []) × (taken_by net 3 ≡ []) × (taken_by net 4 ≡ [])
taken_by_each = (refl, refl, refl, refl, refl)

put_by_each : (put_by net 0 ≡ 0 ∷ 2 ∷ []) × (put_by net 1 ≡ []) × (put_by net 2 ≡ []) × (put_by net 3 ≡ 0 ∷ []) × (put_by net 4 ≡ [])
put_by_each = (refl, refl, refl, refl, refl)

-- Turns of task 0 in one table; and another table.
module _ (n m : TableId) (other : m ≢ n) where
  abbrev table : TableState
  table = record { table = n; net = net; limit = 9 }

  abbrev turn : List ℕ → List ℕ → TurnState
  turn held found = turn_with n 0 Strong None held found

  abbrev waiting : FreshState
  waiting = fresh_state n 0 Strong

  -- ---- Units that are taken before a start.
  holds_those_before : HoldsFirst net 0 (turn [] []) × HoldsFirst net 1 (turn (0 ∷ []) []) × HoldsFirst net 2 (turn (2 ∷ 0 ∷ []) [])
  holds_those_before = (refl, refl, refl)

  holds_too_few : ¬ HoldsFirst net 1 (turn [] [])
  holds_too_few holds = absurd (omega (arith, ap length holds))

  holds_in_another_order : ¬ HoldsFirst net 2 (turn (0 ∷ 2 ∷ []) [])
  holds_in_another_order holds = absurd (omega (arith, ap first_unit holds))
    where
      first_unit : List ℕ → ℕ
      first_unit [] = 9
      first_unit (sem ∷ more) = sem

  holds_all : HoldsAll net (turn (2 ∷ 0 ∷ []) (0 ∷ []))
  holds_all = record { held = refl; each = one_of_each }

  holds_not_all : ¬ HoldsAll net (turn (0 ∷ []) (0 ∷ []))
  holds_not_all holds = absurd (omega (arith, ap length holds.held))

  -- a task that takes a semaphore twice, which none of a net does
  abbrev twice : NetRows
  twice = record { tasks = needs (0 ∷ 0 ∷ []) [] ∷ []; edges = []; sems = 2 ∷ [] }

  holds_one_twice : ¬ HoldsAll twice (turn (0 ∷ 0 ∷ []) (0 ∷ []))
  holds_one_twice holds = absurd (omega (arith, holds.each 0))

  same_turn : IsSameTurn (turn [] []) (turn (0 ∷ []) (5 ∷ []))
  same_turn = record { table = refl; task = refl; cause = refl; refused = refl }

  turn_of_another_table : ¬ IsSameTurn (turn [] []) (turn_with m 0 Strong None [] [])
  turn_of_another_table is = other is.table

  turn_of_another_task : ¬ IsSameTurn (turn [] []) (turn_with n 1 Strong None [] [])
  turn_of_another_task is = absurd (omega (arith, is.task))

  turn_of_another_cause : ¬ IsSameTurn (turn [] []) (turn_with n 0 Source None [] [])
  turn_of_another_cause is = let no : Source ≡ Strong = is.cause in absurd (cc)

  turn_that_was_refused : ¬ IsSameTurn (turn [] []) (turn_with n 0 Strong (Some Limit) [] [])
  turn_that_was_refused is = let no : Some Limit ≡ None = is.refused in absurd (cc)

  -- what was found last counts, and the maximum of the semaphore
  found_none : FoundNone net 0 (turn [] (2 ∷ 0 ∷ [])) × FoundNone net 2 (turn [] (1 ∷ []))
  found_none = (omega arith, omega arith)

  found_one : ¬ FoundNone net 0 (turn [] (1 ∷ 2 ∷ []))
  found_one is = absurd (omega (arith, is))

  found_nothing : ¬ FoundNone net 0 (turn [] [])
  found_nothing is = is

  lacks_the_second : LacksUnit net 1 (turn (0 ∷ []) (1 ∷ []))
  lacks_the_second = record { holds = refl; none = omega arith }

  lacks_the_first_too : ¬ LacksUnit net 1 (turn [] (1 ∷ []))
  lacks_the_first_too lacks = holds_too_few lacks.holds

  lacks_one_that_was_left : ¬ LacksUnit net 1 (turn (0 ∷ []) (0 ∷ []))
  lacks_one_that_was_left lacks = absurd (omega (arith, lacks.none))

  lacks_one_past_all : ¬ LacksUnit net 2 (turn (2 ∷ 0 ∷ []) (1 ∷ []))
  lacks_one_past_all lacks = lacks.none

  takes_all : TakesUnits {V = ℕ} net (turn [] []) (taken.All (turn (2 ∷ 0 ∷ []) (0 ∷ [])))
  takes_all = (record { table = refl; task = refl; cause = refl; refused = refl }, holds_all)

  takes_not_all : ¬ TakesUnits {V = ℕ} net (turn [] []) (taken.All (turn (0 ∷ []) (0 ∷ [])))
  takes_not_all takes = holds_not_all takes.1

  takes_all_of_another : ¬ TakesUnits {V = ℕ} net (turn_with n 1 Strong None [] []) (taken.All (turn (2 ∷ 0 ∷ []) (0 ∷ [])))
  takes_all_of_another takes = absurd (omega (arith, takes.0.task))

  takes_until_one_lacks : TakesUnits {V = ℕ} net (turn [] []) (taken.Lacks (turn (0 ∷ []) (1 ∷ [])) 1)
  takes_until_one_lacks = (record { table = refl; task = refl; cause = refl; refused = refl }, lacks_the_second)

  takes_past_one_that_lacks : ¬ TakesUnits {V = ℕ} net (turn [] []) (taken.Lacks (turn [] (1 ∷ [])) 1)
  takes_past_one_that_lacks takes = lacks_the_first_too takes.1

  lacks_in_another_turn : ¬ TakesUnits {V = ℕ} net (turn_with n 1 Strong None [] []) (taken.Lacks (turn (0 ∷ []) (1 ∷ [])) 1)
  lacks_in_another_turn takes = absurd (omega (arith, takes.0.task))

  -- ---- Units that are claimed by a start.
  has_one_to_claim : HasToClaim net 3 putter
  has_one_to_claim = record { credited = record { none_left = refl; all = λ s. refl }; back = λ s. refl; to_claim = puts_alone; refused = refl }

  has_first_to_credit : ¬ HasToClaim net 2 lender
  has_first_to_credit has = credits_first has.credited

  has_claimed_already : ¬ HasToClaim net 3 (grant_one 0 putter)
  has_claimed_already has = absurd (omega (arith, has.to_claim 0))

  has_one_back : ¬ HasToClaim net 3 (record putter { back = 0 ∷ [] })
  has_one_back has = absurd (omega (arith, has.back 0))

  was_refused_one : ¬ HasToClaim net 3 (record putter { refused = Some 0 })
  was_refused_one has = let no : ◌≡◌ {A = Option ℕ} (Some 0) None = has.refused in absurd (cc)

  -- a journal with its start alone, of which no unit is out
  over_release : AllowsOver net 9 0 0 3
  over_release = record {
    journal = Start 3 Source [] ∷ [];
    legal = (
      record {
        in_range = (omega arith, tt);
        release = (refl, refl);
        closing = tt;
        choice = tt;
        semaphore = record { within = ((omega arith, omega arith), ((omega arith, omega arith), ((omega arith, omega arith), tt))); over = tt };
        halt_limit_stuck = record { dropped = omega arith; after_stuck = λ other. refl };
      },
      tt,
    );
    start = refl;
    over = (refl, (1, omega arith, omega arith, omega arith));
  }

  module _ (ins : Ins ℕ) where
    abbrev running_of : ℕ → ℕ → StartUnits → RunningState ℕ
    running_of t place units = running_state n t Source place ins units []

    abbrev running : ℕ → StartUnits → RunningState ℕ
    running place units = running_of 3 place units

    claims_all : ClaimsUnits table (running 0 putter) (claimed.All (running 0 (grant_one 0 putter)))
    claims_all = (refl, record { none_left = refl; all = λ s. refl }, has_claimed)

    claims_for_another : ¬ ClaimsUnits table (running 0 putter) (claimed.All (running 1 (grant_one 0 putter)))
    claims_for_another claims = absurd (omega (arith, ap (λ (r : RunningState ℕ). r.place) claims.0))

    claims_not_all : ¬ ClaimsUnits table (running 0 putter) (claimed.All (running 0 putter))
    claims_not_all claims = claims_first claims.2

    claims_before_it_credits : ¬ ClaimsUnits table (running_of 2 0 lender) (claimed.All (running_of 2 0 lender))
    claims_before_it_credits claims = credits_first claims.1

    refused_for_an_over_release : ClaimsUnits table (running 0 putter) (claimed.Refused (running 0 (refuse_one 0 putter)) 0)
    refused_for_an_over_release = (refl, record { none_left = refl; all = λ s. refl }, refl, over_release)

    refused_without_a_refusal : ¬ ClaimsUnits table (running 0 putter) (claimed.Refused (running 0 (grant_one 0 putter)) 0)
    refused_without_a_refusal claims = let no : ◌≡◌ {A = Option ℕ} None (Some 0) = claims.2 in absurd (cc)

    refused_for_another_semaphore : ¬ ClaimsUnits table (running 0 putter) (claimed.Refused (running 0 (refuse_one 0 putter)) 1)
    refused_for_another_semaphore claims = let no : ◌≡◌ {A = Option ℕ} (Some 0) (Some 1) = claims.2 in absurd (cc)

    refused_for_another : ¬ ClaimsUnits table (running 0 putter) (claimed.Refused (running 1 (refuse_one 0 putter)) 0)
    refused_for_another claims = absurd (omega (arith, ap (λ (r : RunningState ℕ). r.place) claims.0))

    refused_before_it_credits : ¬ ClaimsUnits table (running_of 2 0 lender) (claimed.Refused (running_of 2 0 (refuse_one 0 lender)) 0)
    refused_before_it_credits claims = let some : ◌≡◌ {A = List ℕ} (0 ∷ []) [] = claims.1.none_left in absurd (cc)

    refused_without_an_over_release : ¬ ClaimsUnits table (running_of 2 4 putter) (claimed.Refused (running_of 2 4 (refuse_one 0 putter)) 0)
    refused_without_an_over_release claims = no_over_release_of_a_taker claims.3

  -- ---- What waits, and what is woken.
  waits_for_each : WaitsAt (turn [] (2 ∷ [])) table 0 × WaitsAt (turn [] (1 ∷ [])) table 2
  waits_for_each = (record { table_is = refl; refused = refl; held = refl; takes = refl }, record { table_is = refl; refused = refl; held = refl; takes = refl })

  waits_for_no_other : ¬ WaitsAt (turn [] (1 ∷ [])) table 1
  waits_for_no_other waits = let no : false ≡ true = waits.takes in absurd (cc)

  waits_in_another_table : ¬ WaitsAt (turn_with m 0 Strong None [] []) table 0
  waits_in_another_table waits = other waits.table_is

  waits_though_refused : ¬ WaitsAt (turn_with n 0 Strong (Some Halted) [] []) table 0
  waits_though_refused waits = let no : Some Halted ≡ None = waits.refused in absurd (cc)

  waits_with_a_unit : ¬ WaitsAt (turn (0 ∷ []) (1 ∷ [])) table 2
  waits_with_a_unit waits = let no : ◌≡◌ {A = List ℕ} (0 ∷ []) [] = waits.held in absurd (cc)

  yard_of_its_table : ((yard_of table).home ≡ table) × ((yard_of table).sems ≡ 3)
  yard_of_its_table = (refl, refl)

  release_of_its_turn : release_of (turn [] (2 ∷ [])) ≡ waiting
  release_of_its_turn = refl

  waited_for_one_of_them : WaitedFor table (1 ∷ 2 ∷ []) waiting
  waited_for_one_of_them = record { table_is = refl; takes = refl }

  waited_for_another : ¬ WaitedFor table (1 ∷ []) waiting
  waited_for_another waited = let no : false ≡ true = waited.takes in absurd (cc)

  waited_in_another_table : ¬ WaitedFor table (0 ∷ []) (fresh_state m 0 Strong)
  waited_in_another_table waited = other waited.table_is

  wakes_one : WakesAtMost table (0 ∷ []) 1 (fresh_state n 1 Source ∷ []) (fresh_state n 1 Source ∷ waiting ∷ [])
  wakes_one = record {
    woken = waiting ∷ [];
    after_is = refl;
    waited = All-from_recursion (WaitedFor table (0 ∷ [])) (waiting ∷ []) (record { table_is = refl; takes = refl }, tt);
    few = omega arith;
  }

  wakes_none : WakesAtMost table (0 ∷ []) 1 (waiting ∷ []) (waiting ∷ [])
  wakes_none = record { woken = []; after_is = refl; waited = All-from_recursion (WaitedFor table (0 ∷ [])) [] tt; few = omega arith }

  wakes_more_than_that : ¬ WakesAtMost table (0 ∷ []) 1 [] (waiting ∷ waiting ∷ [])
  wakes_more_than_that wakes = absurd (omega (arith, ap length wakes.after_is, wakes.few))

  wakes_and_loses_one : ¬ WakesAtMost table (0 ∷ []) 1 (waiting ∷ []) []
  wakes_and_loses_one wakes = absurd (omega (arith, ap length wakes.after_is))

  wakes_one_that_waits_for_another : ¬ WakesAtMost table (1 ∷ []) 1 [] (waiting ∷ [])
  wakes_one_that_waits_for_another wakes =
      let waited : All (WaitedFor table (1 ∷ [])) (waiting ∷ []) = subst (All (WaitedFor table (1 ∷ []))) (sym wakes.after_is) wakes.waited in
      waited_for_another (All-head (WaitedFor table (1 ∷ [])) waiting [] waited)

  wakes_one_for_each : Wakes table (0 ∷ 2 ∷ []) [] (waiting ∷ waiting ∷ [])
  wakes_one_for_each = record {
    woken = waiting ∷ waiting ∷ [];
    after_is = refl;
    waited = All-from_recursion (WaitedFor table (0 ∷ 2 ∷ [])) (waiting ∷ waiting ∷ []) (record { table_is = refl; takes = refl }, (record { table_is = refl; takes = refl }, tt));
    few = omega arith;
  }

  wakes_two_for_one : ¬ Wakes table (0 ∷ []) [] (waiting ∷ waiting ∷ [])
  wakes_two_for_one wakes = wakes_more_than_that wakes

  parked_for_its_semaphore : ParkedFor table (turn (0 ∷ []) []) (turn [] (1 ∷ []))
  parked_for_its_semaphore = record {
    same = record { table = refl; task = refl; cause = refl; refused = refl };
    sem = 2;
    waits = record { table_is = refl; refused = refl; held = refl; takes = refl };
    none = omega arith;
  }

  parked_for_nothing : ¬ ParkedFor table (turn [] []) (turn [] [])
  parked_for_nothing parked = parked.none

  parked_with_a_unit : ¬ ParkedFor table (turn (0 ∷ []) []) (turn (0 ∷ []) (1 ∷ []))
  parked_with_a_unit parked = let no : ◌≡◌ {A = List ℕ} (0 ∷ []) [] = parked.waits.held in absurd (cc)

  parked_in_place_of_another : ¬ ParkedFor table (turn_with n 1 Strong None [] []) (turn [] (1 ∷ []))
  parked_in_place_of_another parked = absurd (omega (arith, parked.same.task))

  takes_up_in_place_of_parking : ParksTurn {V = ℕ} table (turn (0 ∷ []) []) (parking.Taken (turn (2 ∷ 0 ∷ []) (0 ∷ []))) (waiting ∷ []) (waiting ∷ [])
  takes_up_in_place_of_parking = (record { table = refl; task = refl; cause = refl; refused = refl }, holds_all, refl)

  takes_up_and_wakes : ¬ ParksTurn {V = ℕ} table (turn (0 ∷ []) []) (parking.Taken (turn (2 ∷ 0 ∷ []) (0 ∷ []))) [] (waiting ∷ [])
  takes_up_and_wakes parks = absurd (omega (arith, ap length parks.2))

  takes_up_without_all : ¬ ParksTurn {V = ℕ} table (turn (0 ∷ []) []) (parking.Taken (turn (0 ∷ []) (0 ∷ []))) [] []
  takes_up_without_all parks = holds_not_all parks.1

  takes_up_another : ¬ ParksTurn {V = ℕ} table (turn_with n 1 Strong None [] []) (parking.Taken (turn (2 ∷ 0 ∷ []) (0 ∷ []))) [] []
  takes_up_another parks = absurd (omega (arith, parks.0.task))

  module _ (parked : Snapshot TurnState) where
    parks_and_wakes : parked.value ≡ turn [] (1 ∷ []) → ParksTurn {V = ℕ} table (turn (0 ∷ []) []) (parking.Parked parked) [] (waiting ∷ waiting ∷ [])
    parks_and_wakes is = (subst (ParkedFor table (turn (0 ∷ []) [])) (sym is) parked_for_its_semaphore, wakes_one_for_each)

    parks_nothing : parked.value ≡ turn [] [] → ¬ ParksTurn {V = ℕ} table (turn [] []) (parking.Parked parked) [] []
    parks_nothing is parks = parked_for_nothing (subst (ParkedFor table (turn [] [])) is parks.0)

    parks_and_wakes_a_third : ¬ ParksTurn {V = ℕ} table (turn (0 ∷ []) []) (parking.Parked parked) [] (waiting ∷ waiting ∷ waiting ∷ [])
    parks_and_wakes_a_third parks = absurd (omega (arith, ap length parks.1.after_is, parks.1.few))

  -- ---- What becomes of what is parked.
  drops_together : (drops : Vec Dropping Global) (d : Dropping) → AreDrops {V = ℕ} (AllDropped drops) × ¬ AreDrops {V = ℕ} (Dropped d)
  drops_together drops d = (tt, λ are. are)

  nothing_is_settled : Settles {V = ℕ} table settled.Waits
  nothing_is_settled = tt

  goes_on : Settles {V = ℕ} table (settled.Goes waiting) × ¬ Settles {V = ℕ} table (settled.Goes (fresh_state m 0 Strong))
  goes_on = (refl, λ settles. other settles)

  all_are_dropped : (drops : Vec Dropping Global) → Settles {V = ℕ} table (settled.Over (spent_state n (AllDropped drops)))
  all_are_dropped drops = (refl, tt)

  dropped_in_another_table : (drops : Vec Dropping Global) → ¬ Settles {V = ℕ} table (settled.Over (spent_state m (AllDropped drops)))
  dropped_in_another_table drops settles = other settles.0

  one_alone_is_dropped : (d : Dropping) → ¬ Settles {V = ℕ} table (settled.Over (spent_state n (Dropped d)))
  one_alone_is_dropped d settles = settles.1

  -- ---- Releases that may be taken up.
  ready_as_its_release : (ready_as {V = ℕ} (ready.Fresh waiting) ≡ waiting) × (ready_as {V = ℕ} (ready.Woken (turn [] (2 ∷ [])) 0) ≡ waiting)
  ready_as_its_release = (refl, refl)

  unheld : IsUnheld {V = ℕ} (ready.Fresh waiting) × IsUnheld {V = ℕ} (ready.Woken (turn [] (2 ∷ [])) 0)
  unheld = (tt, (refl, refl))

  woken_with_a_unit : ¬ IsUnheld {V = ℕ} (ready.Woken (turn (0 ∷ []) []) 0)
  woken_with_a_unit is = let no : ◌≡◌ {A = List ℕ} (0 ∷ []) [] = is.1 in absurd (cc)

  woken_though_refused : ¬ IsUnheld {V = ℕ} (ready.Woken (turn_with n 0 Strong (Some Limit) [] []) 0)
  woken_though_refused is = let no : Some Limit ≡ None = is.0 in absurd (cc)
