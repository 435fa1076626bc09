use Rattle.std.proofs.Common.{◌≡◌, ◌<◌, ◌+◌, length, slice_index_or, refl, sym, ap, ◌∙◌, subst, arith}
use Rattle.std.specs.List.{AllByRecursion}
use Rattle.std.proofs.lemmas.List.{length-take-le}
use Rattle.task_graph.specs.NetRows.{NetRows}
use Rattle.join_tables.specs.States.{TableState, TurnState}
use Rattle.semaphore_park.specs.Parking.{YardKey}
use Rattle.semaphore_turns.specs.Semaphores.{taken_by}
use Rattle.semaphore_turns.specs.HeldUnits.{FoundNone, IsSameTurn}
use Rattle.semaphore_turns.specs.WokenTurns.{ParkedFor, WakesAtMost}
use Rattle.semaphore_turns.specs.YardTurns.{WakesFirst, passed_over}
use Rattle.semaphore_turns.specs.WaitingTurns.{WaitsAt}
use Rattle.semaphore_turns.proofs.ParkedTurns.{front_in_range, lacks_within, later_in_range, parked_for, rest_of, wakes_parked}
use Rattle.semaphore_turns.proofs.YardReleases.{parks_last}
use Rattle.semaphore_turns.proofs.parks.park.Goals as goal

within : (g : _) (c : goal.After-new g) → c.args.place < length c.takes_of-takes.result.now
within g c =
    let list = c.takes_of-takes.ensures.list ∙ ap (taken_by c.args.net.now) c.task.ensures in
    omega (arith, lacks_within c.args.net.now c.args.place c.args.turn c.requires.lacks, ap length list)

sems_of : (g : _) (c : goal.After-new g) → length c.args.net.now.sems ≡ length c.args.yard.now.lists
sems_of g c = ap (λ (n : NetRows). length n.sems) c.requires.net ∙ sym (ap (λ (k : YardKey TableState). k.sems) c.requires.yard)

parked : (g : _) (c : goal.After-new g) → WaitsAt c.put_back_first-turn.result c.args.table.now (slice_index_or c.takes_of-takes.result.now c.args.place 0) × FoundNone c.args.table.now.net (slice_index_or c.takes_of-takes.result.now c.args.place 0) c.put_back_first-turn.result
parked g c =
    let list = c.takes_of-takes.ensures.list ∙ ap (taken_by c.args.net.now) c.task.ensures in
    parked_for c.args.table.now c.args.net.now c.args.turn c.put_back_first-turn.result c.takes_of-takes.result.now c.args.place c.requires.net c.requires.turn.0 c.requires.turn.1 c.requires.lacks list c.put_back_first-turn.ensures (slice_index_or c.takes_of-takes.result.now c.args.place 0) refl

pub park_in-requires-clause-in_range : goal.park_in-requires-clause-in_range
park_in-requires-clause-in_range g c = omega (arith, c.takes_of-takes.ensures.sems.in_range c.args.place 0 (within g c), sems_of g c)

pub park_in-requires-clause-waits : goal.park_in-requires-clause-waits
park_in-requires-clause-waits g c =
    let sem = slice_index_or c.takes_of-takes.result.now c.args.place 0 in
    let home = ap (λ (k : YardKey TableState). k.home) c.requires.yard in
    subst (λ (h : TableState). WaitsAt c.new.result h sem) (sym home) (subst (λ (t : TurnState). WaitsAt t c.args.table.now sem) (sym c.new.ensures) (parked g c).0)

pub slice_bounds-wake_turns-end : goal.slice_bounds-wake_turns-end
slice_bounds-wake_turns-end g c =
    let list = c.takes_of-takes.ensures.list ∙ ap (taken_by c.args.net.now) c.task.ensures in
    let below : c.args.place < length c.takes_of-takes.result.now = omega (arith, lacks_within c.args.net.now c.args.place c.args.turn c.requires.lacks, ap length list) in
    sym (length-take-le c.args.place c.takes_of-takes.result.now (omega (arith, below)))

pub wake_turns-requires-clause-in_range : goal.wake_turns-requires-clause-in_range
wake_turns-requires-clause-in_range g c =
    let sems = ap (λ (n : NetRows). length n.sems) c.requires.net ∙ sym (ap (λ (k : YardKey TableState). k.sems) (c.in_ok-park_in.ensures.key ∙ c.requires.yard)) in
    front_in_range (length c.args.net.now.sems) (length c.park_in.new.self.lists) c.args.place c.takes_of-takes.result.now c.takes_of-takes.ensures.sems.in_range sems

pub returns-clause-parks : goal.returns-clause-parks
returns-clause-parks g c =
    let turn = c.put_back_first-turn.result in
    let sem = slice_index_or c.takes_of-takes.result.now c.args.place 0 in
    let list = c.takes_of-takes.ensures.list ∙ ap (taken_by c.args.net.now) c.task.ensures in
    let parked = parked_for c.args.table.now c.args.net.now c.args.turn turn c.takes_of-takes.result.now c.args.place c.requires.net c.requires.turn.0 c.requires.turn.1 c.requires.lacks list c.put_back_first-turn.ensures sem refl in
    let is = c.put_back_first-turn.ensures in
    let same : IsSameTurn c.args.turn turn = record { table = ap (λ (t : TurnState). t.table) is; task = ap (λ (t : TurnState). t.task) is; cause = ap (λ (t : TurnState). t.cause) is; refused = ap (λ (t : TurnState). t.refused) is } in
    subst (ParkedFor c.args.table.now c.args.turn) (sym c.of-parked.ensures) (record { same = same; sem = sem; waits = parked.0; none = parked.1 })

pub returns-clause-wakes : goal.returns-clause-wakes
returns-clause-wakes g c =
    let list = c.takes_of-takes.ensures.list ∙ ap (taken_by c.args.net.now) c.task.ensures in
    let below : c.args.place < length c.takes_of-takes.result.now = omega (arith, lacks_within c.args.net.now c.args.place c.args.turn c.requires.lacks, ap length list) in
    let home = ap (λ (k : YardKey TableState). k.home) (c.in_ok-park_in.ensures.key ∙ c.requires.yard) in
    let later = ap (λ (k : YardKey TableState). k.home) (c.wake_turns.ensures.yard ∙ c.in_ok-park_in.ensures.key ∙ c.requires.yard) in
    wakes_parked c.args.table.now c.park_in.new.self.home c.wake_turns.new.yard.home c.takes_of-takes.result.now (taken_by c.args.net.now c.args.turn.task) c.args.place c.args.woken_for c.args.ready.now.items c.wake_turns.new.ready.items c.pass_on.new.ready.items home later list below c.wake_turns.ensures.wakes
    (subst (λ l. WakesAtMost c.wake_turns.new.yard.home (passed_over l c.args.woken_for) (length (passed_over l c.args.woken_for)) c.wake_turns.new.ready.items c.pass_on.new.ready.items) (rest_of (c.args.place + 1) c.takes_of-takes.result.now) c.pass_on.ensures.wakes)

pub returns-clause-last : goal.returns-clause-last
returns-clause-last g c =
    let list = c.takes_of-takes.ensures.list ∙ ap (taken_by c.args.net.now) c.task.ensures in
    let below : c.args.place < length c.takes_of-takes.result.now = omega (arith, lacks_within c.args.net.now c.args.place c.args.turn c.requires.lacks, ap length list) in
    parks_last c.args.net.now c.args.turn.task c.args.woken_for c.put_back_first-turn.result c.of-parked.result.value c.new.result c.takes_of-takes.result.now c.args.place c.args.yard.now c.park_in.new.self c.wake_turns.new.yard c.pass_on.new.yard c.args.ready.now.items c.wake_turns.new.ready.items c.pass_on.new.ready.items list below c.new.ensures c.of-parked.ensures
    c.in_ok-park_in.ensures.ok c.wake_turns.ensures.first
    (subst (λ l. WakesFirst (passed_over l c.args.woken_for) c.wake_turns.new.yard c.pass_on.new.yard c.wake_turns.new.ready.items c.pass_on.new.ready.items) (rest_of (c.args.place + 1) c.takes_of-takes.result.now) c.pass_on.ensures.first)

pub pass_on-requires-clause-in_range : goal.pass_on-requires-clause-in_range
pass_on-requires-clause-in_range g c =
    let sems = ap (λ (n : NetRows). length n.sems) c.requires.net ∙ sym (ap (λ (k : YardKey TableState). k.sems) (c.wake_turns.ensures.yard ∙ c.in_ok-park_in.ensures.key ∙ c.requires.yard)) in
    subst (AllByRecursion (λ s. s < length c.wake_turns.new.yard.lists)) (sym (rest_of (c.args.place + 1) c.takes_of-takes.result.now)) (later_in_range (length c.args.net.now.sems) (length c.wake_turns.new.yard.lists) (c.args.place + 1) c.takes_of-takes.result.now c.takes_of-takes.ensures.sems.in_range sems)
