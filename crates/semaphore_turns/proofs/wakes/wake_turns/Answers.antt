use Rattle.std.proofs.Common.{[], ◌∷◌, ◌++◌, Some, append-nil, refl, slice_index_or, vec_capacity, vec_len, Vec, Global, sym, ap, ◌∙◌, subst, arith}
use Rattle.join_tables.specs.States.{FreshState, TableState}
use Rattle.std.proofs.lemmas.List.Elements.{All-nil}
use Rattle.semaphore_park.specs.Parking.{YardKey, parked_on}
use Rattle.semaphore_turns.specs.WaitingTurns.{WaitsAt}
use Rattle.semaphore_turns.specs.WokenTurns.{WaitedFor}
use Rattle.semaphore_turns.proofs.RestLists.{woke_none, woke_one}
use Rattle.semaphore_turns.proofs.YardReleases.{first_of, none_first, wakes_more}
use Rattle.semaphore_turns.proofs.wakes.wake_turns.Goals as goal
use Rattle.semaphore_turns.proofs.wakes.wake_turns.Goals.{in-Some, in_default}

pub loop-sem-init : goal.loop-sem-init
loop-sem-init g c =
    let before = c.args.ready.now.items in
    record {
      yard = refl;
      wakes = record { woken = []; after_is = sym (append-nil before); waited = All-nil (WaitedFor c.args.yard.now.home c.args.sems.now); few = omega arith };
      first = record { yard = refl; woken = sym (append-nil before) };
      few = omega arith;
      capacity = refl;
    }

pub loop-sem-preserved : goal.loop-sem-preserved
loop-sem-preserved g c =
    let i = c.loop-sem.invariant in
    let n = c.loop-sem.sem-index in
    let sems = c.args.sems.now in
    let home = ap (λ (k : YardKey TableState). k.home) i.yard in
    let ready = c.match-wake_in.ready in
    elim c.match-wake_in.branch [
      | in-Some w ↦
          let waits : WaitsAt w.into_turn.result c.args.yard.now.home (slice_index_or sems n 0) = subst (λ (h : TableState). WaitsAt w.into_turn.result h (slice_index_or sems n 0)) home (subst (λ t. WaitsAt t c.loop-sem.yard.home (slice_index_or sems n 0)) (sym w.into_turn.ensures) w.in-Some.ensures.waits) in
          let items = ap (λ (v : Vec FreshState Global). v.items) w.ready-is ∙ w.push_reserved.ensures.items in
          record {
            yard = c.wake_in.ensures.key ∙ i.yard;
            wakes = woke_one c.args.yard.now.home sems n c.args.ready.now.items c.loop-sem.ready.items ready.items w.woken.result w.into_turn.result c.loop-sem-test.true i.wakes items w.woken.ensures waits;
            first = wakes_more sems n c.args.yard.now c.loop-sem.yard c.wake_in.new.self c.args.ready.now.items c.loop-sem.ready.items ready.items (w.into_turn.result ∷ []) c.loop-sem-test.true i.first c.wake_in.ensures.rest
                (sym (first_of (parked_on c.loop-sem.yard (slice_index_or sems n 0)) w.into_turn.result (sym c.wake_in.ensures.first ∙ w.in-Some.is ∙ ap Some (sym w.into_turn.ensures)))) (items ∙ ap (λ (f : FreshState). c.loop-sem.ready.items ++ f ∷ []) w.woken.ensures);
            few = omega (arith, i.few, ap (λ (v : Vec FreshState Global). vec_len v) w.ready-is, w.push_reserved.ensures.len);
            capacity = ap (λ (v : Vec FreshState Global). vec_capacity v) w.ready-is ∙ w.push_reserved.ensures.capacity ∙ i.capacity;
          }
      | in_default w ↦
          record {
            yard = c.wake_in.ensures.key ∙ i.yard;
            wakes = woke_none c.args.yard.now.home sems n c.args.ready.now.items c.loop-sem.ready.items ready.items i.wakes (ap (λ (v : Vec FreshState Global). v.items) w.ready-is);
            first = wakes_more sems n c.args.yard.now c.loop-sem.yard c.wake_in.new.self c.args.ready.now.items c.loop-sem.ready.items ready.items [] c.loop-sem-test.true i.first c.wake_in.ensures.rest
                (sym (none_first (parked_on c.loop-sem.yard (slice_index_or sems n 0)) (sym c.wake_in.ensures.first ∙ w.in_default.is))) (ap (λ (v : Vec FreshState Global). v.items) w.ready-is ∙ sym (append-nil c.loop-sem.ready.items));
            few = omega (arith, i.few, ap (λ (v : Vec FreshState Global). vec_len v) w.ready-is);
            capacity = ap (λ (v : Vec FreshState Global). vec_capacity v) w.ready-is ∙ i.capacity;
          }
    ]
