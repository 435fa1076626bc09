use Rattle.std.proofs.Common.{Some, [], ◌∷◌, length, refl, sym, ap, ◌∙◌, subst, arith}
use Rattle.std.proofs.lemmas.List.{length-append}
use Rattle.join_tables.specs.RestStates.{RestState, parked_as}
use Rattle.join_tables.specs.States.{TableState}
use Rattle.join_tables.specs.Rests.{IsOfTable}
use Rattle.semaphore_park.specs.Parking.{YardKey}
use Rattle.semaphore_turns.specs.WaitingTurns.{WaitsAt}
use Rattle.semaphore_turns.proofs.RestLists.{rests_more, these_length}
use Rattle.semaphore_turns.proofs.YardReleases.{taken_back}
use Rattle.semaphore_turns.proofs.rest_turns.take_from.Goals as goal

pub loop-yard-init : goal.loop-yard-init
loop-yard-init g c = record {
  yard = c.requires.yard;
  rests = c.requires.rests;
  untouched = c.requires.untouched;
  back = refl;
  count = omega (arith, c.args.turns.sems.ok.0, these_length c.args.table.now.net c.args.turns.rest.turns c.args.turns.sems.items c.requires.rests.take_these);
  room = refl;
  capacity = refl;
}

pub loop-yard-preserved : goal.loop-yard-preserved
loop-yard-preserved g c =
    let i = c.loop-yard.invariant in
    let is = c.rest_add-rest.ensures in
    let table = c.args.table.now in
    let turn = c.into_turn.result in
    let home = ap (λ (k : YardKey TableState). k.home) i.yard in
    let waits : WaitsAt turn table c.args.sem = subst (λ (h : TableState). WaitsAt turn h c.args.sem) home (subst (λ t. WaitsAt t c.loop-yard.yard.home c.args.sem) (sym c.into_turn.ensures) c.in-Some.ensures.waits) in
    record {
      yard = c.wake_in.ensures.key ∙ i.yard;
      rests = rests_more table c.loop-yard.rest c.rest_add-rest.result c.loop-yard.sems.items c.push_reserved.new.self.items turn c.args.sem i.rests (subst (IsOfTable table.table) (sym (ap (λ (r : RestState). r.table) is)) refl) (ap (λ (r : RestState). r.turns) is) c.push_reserved.ensures.items
          c.requires.sem waits.takes;
      untouched = (ap (λ (r : RestState). r.alone) is, ap (λ (r : RestState). r.dropped) is);
      back =
          taken_back table.table c.loop-yard.rest.turns c.rest_add-rest.result.turns c.loop-yard.sems.items c.push_reserved.new.self.items c.args.sem turn c.loop-yard.yard c.wake_in.new.self (omega (arith, i.count, c.loop-yard.sems.ok.0)) (ap (λ (r : RestState). r.turns) is) c.push_reserved.ensures.items
          (omega (arith, c.requires.sem, ap (λ (k : YardKey TableState). k.sems) i.yard)) waits.table_is (sym c.wake_in.ensures.first ∙ c.in-Some.is ∙ ap Some (sym c.into_turn.ensures)) c.wake_in.ensures.rest
          ∙ i.back;
      count = omega (arith, i.count, c.push_reserved.ensures.len, ap length (ap (λ (r : RestState). r.turns) is), length-append c.loop-yard.rest.turns (parked_as turn.task turn.cause ∷ []));
      room = ap (λ (r : RestState). r.room) is ∙ i.room;
      capacity = c.push_reserved.ensures.capacity ∙ i.capacity;
    }
