use Rattle.std.proofs.Common.{◌<◌, ◌+◌, length, take, refl, sym, ap, ◌∙◌, subst, arith}
use Rattle.std.proofs.lemmas.List.{get_or_default}
use Rattle.join_tables.specs.RestStates.{RestState}
use Rattle.join_tables.specs.Rests.{IsOfTable}
use Rattle.semaphore_turns.specs.inside.RestTurns.{AreFull, TakeThese}
use Rattle.semaphore_turns.proofs.RestLists.{full_more}
use Rattle.semaphore_turns.proofs.settlement.find_unit.Goals as goal

pub loop-place-preserved : goal.loop-place-preserved
loop-place-preserved g c =
    let i = c.loop-place.invariant in
    let is = c.in-Exhausted.ensures.0 in
    let table = c.args.table.now in
    let sem = c.index.result.now in
    let sems = c.args.turns.sems.items in
    let below : c.loop-place.place < length sems = omega (arith, c.loop-place-test.true, c.len-place-end.ensures, c.args.turns.sems.ok.0) in
    record {
      rests = record {
        table_is = subst (IsOfTable table.table) (sym (ap (λ (r : RestState). r.table) is)) refl;
        take_these = subst (λ ts. TakeThese table.net ts c.args.turns.sems.items) (sym (ap (λ (r : RestState). r.turns) is)) i.rests.take_these;
        in_range = i.rests.in_range;
      };
      quiet = (ap (λ (r : RestState). r.alone) is ∙ i.quiet.0, ap (λ (r : RestState). r.dropped) is ∙ i.quiet.1);
      some = λ none. i.some (sym (ap (λ (r : RestState). r.turns) is) ∙ none);
      turns = ap (λ (r : RestState). r.turns) is ∙ i.turns;
      sems = i.sems;
      full = subst (AreFull (take (c.loop-place.place + 1) sems)) (sym (ap (λ (r : RestState). r.full) is)) (full_more sems c.loop-place.rest.full c.loop-place.place sem below (c.index.ensures ∙ get_or_default sems c.loop-place.place sem 0 below) i.full);
    }
