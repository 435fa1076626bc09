use Rattle.std.proofs.Common.{◌+◌, drop, refl, sym, ap, ◌∙◌, subst, arith}
use Rattle.join_tables.specs.States.{OwingState, owing_state}
use Rattle.semaphore_turns.specs.inside.UnitCounts.{AreOneEach}
use Rattle.semaphore_turns.proofs.UnitCounts.{returns_begin, returns_end, returns_more, return_there}
use Rattle.semaphore_turns.proofs.returns.return_units.Goals as goal

pub loop-sem-init : goal.loop-sem-init
loop-sem-init g c =
    let list = c.puts_of-sem-items.ensures.list in
    record {
      same = refl;
      so_far = subst (λ l. AreOneEach l c.args.owing.units) (sym list) (returns_begin c.args.net.now c.args.task c.args.owing.units (rw list at c.puts_of-sem-items.ensures.sems.rising) c.requires.units);
    }

pub return_unit-owing-requires-clause-owed : goal.return_unit-owing-requires-clause-owed
return_unit-owing-requires-clause-owed g c = return_there c.puts_of-sem-items.result.now c.loop-sem.owing.units c.loop-sem.sem-index c.loop-sem-test.true c.loop-sem.invariant.so_far

pub loop-sem-preserved : goal.loop-sem-preserved
loop-sem-preserved g c =
    let i = c.loop-sem.invariant in
    let sems = c.puts_of-sem-items.result.now in
    let is = c.return_unit-owing.ensures in
    let units = ap (λ (o : OwingState g.row.V.Denot). o.units) is in
    record {
      same = is ∙ (λ k. owing_state (ap (λ (o : OwingState g.row.V.Denot). o.table) i.same k) (ap (λ (o : OwingState g.row.V.Denot). o.ended) i.same k) (ap (λ (o : OwingState g.row.V.Denot). o.left) i.same k) (sym units k) (ap (λ (o : OwingState g.row.V.Denot). o.found) i.same k) (ap (λ (o : OwingState g.row.V.Denot). o.bare) i.same k));
      so_far = subst (AreOneEach (drop (c.loop-sem.sem-index + 1) sems)) (sym units) (returns_more sems c.loop-sem.owing.units c.loop-sem.sem-index c.loop-sem-test.true i.so_far);
    }

pub returns : goal.returns
returns g c =
    let i = c.loop-sem.invariant in
    let none = returns_end c.puts_of-sem-items.result.now c.loop-sem.owing.units c.loop-sem.sem-index (omega (arith, c.loop-sem-test.false)) i.so_far in
    i.same ∙ ap (λ l. owing_state c.args.owing.table c.args.owing.ended c.args.owing.left l c.args.owing.found c.args.owing.bare) none
