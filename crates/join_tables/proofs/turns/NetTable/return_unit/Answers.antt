use Rattle.std.proofs.Common.{rules, ◌<◌, ◌≤◌, length, sym, ap, subst}
use Rattle.std.specs.Prelude.{drop}
use Rattle.std.specs.Arc.{arc_value}
use Rattle.table_steps.specs.Giving.{times}
use Rattle.join_tables.specs.States.{OwingState}
use Rattle.join_tables.specs.inside.Seated.{units_of}
use Rattle.join_tables.proofs.Lones.{may_return_unit}
use Rattle.join_tables.proofs.turns.NetTable.return_unit.Goals as goal

pub give_unit_back-requires-clause-ready : goal.give_unit_back-requires-clause-ready
give_unit_back-requires-clause-ready g c =
    let v = c.owing.inside.seat.me.0 in let ended = c.owing.inside.ended in
    let there : 1 ≤ times c.args.sem (units_of v) = subst (λ l. 1 ≤ times c.args.sem l) (sym (ap (λ (o : OwingState _). o.units) c.owing.view_is)) c.requires.owed in
    let below : c.args.sem < length (arc_value c.self.inside.words.net).sems = search rules in
    may_return_unit (arc_value c.self.inside.words.net) c.args.sem ended (drop c.owing.inside.next ended.gives) (units_of v) v (ap (λ m. m.0) c.owing.invariant.0) there below
