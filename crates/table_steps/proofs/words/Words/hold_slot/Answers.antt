use Rattle.std.proofs.Common.{false, ◌∙◌}
use Rattle.std.specs.Arc.{arc_value}
use Rattle.table_steps.specs.Values.{given_parts}
use Rattle.table_steps.proofs.Fetching.{given_up}
use Rattle.table_steps.proofs.Values.{knows_again}
use Rattle.table_steps.proofs.words.Words.hold_slot.Goals as goal

pub returns-then-try_slot-eq0-clause-known : goal.returns-then-try_slot-eq0-clause-known
returns-then-try_slot-eq0-clause-known g c = knows_again _ _ _ c.try_slot.ensures.known c.loop.invariant.2

pub loop-preserved : goal.loop-preserved
loop-preserved g c =
    let same = given_up (arc_value c.args.self.now.net) given_parts false c.args.puts c.args.edge c.try_slot.result c.loop.seat.me c.try_slot.new.seat.me c.if-try_slot-eq0.false c.try_slot.ensures.view in
    (c.try_slot.ensures.table ∙ c.loop.invariant.0, same ∙ c.loop.invariant.1, knows_again _ _ _ c.try_slot.ensures.known c.loop.invariant.2, c.try_slot.ensures.found ∙ c.loop.invariant.3)

pub returns-clause-known : goal.returns-clause-known
returns-clause-known g c = knows_again _ _ _ c.try_slot-2.ensures.known c.loop.invariant.2
