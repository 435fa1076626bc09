use Rattle.std.proofs.Common.{ap, sym, subst, ◌∙◌}
use Rattle.table_steps.specs.inside.Kinds.{left_by}
use Rattle.table_steps.specs.inside.RestKinds.{MayThin}
use Rattle.table_steps.proofs.TurnSteps.{both_thin}
use Rattle.table_steps.proofs.Values.{knows_again}
use Rattle.table_steps.proofs.words.Words.gather.Goals as goal

pub thin-requires-clause-ready : goal.thin-requires-clause-ready
thin-requires-clause-ready g c = subst MayThin (sym (ap (λ m. m.0) c.take_turn.ensures.view)) (both_thin c.args.seat.now.me.0 c.args.spent.me.0 c.requires.ready).0

pub returns-clause-view : goal.returns-clause-view
returns-clause-view g c =
    let is = c.take_turn.ensures.view in let off = c.thin.ensures.view in let front = both_thin c.args.seat.now.me.0 c.args.spent.me.0 c.requires.ready in λ i. ((off.0 ∙ ap (λ m. left_by m.0) is ∙ front.1) i, (off.1 ∙ ap (λ m. m.1) is) i)

pub returns-clause-known : goal.returns-clause-known
returns-clause-known g c = (knows_again _ _ _ c.thin.ensures.known c.take_turn.ensures.known.0, knows_again _ _ _ c.thin.ensures.known c.take_turn.ensures.known.1)
