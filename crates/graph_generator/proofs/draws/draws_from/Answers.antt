use Rattle.std.proofs.Common.{◌∙◌}
use Rattle.graph_generator.proofs.DrawLemmas.{draws-next, drawn-next}
use Rattle.graph_generator.proofs.draws.draws_from.Goals as goal

pub loop-number-preserved : goal.loop-number-preserved
loop-number-preserved c =
    let i = c.loop-number._number in
    let next = drawn-next c.args.seed i c.loop-number.state c.loop-number.invariant.state in
    record {
      draws = draws-next c.args.seed i c.next_state-state.result c.loop-number.draws c.push.new.self c.loop-number.invariant.draws (c.next_state-state.ensures ∙ next) (c.in_ok-push.ensures.ok);
      state = c.next_state-state.ensures ∙ next;
    }
