use Rattle.std.proofs.Common.{subst}
use Rattle.std.specs.Prelude.{◌==◌}
use Rattle.std.specs.List.{list_any}
use Rattle.pipe_lines.specs.inside.Waiting.{GainsWaiter}
use Rattle.pipe_lines.proofs.WaitLemmas.{waiters_more}
use Rattle.pipe_lines.proofs.waits.waiters_of.Goals as goal

pub loop-token-preserved : goal.loop-token-preserved
loop-token-preserved c =
    waiters_more c.args.tokens c.loop-token.token c.args.rows.now c.loop-token.waiters.items c.add_waiter.new.waiters.items c.loop-token.invariant
    (subst (λ ts. GainsWaiter c.loop-token.waiters.items c.add_waiter.new.waiters.items c.loop-token.token (λ t. list_any (λ target. target == t) ts)) c.targets_of.ensures c.in_ok-add_waiter.ensures)
