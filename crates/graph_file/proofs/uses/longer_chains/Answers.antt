use Rattle.std.proofs.Common.{false, get_or, ap, ◌∙◌}
use Rattle.std.specs.List.{list_any}
use Rattle.graph_file.proofs.UseLemmas.{mapped-more}
use Rattle.graph_file.proofs.uses.longer_chains.Goals as goal

pub loop-used-preserved : goal.loop-used-preserved
loop-used-preserved c =
    mapped-more (list_any (λ m. get_or c.args.begins.now m false)) c.args.uses.now c.loop-used.used-index c.used-item.result c.loop-used.longer c.push.new.self c.any_begins.result c.loop-used-test.true c.used-item.is
    (c.any_begins.ensures ∙ ap (list_any (λ m. get_or c.args.begins.now m false)) c.as_slice.ensures) c.in_ok-push.ensures.ok c.loop-used.invariant
