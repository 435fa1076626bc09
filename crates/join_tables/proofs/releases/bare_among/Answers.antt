use Rattle.std.proofs.Common.{◌≡◌, not, ◌∙◌, arith}
use Rattle.table_steps.specs.Giving.{one_if}
use Rattle.join_tables.proofs.Releasing.{bare_more, bit, byte_one}
use Rattle.join_tables.proofs.releases.bare_among.Goals as goal

pub loop-edge-preserved : goal.loop-edge-preserved
loop-edge-preserved c =
    let more = bare_more c.args.net.now c.args.edges.now c.loop-edge.edge-index c.starts_with_token.result c.loop-edge-test.true c.starts_with_token.ensures in
    let added : c.from-found.result ≡ one_if (not c.starts_with_token.result) = c.from-found.ensures ∙ byte_one (not c.starts_with_token.result) in
    (omega (arith, more, added, c.loop-edge.invariant.0), omega (arith, added, bit c.starts_with_token.result, c.loop-edge.invariant.1))
