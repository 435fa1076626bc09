use Rattle.async_journal.proofs.Refusing.{edge_refused}
use Rattle.async_journal.proofs.net.add_edges_into.Goals as goal

pub returns-in_err-edge-clause-refused : goal.returns-in_err-edge-clause-refused
returns-in_err-edge-clause-refused c =
    edge_refused c.args.builder.now c.loop-from.builder c.args.task c.loop-from.from-index _ c.args.before.now c.in_err-edge.field-0.0 c.from_residual.result c.loop-from.invariant c.loop-from-test.true
    c.in_err-edge.ensures.answer.0 c.from_residual.ensures.1
