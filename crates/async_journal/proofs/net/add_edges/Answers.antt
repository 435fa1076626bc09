use Rattle.async_journal.proofs.Refusing.{rows_refused}
use Rattle.async_journal.proofs.net.add_edges.Goals as goal

pub returns-in_err-add_edges_into-clause-refused : goal.returns-in_err-add_edges_into-clause-refused
returns-in_err-add_edges_into-clause-refused c =
    rows_refused c.args.builder.now c.loop-row.builder c.loop-row.row-index c.row-item.result _ c.args.adds.now c.as_slice.result.now c.in_err-add_edges_into.field-0.0 c.from_residual.result c.loop-row.invariant c.loop-row-test.true
    c.row-item.is c.as_slice.ensures c.in_err-add_edges_into.ensures.refused c.from_residual.ensures.1
