use Rattle.outside_io.proofs.Pieces.{row_written, row_refused}
use Rattle.flow_run.specs.Checks.{graph_lines}
use Rattle.flow_run.proofs.check_command.put_graphs.Goals as goal

pub loop-on-preserved : goal.loop-on-preserved
loop-on-preserved g c = row_written graph_lines _ _ _ _ _ _ c.loop-on-test.true c.on-item.is c.loop-on.invariant c.in_default.ensures

pub returns-in-Err : goal.returns-in-Err
returns-in-Err g c = row_refused graph_lines _ _ _ _ _ _ c.in-Err.fault c.loop-on-test.true c.on-item.is c.loop-on.invariant c.in-Err.ensures
