use Rattle.std.proofs.Common.{Err, subst}
use Rattle.std.specs.List.{flat_map}
use Rattle.std.proofs.lemmas.List.{get_or_default}
use Rattle.outside_io.specs.Sink.{Writes}
use Rattle.outside_io.proofs.Pieces.{row_written, row_refused}
use Rattle.flow_run.specs.Checks.{finding_line}
use Rattle.flow_run.proofs.check_command.put_graph.Goals as goal

pub loop-finding-preserved : goal.loop-finding-preserved
loop-finding-preserved g c =
    let below = c.loop-finding-test.true in
    row_written (finding_line c.args.on.now) c.as_slice-findings.result.now c.loop-finding.finding-index _ _ _ _ below (get_or_default c.as_slice-findings.result.now c.loop-finding.finding-index _ _ below) c.loop-finding.invariant c.in_default.ensures

pub returns-in-Err : goal.returns-in-Err
returns-in-Err g c =
    let below = c.loop-finding-test.true in
    subst (λ findings. Writes (g.S.Sink.state c.args.out.now) (g.S.Sink.state c.put_finding.new.out) (flat_map (finding_line c.args.on.now) findings) (Err c.in-Err.fault)) c.as_slice-findings.ensures
    (row_refused (finding_line c.args.on.now) c.as_slice-findings.result.now c.loop-finding.finding-index _ _ _ _ c.in-Err.fault below (get_or_default c.as_slice-findings.result.now c.loop-finding.finding-index _ _ below) c.loop-finding.invariant c.in-Err.ensures)
