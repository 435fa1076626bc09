use Rattle.flow_run.specs.Checks.{findings_text}
use Rattle.flow_run.proofs.check_command.deliver_findings.Goals as goal

pub returns : goal.returns
returns g c = c.flushed.ensures (g.S.Sink.state c.args.out.now) (findings_text c.args.found.now) c.requires c.put_findings-written.ensures
