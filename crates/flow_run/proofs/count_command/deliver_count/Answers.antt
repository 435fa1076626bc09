use Rattle.flow_run.specs.Counted.{count_text}
use Rattle.flow_run.proofs.count_command.deliver_count.Goals as goal

pub returns : goal.returns
returns g c = c.flushed.ensures (g.S.Sink.state c.args.out.now) (count_text c.args.lines) c.requires c.put_count_text-written.ensures
