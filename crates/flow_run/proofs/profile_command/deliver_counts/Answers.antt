use Rattle.flow_run.specs.Profiles.{graph_profile_text}
use Rattle.flow_run.proofs.profile_command.deliver_counts.Goals as goal

pub returns : goal.returns
returns g c = c.flushed.ensures (g.S.Sink.state c.args.out.now) (graph_profile_text c.args.counts.now) c.requires.nothing_held c.put_counts-written.ensures
