use Rattle.std.specs.Arc.{arc_value}
use Rattle.topology_runs.specs.Teams.{watchers_of}
use Rattle.desk_book.specs.Passes.{seen}
use Rattle.run_desk.proofs.Serving.{has_run_rounds}
use Rattle.run_desk.proofs.service.serve.Goals as goal

pub returns-in-Ok-clause-rounds : goal.returns-in-Ok-clause-rounds
returns-in-Ok-clause-rounds g c =
    has_run_rounds g.J.Job.meaning g.X.Watch.told c.args.desk.now.jobs (seen c.end.new.pass) c.in-Taken.taken c.ask-ask.result (arc_value c.job.result.now) c.in-Ok.runs
    (watchers_of c.args.team.now) (watchers_of c.run_times.new.team) c.end.ensures.ended c.ask-ask.ensures c.job.ensures.job c.in-Ok.ensures.rounds c.in-Ok.ensures.watchers
