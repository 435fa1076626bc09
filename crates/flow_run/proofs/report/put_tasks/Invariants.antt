use Rattle.std.specs.List.{flat_map, range_with_len}
use Rattle.outside_io.specs.Sink.{Accepts}
use Rattle.run_frame.specs.NestedRule.{job_of, journal_of}
use Rattle.run_frame.specs.Runs.{values_of}
use Rattle.text_tasks.specs.JobMeaning.{net_of, names_of}
use Rattle.report_laws.specs.Output.{task_part}
use Rattle.flow_run.proofs.report.put_tasks.Given as goal

abbrev pub invariant-loop-task : goal.invariant-loop-task
invariant-loop-task g l = Accepts (g.S.Sink.state l.fn.out) (g.S.Sink.state l.out)
    (flat_map (task_part (names_of (job_of l.fn.run)) (net_of (job_of l.fn.run)) (journal_of l.fn.run) (values_of l.fn.run)) (range_with_len 0 l.task))
