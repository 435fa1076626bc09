use Rattle.std.proofs.Common.{◌≡◌}
use Rattle.text_tasks.specs.Sinks.{last_sink_below}
use Rattle.text_tasks.proofs.feedback_text.last_sink.Given as goal

abbrev pub invariant-loop-task : goal.invariant-loop-task
invariant-loop-task l = l.last ≡ last_sink_below l.net l.task
