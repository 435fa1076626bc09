use Rattle.std.proofs.Common.{◌≡◌, ◌++◌, drop}
use Rattle.text_tasks.specs.Sinks.{sink_texts, task_values}
use Rattle.text_tasks.specs.inside.Gathering.{all_of}
use Rattle.text_tasks.proofs.gathered.texts_of_sinks.Given as goal

abbrev pub invariant-loop-task : goal.invariant-loop-task
invariant-loop-task l = all_of l.texts ++ sink_texts l.net l.task (drop l.task (task_values l.net l.run)) ≡ sink_texts l.net 0 (task_values l.net l.run)
