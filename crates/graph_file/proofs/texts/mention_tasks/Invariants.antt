use Rattle.graph_file.specs.inside.Lookups.{IsIndex}
use Rattle.graph_drafts.specs.inside.Reading.{strings}
use Rattle.graph_file.proofs.MentionLemmas.{TasksLeft}
use Rattle.graph_file.proofs.texts.mention_tasks.Given as goal

abbrev pub invariant-loop-task : goal.invariant-loop-task
invariant-loop-task l = record {
  index : IsIndex l.texts;
  left : TasksLeft (strings l.fn.texts.names) l.tasks l.task-index (strings l.texts.names);
}
