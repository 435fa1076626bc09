use Rattle.graph_file.specs.inside.Lookups.{IsIndex}
use Rattle.graph_drafts.specs.inside.Reading.{strings}
use Rattle.graph_file.proofs.MentionLemmas.{GraphsLeft}
use Rattle.graph_file.proofs.texts.mention_graphs.Given as goal

abbrev pub invariant-loop-draft : goal.invariant-loop-draft
invariant-loop-draft l = record {
  index : IsIndex l.texts;
  left : GraphsLeft (strings l.fn.texts.names) l.drafts l.draft-index (strings l.texts.names);
}
