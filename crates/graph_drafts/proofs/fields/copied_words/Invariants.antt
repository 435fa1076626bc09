use Rattle.std.proofs.Common.{[], codes}
use Rattle.json_values.specs.inside.View.{view}
use Rattle.graph_drafts.specs.declared.refusals.GraphError.TheVariants.{BadField}
use Rattle.graph_drafts.specs.Contents.{word_of}
use Rattle.graph_drafts.specs.inside.Reading.{put_each}
use Rattle.graph_drafts.proofs.WalkLemmas.{GoesOn}
use Rattle.graph_drafts.proofs.fields.copied_words.Given as goal

abbrev pub invariant-loop-word : goal.invariant-loop-word
invariant-loop-word l = GoesOn view (put_each word_of (λ word. word) (BadField l.spot (codes "words"))) [] l.words l.word-index l.copies
