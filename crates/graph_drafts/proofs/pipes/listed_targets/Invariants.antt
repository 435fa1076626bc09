use Rattle.std.proofs.Common.{[], codes}
use Rattle.json_values.specs.inside.View.{view}
use Rattle.graph_drafts.specs.declared.refusals.GraphError.TheVariants.{BadField}
use Rattle.graph_drafts.specs.Contents.{whole_of}
use Rattle.graph_drafts.specs.inside.Reading.{put_each}
use Rattle.graph_drafts.proofs.WalkLemmas.{GoesOn}
use Rattle.graph_drafts.proofs.pipes.listed_targets.Given as goal

abbrev pub invariant-loop-item : goal.invariant-loop-item
invariant-loop-item l = GoesOn view (put_each (whole_of 0 1000000) (λ target. target) (BadField l.spot (codes "to"))) [] l.items l.item-index l.targets
