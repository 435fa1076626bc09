use Rattle.std.proofs.Common.{[]}
use Rattle.json_values.specs.inside.View.{view}
use Rattle.graph_drafts.specs.declared.refusals.GraphError.TheVariants.{BadField}
use Rattle.graph_drafts.specs.Contents.{name_of}
use Rattle.graph_drafts.specs.inside.Reading.{put_each, strings}
use Rattle.graph_drafts.proofs.WalkLemmas.{GoesOn}
use Rattle.graph_drafts.proofs.fields.listed_names.Given as goal

abbrev pub invariant-loop-item : goal.invariant-loop-item
invariant-loop-item l = GoesOn view (put_each name_of (λ name. name) (BadField l.spot l.field)) [] l.items l.item-index (strings l.names)
