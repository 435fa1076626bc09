use Rattle.std.proofs.Common.{[]}
use Rattle.graph_drafts.specs.declared.refusals.GraphError.TheVariants.{NoSuchName}
use Rattle.graph_file.specs.inside.Reader.{put_place}
use Rattle.graph_drafts.proofs.WalkLemmas.{GoesOn}
use Rattle.graph_file.proofs.numbers.found_in.Given as goal

abbrev pub invariant-loop-name : goal.invariant-loop-name
invariant-loop-name l = GoesOn (λ s. s.now) (put_place l.places (NoSuchName l.spot l.field)) [] l.names l.name-index l.numbers
