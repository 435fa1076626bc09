use Rattle.std.proofs.Common.{◌≡◌, take}
use Rattle.graph_drafts.specs.inside.Reading.{strings}
use Rattle.graph_file.proofs.graphs.copied_names.Given as goal

abbrev pub invariant-loop-name : goal.invariant-loop-name
invariant-loop-name l = l.copies ≡ strings (take l.name-index l.names)
