use Rattle.std.proofs.Common.{[], map}
use Rattle.json_values.specs.inside.View.{view}
use Rattle.graph_drafts.specs.FileText.{add_module}
use Rattle.graph_drafts.specs.inside.Reading.{draft_rows}
use Rattle.graph_drafts.proofs.WalkLemmas.{GoesOn}
use Rattle.graph_drafts.proofs.file.read_modules.Given as goal

abbrev pub invariant-loop-value : goal.invariant-loop-value
invariant-loop-value l = GoesOn view (add_module l.version) [] l.values l.value-index (map draft_rows l.modules.items)
