use Rattle.std.proofs.Common.{◌≡◌, length, map, take}
use Rattle.graph_plans.specs.PlanRows.{graph_rows}
use Rattle.graph_file.specs.PlanText.{graphs_with}
use Rattle.graph_drafts.specs.inside.Reading.{draft_rows, strings}
use Rattle.graph_file.proofs.graphs.graphs_with.Given as goal

abbrev pub invariant-loop-draft : goal.invariant-loop-draft
invariant-loop-draft l = record {
  counted : length l.graphs ≡ length l.yielded;
  made : map graph_rows l.graphs ≡ graphs_with (strings l.modules.names) (strings l.texts.names) (take (length l.yielded) (map draft_rows l.fn.drafts.items)) (take (length l.yielded) l.numbers);
}
