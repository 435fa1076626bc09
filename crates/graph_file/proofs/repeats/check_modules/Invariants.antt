use Rattle.std.proofs.Common.{[], take}
use Rattle.graph_file.specs.PlanText.{add_module_name}
use Rattle.graph_file.specs.inside.Lookups.{HasPlaces}
use Rattle.graph_drafts.specs.inside.Reading.{draft_rows}
use Rattle.graph_file.proofs.RepeatLemmas.{graph_names_now}
use Rattle.graph_drafts.proofs.WalkLemmas.{GoesOn}
use Rattle.graph_file.proofs.repeats.check_modules.Given as goal

abbrev pub invariant-loop-place : goal.invariant-loop-place
invariant-loop-place l = record {
  places : HasPlaces l.places (take l.place (graph_names_now l.modules));
  walked : GoesOn draft_rows add_module_name [] l.modules l.place (take l.place (graph_names_now l.modules));
}
