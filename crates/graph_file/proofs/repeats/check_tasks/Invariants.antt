use Rattle.std.proofs.Common.{◌≡◌, [], false, take}
use Rattle.graph_file.specs.PlanText.{add_task_name}
use Rattle.graph_file.specs.inside.Lookups.{HasPlaces}
use Rattle.graph_file.proofs.RepeatLemmas.{file_names_of, names_now}
use Rattle.graph_drafts.proofs.WalkLemmas.{GoesOn}
use Rattle.graph_file.proofs.repeats.check_tasks.Given as goal

abbrev pub invariant-loop-place : goal.invariant-loop-place
invariant-loop-place l = record {
  places : l.once ≡ false → HasPlaces l.places (take l.place (names_now l.tasks));
  walked : GoesOn file_names_of (add_task_name l.scope l.version) [] l.tasks l.place (take l.place (names_now l.tasks));
}
