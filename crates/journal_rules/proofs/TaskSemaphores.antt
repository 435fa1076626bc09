-- The semaphores that a task takes or puts are the net's.
use Rattle.std.proofs.Common.{◌≡◌, ℕ, ◌<◌, true, false, length, Option, Some, None, refl, IsTrue}
use Rattle.std.specs.Prelude.{◌==◌, slice_get}
use Rattle.std.specs.Option.{option_map_or}
use Rattle.std.specs.List.{list_any}
use Rattle.std.proofs.lemmas.Bool.{false≢true}
use Rattle.task_graph.specs.NetRows.{NetRows}
use Rattle.task_graph.specs.Net.{IsNet, IsTaskOf}
use Rattle.task_graph.specs.declared.net.TaskRow.{TaskRow}
use Rattle.journal_rules.specs.SemaphoreRule.{takes, puts}
use Rattle.journal_rules.proofs.UnitLaws.{named_in_range}
use Rattle.journal_rules.proofs.NetLemmas.{at_place}

pub takes_in_range : (net : NetRows) (s t : ℕ) → IsNet net → IsTrue (takes net s t) → s < length net.sems
takes_in_range net s t rows is = by_row (slice_get net.tasks t) refl is
  where
    by_row : (row : Option TaskRow) → slice_get net.tasks t ≡ row → option_map_or (λ (r : TaskRow). list_any (λ x. x == s) r.takes) row false ≡ true → s < length net.sems
    by_row None stands among = absurd (false≢true among)
    by_row (Some row) stands among = named_in_range net row.takes s (at_place (IsTaskOf net) net.tasks t row rows.tasks stands).takes among

pub puts_in_range : (net : NetRows) (s t : ℕ) → IsNet net → IsTrue (puts net s t) → s < length net.sems
puts_in_range net s t rows is = by_row (slice_get net.tasks t) refl is
  where
    by_row : (row : Option TaskRow) → slice_get net.tasks t ≡ row → option_map_or (λ (r : TaskRow). list_any (λ x. x == s) r.puts) row false ≡ true → s < length net.sems
    by_row None stands among = absurd (false≢true among)
    by_row (Some row) stands among = named_in_range net row.puts s (at_place (IsTaskOf net) net.tasks t row rows.tasks stands).puts among
