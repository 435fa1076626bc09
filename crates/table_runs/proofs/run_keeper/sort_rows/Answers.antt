use Rattle.std.proofs.Common.{rules}
use Rattle.std.proofs.lemmas.List.Sorted.{IsNonDecreasingBy-from_sort_by_key}
use Rattle.table_runs.specs.inside.Rows.{place_in_row}
use Rattle.table_runs.proofs.run_keeper.sort_rows.Goals as goal

pub returns-clause-sorted : goal.returns-clause-sorted
returns-clause-sorted g c = IsNonDecreasingBy-from_sort_by_key place_in_row _ c.in_ok-sort_by_key.ensures.sorted (λ a r q k. search rules)
