use Rattle.std.proofs.Common.{rules}
use Rattle.std.proofs.lemmas.List.Sorted.{IsNonDecreasingBy-from_sort_by_key}
use Rattle.grain_tasks.specs.inside.Folding.{begin_of}
use Rattle.grain_tasks.proofs.reduce.sort_parts.Goals as goal

pub returns-clause-sorted : goal.returns-clause-sorted
returns-clause-sorted g c = IsNonDecreasingBy-from_sort_by_key begin_of _ c.in_ok-sort_by_key.ensures.sorted (λ a r q k. search rules)
