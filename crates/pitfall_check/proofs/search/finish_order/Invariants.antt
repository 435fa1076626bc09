use Rattle.std.proofs.Common.{◌≡◌, ℕ, ◌<◌, [], false}
use Rattle.pitfall_check.specs.inside.SearchRules.{IsSearch, is_unseen, progress_of}
use Rattle.pitfall_check.proofs.search.finish_order.Given as goal

abbrev pub invariant-loop-task : goal.invariant-loop-task
invariant-loop-task l = record {
  search : IsSearch l.net l.search.states.items l.search.cursors.items l.search.path.items l.search.order.items;
  path : l.search.path.items ≡ [];
  seen : (t : ℕ) → t < l.task → is_unseen (progress_of l.search.states.items t) ≡ false;
}
