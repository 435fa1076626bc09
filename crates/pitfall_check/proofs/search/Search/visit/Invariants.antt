use Rattle.std.proofs.Common.{◌≡◌, ◌+◌, ◌*◌, false, length}
use Rattle.std.specs.List.{count_by}
use Rattle.pitfall_check.specs.inside.SearchRules.{IsSearch, OnlySeesMore, is_unseen, progress_of}
use Rattle.pitfall_check.proofs.search.Search.visit.Given as goal

abbrev pub invariant-loop-task : goal.invariant-loop-task
invariant-loop-task l = record {
  search : IsSearch l.net l.self.states.items l.self.cursors.items l.self.path.items l.self.order.items;
  seen : is_unseen (progress_of l.self.states.items l.root) ≡ false;
  more : OnlySeesMore l.fn.self.states.items l.self.states.items;
}

abbrev pub decreases-loop-task : goal.decreases-loop-task
decreases-loop-task l = 2 * count_by is_unseen l.self.states.items + length l.self.path.items
