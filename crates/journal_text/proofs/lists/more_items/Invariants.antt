use Rattle.std.proofs.Common.{◌-◌, ◌≤◌}
use Rattle.journal_text.specs.inside.Reading.{ItemsSoFar}
use Rattle.journal_text.proofs.lists.more_items.Given as goal

abbrev pub invariant-loop : goal.invariant-loop
invariant-loop g l = ItemsSoFar g.T.ListItem.read_at l.count l.fn.bytes l.fn.items l.items (l.count - l.counter) l.rest × (l.counter ≤ l.count)
