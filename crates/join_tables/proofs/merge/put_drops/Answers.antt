use Rattle.std.proofs.Common.{◌∙◌}
use Rattle.join_tables.proofs.Merging.{next_drop}
use Rattle.join_tables.proofs.merge.put_drops.Goals as goal

pub loop-dropping-preserved : goal.loop-dropping-preserved
loop-dropping-preserved g c =
    let next = next_drop c.loop-dropping.places.items c.put_drop.new.places.items c.pop.new.self.items c.loop-dropping.drops.items c.in-Some.dropping c.in-Some.ensures.items c.put_drop.ensures c.loop-dropping.invariant.1 in
    (next.rest ∙ c.loop-dropping.invariant.0, next.below)
