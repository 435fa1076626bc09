use Rattle.std.proofs.Common.{◌≡◌}
use Rattle.async_tasks.specs.Adds.{with_items}
use Rattle.async_tasks.proofs.Looking.{AreLooked}
use Rattle.async_tasks.proofs.finish.look_with_all.Given as goal

abbrev pub invariant-loop-pass : goal.invariant-loop-pass
invariant-loop-pass g l = (l.state ≡ with_items l.initial.state l.state.items) × AreLooked l.register l.initial.state.rows l.pass-index l.initial.passes l.passes
