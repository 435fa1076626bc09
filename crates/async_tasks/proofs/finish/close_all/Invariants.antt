use Rattle.std.proofs.Common.{◌≡◌, ◌++◌, List}
use Rattle.std.specs.Vec.{vec_len}
use Rattle.async_tasks.specs.Adds.{with_items}
use Rattle.async_tasks.specs.Passes.{PassState}
use Rattle.async_tasks.specs.Finishes.{HaveSeen, HaveTickets}
use Rattle.async_tasks.proofs.finish.close_all.Given as goal

abbrev pub invariant-loop-pass : goal.invariant-loop-pass
invariant-loop-pass g l = (l.state ≡ with_items l.initial.state l.state.items) × HaveTickets l.register l.left.items
    × ((rest : List (PassState g.row.W.Denot g.row.W-V.Denot)) × (l.initial.left.items ≡ l.left.items ++ rest) × HaveSeen l.initial.state.rows rest)

abbrev pub decreases-loop-pass : goal.decreases-loop-pass
decreases-loop-pass g l = vec_len l.left
