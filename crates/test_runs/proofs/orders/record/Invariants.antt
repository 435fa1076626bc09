use Rattle.std.proofs.Common.{◌≡◌}
use Rattle.test_runs.specs.inside.Tellers.{AreIn}
use Rattle.test_runs.proofs.orders.record.Given as goal

abbrev pub invariant-loop : goal.invariant-loop
invariant-loop g l =
    ((goal.iterator-loop g).can_next l.iterator' × (goal.iterator-loop g).is_finite l.iterator')
    × (l.pending.teller.book ≡ l.fn.pending.teller.book) × AreIn l.fn.pending.teller.book l.pending.releases.items l.pending.backlog.frames
