use Rattle.std.proofs.Common.{◌≡◌, []}
use Rattle.span_book.specs.SpanBooks.{name_of}
use Rattle.test_runs.specs.inside.Tellers.{AreIn}
use Rattle.test_runs.proofs.orders.go_on.Given as goal

abbrev pub invariant-loop-step : goal.invariant-loop-step
invariant-loop-step g l =
    (l.pending.backlog.frames ≡ []) × (l.pending.teller.book ≡ name_of l.book) × AreIn l.pending.teller.book l.pending.releases.items []
