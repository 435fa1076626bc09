use Rattle.std.proofs.Common.{◌≡◌}
use Rattle.bench.proofs.threads.register.issue_often.Given as goal

abbrev pub invariant-loop-item : goal.invariant-loop-item
invariant-loop-item l = l.book.register ≡ l.register
