use Rattle.std.proofs.Common.{◌≡◌, ℕ, ◌+◌, ◌<◌, ◌==◌, length, take, slice_index_or}
use Rattle.std.specs.Prelude.{count_by}
use Rattle.journal_rules.specs.inside.Rounds.{AreRounds}
use Rattle.journal_rules.proofs.rounds.Rounds.give.Given as goal

abbrev pub invariant-loop-edge : goal.invariant-loop-edge
invariant-loop-edge l = record {
  rounds : AreRounds l.net l.self;
  each : (k d : ℕ) → k < length l.fn.self.given.items → slice_index_or l.self.given.items k d ≡ slice_index_or l.fn.self.given.items k d + count_by (λ e. e == k) (take l.edge-index l.edges);
}
