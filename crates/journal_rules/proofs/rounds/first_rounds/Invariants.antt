use Rattle.std.proofs.Common.{◌≡◌, ℕ, ◌<◌, length, slice_index_or}
use Rattle.task_graph.specs.Net.{strong_in}
use Rattle.journal_rules.specs.declared.rounds.Round.{Round}
use Rattle.journal_rules.specs.inside.Rounds.{IsRound}
use Rattle.journal_rules.proofs.rounds.first_rounds.Given as goal

abbrev pub invariant-loop-task : goal.invariant-loop-task
invariant-loop-task l =
    (length l.rounds.items ≡ l.task) × ((t : ℕ) (d : Round) → t < l.task → IsRound l.given (strong_in l.net t) (slice_index_or l.rounds.items t d))
