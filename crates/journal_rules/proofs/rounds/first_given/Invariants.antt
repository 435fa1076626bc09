use Rattle.std.proofs.Common.{◌≡◌, ℕ, ◌<◌, length, slice_index_or}
use Rattle.journal_rules.specs.Counts.{first_tokens}
use Rattle.journal_rules.proofs.rounds.first_given.Given as goal

abbrev pub invariant-loop-row : goal.invariant-loop-row
invariant-loop-row l =
    (length l.given.items ≡ l.row-index) × ((k d : ℕ) → k < l.row-index → slice_index_or l.given.items k d ≡ first_tokens l.net k)
