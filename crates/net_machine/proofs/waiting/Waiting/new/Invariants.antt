use Rattle.std.proofs.Common.{◌≡◌, ℕ, ◌<◌, [], length, slice_index_or}
use Rattle.journal_rules.specs.declared.entry.Part.{Part}
use Rattle.journal_rules.specs.Waiting.{waiting}
use Rattle.net_machine.proofs.waiting.Waiting.new.Given as goal

abbrev pub invariant-loop-row : goal.invariant-loop-row
invariant-loop-row l =
    (length l.parts.items ≡ l.row-index) × ((k : ℕ) (d : Part) → k < l.row-index → slice_index_or l.parts.items k d ≡ waiting l.net k [])
