use Rattle.std.proofs.Common.{◌≡◌, ◌==◌, take, slice_index}
use Rattle.std.specs.Prelude.{count_by}
use Rattle.journal_rules.proofs.slots.count_at.Given as goal

abbrev pub invariant-loop-at : goal.invariant-loop-at
invariant-loop-at l = l.found ≡ count_by (λ at. slice_index l.counts at == l.number) (take l.at-index l.places)
