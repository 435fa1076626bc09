use Rattle.std.proofs.Common.{◌≡◌, map, slice_index, take, fold, min}
use Rattle.journal_rules.proofs.slots.lowest.Given as goal

abbrev pub invariant-loop-at : goal.invariant-loop-at
invariant-loop-at l = l.least ≡ fold min l.number (map (λ at. slice_index l.counts at) (take l.at-index l.places))
