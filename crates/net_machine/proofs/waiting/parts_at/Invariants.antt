use Rattle.std.proofs.Common.{◌≡◌, map, slice_index_or, take}
use Rattle.journal_rules.specs.declared.entry.Part.TheVariants.{Nothing}
use Rattle.net_machine.proofs.waiting.parts_at.Given as goal

abbrev pub invariant-loop-at : goal.invariant-loop-at
invariant-loop-at l = l.list ≡ map (λ at. slice_index_or l.parts at Nothing) (take l.at-index l.places)
