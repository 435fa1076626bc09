use Rattle.text_ops.specs.inside.KeySlots.{AreFilled}
use Rattle.text_ops.proofs.key_slots.filled_slots.Given as goal

abbrev pub invariant-loop-row : goal.invariant-loop-row
invariant-loop-row g l = AreFilled l.text l.rows l.slots.items l.row
