use Rattle.std.proofs.Common.{◌≡◌, ◌+◌, ◌-◌, length}
use Rattle.text_ops.specs.inside.Slots.{first_slot}
use Rattle.text_ops.specs.inside.KeySlots.{found, look_up}
use Rattle.text_ops.proofs.key_slots.look_up.Given as goal

abbrev pub invariant-loop-probe : goal.invariant-loop-probe
invariant-loop-probe g l = found l.text l.rows l.slots l.key (16 - l.probe) (first_slot l.key (length l.slots) + l.probe) ≡ look_up l.text l.rows l.slots l.key
