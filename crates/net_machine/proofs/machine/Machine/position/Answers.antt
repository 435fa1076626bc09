use Rattle.net_machine.proofs.Keeping.{position_of, small_journal}
use Rattle.net_machine.proofs.machine.Machine.position.Goals as goal

pub new-requires : goal.new-requires
new-requires c = rw (c.deref.ensures, c.as_slice.ensures) (position_of _ _ _ _ _ _ c.self.invariant (rw c.as_slice.ensures at (small_journal _ c.as_slice.type_inv)))
