use Rattle.net_machine.proofs.machine.Machine.ready.Goals as goal

pub ready_list-requires : goal.ready_list-requires
ready_list-requires c = rw c.deref.ensures (record { few = rw (c.position.ensures, ← c.self.view_is) at c.releases.ensures.few })

pub returns : goal.returns
returns c = rw (← c.self.view_is) ((rw c.deref.ensures at c.ready_list.ensures) _ (rw (c.position.ensures, ← c.self.view_is) at c.releases.ensures.counted))
