use Rattle.net_machine.proofs.machine.Machine.rounds.Goals as goal

pub rounds_left-requires-clause-few : goal.rounds_left-requires-clause-few
rounds_left-requires-clause-few c = rw c.deref.ensures (rw (c.position.ensures, ← c.self.view_is) at c.releases.ensures.few)

pub returns : goal.returns
returns c = rw (← c.self.view_is) ((rw c.deref.ensures at c.rounds_left.ensures) _ (rw (c.position.ensures, ← c.self.view_is) at c.releases.ensures.counted))
