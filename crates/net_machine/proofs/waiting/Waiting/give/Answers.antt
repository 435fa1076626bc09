use Rattle.net_machine.proofs.WaitingLemmas.{tells_end}
use Rattle.net_machine.proofs.waiting.Waiting.give.Goals as goal

pub returns : goal.returns
returns c = λ net journal start inner tells here. tells_end net journal start c.args.gives.now inner c.args.place _ _ tells here c.put_each.ensures.len c.put_each.ensures.each
