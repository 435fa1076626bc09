use Rattle.worker_seat.proofs.WorkLemmas.{item_of, last_at, last_in}
use Rattle.worker_seat.proofs.steps.Shift.push_others.Goals as goal

pub push-requires-clause-frame : goal.push-requires-clause-frame
push-requires-clause-frame g c κs within =
    last_at c.args.self.now.number.now c.args.frame _ _ c.in-Some.release c.requires.frame c.loop-released.invariant.1 c.in-Some.ensures.items

pub returns-in-Some-pop-clause-made : goal.returns-in-Some-pop-clause-made
returns-in-Some-pop-clause-made g c =
    item_of c.args.self.now.number.now c.in-Some-pop.release c.args.frame c.requires.frame
    (last_in c.args.frame.frames _ _ c.in-Some-pop.release c.loop-released.invariant.1 c.in-Some-pop.ensures.items)
