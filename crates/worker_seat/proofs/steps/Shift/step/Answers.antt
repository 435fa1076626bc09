use Rattle.worker_seat.proofs.WorkLemmas.{frame_of_item, released_of_item}
use Rattle.worker_seat.proofs.steps.Shift.step.Goals as goal

pub push_all-requires-clause-frame : goal.push_all-requires-clause-frame
push_all-requires-clause-frame g c κs within = frame_of_item c.args.self.now.number.now c.args.item c.requires.item

pub push_all-requires-clause-released : goal.push_all-requires-clause-released
push_all-requires-clause-released g c κs within =
    released_of_item c.args.self.now.number.now c.args.item _ c.requires.item c.in_ok-released.ensures.released

pub push_others-requires-clause-frame : goal.push_others-requires-clause-frame
push_others-requires-clause-frame g c κs within = frame_of_item c.args.self.now.number.now c.args.item c.requires.item

pub push_others-requires-clause-released : goal.push_others-requires-clause-released
push_others-requires-clause-released g c κs within =
    released_of_item c.args.self.now.number.now c.args.item _ c.requires.item c.in_ok-released.ensures.released
