use Rattle.worker_seat.proofs.WorkLemmas.{first_in, number_in, number_self, releases_in, some_below, within_same}
use Rattle.worker_seat.proofs.steps.Shift.open.Goals as goal

pub number_of-requires-after_bounds : goal.number_of-requires-after_bounds
number_of-requires-after_bounds g c κs within =
    let frames = c.requires.first.frames in
    let here = first_in frames c.args.first.items c.index.result.now c.requires.first.each c.index.ensures (some_below _ c.requires.some) in
    within_same c.args.self.now.number.now.frames frames c.index.result.now.frames c.requires.first.within here

pub push_others-requires-clause-frame : goal.push_others-requires-clause-frame
push_others-requires-clause-frame g c κs within =
    number_self c.args.self.now.number.now c.index.result.now.frames c.in_ok-number.number c.in_ok-number.ensures

pub push_others-requires-clause-released : goal.push_others-requires-clause-released
push_others-requires-clause-released g c κs within =
    let frames = c.requires.first.frames in
    let here = first_in frames c.args.first.items c.index.result.now c.requires.first.each c.index.ensures (some_below _ c.requires.some) in
    let at = number_in c.args.self.now.number.now frames c.index.result.now c.in_ok-number.number c.in_ok-number.ensures here in
    releases_in c.args.self.now.number.now frames c.args.first.items c.in_ok-number.number at c.requires.first.each
