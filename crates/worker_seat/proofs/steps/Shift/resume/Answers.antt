use Rattle.std.proofs.Common.{refl, arith}
use Rattle.std.proofs.lemmas.Grind.{common_steps}
use Rattle.worker_seat.proofs.WorkLemmas.{first_in, number_in, number_self, numbered, releases_in, within_same}
use Rattle.worker_seat.proofs.steps.Shift.resume.Goals as goal

pub number_of-requires-after_bounds : goal.number_of-requires-after_bounds
number_of-requires-after_bounds g c κs within =
    within_same c.args.self.now.number.now.frames c.args.work.now.backlog.frames c.index.result.now.frames c.requires.within
    (first_in c.args.work.now.backlog.frames c.args.released.items c.index.result.now c.requires.released c.index.ensures (grind (arith, common_steps)))

pub push_all-requires-clause-frame : goal.push_all-requires-clause-frame
push_all-requires-clause-frame g c κs within =
    number_self c.args.self.now.number.now c.index.result.now.frames c.in_ok-number.number c.in_ok-number.ensures

pub push_all-requires-clause-released : goal.push_all-requires-clause-released
push_all-requires-clause-released g c κs within =
    let frames = c.args.work.now.backlog.frames in
    let here = first_in frames c.args.released.items c.index.result.now c.requires.released c.index.ensures (grind (arith, common_steps)) in
    let at = number_in c.args.self.now.number.now frames c.index.result.now c.in_ok-number.number c.in_ok-number.ensures here in
    releases_in c.args.self.now.number.now frames c.args.released.items c.in_ok-number.number at c.requires.released

pub returns-clause-work : goal.returns-clause-work
returns-clause-work g c =
    let frames = c.args.work.now.backlog.frames in
    let here = first_in frames c.args.released.items c.index.result.now c.requires.released c.index.ensures (grind (arith, common_steps)) in
    let at = number_in c.args.self.now.number.now frames c.index.result.now c.in_ok-number.number c.in_ok-number.ensures here in
    numbered c.args.self.now.number.now _ frames c.in_ok-number.number at refl refl c.requires.teller
