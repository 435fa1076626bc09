use Rattle.std.proofs.Common.{length}
use Rattle.worker_seat.specs.inside.Runs.{AreIn}
use Rattle.worker_seat.specs.inside.SeatPlaces.{IsSameOwner}
use Rattle.worker_seat.proofs.steps.Shift.push_others.Given as goal

abbrev pub invariant-loop-released : goal.invariant-loop-released
invariant-loop-released g l = IsSameOwner l.initial.owner l.owner × AreIn l.fn.frame.frames l.released.items

abbrev pub decreases-loop-released : goal.decreases-loop-released
decreases-loop-released g l = length l.released.items
