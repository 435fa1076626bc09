use Rattle.std.proofs.Common.{length}
use Rattle.worker_seat.specs.inside.Runs.{AreIn}
use Rattle.worker_seat.specs.inside.SeatPlaces.{IsSameOwner}
use Rattle.worker_seat.proofs.steps.Shift.push_all.Given as goal

abbrev pub invariant-loop-release : goal.invariant-loop-release
invariant-loop-release g l = IsSameOwner l.initial.owner l.owner × AreIn l.frame.frames l.released.items

abbrev pub decreases-loop-release : goal.decreases-loop-release
decreases-loop-release g l = length l.released.items
