use Rattle.std.proofs.Common.{◌≡◌}
use Rattle.span_profile.specs.Watch.{TellsOn}
use Rattle.table_frames.specs.Frames.{root_job}
use Rattle.table_frames.proofs.alone.step_all.Given as goal

abbrev pub invariant-loop : goal.invariant-loop
invariant-loop g l =
    ((goal.iterator-loop g).can_next l.iterator' × (goal.iterator-loop g).is_finite l.iterator')
    × (root_job l.level.frames ≡ root_job l.fn.level.frames)
    × TellsOn g.X.Watch.told l.fn.level.spans l.level.spans l.fn.watcher l.watcher
