use Rattle.std.proofs.Common.{◌≡◌, ◌+◌}
use Rattle.span_profile.specs.Watch.{TellsOn}
use Rattle.table_runs.specs.RunKeys.{key_of}
use Rattle.table_runs.specs.Spans.{spans_done, spans_kept}
use Rattle.table_frames.specs.inside.Benches.{IsBenchOf}
use Rattle.table_frames.proofs.level.run_on.Given as goal

abbrev pub invariant-loop : goal.invariant-loop
invariant-loop g l =
    ((goal.iterator-loop g).can_next l.iterator' × (goal.iterator-loop g).is_finite l.iterator')
    × (key_of l.kept ≡ l.fn.run) × IsBenchOf g.J.Job.meaning l.fn.run l.bench
    × TellsOn g.X.Watch.told (spans_kept l.fn.kept + spans_done l.fn.bench.done) (spans_kept l.kept + spans_done l.bench.done) l.fn.watcher l.watcher
