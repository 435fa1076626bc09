use Rattle.std.proofs.Common.{sym, subst}
use Rattle.table_runs.specs.inside.FateRuns.{AreAllowed}
use Rattle.table_runs.specs.RunKeys.{FrameKey}
use Rattle.table_runs.proofs.table_run.TableRun.keep.Goals as goal

pub absorb-requires-clause-allowed : goal.absorb-requires-clause-allowed
absorb-requires-clause-allowed g c κs within = subst (λ (k : FrameKey g.row.J.Denot). AreAllowed g.J.Job.meaning k.job c.args.done.now.batch.fates c.args.done.now.inner.items) (sym c.requires.kept) c.requires.done.allowed
