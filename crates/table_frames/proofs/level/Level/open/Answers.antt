use Rattle.std.proofs.Common.{◌++◌, sym, ap, ◌∙◌, subst}
use Rattle.table_runs.specs.Attempts.{again_list}
use Rattle.table_frames.specs.inside.Around.{LevelView}
use Rattle.table_frames.specs.inside.TriedReleases.{IsInnerAt}
use Rattle.table_frames.proofs.Opening.{with_again}
use Rattle.table_frames.proofs.level.Level.open.Goals as goal

pub invariant_of-level : goal.invariant_of-level
invariant_of-level g c =
    let inner = c.args.inner in
    let running = inner.start.running in
    let bench = c.self.inside.bench in
    let of = c.self.invariant in
    let is = subst (λ (v : LevelView g.row.J.Denot). IsInnerAt g.J.Job.meaning v.frames inner) (sym c.self.view_is) c.requires in
    let added = c.add_again.ensures.made ∙ ap (λ xs. xs ++ again_list inner.again) c.reserve.ensures.items in (
      of.0,
      record {
        ready = with_again c.self.inside.run.table running.task running.cause bench.ready.items c.add_again.new.made.items inner.again is.again added of.1.ready;
        made = of.1.made;
        done = of.1.done;
        yard = of.1.yard;
      },
      of.2,
      of.3,
      of.4,
    )
