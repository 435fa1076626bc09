use Rattle.std.proofs.Common.{◌++◌, sym, ap, ◌∙◌, subst}
use Rattle.std.specs.Arc.{arc_value}
use Rattle.join_tables.specs.Keeping.{KeeperState}
use Rattle.table_runs.specs.inside.FateRuns.{AreAllowed}
use Rattle.table_runs.specs.RunKeys.{RunKeeperView}
use Rattle.table_runs.proofs.Keeping.{kept_more}
use Rattle.table_runs.proofs.run_keeper.RunKeeper.absorb.Goals as goal

pub invariant_of-self-2 : goal.invariant_of-self-2
invariant_of-self-2 g c =
    let J = g.row.J.Denot in
    let V = g.row.J-V.Denot in
    let meaning = g.J.Job.meaning in
    let fates = c.args.done.now.batch.fates in
    let rows = c.args.done.now.inner.items in
    let own = subst (λ (j : J). AreAllowed meaning j fates rows) (sym (ap (λ (v : RunKeeperView J V). v.job) c.self.view_is)) c.requires.allowed in
    kept_more meaning (arc_value c.self.inside.job) c.self.inside.keeper.fates c.absorb.new.self.fates fates c.self.inside.inner.items c.move_rows.new.rows.items rows
    (ap (λ (k : KeeperState V). k.fates) c.in_ok-left.ensures.ok) (c.move_rows.ensures.rows ∙ ap (λ rs. rs ++ rows) c.try_reserve.ensures.items) c.self.invariant own
