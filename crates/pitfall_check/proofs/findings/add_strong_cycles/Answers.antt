use Rattle.std.proofs.Common.{◌<◌, ◌*◌, ◌+◌, ◌^◌, sym, subst, refl, ap, length, arith}
use Rattle.pitfall_check.specs.declared.finding.Finding.TheVariants.{StrongCycle}
use Rattle.pitfall_check.specs.inside.PartialFindings.{AreFindingsBelow}
use Rattle.pitfall_check.proofs.ListingLemmas.{AreFindingsBelow-step, AreFindingsBelow-next}
use Rattle.pitfall_check.proofs.findings.add_strong_cycles.Goals as goal

pub loop-task-preserved : goal.loop-task-preserved
loop-task-preserved c =
    let few : c.loop-task.task < 2 ^ 32 = omega arith in
    subst (AreFindingsBelow c.args.net.now (3 * 2 ^ 32 + (c.loop-task.task + 1))) (sym c.in_ok-add_where.ensures)
    (AreFindingsBelow-step c.args.net.now c.loop-task.findings (StrongCycle c.loop-task.task) c.is_on_cycle-holds.result (3 * 2 ^ 32 + c.loop-task.task) (3 * 2 ^ 32 + (c.loop-task.task + 1))
    c.loop-task.invariant c.tasks.ensures.well_formed refl (omega arith) few c.is_on_cycle-holds.ensures)

pub returns : goal.returns
returns c = AreFindingsBelow-next c.args.net.now c.loop-task.findings 3 c.loop-task.task c.loop-task.invariant c.tasks.ensures.well_formed (omega arith) (let counted = ap length c.tasks.ensures.rows in omega arith)
