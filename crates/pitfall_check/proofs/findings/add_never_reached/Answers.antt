use Rattle.std.proofs.lemmas.List.{get_or_default}
use Rattle.std.proofs.Common.{◌≡◌, ◌==◌, ◌∙◌, ◌<◌, ◌*◌, ◌+◌, ◌^◌, sym, subst, refl, ap, length, arith}
use Rattle.pitfall_check.specs.declared.finding.Finding.TheVariants.{NeverReached}
use Rattle.pitfall_check.specs.inside.PartialFindings.{AreFindingsBelow}
use Rattle.pitfall_check.proofs.ReachLemmas.{tells_never_reached}
use Rattle.pitfall_check.proofs.ListingLemmas.{AreFindingsBelow-step, AreFindingsBelow-next, AreFindings-below}
use Rattle.pitfall_check.proofs.findings.add_never_reached.Goals as goal

pub loop-task-preserved : goal.loop-task-preserved
loop-task-preserved c =
    let net = c.args.net.now in
    let marks = c.in_ok-marks.marks.items in
    let task = c.loop-task.task in
    let marked = c.in_ok-marks.ensures in
    let rows = ap length c.tasks.ensures.rows in
    let few : task < 2 ^ 32 = omega arith in
    let in_range : task < length net.tasks = omega arith in
    let here = c.index.ensures ∙ get_or_default marks task c.index.result.now 0 (omega (arith, in_range, marked.size)) in
    let tells = tells_never_reached net marks (length net.tasks) task (c.index.result.now == 0) (omega arith) marked in_range (ap (λ m. m == 0) here) in
    subst (AreFindingsBelow net (4 * 2 ^ 32 + (task + 1))) (sym c.in_ok-add_where.ensures)
    (AreFindingsBelow-step net c.loop-task.findings (NeverReached task) (c.index.result.now == 0) (4 * 2 ^ 32 + task) (4 * 2 ^ 32 + (task + 1))
    c.loop-task.invariant c.tasks.ensures.well_formed refl (omega arith) few tells)

pub returns : goal.returns
returns c =
    let rows = ap length c.tasks.ensures.rows in
    let counted : c.loop-task.task ≡ length c.args.net.now.tasks = omega arith in
    AreFindings-below c.args.net.now c.loop-task.findings c.tasks.ensures.well_formed
    (AreFindingsBelow-next c.args.net.now c.loop-task.findings 4 c.loop-task.task c.loop-task.invariant c.tasks.ensures.well_formed (omega arith) counted)
