use Rattle.std.proofs.Common.{◌≡◌, ℕ, get_or, refl, sym, subst, arith}
use Rattle.std.proofs.lemmas.List.Elements.{Contains-get_or}
use Rattle.pitfall_check.specs.inside.Steps.{StepsBy, edges_by}
use Rattle.pitfall_check.proofs.StepLemmas.{step_by}
use Rattle.pitfall_check.proofs.EndLemmas.{ends_listed, end_at}
use Rattle.pitfall_check.proofs.SpreadLemmas.{Adds-then, Adds-weaker, ends_more, EndsAreMarked-all}
use Rattle.pitfall_check.proofs.spread.mark_ends.Goals as goal

pub of-end-items-requires : goal.of-end-items-requires
of-end-items-requires c = c.requires.ends.there c.args.task c.requires.task

pub mark_task-requires-clause-task : goal.mark_task-requires-clause-task
mark_task-requires-clause-task c =
    let way = c.args.way in
    let net = c.args.net.now in
    let are = ends_listed way net c.args.ends.now c.args.task c.of-end-items.result.now c.requires.ends c.requires.task c.of-end-items.ensures in
    let at = end_at way net c.args.task c.of-end-items.result.now c.loop-end.end-index are c.loop-end-test.true in
    omega (arith, at.in_range, c.loop-end.invariant.adds.size, c.requires.size)

pub loop-end-preserved : goal.loop-end-preserved
loop-end-preserved c =
    let way = c.args.way in
    let net = c.args.net.now in
    let one = c.in_ok-mark_task.ensures.adds in
    let place = c.loop-end.end-index in
    let end : ℕ = get_or c.of-end-items.result.now place 0 in
    let are = ends_listed way net c.args.ends.now c.args.task c.of-end-items.result.now c.requires.ends c.requires.task c.of-end-items.ensures in
    let at = end_at way net c.args.task c.of-end-items.result.now place are c.loop-end-test.true in
    let edges = edges_by way net c.args.task in
    let step = step_by way net c.args.task (get_or edges place 0) end (Contains-get_or edges place 0 at.below) at.named in
    record {
      adds = Adds-then (StepsBy way net c.args.task) c.args.mark c.args.marks.now c.loop-end.marks c.mark_task.new.marks c.args.queue.now.items c.loop-end.queue.items c.mark_task.new.queue.items c.requires.mark c.loop-end.invariant.adds
          (Adds-weaker (λ t. t ≡ end) (StepsBy way net c.args.task) c.args.mark c.loop-end.marks c.loop-end.queue.items c.mark_task.new.marks c.mark_task.new.queue.items (λ t same fresh. subst (StepsBy way net c.args.task) (sym same) step) one);
      ends = ends_more (λ t. t ≡ end) c.args.mark c.loop-end.marks c.loop-end.queue.items c.mark_task.new.marks c.mark_task.new.queue.items way net edges place end one c.loop-end.invariant.ends at.named c.in_ok-mark_task.ensures.marked;
    }

pub returns-clause-closed : goal.returns-clause-closed
returns-clause-closed c =
    let way = c.args.way in
    let net = c.args.net.now in
    let are = ends_listed way net c.args.ends.now c.args.task c.of-end-items.result.now c.requires.ends c.requires.task c.of-end-items.ensures in
    EndsAreMarked-all way net c.loop-end.marks (edges_by way net c.args.task) c.args.task c.loop-end.end-index refl (omega (arith, are.size, c.loop-end-test.false)) c.loop-end.invariant.ends
