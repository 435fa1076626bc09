use Rattle.std.proofs.Common.{◌≤◌, length, ap, arith}
use Rattle.pitfall_check.proofs.SearchLemmas.{IsFullOrder-all}
use Rattle.pitfall_check.proofs.search.finish_order.Goals as goal

pub returns : goal.returns
returns c =
    let search = c.loop-task.search in
    let kept = c.loop-task.invariant in
    let rows = ap length c.tasks.ensures.rows in
    let all : length c.args.net.now.tasks ≤ c.loop-task.task = omega arith in
    IsFullOrder-all c.args.net.now search.states.items search.cursors.items search.path.items search.order.items c.loop-task.task kept.search kept.path all kept.seen
