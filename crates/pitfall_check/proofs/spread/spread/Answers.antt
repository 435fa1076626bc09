use Rattle.std.proofs.Common.{◌≡◌, ℕ, ◌<◌, ◌≤◌, List, length, ◌∙◌, subst, arith}
use Rattle.std.proofs.lemmas.List.{get_or_default}
use Rattle.pitfall_check.specs.inside.Steps.{StepsBy}
use Rattle.pitfall_check.specs.inside.MarkSpread.{Adds, EndsAreMarked}
use Rattle.pitfall_check.proofs.SpreadLemmas.{IsSpreading-begin, IsSpreading-next, IsSpread-end, queue_in_range}
use Rattle.pitfall_check.proofs.spread.spread.Goals as goal

pub loop-next-init : goal.loop-next-init
loop-next-init c =
    IsSpreading-begin c.args.way c.args.net.now c.args.root c.args.mark c.args.marks.now c.requires.mark c.mark_task.new.marks c.mark_task.new.queue.items c.requires.unmarked c.in_ok-mark_task.ensures.marked
    (subst (λ (q : List ℕ). Adds (λ t. t ≡ c.args.root) c.args.mark c.args.marks.now q c.mark_task.new.marks c.mark_task.new.queue.items) c.clear.ensures.items c.in_ok-mark_task.ensures.adds)

pub mark_ends-requires-clause-task : goal.mark_ends-requires-clause-task
mark_ends-requires-clause-task c =
    let below : c.loop-next.next < length c.loop-next.queue.items = omega arith in
    let here = c.index.ensures ∙ get_or_default c.loop-next.queue.items c.loop-next.next c.index.result.now 0 below in
    let fits = queue_in_range c.args.way c.args.net.now c.args.root c.args.mark c.args.marks.now c.loop-next.marks c.loop-next.queue.items c.loop-next.next c.loop-next.next c.requires.mark c.loop-next.invariant below in
    omega (arith, here, fits, c.loop-next.invariant.adds.size, c.requires.size)

pub loop-next-preserved : goal.loop-next-preserved
loop-next-preserved c =
    let below : c.loop-next.next < length c.loop-next.queue.items = omega arith in
    let here = c.index.ensures ∙ get_or_default c.loop-next.queue.items c.loop-next.next c.index.result.now 0 below in
    IsSpreading-next c.args.way c.args.net.now c.args.root c.args.mark c.args.marks.now c.requires.mark c.loop-next.marks c.loop-next.queue.items c.mark_ends.new.marks c.mark_ends.new.queue.items c.loop-next.next c.loop-next.invariant below
    (subst (λ t. Adds (StepsBy c.args.way c.args.net.now t) c.args.mark c.loop-next.marks c.loop-next.queue.items c.mark_ends.new.marks c.mark_ends.new.queue.items) here c.in_ok-mark_ends.ensures.adds)
    (subst (EndsAreMarked c.args.way c.args.net.now c.mark_ends.new.marks) here c.in_ok-mark_ends.ensures.closed)

pub returns : goal.returns
returns c =
    let done : length c.loop-next.queue.items ≤ c.loop-next.next = omega arith in
    IsSpread-end c.args.way c.args.net.now c.args.root c.args.mark c.args.marks.now c.requires.mark c.loop-next.marks c.loop-next.queue.items c.loop-next.next c.loop-next.invariant done
