use Rattle.std.proofs.Common.{length, sym, ap, ◌∙◌, subst, arith}
use Rattle.std.specs.List.Sorted.{IsStrictlyIncreasing}
use Rattle.semaphore_turns.specs.Semaphores.{taken_by}
use Rattle.semaphore_turns.proofs.HeldLists.{holds_all}
use Rattle.semaphore_turns.proofs.takes.take_units.Goals as goal

pub returns : goal.returns
returns g c =
    let i = c.loop-place.invariant in
    let list = c.takes_of-takes.ensures.list ∙ ap (taken_by c.args.net.now) (c.task.ensures ∙ sym i.same.task) in
    (i.same, holds_all c.args.net.now c.loop-place.turn c.loop-place.place (subst IsStrictlyIncreasing list c.takes_of-takes.ensures.sems.rising) (omega (arith, c.loop-place-test.false, ap length list)) i.holds)
