use Rattle.std.proofs.Common.{rules, ◌≡◌, ◌++◌, sym, subst}
use Rattle.test_runs.specs.inside.Tellers.{AreIn}
use Rattle.test_runs.proofs.Tellers.{added, after_step, opened}
use Rattle.test_runs.proofs.orders.take_step_of.Goals as goal

pub returns-in-Inner-clause-on : goal.returns-in-Inner-clause-on
returns-in-Inner-clause-on g c =
    let book = c.args.pending.now.teller.book in
    let old = c.args.pending.now in
    let new = c.step.new.backlog in
    let stepped = c.in_ok-released.field-0 in
    let steps = c.in_ok-released.ensures.ok in
    let made : c.add.new.releases.items ≡ old.releases.items ++ stepped.released.items = search rules in
    let are = after_step book _ old.releases.items c.args.release old.backlog new stepped c.requires.book steps in
    let after : AreIn book c.add.new.releases.items new.frames = subst (λ items. AreIn book items new.frames) (sym made) are in
    let opens = opened book _ c.add.new.releases.items c.args.release old.backlog new stepped c.in-Inner.first c.requires.book.backlog after steps c.in-Inner.is in
    added book c.add-in-Inner.result (c.add.new.releases.items ++ c.in-Inner.first.items) c.add-in-Inner.new.releases.items new.frames opens c.add-in-Inner.ensures
