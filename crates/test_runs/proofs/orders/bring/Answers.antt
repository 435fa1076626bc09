use Rattle.std.proofs.Common.{◌≡◌, ◌++◌, sym, subst}
use Rattle.test_runs.specs.inside.Tellers.{AreIn}
use Rattle.test_runs.proofs.Tellers.{resumed}
use Rattle.test_runs.proofs.orders.bring.Goals as goal

pub returns-in_ok-add-in-Resumed-clause-on : goal.returns-in_ok-add-in-Resumed-clause-on
returns-in_ok-add-in-Resumed-clause-on g c =
    let book = c.args.pending.now.teller.book in
    let old = c.args.pending.now in
    let new = c.bring.new.backlog in
    let released = c.in-Resumed.released in
    let are = resumed book _ old.releases.items old.backlog.frames old.backlog.fates new c.in_ok-state.field-0 c.requires.book c.in_ok-state.ensures.ok released c.in-Resumed.is in
    let added : c.add.new.releases.items ≡ old.releases.items ++ released.items = c.in_ok-add-in-Resumed.ensures in
    subst (λ items. AreIn book items new.frames) (sym added) are
