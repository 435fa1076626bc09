use Rattle.std.proofs.Common.{◌≡◌, ◌∙◌, length, rules, sym, ap, subst, arith}
use denote.Exit.{no}
use denote.Param.Send.{param_send, arg_send, param_sync}
use Rattle.desk_book.specs.Desks.{ArePassesOf, IsPassOf}
use Rattle.desk_trials.proofs.ManyPasses.{pass_at, passes_after, written}
use Rattle.desk_trials.proofs.TickCrossing.{pass_crosses, desk_shared}
use Rattle.test_desk.proofs.book_callers.by_threads.Goals as goal

pub for_each_mut-requires-send-T : goal.for_each_mut-requires-send-T
for_each_mut-requires-send-T g c κs within = param_send 1 _ (arg_send _ no _ pass_crosses)

pub for_each_mut-requires-sync-R : goal.for_each_mut-requires-sync-R
for_each_mut-requires-sync-R g c κs within = param_sync 0 g.row.R (record { shared = c.type_bounds.sync-R.shared })

-- The thread's closure has a desk and the handle by reference.
pub for_each_mut-requires-sync-F : goal.for_each_mut-requires-sync-F
for_each_mut-requires-sync-F g c κs within =
    record { shared = λ x b o κ. ((((λ q. tt), c.type_bounds.sync-R.shared _ _ _ _), (((λ q. tt), desk_shared.shared x.1.now _ _ _), tt)), λ q. tt) }

pub for_each_mut-requires-clause-accepts : goal.for_each_mut-requires-clause-accepts
for_each_mut-requires-clause-accepts g c κs within i p below same =
    subst (IsPassOf c.args.desk.now) (sym same) (pass_at c.args.desk.now c.deref_mut.result.now i p.now (subst (ArePassesOf c.args.desk.now) (sym c.deref_mut.ensures.value) c.requires) below)

pub returns : goal.returns
returns g c =
    let desk = c.args.desk.now in
    let items = c.args.passes.now.items in
    let lent = c.deref_mut.result.now in
    let own = subst (ArePassesOf desk) (sym c.deref_mut.ensures.value) c.requires in
    let after = passes_after desk lent c.for_each_mut.new.s own c.for_each_mut.auto.s (λ i d below. let h = c.for_each_mut.ensures i d below in search rules) in
    let count : c.args.passes.now.len ≡ length items = omega (arith, c.args.passes.now.ok.0) in
    subst (ArePassesOf desk) (sym (written c.args.passes.now.len c.for_each_mut.new.s items count (c.for_each_mut.auto.s ∙ ap length c.deref_mut.ensures.value))) after
