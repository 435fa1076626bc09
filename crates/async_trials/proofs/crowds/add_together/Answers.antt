use Rattle.std.proofs.Common.{rules, sym, subst}
use Rattle.async_tasks.specs.AsyncBooks.{IsPassOf}
use denote.Exit.{no}
use denote.Param.Send.{param_send, arg_send}
use Rattle.async_trials.proofs.ManyPasses.{pass_at, passes_after}
use Rattle.async_trials.proofs.SumCrossing.{pass_crosses, crowd_shared}
use Rattle.async_trials.proofs.crowds.add_together.Goals as goal

pub for_each_mut-requires-send-T : goal.for_each_mut-requires-send-T
for_each_mut-requires-send-T g c κs within = param_send 1 _ (arg_send _ no _ pass_crosses)

-- The thread's closure has a crowd and the handle by reference.
pub for_each_mut-requires-sync-F : goal.for_each_mut-requires-sync-F
for_each_mut-requires-sync-F g c κs within =
    record { shared = λ x b o κ. ((((λ q. tt), crowd_shared.shared x.0.now _ _ _), (((λ q. tt), c.type_bounds.sync-R.shared _ _ _ _), tt)), λ q. tt) }

pub for_each_mut-requires-clause-accepts : goal.for_each_mut-requires-clause-accepts
for_each_mut-requires-clause-accepts g c κs within i p below same =
    subst (IsPassOf c.args.crowd.now.book) (sym same) (pass_at c.args.crowd.now.book c.args.passes.now i p.now c.requires below)

pub returns : goal.returns
returns g c = passes_after c.args.crowd.now.book c.args.passes.now c.for_each_mut.new.s c.requires c.for_each_mut.auto.s (λ i d below. let h = c.for_each_mut.ensures i d below in search rules)
