use denote.Exit.{no}
use denote.Param.Send.{param_send, arg_send}
use Rattle.async_trials.proofs.SumCrossing.{seat_crosses, crowd_shared}
use Rattle.async_trials.proofs.crowds.step_together.Goals as goal

pub for_each_mut-requires-send-T : goal.for_each_mut-requires-send-T
for_each_mut-requires-send-T g c κs within = param_send 1 _ (arg_send _ no _ seat_crosses)

-- The thread's closure has a crowd and the handle by reference.
pub for_each_mut-requires-sync-F : goal.for_each_mut-requires-sync-F
for_each_mut-requires-sync-F g c κs within =
    record { shared = λ x b o κ. ((((λ q. tt), crowd_shared.shared x.0.now _ _ _), (((λ q. tt), c.type_bounds.sync-R.shared _ _ _ _), tt)), λ q. tt) }
