use denote.Exit.{no}
use denote.Param.Send.{IsSync, param_send, arg_send, param_sync}
use Rattle.desk_trials.proofs.TickCrossing.{seat_crosses, crew_shared}
use Rattle.desk_trials.proofs.workers.ByThreadsEntersEachTickJobSpanCount.enter_each.Goals as goal

pub for_each_mut-requires-send-T : goal.for_each_mut-requires-send-T
for_each_mut-requires-send-T g c κs within = param_send 1 _ (arg_send _ no _ seat_crosses)

pub for_each_mut-requires-sync-R : goal.for_each_mut-requires-sync-R
for_each_mut-requires-sync-R g c κs within = param_sync 0 g.row.R (record { shared = c.requires.sync.shared })

-- The thread's closure has a crew and the handle by reference.
pub for_each_mut-requires-sync-F : goal.for_each_mut-requires-sync-F
for_each_mut-requires-sync-F g c κs within =
    record { shared = λ x b o κ. ((((λ q. tt), crew_shared.shared x.0.now _ _ _), (((λ q. tt), c.requires.sync.shared _ _ _ _), tt)), λ q. tt) }
