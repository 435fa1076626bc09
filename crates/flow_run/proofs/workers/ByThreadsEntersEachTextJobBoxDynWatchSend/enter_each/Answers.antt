use denote.Exit.{no}
use denote.Param.Send.{param_send, arg_send, param_sync}
use denote.Param.Sent.{code_send}
use denote.Param.Object.{Vt, ghosts_of}
use Rattle.std.specs.contracts.dyn_box.DynBox as dyn_box
use Rattle.std.specs.contracts.alloc.Global as heap
use Rattle.std.specs.contracts.impls.GlobalAllocator.TheImpl as allocator
use Rattle.std.proofs.Crossing.{dyn_box_send}
use Rattle.flow_run.specs.contracts.workers.ByThreadsEntersEachTextJobBoxDynWatchSend.enter_each.dyn-1 as watch
use Rattle.flow_run.proofs.Crossing.{seat_crosses, crew_shared}
use Rattle.flow_run.proofs.workers.ByThreadsEntersEachTextJobBoxDynWatchSend.enter_each.Goals as goal

pub for_each_mut-requires-send-T : goal.for_each_mut-requires-send-T
for_each_mut-requires-send-T g c κs within =
    let slots = watch.slots g.row.R in
    let table = Vt slots g.dyn-1.0 in
    let members = ghosts_of slots g.dyn-1.0 g.dyn-1.1 in
    param_send 1 _ (arg_send _ no _ (seat_crosses (dyn_box.the_row table heap.the_row members allocator.ghosts) (dyn_box_send table members g.dyn-1.2 (code_send _ _ _))))

pub for_each_mut-requires-sync-R : goal.for_each_mut-requires-sync-R
for_each_mut-requires-sync-R g c κs within = param_sync 0 g.row.R (record { shared = c.requires.sync.shared })

-- The thread's closure has a crew and the handle by reference.
pub for_each_mut-requires-sync-F : goal.for_each_mut-requires-sync-F
for_each_mut-requires-sync-F g c κs within =
    record { shared = λ x b o κ. ((((λ q. tt), crew_shared.shared x.0.now _ _ κs.1.1.1.1.1.1.0), (((λ q. tt), c.requires.sync.shared _ _ _ _), tt)), λ q. tt) }
