-- Threads may share a yard, and what is parked may go to other threads, where its items may.
use denote.RattleType.{RattleType}
use denote.Param.Send.{IsSend, IsSync, sendable}
use Rattle.std.proofs.Crossing.{crosses, frees}
use Rattle.std.proofs.alloc.Global.TheSendSync as heap
use Rattle.std.proofs.option.Option.TheSendSync as option
use Rattle.atomic_table.proofs.shared.Seat.TheSendSync as seat
use Rattle.atomic_table.proofs.shared.Shared.TheSendSync as shared
use Rattle.atomic_table.proofs.send_lease.SendLease.TheSendSync as lease
use Rattle.semaphore_park.specs.declared.parkable.Parkable as Parkable
use Rattle.semaphore_park.specs.contracts.queue.Queue as queue
use Rattle.semaphore_park.specs.contracts.state.YardState as state
use Rattle.semaphore_park.specs.contracts.yard.ParkYard as yard

ruleset tables = (crosses, frees, heap.the_field_send, heap.the_field_sync, heap.the_send, heap.the_sync, option.the_send, option.the_sync, seat.the_send, shared.the_send, shared.the_sync, lease.the_send, lease.the_sync, sendable)

module _ (T H : RattleType) (P : Parkable.Ghosts T.Denot H.Denot) (s : IsSend T) where
  queue_send : IsSend (queue.the_row T)
  queue_send = search tables depth 60 fits 20000

  pub state_send : IsSend (state.the_row T H P)
  state_send = search (queue_send, tables) depth 60 fits 20000

  pub yard_send : IsSend (yard.the_row T H P)
  yard_send = search (state_send, tables) depth 60 fits 20000

  pub yard_sync : IsSync (yard.the_row T H P)
  yard_sync = search (state_send, tables) depth 60 fits 20000
