-- What is parked and what may be taken up may go to other threads, where its values may be shared.
use denote.RattleType.{RattleType}
use denote.Param.Send.{IsSend, IsSync, sendable}
use Rattle.std.proofs.Crossing.{crosses, frees}
use Rattle.std.proofs.alloc.Global.TheSendSync as heap
use Rattle.std.proofs.option.Option.TheSendSync as option
use Rattle.atomic_table.proofs.shared.Seat.TheSendSync as seat
use Rattle.atomic_table.proofs.shared.Shared.TheSendSync as shared
use Rattle.atomic_table.proofs.send_lease.SendLease.TheSendSync as lease
use Rattle.boxcar.proofs.tag.Tag.TheSendSync as tag
use Rattle.join_tables.proofs.Crossing as turns
use Rattle.join_tables.specs.contracts.turns.Fresh as fresh
use Rattle.join_tables.specs.contracts.turns.Turn as turn
use Rattle.semaphore_turns.specs.contracts.parked_turn.ParkedTurn as parked_turn
use Rattle.semaphore_turns.specs.contracts.ready_kind.ReadyKind as ready_kind
use Rattle.semaphore_turns.specs.contracts.ready_turn.ReadyTurn as ready_turn

ruleset tables = (crosses, frees, heap.the_field_send, heap.the_field_sync, heap.the_send, heap.the_sync, option.the_send, option.the_sync, seat.the_send, shared.the_send, shared.the_sync, lease.the_send, lease.the_sync, tag.the_send, tag.the_sync, sendable)

module _ (V : RattleType) (sv : IsSend V) (yv : IsSync V) where
  turn_send : IsSend (turn.the_row V)
  turn_send = turns.turn_send V sv yv

  pub parked_send : IsSend (parked_turn.the_row V)
  parked_send = search (turn_send, tables) depth 60 fits 20000

  fresh_send : IsSend (fresh.the_row V)
  fresh_send = turns.fresh_send V sv yv

  kind_send : IsSend (ready_kind.the_row V)
  kind_send = search (fresh_send, turn_send, tables) depth 60 fits 20000

  pub ready_send : IsSend (ready_turn.the_row V)
  ready_send = record { owned = λ x vs w. ((λ parts. (tt, (kind_send.owned w.0.kind vs, tt))), tt); leaving = λ k d w. tt }
