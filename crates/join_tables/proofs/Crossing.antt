-- The turns of a table, its keeper, batches and rests may go to other threads, and a table may be shared by them: of
-- the types that they are made of, one after the other, since a search for all at once gives up.
use denote.RattleType.{RattleType}
use denote.Param.Send.{IsSend, IsSync, sendable}
use Rattle.std.proofs.Crossing.{crosses, frees, send}
use Rattle.std.proofs.alloc.Global.TheSendSync as heap
use Rattle.std.proofs.option.Option.TheSendSync as option
use Rattle.std_collections.proofs.ListMemory.Crosses.{Nodes-send}
use Rattle.std_collections.specs.contracts.linked_list.LinkedList as linked_list
use Rattle.std_collections.specs.contracts.linked_list.nodes.Nodes as list_nodes
use Rattle.std_heap.specs.contracts.Global as Heap
use Rattle.std_heap.specs.contracts.GlobalAllocator.TheImpl.{ghosts}
use Rattle.atomic_table.proofs.shared.Seat.TheSendSync as seat
use Rattle.atomic_table.proofs.shared.Shared.TheSendSync as shared
use Rattle.atomic_table.proofs.send_lease.SendLease.TheSendSync as lease
use Rattle.boxcar.proofs.tag.Tag.TheSendSync as tag
use Rattle.join_words.specs.contracts.ins.Given as given
use Rattle.join_words.specs.contracts.ins.Ins as ins
use Rattle.table_steps.specs.contracts.table_seat.TableSeat as table_seat
use Rattle.join_tables.specs.contracts.parts.Inputs as inputs
use Rattle.join_tables.specs.contracts.parts.FoundParts as found_parts
use Rattle.join_tables.specs.contracts.turns.EndedStart as ended_start
use Rattle.join_tables.specs.contracts.fates.Failure as failure
use Rattle.join_tables.specs.contracts.fates.Fate as fate
use Rattle.join_tables.specs.contracts.turns.Fresh as fresh
use Rattle.join_tables.specs.contracts.turns.Collecting as collecting
use Rattle.join_tables.specs.contracts.turns.Turn as turn
use Rattle.join_tables.specs.contracts.turns.StartTicket as start_ticket
use Rattle.join_tables.specs.contracts.turns.Running as running
use Rattle.join_tables.specs.contracts.turns.Owing as owing
use Rattle.join_tables.specs.contracts.turns.Spent as spent
use Rattle.join_tables.specs.contracts.batch.SpentBatch as spent_batch
use Rattle.join_tables.specs.contracts.keeper.Keeper as keeper
use Rattle.join_tables.specs.contracts.rests.Rest as rest
use Rattle.join_tables.specs.contracts.turns.NetTable as net_table

ruleset tables = (crosses, frees, heap.the_field_send, heap.the_field_sync, heap.the_send, heap.the_sync, option.the_send, option.the_sync, seat.the_send, shared.the_send, shared.the_sync, lease.the_send, lease.the_sync, tag.the_send, tag.the_sync, sendable)

-- the nodes of a list, at the heap
nodes_send : (T : RattleType) → IsSend T → IsSend (list_nodes.the_row T Heap.the_row ghosts)
nodes_send T s = Nodes-send T Heap.the_row ghosts s send frees

module _ (V : RattleType) (s : IsSend V) (y : IsSync V) where
  given_send : IsSend (given.the_row V)
  given_send = search (tables) depth 60 fits 20000

  parcels_send : IsSend (linked_list.the_row (given.the_row V) Heap.the_row ghosts)
  parcels_send = search (given_send, nodes_send, tables) depth 60 fits 20000

  ins_send : IsSend (ins.the_row V)
  ins_send = search (given_send, tables) depth 60 fits 20000

  seat_send : IsSend (table_seat.the_row V)
  seat_send = search (parcels_send, tables) depth 60 fits 20000

  inputs_send : IsSend (inputs.the_row V)
  inputs_send = search (ins_send, tables) depth 60 fits 20000

  found_send : IsSend (found_parts.the_row V)
  found_send = search (tables) depth 60 fits 20000

  ended_send : IsSend (ended_start.the_row V)
  ended_send = search (found_send, tables) depth 60 fits 20000

  failure_send : IsSend (failure.the_row V)
  failure_send = search (found_send, tables) depth 60 fits 20000

  fate_send : IsSend (fate.the_row V)
  fate_send = search (ended_send, failure_send, tables) depth 60 fits 20000

  pub fresh_send : IsSend (fresh.the_row V)
  fresh_send = search (seat_send, tables) depth 60 fits 20000

  pub collecting_send : IsSend (collecting.the_row V)
  collecting_send = search (seat_send, inputs_send, tables) depth 60 fits 20000

  pub turn_send : IsSend (turn.the_row V)
  turn_send = search (seat_send, inputs_send, tables) depth 60 fits 20000

  pub start_ticket_send : IsSend (start_ticket.the_row V)
  start_ticket_send = search (seat_send, inputs_send, tables) depth 60 fits 20000

  pub running_send : IsSend (running.the_row V)
  running_send = search (seat_send, inputs_send, tables) depth 60 fits 20000

  pub owing_send : IsSend (owing.the_row V)
  owing_send = search (seat_send, ended_send, parcels_send, tables) depth 60 fits 20000

  pub spent_send : IsSend (spent.the_row V)
  spent_send = search (seat_send, fate_send, tables) depth 60 fits 20000

  pub batch_send : IsSend (spent_batch.the_row V)
  batch_send = search (seat_send, fate_send, tables) depth 60 fits 20000

  pub keeper_send : IsSend (keeper.the_row V)
  keeper_send = search (seat_send, fate_send, tables) depth 60 fits 20000

  pub rest_send : IsSend (rest.the_row V)
  rest_send = search (seat_send, inputs_send, tables) depth 60 fits 20000

  pub table_send : IsSend (net_table.the_row V)
  table_send = search (parcels_send, tables) depth 60 fits 20000

  pub table_sync : IsSync (net_table.the_row V)
  table_sync = search (parcels_send, tables) depth 60 fits 20000
