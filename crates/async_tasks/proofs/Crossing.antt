-- A book of tasks may be shared by threads, and its seats and passes may go to them: of the types that they are made
-- of, one after the other, since a search for all at once gives up.
use denote.RattleType.{RattleType}
use denote.Param.Send.{IsSend, IsSync, sendable}
use Rattle.std.proofs.Crossing.{crosses, frees}
use Rattle.std.proofs.alloc.Global.TheSendSync as heap
use Rattle.std.proofs.option.Option.TheSendSync as option
use Rattle.atomic_table.proofs.shared.Seat.TheSendSync as seat
use Rattle.atomic_table.proofs.shared.Shared.TheSendSync as shared
use Rattle.atomic_table.proofs.send_lease.SendLease.TheSendSync as lease
use Rattle.boxcar.proofs.tag.Tag.TheSendSync as tag
use Rattle.ready_deques.proofs.owner.Owner.TheSendSync as owner
use Rattle.ready_deques.proofs.ready.Ready.TheSendSync as ready
use Rattle.async_tasks.specs.declared.work.AsyncWork as AsyncWork
use Rattle.async_tasks.specs.contracts.outstanding.Outstanding as outstanding
use Rattle.async_tasks.specs.contracts.pass.Pass as pass
use Rattle.async_tasks.specs.contracts.ready_task.ReadyTask as ready_task
use Rattle.async_tasks.specs.contracts.seat.AsyncSeat as async_seat
use Rattle.async_tasks.specs.contracts.state.BookState as state
use Rattle.async_tasks.specs.contracts.book.AsyncBook as async_book

-- what crosses threads without regard to work
ruleset tables = (crosses, frees, heap.the_field_send, heap.the_field_sync, heap.the_send, heap.the_sync, option.the_send, option.the_sync, seat.the_send, shared.the_send, shared.the_sync, lease.the_send, lease.the_sync, tag.the_send, tag.the_sync, sendable)

task_send : IsSend ready_task.the_row
task_send = search tables depth 60 fits 20000

module _ (T V : RattleType) (J : AsyncWork.Ghosts T.Denot V.Denot) (s : IsSend T) (y : IsSync T) (sv : IsSend V) (yv : IsSync V) where
  outstanding_send : IsSend (outstanding.the_row T V)
  outstanding_send = search tables depth 60 fits 20000

  -- a pass is sent
  pub pass_send : IsSend (pass.the_row T V J)
  pass_send = search (outstanding_send, tables) depth 60 fits 20000

  -- a seat is sent
  pub seat_send : IsSend (async_seat.the_row T V J)
  seat_send = search (outstanding_send, task_send, owner.the_send, tables) depth 60 fits 20000

  state_send : IsSend (state.the_row T V J)
  state_send = search (outstanding_send, tables) depth 60 fits 20000

  -- a book is shared
  pub book_sync : IsSync (async_book.the_row T V J)
  book_sync = search (state_send, task_send, ready.the_send, ready.the_sync, tables) depth 60 fits 20000
