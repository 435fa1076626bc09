-- What goes to the threads that add to books of sums and step there.
use denote.Param.Send.{IsSend, IsSync, sendable}
use denote.Struct.Field as field
use Rattle.std.proofs.Crossing.{crosses, frees}
use Rattle.std.proofs.alloc.Global.TheSendSync as heap
use Rattle.std.proofs.option.Option.TheSendSync as option
use Rattle.async_tasks.proofs.Crossing.{seat_send, pass_send, book_sync}
use Rattle.async_tasks.specs.contracts.book.AsyncBook as async_book
use Rattle.async_tasks.specs.contracts.pass.Pass as pass
use Rattle.async_trials.specs.contracts.add_to.AddTo as add_to
use Rattle.async_trials.specs.contracts.add_to.AddToAsyncWork.TheImpl as work
use Rattle.async_tasks.specs.contracts.seat.AsyncSeat as seat
use Rattle.async_trials.specs.contracts.crowds.Crowd as crowd
use Rattle.async_trials.specs.contracts.crowds.Side as side

-- what crosses threads of the fields of work and of a progress
ruleset fields = (crosses, frees, heap.the_field_send, heap.the_field_sync, heap.the_send, heap.the_sync, option.the_send, option.the_sync, sendable)

work_send : IsSend add_to.the_row
work_send = search fields depth 60 fits 20000

work_sync : IsSync add_to.the_row
work_sync = search fields depth 60 fits 20000

pub pass_crosses : IsSend (pass.the_row add_to.the_row (field.u64-field).row work.ghosts)
pass_crosses = pass_send add_to.the_row (field.u64-field).row work.ghosts work_send work_sync (search sendable) (search sendable)

book_shared : IsSync (async_book.the_row add_to.the_row (field.u64-field).row work.ghosts)
book_shared = book_sync add_to.the_row (field.u64-field).row work.ghosts work_send work_sync (search sendable) (search sendable)

pub seat_crosses : IsSend (seat.the_row add_to.the_row (field.u64-field).row work.ghosts)
seat_crosses = seat_send add_to.the_row (field.u64-field).row work.ghosts work_send work_sync (search sendable) (search sendable)

pub crowd_shared : IsSync crowd.the_row
crowd_shared = search (book_shared, fields) depth 60 fits 20000

pub side_crosses : IsSend side.the_row
side_crosses = search (pass_crosses, seat_crosses, fields) depth 60 fits 20000
