-- A desk may be shared by threads, and its passes may go to them: of the types that they are made of, one after the
-- other, since a search for all at once gives up.
use denote.RattleType.{RattleType}
use denote.Param.Send.{IsSend, IsSync, sendable}
use Rattle.std.proofs.Crossing.{crosses, frees}
use Rattle.std.proofs.alloc.Global.TheSendSync as heap
use Rattle.std.proofs.option.Option.TheSendSync as option
use Rattle.atomic_table.proofs.shared.Seat.TheSendSync as seat
use Rattle.atomic_table.proofs.shared.Shared.TheSendSync as shared
use Rattle.atomic_table.proofs.send_lease.SendLease.TheSendSync as lease
use Rattle.run_frame.proofs.run.FrameRun.TheLaws.TheKnot as run_knot
use Rattle.run_frame.specs.contracts.run.FrameRun as frame_run
use Rattle.run_frame.specs.declared.job.Job as Job
use Rattle.run_frame.specs.declared.job.Valued as Valued
use Rattle.nested_runs.specs.declared.rounds.Recurs as Recurs
use Rattle.desk_book.specs.contracts.outstanding.Outstanding as outstanding
use Rattle.desk_book.specs.contracts.book.DeskBook as book
use Rattle.desk_book.specs.contracts.pass.DeskPass as pass
use Rattle.desk_book.specs.contracts.state.DeskState as state
use Rattle.desk_book.specs.contracts.desk.Desk as desk

-- what crosses threads without regard to jobs
ruleset tables = (crosses, frees, heap.the_field_send, heap.the_field_sync, heap.the_send, heap.the_sync, option.the_send, option.the_sync, seat.the_send, shared.the_send, shared.the_sync, lease.the_send, lease.the_sync, sendable)

outstanding_send : IsSend outstanding.the_row
outstanding_send = search tables depth 60 fits 20000

-- a pass is sent
pub pass_send : IsSend pass.the_row
pass_send = search (outstanding_send, tables) depth 60 fits 20000

book_send : IsSend book.the_row
book_send = search (outstanding_send, tables) depth 60 fits 20000

module _ (T V : RattleType) (R : Recurs.Ghosts T.Denot V.Denot) (J : Job.Ghosts T.Denot V.Denot) (W : Valued.Ghosts T.Denot V.Denot) (s : IsSend T) (y : IsSync T) (sv : IsSend V) (yv : IsSync V) where
  run_send : IsSend (frame_run.the_row T V)
  run_send = search (run_knot.crosses, tables) depth 60 fits 20000

  state_send : IsSend (state.the_row T V R J)
  state_send = search (book_send, run_send, tables) depth 60 fits 20000

  -- a desk is shared
  pub desk_sync : IsSync (desk.the_row T V R J W)
  desk_sync = search (state_send, outstanding_send, tables) depth 60 fits 20000
