-- What of runs over tables may go to other threads, and what threads may share: of the types that it is made of, one
-- after the other, since a search for all at once gives up.
use denote.RattleType.{RattleType}
use denote.Param.Send.{IsSend, IsSync, sendable}
use Rattle.std.proofs.Crossing.{crosses, frees}
use Rattle.std.proofs.alloc.Global.TheSendSync as heap
use Rattle.std.proofs.option.Option.TheSendSync as option
use Rattle.atomic_table.proofs.shared.Seat.TheSendSync as seat
use Rattle.atomic_table.proofs.shared.Shared.TheSendSync as shared
use Rattle.atomic_table.proofs.send_lease.SendLease.TheSendSync as lease
use Rattle.boxcar.proofs.tag.Tag.TheSendSync as tag
use Rattle.run_frame.proofs.run.FrameRun.TheLaws.TheKnot as run_knot
use Rattle.run_frame.specs.contracts.run.InnerRow as inner_row
use Rattle.run_frame.specs.declared.job.Job as Job
use Rattle.join_tables.proofs.Crossing as turns
use Rattle.join_tables.specs.contracts.turns.NetTable as table
use Rattle.join_tables.specs.contracts.turns.Running as running
use Rattle.join_tables.specs.contracts.batch.SpentBatch as batch
use Rattle.join_tables.specs.contracts.keeper.Keeper as keeper
use Rattle.table_runs.specs.contracts.table_run.TableRun as table_run
use Rattle.table_runs.specs.contracts.run_keeper.RunKeeper as run_keeper
use Rattle.table_runs.specs.contracts.open_start.OpenStart as open_start
use Rattle.table_runs.specs.contracts.done_turns.DoneTurns as done_turns

-- what crosses threads without regard to jobs
ruleset tables = (crosses, frees, heap.the_field_send, heap.the_field_sync, heap.the_send, heap.the_sync, option.the_send, option.the_sync, seat.the_send, shared.the_send, shared.the_sync, lease.the_send, lease.the_sync, tag.the_send, tag.the_sync, sendable)

module _ (T V : RattleType) (J : Job.Ghosts T.Denot V.Denot) (s : IsSend T) (y : IsSync T) (sv : IsSend V) (yv : IsSync V) where
  batch_send : IsSend (batch.the_row V)
  batch_send = turns.batch_send V sv yv

  keeper_send : IsSend (keeper.the_row V)
  keeper_send = turns.keeper_send V sv yv

  table_send : IsSend (table.the_row V)
  table_send = turns.table_send V sv yv

  table_sync : IsSync (table.the_row V)
  table_sync = turns.table_sync V sv yv

  running_send : IsSend (running.the_row V)
  running_send = turns.running_send V sv yv

  row_send : IsSend (inner_row.the_row T V)
  row_send = search (run_knot.crosses, tables) depth 60 fits 20000

  pub run_keeper_send : IsSend (run_keeper.the_row T V J)
  run_keeper_send = search (keeper_send, row_send, tables) depth 60 fits 20000

  pub open_start_send : IsSend (open_start.the_row T V J)
  open_start_send = search (running_send, tables) depth 60 fits 20000

  pub run_send : IsSend (table_run.the_row T V J)
  run_send = search (table_send, tables) depth 60 fits 20000

  pub run_sync : IsSync (table_run.the_row T V J)
  run_sync = search (table_sync, tables) depth 60 fits 20000

  pub done_send : IsSend (done_turns.the_row T V)
  done_send = search (batch_send, row_send, tables) depth 60 fits 20000
