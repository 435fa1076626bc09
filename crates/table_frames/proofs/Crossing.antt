-- What of frames may go to other threads, and what threads may share: of the types that it is made of, one after the
-- other, since a search for all at once gives up.
use denote.RattleType.{RattleType}
use denote.Param.Send.{IsSend, IsSync, sendable}
use denote.Param.SendFields.{declared_send}
use Rattle.std.proofs.Crossing.{crosses, frees}
use Rattle.std.proofs.alloc.Global.TheSendSync as heap
use Rattle.std.proofs.option.Option.TheSendSync as option
use Rattle.atomic_table.proofs.shared.Seat.TheSendSync as seat
use Rattle.atomic_table.proofs.shared.Shared.TheSendSync as shared
use Rattle.atomic_table.proofs.send_lease.SendLease.TheSendSync as lease
use Rattle.boxcar.proofs.tag.Tag.TheSendSync as tag
use Rattle.run_frame.specs.declared.job.Job as Job
use Rattle.run_frame.specs.declared.job.Valued as Valued
use Rattle.join_tables.proofs.Crossing as turns
use Rattle.join_tables.specs.contracts.turns.Fresh as fresh
use Rattle.join_tables.specs.contracts.turns.NetTable as table
use Rattle.semaphore_park.proofs.Crossing as yards
use Rattle.semaphore_park.specs.contracts.yard.ParkYard as yard
use Rattle.semaphore_turns.proofs.Crossing as units
use Rattle.semaphore_turns.specs.contracts.parked_turn.ParkedTurn as parked_turn
use Rattle.semaphore_turns.specs.contracts.parked_turn.ParkedTurnParkable.TheImpl as parkable
use Rattle.semaphore_turns.specs.contracts.ready_turn.ReadyTurn as ready_turn
use Rattle.span_book.proofs.Crossing as spans
use Rattle.table_runs.proofs.Crossing as runs
use Rattle.table_runs.specs.contracts.table_run.TableRun as table_run
use Rattle.table_runs.specs.contracts.run_keeper.RunKeeper as run_keeper
use Rattle.table_runs.specs.contracts.open_start.OpenStart as open_start
use Rattle.table_frames.specs.contracts.locked_run.LockedRun as locked_run
use Rattle.table_frames.specs.contracts.locked_run.LockedRun.TheInside as locked_inside
use Rattle.table_runs.specs.contracts.done_turns.DoneTurns as done_turns
use Rattle.table_frames.specs.contracts.frame.Frame as frame
use Rattle.table_frames.specs.contracts.frame_batch.FrameBatch as frame_batch
use Rattle.table_frames.specs.contracts.frame_batch.FrameBatch.TheInside as frame_batch_inside
use Rattle.table_frames.specs.contracts.release.Release as release
use Rattle.table_frames.specs.contracts.backlog.Backlog as backlog
use Rattle.table_frames.proofs.frame.Frame.TheLaws.TheKnot as frame_knot

-- what crosses threads without regard to jobs
ruleset tables = (crosses, frees, heap.the_field_send, heap.the_field_sync, heap.the_send, heap.the_sync, option.the_send, option.the_sync, seat.the_send, shared.the_send, shared.the_sync, lease.the_send, lease.the_sync, tag.the_send, tag.the_sync, sendable)

module _ (T V : RattleType) (J : Job.Ghosts T.Denot V.Denot) (W : Valued.Ghosts T.Denot V.Denot) (s : IsSend T) (y : IsSync T) (sv : IsSend V) (yv : IsSync V) where
  pub fresh_send : IsSend (fresh.the_row V)
  fresh_send = turns.fresh_send V sv yv

  ready_send : IsSend (ready_turn.the_row V)
  ready_send = units.ready_send V sv yv

  yard_send : IsSend (yard.the_row (parked_turn.the_row V) (table.the_row V) (parkable.ghosts V))
  yard_send = yards.yard_send (parked_turn.the_row V) (table.the_row V) (parkable.ghosts V) (units.parked_send V sv yv)

  yard_sync : IsSync (yard.the_row (parked_turn.the_row V) (table.the_row V) (parkable.ghosts V))
  yard_sync = yards.yard_sync (parked_turn.the_row V) (table.the_row V) (parkable.ghosts V) (units.parked_send V sv yv)

  run_keeper_send : IsSend (run_keeper.the_row T V J)
  run_keeper_send = runs.run_keeper_send T V J s y sv yv

  open_start_send : IsSend (open_start.the_row T V J)
  open_start_send = runs.open_start_send T V J s y sv yv

  done_send : IsSend (done_turns.the_row T V)
  done_send = runs.done_send T V J s y sv yv

  locked_fields : IsSend (locked_inside.the_row T V J)
  locked_fields = declared_send (locked_inside.the_type T V J) (search (run_keeper_send, tables) depth 60 fits 20000, (search (done_send, tables) depth 60 fits 20000, (search (spans.spans_send, tables) depth 60 fits 20000, (search (open_start_send, tables) depth 60 fits 20000, tt))))

  locked_send : IsSend (locked_run.the_row T V J)
  locked_send = search (locked_fields, sendable)

  run_send : IsSend (table_run.the_row T V J)
  run_send = runs.run_send T V J s y sv yv

  run_sync : IsSync (table_run.the_row T V J)
  run_sync = runs.run_sync T V J s y sv yv

  pub frame_send : IsSend (frame.the_row T V J W)
  frame_send = search (locked_send, run_send, run_sync, yard_send, yard_sync, frame_knot.crosses, tables) depth 60 fits 20000

  pub frame_sync : IsSync (frame.the_row T V J W)
  frame_sync = search (locked_send, run_send, run_sync, yard_send, yard_sync, frame_knot.crosses, tables) depth 60 fits 20000

  pub release_send : IsSend (release.the_row T V J W)
  release_send = search (frame_send, frame_sync, ready_send, tables) depth 60 fits 20000

  frame_batch_fields : IsSend (frame_batch_inside.the_row T V J W)
  frame_batch_fields = declared_send (frame_batch_inside.the_type T V J W) (search (frame_send, frame_sync, tables) depth 60 fits 20000, (search (done_send, tables) depth 60 fits 20000, (search (spans.spans_send, tables) depth 60 fits 20000, tt)))

  frame_batch_send : IsSend (frame_batch.the_row T V J W)
  frame_batch_send = search (frame_batch_fields, sendable)

  pub backlog_send : IsSend (backlog.the_row T V J W)
  backlog_send = search (frame_batch_send, ready_send, tables) depth 60 fits 20000
