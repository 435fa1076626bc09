-- A crew may be shared by threads, and its seats may go to them: of the types that they are made of, one after the
-- other, since a search for all at once gives up.
use denote.RattleType.{RattleType}
use denote.Param.Send.{IsSend, IsSync, sendable}
use denote.Param.SendFields.{as_row_send, declared_send}
use Rattle.std.proofs.Crossing.{crosses, frees}
use Rattle.std.proofs.alloc.Global.TheSendSync as heap
use Rattle.std.proofs.option.Option.TheSendSync as option
use Rattle.atomic_table.proofs.shared.Seat.TheSendSync as seat
use Rattle.atomic_table.proofs.shared.Shared.TheSendSync as shared
use Rattle.atomic_table.proofs.send_lease.SendLease.TheSendSync as lease
use Rattle.boxcar.proofs.slot.OnceSlot.TheSendSync as slot
use Rattle.boxcar.proofs.slot.Written.TheSendSync as written
use Rattle.boxcar.proofs.tag.Tag.TheSendSync as tag
use Rattle.run_frame.proofs.run.FrameRun.TheLaws.TheKnot as run_knot
use Rattle.run_frame.specs.declared.job.Job as Job
use Rattle.run_frame.specs.declared.job.Valued as Valued
use Rattle.run_frame.specs.contracts.run.FrameRun as frame_run
use Rattle.span_book.proofs.Crossing as spans
use Rattle.table_frames.proofs.Crossing as frames
use Rattle.table_frames.specs.contracts.closed_run.ClosedRun as closed_run
use Rattle.table_frames.specs.contracts.release.Release as release
use Rattle.ready_deques.proofs.owner.Owner.TheSendSync as owner
use Rattle.ready_deques.specs.contracts.owner.Owner as owner_type
use Rattle.worker_seat.specs.contracts.item.CrewItemTagged.TheImpl as tagged
use Rattle.ready_deques.proofs.ready.Ready.TheSendSync as ready
use Rattle.worker_seat.specs.contracts.attendance.Attendance as attendance
use Rattle.worker_seat.specs.contracts.frame_numbers.ReleaseFrames as release_frames
use Rattle.worker_seat.specs.contracts.frame_numbers.NumberedFrames as numbered_frames
use Rattle.worker_seat.specs.contracts.frame_numbers.FrameNumber as frame_number
use Rattle.worker_seat.specs.contracts.station.Station as station
use Rattle.worker_seat.specs.contracts.station.Station.TheInside as station_inside
use Rattle.worker_seat.specs.contracts.seat.WorkerSeat as worker_seat
use Rattle.worker_seat.specs.contracts.crew.Crew as crew
use Rattle.worker_seat.specs.contracts.item.CrewItem as item
use Rattle.worker_seat.specs.contracts.run_slot.RunSlot as run_slot
use Rattle.worker_seat.specs.contracts.crew_run.CrewRun as crew_run

-- what crosses threads without regard to jobs
ruleset tables = (crosses, frees, heap.the_field_send, heap.the_field_sync, heap.the_send, heap.the_sync, option.the_send, option.the_sync, seat.the_send, shared.the_send, shared.the_sync, lease.the_send, lease.the_sync, slot.the_send, slot.the_sync, written.the_send, written.the_sync, tag.the_send, tag.the_sync, sendable)

module _ (T V : RattleType) (J : Job.Ghosts T.Denot V.Denot) (W : Valued.Ghosts T.Denot V.Denot) (s : IsSend T) (y : IsSync T) (sv : IsSend V) (yv : IsSync V) where
  release_send : IsSend (release.the_row T V J W)
  release_send = frames.release_send T V J W s y sv yv

  run_send : IsSend (frame_run.the_row T V)
  run_send = search (run_knot.crosses, tables) depth 60 fits 20000

  closed_run_send : IsSend (closed_run.the_row T V)
  closed_run_send = declared_send (closed_run.the_type T V) (search (run_send, tables) depth 60 fits 20000, (search (spans.tally_send, tables) depth 60 fits 20000, tt))

  run_slot_send : IsSend (run_slot.the_row T V J)
  run_slot_send = search (closed_run_send, tables) depth 60 fits 20000

  release_frames_send : IsSend (release_frames.the_row T V J W)
  release_frames_send = search tables depth 60 fits 20000

  release_frames_sync : IsSync (release_frames.the_row T V J W)
  release_frames_sync = search tables depth 60 fits 20000

  number_send : IsSend (frame_number.the_row T V J W)
  number_send = search tables depth 60 fits 20000

  number_sync : IsSync (frame_number.the_row T V J W)
  number_sync = search tables depth 60 fits 20000

  begun_send : IsSend (numbered_frames.the_row T V J W)
  begun_send = search (release_frames_send, tables) depth 60 fits 20000

  begun_sync : IsSync (numbered_frames.the_row T V J W)
  begun_sync = search (release_frames_send, release_frames_sync, tables) depth 60 fits 20000

  crew_run_send : IsSend (crew_run.the_row T V J W)
  crew_run_send = search (run_slot_send, spans.book_send, spans.book_sync, number_send, tables) depth 60 fits 20000

  crew_run_sync : IsSync (crew_run.the_row T V J W)
  crew_run_sync = search (run_slot_send, spans.book_send, spans.book_sync, number_sync, tables) depth 60 fits 20000

  item_send : IsSend (item.the_row T V J W)
  item_send = search (number_send, release_send, tables) depth 60 fits 20000

  attendance_send : IsSend (attendance.the_row T V J W)
  attendance_send = search (crew_run_send, crew_run_sync, spans.teller_send, tables) depth 60 fits 20000

  station_fields : IsSend (station_inside.the_row T V J W)
  station_fields = declared_send (station_inside.the_type T V J W) (as_row_send (owner_type.the_field (item.the_row T V J W) (tagged.ghosts T V J tagged.no_dict W tagged.no_dict tagged.no_dict)) (owner.the_send _ _ item_send), (search (attendance_send, tables) depth 60 fits 20000, (search (tables) depth 60 fits 20000, (search (tables) depth 60 fits 20000, tt))))

  station_send : IsSend (station.the_row T V J W)
  station_send = search (station_fields, sendable)

  -- a crew is shared
  pub crew_sync : IsSync (crew.the_row T V J W)
  crew_sync = search (item_send, begun_sync, ready.the_send, ready.the_sync, tables) depth 60 fits 20000

  -- a seat is sent, with a watcher that may be
  pub seat_send : (X : RattleType) → IsSend X → IsSend (worker_seat.the_row T X V J W)
  seat_send X x = search (station_send, tables) depth 60 fits 20000
