-- What goes to the threads that enter the seats of a crew of jobs whose tasks count, and to those that ask a desk of
-- such jobs and serve it.
use denote.Param.Send.{IsSend, IsSync, sendable}
use denote.Struct.Field as field
use Rattle.std.proofs.Crossing.{crosses, frees}
use Rattle.std.proofs.alloc.Global.TheSendSync as heap
use Rattle.std.proofs.option.Option.TheSendSync as option
use Rattle.desk_book.proofs.Crossing.{pass_send, desk_sync}
use Rattle.desk_book.specs.contracts.desk.Desk as desk
use Rattle.desk_book.specs.contracts.pass.DeskPass as pass
use Rattle.span_profile.specs.contracts.span_count.SpanCount as span_count
use Rattle.worker_seat.proofs.Crossing.{seat_send, crew_sync}
use Rattle.worker_seat.specs.contracts.seat.WorkerSeat as worker_seat
use Rattle.worker_seat.specs.contracts.crew.Crew as crew
use Rattle.desk_trials.specs.contracts.tick_job.TickJob as tick_job
use Rattle.desk_trials.specs.contracts.tick_job.TickJobJob.TheImpl as job
use Rattle.desk_trials.specs.contracts.tick_job.TickJobRecurs.TheImpl as recurs
use Rattle.desk_trials.specs.contracts.tick_job.TickJobValued.TheImpl as valued
use Rattle.desk_trials.specs.contracts.trial.DeskTrial as trial

-- what crosses threads of a job's fields
ruleset fields = (crosses, frees, heap.the_field_send, heap.the_field_sync, heap.the_send, heap.the_sync, option.the_send, option.the_sync, sendable)

job_send : IsSend tick_job.the_row
job_send = search fields depth 60 fits 20000

job_sync : IsSync tick_job.the_row
job_sync = search fields depth 60 fits 20000

count_send : IsSend span_count.the_row
count_send = search fields depth 60 fits 20000

pub seat_crosses : IsSend (worker_seat.the_row tick_job.the_row span_count.the_row (field.u64-field).row job.ghosts valued.ghosts)
seat_crosses = seat_send tick_job.the_row (field.u64-field).row job.ghosts valued.ghosts job_send job_sync (search sendable) (search sendable) span_count.the_row count_send

pub crew_shared : IsSync (crew.the_row tick_job.the_row (field.u64-field).row job.ghosts valued.ghosts)
crew_shared = crew_sync tick_job.the_row (field.u64-field).row job.ghosts valued.ghosts job_send job_sync (search sendable) (search sendable)

pub pass_crosses : IsSend pass.the_row
pass_crosses = pass_send

pub desk_shared : IsSync (desk.the_row tick_job.the_row (field.u64-field).row recurs.ghosts job.ghosts valued.ghosts)
desk_shared = desk_sync tick_job.the_row (field.u64-field).row recurs.ghosts job.ghosts valued.ghosts job_send job_sync (search sendable) (search sendable)

pub trial_shared : IsSync trial.the_row
trial_shared = search (desk_shared, fields) depth 60 fits 20000
