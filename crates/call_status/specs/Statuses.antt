-- The status of what a call came to.
use Rattle.nested_runs.specs.declared.reasons.Reason.{Reason}
use Rattle.nested_runs.specs.declared.reasons.Reason.TheVariants as reason
use Rattle.legal_run.specs.declared.verdict.Verdict.{Verdict}
use Rattle.legal_run.specs.declared.verdict.Verdict.TheVariants.{Breaks}
use Rattle.call_status.specs.declared.status.Status.{Status}
use Rattle.call_status.specs.declared.status.Status.TheVariants.{Done, BadGraph, NoSource, NoText, LongText, ReadFault, Limit, TaskFault, Stuck, NotLegal, BadJournal, NoMemory}
use Rattle.call_status.specs.declared.stop.Stop.{Stop}
use Rattle.call_status.specs.declared.stop.Stop.TheVariants as stop

-- the status of a call that stopped for this reason
abbrev pub status_of : Stop → Status
status_of (stop.BadGraph error) = BadGraph error
status_of (stop.NoSource spot) = NoSource spot
status_of (stop.NoText name) = NoText name
status_of (stop.LongText name) = LongText name
status_of (stop.ReadFault name) = ReadFault name
status_of (stop.BadJournal line) = BadJournal line
status_of stop.NoMemory = NoMemory

-- the status of a run that came to its end for a reason, where nothing else went wrong
abbrev pub status_after : Reason → Status
status_after reason.Fine = Done
status_after (reason.Fault path why) = TaskFault path why
status_after (reason.Limit path limit) = Limit path limit
status_after (reason.Stuck path) = Stuck path

-- the status of a verdict, where nothing else went wrong
abbrev pub status_by : Verdict → Status
status_by (Breaks place why) = NotLegal place why
status_by verdict = Done
