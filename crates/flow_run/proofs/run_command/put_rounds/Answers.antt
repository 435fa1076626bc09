use Rattle.std.proofs.Common.{rules}
use Rattle.command_line.specs.Rounds.{asked_rounds}
use Rattle.flow_run.proofs.RoundReports.{round_written, round_refused, rounds_written}
use Rattle.flow_run.proofs.run_command.put_rounds.Goals as goal

pub loop-place-preserved : goal.loop-place-preserved
loop-place-preserved g c =
    round_written c.args.runs.now c.loop-place.place _ _ (search rules) (search rules) (search rules) (asked_rounds c.args.asked.options.rounds) c.args.asked.journal _ _ _
    c.loop-place.invariant c.in_default.ensures

pub returns-in-Err : goal.returns-in-Err
returns-in-Err g c =
    round_refused c.args.runs.now c.loop-place.place _ _ (search rules) (search rules) (search rules) (asked_rounds c.args.asked.options.rounds) c.args.asked.journal _ _ _ c.in-Err.fault
    c.loop-place.invariant c.in-Err.ensures

pub returns : goal.returns
returns g c = rounds_written c.args.runs.now (asked_rounds c.args.asked.options.rounds) c.args.asked.journal _ _ c.loop-place.place (search rules) c.loop-place.invariant
