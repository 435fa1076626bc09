use Rattle.std.proofs.Common.{ap}
use Rattle.command_line.specs.Rounds.{asked_rounds}
use Rattle.flow_run.specs.RoundTexts.{rounds_text}
use Rattle.flow_run.proofs.RoundReports.{empty_rounds, no_rounds_written}
use Rattle.flow_run.proofs.run_command.deliver_rounds.Goals as goal

pub returns-then-is_empty-clause-delivers : goal.returns-then-is_empty-clause-delivers
returns-then-is_empty-clause-delivers g c =
    no_rounds_written (g.S.Sink.state c.args.out.now) _ (ap (rounds_text (asked_rounds c.args.asked.options.rounds) c.args.asked.journal) (empty_rounds c.args.runs.now c.if-is_empty.ensures)) c.requires.nothing_held

pub returns-clause-delivers : goal.returns-clause-delivers
returns-clause-delivers g c =
    c.flushed.ensures (g.S.Sink.state c.args.out.now) (rounds_text (asked_rounds c.args.asked.options.rounds) c.args.asked.journal c.args.runs.now) c.requires.nothing_held c.put_rounds-written.ensures
