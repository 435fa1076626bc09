use Rattle.std.proofs.Common.{take}
use Rattle.std.specs.List.{enumerate_from, flat_map}
use Rattle.outside_io.specs.Sink.{Accepts}
use Rattle.command_line.specs.Rounds.{asked_rounds}
use Rattle.flow_run.specs.RoundTexts.{round_text}
use Rattle.flow_run.proofs.run_command.put_rounds.Given as goal

abbrev pub invariant-loop-place : goal.invariant-loop-place
invariant-loop-place g l = Accepts (g.S.Sink.state l.fn.out) (g.S.Sink.state l.out)
    (flat_map (round_text (asked_rounds l.fn.asked.options.rounds) l.fn.asked.journal) (take l.place (enumerate_from 1 l.fn.runs)))
