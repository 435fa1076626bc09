use Rattle.std.proofs.Common.{◌∙◌}
use Rattle.pipe_lines.proofs.NetLemmas.{line_more}
use Rattle.pipe_lines.proofs.net.net_of.Goals as goal

pub loop-line-preserved : goal.loop-line-preserved
loop-line-preserved c = line_more c.loop-line.builder c.add_line.new.builder c.args.lines c.loop-line.line c.args.serial.now c.loop-line-test.true c.in_ok-add_line.ensures ∙ c.loop-line.invariant
