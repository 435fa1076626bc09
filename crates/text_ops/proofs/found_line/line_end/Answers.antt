use Rattle.std.proofs.Common.{arith}
use Rattle.text_ops.proofs.PlaceLemmas.{EndsLine-at, EndsLine-none}
use Rattle.text_ops.proofs.found_line.line_end.Goals as goal

pub returns-in-Some : goal.returns-in-Some
returns-in-Some c = EndsLine-at c.args.text.now c.args.place (omega arith) c.in-Some.gap c.in-Some.ensures

pub returns-in-None : goal.returns-in-None
returns-in-None c = EndsLine-none c.args.text.now c.args.place (omega arith) _ c.requires.inside c.requires.normal c.in-None.ensures
