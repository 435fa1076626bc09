use Rattle.std.proofs.Common.{rules, arith}
use Rattle.pipe_lines.proofs.WalkLemmas.{left_is, none_left}
use Rattle.pipe_lines.proofs.passing.first_unmarked.Goals as goal

pub returns-then-not-marks-token : goal.returns-then-not-marks-token
returns-then-not-marks-token c = λ passed are. left_is c.args.marks.now passed c.loop-token.token are c.loop-token-test.true (search rules) c.loop-token.invariant

pub returns : goal.returns
returns c = λ passed are. none_left c.args.marks.now passed are (λ j below. c.loop-token.invariant j (omega (arith, below, c.loop-token-test.false)))
