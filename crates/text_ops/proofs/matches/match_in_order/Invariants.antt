use Rattle.text_ops.specs.inside.Matching.{MatchSoFar}
use Rattle.text_ops.proofs.matches.match_in_order.Given as goal

abbrev pub invariant-loop-line : goal.invariant-loop-line
invariant-loop-line g l = MatchSoFar l.left l.right l.line-iterator l.made
