use Rattle.text_ops.specs.inside.Parting.{PartsSoFar}
use Rattle.text_ops.proofs.text_parts.line_parts.Given as goal

abbrev pub invariant-loop-part : goal.invariant-loop-part
invariant-loop-part l = PartsSoFar l.n l.text l.parts l._part l.place
