use Rattle.std.specs.Option.{option_copied}
use Rattle.text_ops.specs.inside.Repeating.{UniqSoFar}
use Rattle.text_ops.proofs.repeats.uniq.Given as goal

abbrev pub invariant-loop-line : goal.invariant-loop-line
invariant-loop-line l = UniqSoFar l.text l.kept (option_copied l.before) l.start l.line-iterator
