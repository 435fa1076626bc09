use Rattle.text_ops.specs.inside.SortKeys.{AreUpTo, KeyedSoFar}
use Rattle.text_ops.proofs.sort_keys.sort_keys_of.Given as goal

abbrev pub invariant-loop-line : goal.invariant-loop-line
invariant-loop-line g l = (KeyedSoFar l.by l.text l.sort_keys.items l.start l.line-iterator) × (AreUpTo g.K.KeyForm.most_len l.line-iterator)
