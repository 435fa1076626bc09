use Rattle.std.proofs.Common.{drop}
use Rattle.text_tasks.specs.inside.Gathering.{all_of}
use Rattle.text_tasks.specs.inside.OneByOne.{JoinedSoFar}
use Rattle.text_tasks.proofs.gathered.joined.Given as goal

abbrev pub invariant-loop-text : goal.invariant-loop-text
invariant-loop-text l = JoinedSoFar (all_of (drop l.text-index l.texts)) (all_of l.texts) l.made
