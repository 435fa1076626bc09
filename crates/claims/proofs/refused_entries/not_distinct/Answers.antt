-- That a Many may not give an edge twice computes once `IsDistinct` is opened.
use Rattle.std.proofs.Common.{rules}
use Rattle.std.specs.List.{IsDistinct}
use Rattle.claims.proofs.refused_entries.not_distinct.Goals as goal

pub returns : goal.returns
unfolding IsDistinct
returns c = search rules
