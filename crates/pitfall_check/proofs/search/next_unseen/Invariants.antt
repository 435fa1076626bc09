use Rattle.pitfall_check.specs.inside.SearchRules.{NoneLeadsToUnseen}
use Rattle.pitfall_check.proofs.search.next_unseen.Given as goal

abbrev pub invariant-loop-place : goal.invariant-loop-place
invariant-loop-place l = NoneLeadsToUnseen l.net l.states l.task l.place
