use Rattle.std.proofs.Common.{◌≢◌, AllPairs, take}
use Rattle.outside_io.proofs.for_tests.memory_texts.all_differ.Given as goal

abbrev pub invariant-loop-place : goal.invariant-loop-place
invariant-loop-place l = AllPairs (λ name other. name ≢ other) (take l.place l.names)
