use Rattle.std.proofs.Common.{◌≡◌, length, vec_capacity}
use Rattle.library_tour.proofs.crew.new_counts.Given as goal

abbrev pub invariant-loop : goal.invariant-loop
invariant-loop l = record {
  room : vec_capacity l.watchers ≡ l.count;
  made : length l.watchers.items ≡ l.counter;
}
