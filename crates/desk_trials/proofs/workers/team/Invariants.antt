use Rattle.std.proofs.Common.{◌≡◌, length, vec_capacity}
use Rattle.desk_trials.proofs.workers.team.Given as goal

abbrev pub invariant-loop : goal.invariant-loop
invariant-loop l = record {
  room : vec_capacity l.watchers ≡ l.workers;
  made : length l.watchers.items ≡ l.counter;
}
