use Rattle.std.proofs.Common.{◌≡◌, ℕ, ◌<◌, Some, length, get_or}
use Rattle.pitfall_check.specs.inside.Steps.{end_by}
use Rattle.pitfall_check.proofs.way.Way.ends.Given as goal

abbrev pub invariant-loop-edge : goal.invariant-loop-edge
invariant-loop-edge l = record {
  size : length l.ends.items ≡ l.edge;
  named : (e : ℕ) → e < l.edge → end_by l.self l.net e ≡ Some (get_or l.ends.items e 0);
  in_range : (e : ℕ) → e < l.edge → get_or l.ends.items e 0 < length l.net.tasks;
}
