use Rattle.std.proofs.Common.{◌≡◌, false, map, take, get_or}
use Rattle.std.specs.List.{list_any}
use Rattle.graph_file.proofs.uses.longer_chains.Given as goal

abbrev pub invariant-loop-used : goal.invariant-loop-used
invariant-loop-used l = l.longer ≡ map (list_any (λ m. get_or l.begins m false)) (take l.used-index l.uses)
