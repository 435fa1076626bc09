use Rattle.std.proofs.Common.{◌≡◌, map, take}
use Rattle.graph_plans.specs.ModuleUses.{has_chain}
use Rattle.graph_file.proofs.uses.begin_chains.Given as goal

abbrev pub invariant-loop : goal.invariant-loop
invariant-loop l = l.begins ≡ map (has_chain 0 l.uses) (take l.index l.uses)
