use Rattle.std.proofs.Common.{◌≡◌, map}
use Rattle.graph_plans.specs.ModuleUses.{has_chain}
use Rattle.graph_file.proofs.uses.has_chain.Given as goal

abbrev pub invariant-loop : goal.invariant-loop
invariant-loop l = l.begins ≡ map (has_chain l.counter l.uses) l.uses
