use Rattle.std.proofs.Common.{◌≡◌, ◌++◌, codes, decimal, take}
use Rattle.std.specs.List.{flat_map}
use Rattle.journal_text.proofs.printer.add_gives.Given as goal

abbrev pub invariant-loop-edge : goal.invariant-loop-edge
invariant-loop-edge l = l.line ≡ l.initial.line ++ flat_map (λ edge. codes "," ++ decimal edge) (take l.edge-index l.rest)
