use Rattle.std.proofs.Common.{◌≡◌, ◌≤◌, take}
use Rattle.table_steps.specs.inside.Opening.{count_without_token}
use Rattle.join_tables.proofs.releases.bare_among.Given as goal

abbrev pub invariant-loop-edge : goal.invariant-loop-edge
invariant-loop-edge l = (l.found ≡ count_without_token l.net (take l.edge-index l.edges)) × (l.found ≤ l.edge-index)
