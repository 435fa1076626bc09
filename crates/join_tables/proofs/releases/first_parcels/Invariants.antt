use Rattle.std.proofs.Common.{◌≡◌, ◌<◌, ℕ, [], length, map, flat_map, Some}
use Rattle.std.specs.Prelude.{slice_get}
use Rattle.table_steps.specs.Values.{given_parts, values_in}
use Rattle.table_steps.specs.inside.Opening.{first_queue}
use Rattle.join_tables.proofs.releases.first_parcels.Given as goal

abbrev pub invariant-loop-edge : goal.invariant-loop-edge
invariant-loop-edge g l = (length l.parcels.items ≡ l.edge) × ((e : ℕ) → e < length l.parcels.items → slice_get (map given_parts l.parcels.items) e ≡ Some (first_queue l.net e)) × (flat_map values_in l.parcels.items ≡ [])
