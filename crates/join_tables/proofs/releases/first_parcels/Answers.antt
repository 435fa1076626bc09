use Rattle.std.proofs.Common.{rules, ◌≡◌, [], ◌∷◌, ◌++◌, flat_map, ap, ◌∙◌}
use Rattle.std.proofs.lemmas.Grind.{flat_map-append}
use Rattle.table_steps.specs.Values.{given_parts, values_in}
use Rattle.table_steps.specs.inside.Opening.{first_queue}
use Rattle.join_tables.proofs.GivenParts.{first_more}
use Rattle.join_tables.proofs.releases.first_parcels.Goals as goal

pub loop-edge-preserved : goal.loop-edge-preserved
loop-edge-preserved g c =
    let here : given_parts c.first_parcel.result ≡ first_queue c.args.net.now c.loop-edge.edge = search rules in
    let none : values_in c.first_parcel.result ≡ [] = search rules in
    let more = first_more given_parts (first_queue c.args.net.now) c.loop-edge.parcels.items c.push_reserved.new.self.items c.first_parcel.result c.loop-edge.edge c.push_reserved.ensures.items c.loop-edge.invariant.0 c.loop-edge.invariant.1 here in
    (more.0, more.1, ap (flat_map values_in) c.push_reserved.ensures.items ∙ flat_map-append values_in c.loop-edge.parcels.items (c.first_parcel.result ∷ []) ∙ (λ i. c.loop-edge.invariant.2 i ++ (none i ++ [])))
