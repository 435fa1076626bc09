use Rattle.std.proofs.Common.{[], ◌∷◌, sym, ap, ◌∙◌}
use Rattle.std.proofs.lemmas.List.{length-map, map-append}
use Rattle.graph_drafts.specs.inside.Reading.{strings}
use Rattle.graph_file.proofs.PlaceLemmas.{HasPlaces-snoc}
use Rattle.graph_file.proofs.lookups.mention.Goals as goal

pub returns-clause-index : goal.returns-clause-index
returns-clause-index c =
    let names = c.args.index.now.names in
    HasPlaces-snoc c.args.index.now.places c.put_place.new.places (strings names) (strings c.push.new.self) c.args.name.now c.len.result (c.len.ensures ∙ sym (length-map names (λ s. s.now)))
    (ap strings c.in_ok-push.ensures.ok ∙ map-append (λ s. s.now) names (c.args.name ∷ [])) c.requires (rw c.as_bytes-2.ensures.value at c.in_ok-put_place.ensures)
