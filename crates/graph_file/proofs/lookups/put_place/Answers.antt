use Rattle.graph_file.proofs.LookupLemmas.{KeepsPlace-updates}
use Rattle.graph_file.proofs.lookups.put_place.Goals as goal

pub returns : goal.returns
returns c = KeepsPlace-updates c.args.places.now c.insert.new.self c.args.name c.args.place c.requires c.in_ok-insert.ensures.updates
