use Rattle.std.proofs.Common.{codes, map}
use Rattle.serde_json.specs.Find.{get}
use Rattle.json_values.specs.inside.View.{view}
use Rattle.graph_drafts.proofs.WordLemmas.{Reads-targets}
use Rattle.graph_drafts.proofs.pipes.read_targets.Goals as goal

pub returns : goal.returns
returns c = Reads-targets (get (codes "to") (view c.args.object.now)) (map view c.in-Some.items.now) c.args.spot c.listed_targets.result c.in-Some.ensures c.listed_targets.ensures
