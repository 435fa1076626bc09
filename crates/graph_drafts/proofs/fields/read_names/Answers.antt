use Rattle.std.proofs.Common.{map}
use Rattle.json_values.specs.inside.View.{view}
use Rattle.graph_drafts.proofs.WordLemmas.{ReadsAs-names}
use Rattle.graph_drafts.proofs.fields.read_names.Goals as goal

pub returns : goal.returns
returns c =
    ReadsAs-names c.args.spot c.args.field.now (view c.args.object.now) (view c.in-Some.list.now) (map view c.in-Some-list_of.items.now) c.listed_names.result
    c.in-Some.ensures c.in-Some-list_of.ensures c.listed_names.ensures
