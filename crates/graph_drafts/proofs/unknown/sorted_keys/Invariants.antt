use Rattle.std.proofs.Common.{◌≡◌, take}
use Rattle.serde_json.specs.View.{members_view}
use Rattle.json_values.specs.inside.View.{members_view as lent_members}
use Rattle.graph_drafts.specs.Fields.{keys_of}
use Rattle.graph_drafts.proofs.unknown.sorted_keys.Given as goal

abbrev pub invariant-loop-member : goal.invariant-loop-member
invariant-loop-member l = keys_of (members_view l.keys.entries) ≡ keys_of (lent_members (take l.member-index l.members))
