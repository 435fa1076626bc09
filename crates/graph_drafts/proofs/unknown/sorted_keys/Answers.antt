use Rattle.std.proofs.Common.{ap, ◌∙◌}
use Rattle.serde_json.specs.View.{members_view}
use Rattle.graph_drafts.specs.Fields.{keys_of}
use Rattle.graph_drafts.proofs.FieldLemmas.{keys_of-more}
use Rattle.graph_drafts.proofs.unknown.sorted_keys.Goals as goal

pub loop-member-preserved : goal.loop-member-preserved
loop-member-preserved c =
    ap keys_of c.in_ok-put.ensures.ok
    ∙ keys_of-more c.args.members.now c.loop-member.member-index c.member-item.result _ (members_view c.loop-member.keys.entries) c.loop-member-test.true c.member-item.is c.loop-member.invariant
