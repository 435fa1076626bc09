use Rattle.std.proofs.Common.{◌++◌, map, None, Some, ap, ◌∙◌}
use Rattle.graph_drafts.proofs.FieldLemmas.{unknown-keys}
use Rattle.graph_drafts.proofs.unknown.first_unknown.Goals as goal

pub returns-in_default : goal.returns-in_default
returns-in_default c =
    unknown-keys (map (λ s. s.now) c.args.common.now ++ map (λ s. s.now) c.args.own.now) c.args.keys.now None c.in_default.ensures

pub returns : goal.returns
returns c =
    ap Some c.as_str.ensures.value
    ∙ unknown-keys (map (λ s. s.now) c.args.common.now ++ map (λ s. s.now) c.args.own.now) c.args.keys.now (Some c.in-Some.key.now) c.in-Some.ensures
