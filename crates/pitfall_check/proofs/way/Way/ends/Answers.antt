use Rattle.std.proofs.Common.{◌≡◌, ◌∙◌, ◌+◌, ◌<◌, ap, Some, length}
use Rattle.std.proofs.lemmas.List.{length_push}
use Rattle.pitfall_check.specs.inside.Steps.{end_by}
use Rattle.pitfall_check.proofs.PlaceLemmas.{each_push}
use Rattle.pitfall_check.proofs.way.Way.ends.Goals as goal

pub loop-edge-preserved : goal.loop-edge-preserved
loop-edge-preserved c =
    let way = c.args.self in
    let net = c.args.net.now in
    let ends = c.loop-edge.ends.items in
    let kept = c.loop-edge.invariant in
    let end = c.end.ensures in
    rw c.in_ok-push.ensures.items (record {
      size = length_push ends c.end.result ∙ ap (λ n. n + 1) kept.size;
      named = each_push (λ e t. end_by way net e ≡ Some t) ends c.end.result c.loop-edge.edge kept.size kept.named end.end;
      in_range = each_push (λ e t. t < length net.tasks) ends c.end.result c.loop-edge.edge kept.size kept.in_range end.in_range;
    })
