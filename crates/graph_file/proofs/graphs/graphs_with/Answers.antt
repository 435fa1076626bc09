use Rattle.std.proofs.Common.{◌≡◌, ◌+◌, rules, length, map, ap, ◌∙◌, arith}
use Rattle.std.proofs.lemmas.List.{length-map, length_push}
use Rattle.std.proofs.lemmas.Iterator.Adapters.{YieldsList-from_vec}
use Rattle.std.proofs.lemmas.Iterator.Consumers.{YieldsList-turn, YieldsList-end}
use Rattle.std.specs.Vec.Iter.{into_iter_len}
use Rattle.graph_drafts.specs.inside.Reading.{draft_rows, strings}
use Rattle.graph_file.proofs.GraphLemmas.{graphs-end, graphs-more, ready-item, ready-length}
use Rattle.graph_file.proofs.graphs.graphs_with.Goals as goal

pub numbers_at-own-requires : goal.numbers_at-own-requires
numbers_at-own-requires c =
    let gives = c.into_iter-draft-iterator.ensures.into_iter_gives in
    let count : into_iter_len c.into_iter-draft-iterator.result ≡ length c.args.drafts.items = search rules in
    let all = YieldsList-from_vec c.args.drafts.items gives.0 count in
    let turn = YieldsList-turn all c.loop-draft.yielded c.loop-draft.draft-iterator c.loop-draft.yielded_by c.next.result c.next.new.self c.in-Some.draft c.in-Some.is c.next.ensures.steps in
    let many = ready-length (strings c.args.modules.now.names) (map draft_rows c.args.drafts.items) c.args.numbers.now c.requires.ready in
    omega (arith, turn.0, many, length-map c.args.drafts.items draft_rows, c.loop-draft.invariant.counted, c.len-in-loop-draft.ensures)

pub graph_with-requires-clause-ready : goal.graph_with-requires-clause-ready
graph_with-requires-clause-ready c =
    let gives = c.into_iter-draft-iterator.ensures.into_iter_gives in
    let count : into_iter_len c.into_iter-draft-iterator.result ≡ length c.args.drafts.items = search rules in
    let all = YieldsList-from_vec c.args.drafts.items gives.0 count in
    let turn = YieldsList-turn all c.loop-draft.yielded c.loop-draft.draft-iterator c.loop-draft.yielded_by c.next.result c.next.new.self c.in-Some.draft c.in-Some.is c.next.ensures.steps in
    ready-item (strings c.args.modules.now.names) c.args.drafts.items c.args.numbers.now (length c.loop-draft.yielded) c.len-in-loop-draft.result c.in-Some.draft c.numbers_at-own.result.now c.requires.ready turn.0 turn.1
    (c.len-in-loop-draft.ensures ∙ c.loop-draft.invariant.counted) c.numbers_at-own.ensures

pub loop-draft-preserved : goal.loop-draft-preserved
loop-draft-preserved c =
    let gives = c.into_iter-draft-iterator.ensures.into_iter_gives in
    let count : into_iter_len c.into_iter-draft-iterator.result ≡ length c.args.drafts.items = search rules in
    let all = YieldsList-from_vec c.args.drafts.items gives.0 count in
    let turn = YieldsList-turn all c.loop-draft.yielded c.loop-draft.draft-iterator c.loop-draft.yielded_by c.next.result c.next.new.self c.in-Some.draft c.in-Some.is c.next.ensures.steps in
    record {
      counted = ap length c.in_ok-push.ensures.ok ∙ length_push c.loop-draft.graphs c.in_ok-graph_with.field-0 ∙ ap (λ k. k + 1) c.loop-draft.invariant.counted ∙ (let pushed = length_push c.loop-draft.yielded c.in-Some.draft in omega (arith, pushed));
      made = graphs-more (strings c.args.modules.now.names) (strings c.args.texts.now.names) c.args.drafts.items c.args.numbers.now (length c.loop-draft.yielded) _ c.len-in-loop-draft.result c.in-Some.draft c.numbers_at-own.result.now c.in_ok-graph_with.field-0
          c.loop-draft.graphs c.push.new.self c.requires.ready turn.0 turn.1 (c.len-in-loop-draft.ensures ∙ c.loop-draft.invariant.counted) c.numbers_at-own.ensures (length_push c.loop-draft.yielded c.in-Some.draft) c.in_ok-graph_with.ensures c.in_ok-push.ensures.ok
          c.loop-draft.invariant.made;
    }

pub returns : goal.returns
returns c =
    let gives = c.into_iter-draft-iterator.ensures.into_iter_gives in
    let count : into_iter_len c.into_iter-draft-iterator.result ≡ length c.args.drafts.items = search rules in
    let all = YieldsList-from_vec c.args.drafts.items gives.0 count in
    let end_ = YieldsList-end all c.loop-draft.yielded c.loop-draft.draft-iterator c.loop-draft.yielded_by c.next.result c.next.new.self c.in-None.is c.next.ensures.steps in
    graphs-end (strings c.args.modules.now.names) (strings c.args.texts.now.names) c.args.drafts.items c.args.numbers.now (length c.loop-draft.yielded) c.loop-draft.graphs c.requires.ready end_.1 c.loop-draft.invariant.made
