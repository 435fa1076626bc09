use Rattle.std.proofs.Common.{get_or, sym, arith}
use Rattle.std.proofs.lemmas.List.Elements.{Contains-get_or}
use Rattle.task_graph.specs.Net.{out_edges}
use Rattle.pitfall_check.specs.declared.way.Way.TheVariants.{Ahead}
use Rattle.pitfall_check.proofs.EndLemmas.{end_at}
use Rattle.pitfall_check.proofs.SearchLemmas.{NoneLeadsToUnseen-more}
use Rattle.pitfall_check.proofs.search.next_unseen.Goals as goal

pub leads_to_unseen-requires-clause-head : goal.leads_to_unseen-requires-clause-head
leads_to_unseen-requires-clause-head c = (end_at Ahead c.args.net.now c.args.task c.args.heads.now c.loop-place.place c.requires.heads (omega arith)).in_range

pub loop-place-preserved : goal.loop-place-preserved
loop-place-preserved c =
    let net = c.args.net.now in
    let at = end_at Ahead net c.args.task c.args.heads.now c.loop-place.place c.requires.heads (omega arith) in
    let fails = c.if-leads_to_unseen.ensures (get_or (out_edges net c.args.task) c.loop-place.place 0) (Contains-get_or (out_edges net c.args.task) c.loop-place.place 0 at.below) at.named in
    NoneLeadsToUnseen-more net c.args.states.now c.args.task c.loop-place.place c.loop-place.invariant (sym fails)

pub returns-then-leads_to_unseen-clause-some : goal.returns-then-leads_to_unseen-clause-some
returns-then-leads_to_unseen-clause-some c =
    let net = c.args.net.now in
    let at = end_at Ahead net c.args.task c.args.heads.now c.loop-place.place c.requires.heads (omega arith) in
    let leads = c.if-leads_to_unseen.ensures (get_or (out_edges net c.args.task) c.loop-place.place 0) (Contains-get_or (out_edges net c.args.task) c.loop-place.place 0 at.below) at.named in
    record { below = at.below; leads = sym leads; first = c.loop-place.invariant }
