use Rattle.std.proofs.Common.{get_or, refl, arith}
use Rattle.std.proofs.lemmas.List.Elements.{Contains-get_or}
use Rattle.task_graph.specs.Net.{out_edges}
use Rattle.pitfall_check.specs.declared.way.Way.TheVariants.{Ahead}
use Rattle.pitfall_check.proofs.EndLemmas.{ends_listed, end_at}
use Rattle.pitfall_check.proofs.ComponentLemmas.{no_cycle, cycle_of_edge, none_stays_more}
use Rattle.pitfall_check.proofs.components.is_on_cycle.Goals as goal

pub of-head-items-requires : goal.of-head-items-requires
of-head-items-requires c = c.requires.heads.there c.args.task c.requires.task

pub stays_in_component-requires-clause-head : goal.stays_in_component-requires-clause-head
stays_in_component-requires-clause-head c =
    let are = ends_listed Ahead c.args.net.now c.args.heads.now c.args.task c.of-head-items.result.now c.requires.heads c.requires.task c.of-head-items.ensures in
    (end_at Ahead c.args.net.now c.args.task c.of-head-items.result.now c.loop-head.head-index are c.loop-head-test.true).in_range

pub loop-head-preserved : goal.loop-head-preserved
loop-head-preserved c =
    let net = c.args.net.now in
    let are = ends_listed Ahead net c.args.heads.now c.args.task c.of-head-items.result.now c.requires.heads c.requires.task c.of-head-items.ensures in
    let place = c.loop-head.head-index in
    let at = end_at Ahead net c.args.task c.of-head-items.result.now place are c.loop-head-test.true in
    let edge = get_or (out_edges net c.args.task) place 0 in
    let here = Contains-get_or (out_edges net c.args.task) place 0 at.below in
    none_stays_more net c.args.components.now c.args.task place c.loop-head.invariant (λ stays. absurd (let yes = (c.if-stays_in_component.ensures edge here at.named).1 stays in cc))

pub returns-then-stays_in_component : goal.returns-then-stays_in_component
returns-then-stays_in_component c =
    let net = c.args.net.now in
    let are = ends_listed Ahead net c.args.heads.now c.args.task c.of-head-items.result.now c.requires.heads c.requires.task c.of-head-items.ensures in
    let at = end_at Ahead net c.args.task c.of-head-items.result.now c.loop-head.head-index are c.loop-head-test.true in
    let edge = get_or (out_edges net c.args.task) c.loop-head.head-index 0 in
    let here = Contains-get_or (out_edges net c.args.task) c.loop-head.head-index 0 at.below in
    (λ yes. cycle_of_edge net c.args.components.now c.args.task edge c.requires.components here ((c.if-stays_in_component.ensures edge here at.named).0 refl), λ cycle. refl)

pub returns : goal.returns
returns c =
    let net = c.args.net.now in
    let are = ends_listed Ahead net c.args.heads.now c.args.task c.of-head-items.result.now c.requires.heads c.requires.task c.of-head-items.ensures in
    (λ yes. absurd (cc), λ cycle. absurd (no_cycle net c.args.components.now c.args.task c.loop-head.head-index (out_edges net c.args.task) refl (omega (arith, are.size, c.loop-head-test.false)) c.requires.components c.loop-head.invariant cycle))
