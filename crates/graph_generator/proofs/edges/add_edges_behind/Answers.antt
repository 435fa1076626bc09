use Rattle.std.proofs.Common.{◌≡◌, ℕ, ◌+◌, ◌-◌, ◌*◌, ◌/◌, ◌++◌, map, filter, sym, ap, ◌∙◌, arith}
use Rattle.std.specs.List.{range_with_len}
use Rattle.graph_plans.specs.PlanEdges.{edge_row}
use Rattle.graph_generator.specs.GeneratedPlan.{edge, edge_draw, leads_to}
use Rattle.graph_generator.proofs.DrawLemmas.{draw-at, draws-length, passing-dropped, passing-kept}
use Rattle.graph_generator.proofs.EdgeLemmas.{layer-range, one-more}
use Rattle.graph_generator.proofs.edges.add_edges_behind.Goals.{then-leads_to+in_ok-push_edge, else-leads_to}
use Rattle.graph_generator.proofs.edges.add_edges_behind.Goals as goal

pub bounds-draws-to : goal.bounds-draws-to
bounds-draws-to c =
    let count = draws-length c.args.layers (180 + 20 * c.args.layers) c.args.draws.now c.requires.draws in
    omega (arith, count, c.loop-to-test.true, c.requires.behind)

pub loop-to-preserved : goal.loop-to-preserved
loop-to-preserved c =
    let layers = c.args.layers in
    let task = c.args.task in
    let first = 10 * (task / 10 + 1) in
    let to = c.loop-to.to in
    let leads = λ (next : ℕ). leads_to task next (edge_draw layers next) in
    let drawn_here = draw-at layers (180 + 20 * layers) c.args.draws.now (181 + 2 * to) 0 (omega (arith, c.loop-to-test.true, c.requires.behind)) c.requires.draws in
    let tested = c.leads_to.ensures ∙ ap (leads_to task to) drawn_here in
    elim c.if-leads_to.branch [
      | then-leads_to+in_ok-push_edge w ↦
          one-more (map edge_row c.args.edges.now) (map (edge task) (filter leads (range_with_len first (to - first)))) (map (edge task) (filter leads (range_with_len first (to + 1 - first)))) (map edge_row c.loop-to.edges) (map edge_row c.if-leads_to.edges) (edge task to)
          c.loop-to.invariant (ap (map edge_row) w.edges-is ∙ w.in_ok-push_edge.ensures) (passing-kept (edge task) leads first to c.loop-to.auto.to (sym tested ∙ w.if-leads_to.true))
      | else-leads_to w ↦
          ap (map edge_row) w.edges-is ∙ c.loop-to.invariant
          ∙ ap (λ rows. map edge_row c.args.edges.now ++ rows) (sym (passing-dropped (edge task) leads first to c.loop-to.auto.to (sym tested ∙ w.if-leads_to.false)))
    ]

pub returns : goal.returns
returns c =
    let layers = c.args.layers in
    let task = c.args.task in
    let first = 10 * (task / 10 + 1) in
    let count : c.loop-to.to - first ≡ 10 = omega (arith, c.loop-to-test.false, c.loop-to.auto.to-end, c.loop-to.auto.to) in
    c.loop-to.invariant ∙ ap (λ nexts. map edge_row c.args.edges.now ++ map (edge task) (filter (λ next. leads_to task next (edge_draw layers next)) nexts)) (layer-range task (c.loop-to.to - first) count)
