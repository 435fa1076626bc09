-- The findings on one graph more.
use Rattle.std.proofs.Common.{◌≡◌, ℕ, zero, suc, ◌+◌, ◌<◌, List, [], ◌∷◌, ◌++◌, length, map, take, get_or, sym, ap, subst, ◌∙◌, arith}
use Rattle.std.proofs.lemmas.List.{length-map}
use Rattle.graph_plans.specs.PlanRows.{GraphRows, IsGraph, IsPlan, graph_rows, plan_rows}
use Rattle.graph_plans.specs.declared.plans.Graph.{Graph}
use Rattle.graph_plans.specs.declared.plans.Plan.{Plan}
use Rattle.flow_run.specs.declared.conclusion.GraphFindings.{GraphFindings}
use Rattle.flow_run.specs.Checks.{AreFindingsOn, AreFindingsOnAll}

pub one_graph_more : (graphs : List GraphRows) (found : List GraphFindings) (graph : GraphRows) (on : GraphFindings) → AreFindingsOnAll graphs found → AreFindingsOn graph on → AreFindingsOnAll (graphs ++ graph ∷ []) (found ++ on ∷ [])
one_graph_more [] [] graph on so_far are = (are, tt)
one_graph_more [] (o ∷ os) graph on so_far are = absurd so_far
one_graph_more (g ∷ gs) [] graph on so_far are = absurd so_far
one_graph_more (g ∷ gs) (o ∷ os) graph on so_far are = (so_far.0, one_graph_more gs os graph on so_far.1 are)

-- the rows of the graphs up to the next one
pub rows_more : (graphs : List Graph) (i : ℕ) (graph : Graph) → i < length graphs → graph ≡ get_or graphs i graph → map graph_rows (take (i + 1) graphs) ≡ map graph_rows (take i graphs) ++ graph_rows graph ∷ []
rows_more [] i graph below is = absurd (omega (arith, below))
rows_more (g ∷ gs) zero graph below is = ap (λ h. graph_rows h ∷ []) (sym is)
rows_more (g ∷ gs) (suc i) graph below is =
    let next : suc i + 1 ≡ suc (i + 1) = omega arith in
    ap (λ n. map graph_rows (take n (g ∷ gs))) next ∙ ap (λ rows. graph_rows g ∷ rows) (rows_more gs i graph (omega (arith, below)) is)

-- a module keeps the rules of graphs
pub module_rules : (plan : Plan) (i : ℕ) (graph : Graph) → IsPlan (plan_rows plan) → i < length plan.modules → graph ≡ get_or plan.modules i graph → IsGraph (length plan.texts) (length (map graph_rows plan.modules)) (graph_rows graph)
module_rules plan i graph rules below is =
    let rows : List GraphRows = map graph_rows plan.modules in
    let within : suc i < suc (length rows) = omega (arith, below, length-map plan.modules graph_rows) in
    subst (IsGraph (length plan.texts) (length rows)) (sym (at plan.modules i graph below is)) (rules.graphs (suc i) (graph_rows graph) within)
  where
    at : (graphs : List Graph) (k : ℕ) (g : Graph) → k < length graphs → g ≡ get_or graphs k g → graph_rows g ≡ get_or (map graph_rows graphs) k (graph_rows g)
    at [] k g low same = absurd (omega (arith, low))
    at (h ∷ hs) zero g low same = ap graph_rows same
    at (h ∷ hs) (suc k) g low same = at hs k g (omega (arith, low)) same
