-- Nets in the making, edge by edge.
use Rattle.std.proofs.Common.{◌≡◌, ℕ, suc, ◌+◌, ◌-◌, ◌<◌, Bool, List, [], ◌∷◌, ◌++◌, length, map, sym, refl, ap, ◌∙◌, append_assoc, arith}
use Rattle.task_graph.specs.NetRows.{NetRows}
use Rattle.task_graph.specs.declared.net.EdgeRow.{EdgeRow}
use Rattle.pipe_lines.specs.PipeNet.{PipeEdge, edges_from, line_edges}
use Rattle.pipe_lines.specs.inside.Building.{with_edges}

map_append : (xs ys : List PipeEdge) → map (λ (edge : PipeEdge). edge.row) (xs ++ ys) ≡ map (λ (edge : PipeEdge). edge.row) xs ++ map (λ (edge : PipeEdge). edge.row) ys
map_append [] ys = refl
map_append (x ∷ xs) ys = ap (λ zs. x.row ∷ zs) (map_append xs ys)

-- edges and then edges
pub edges_twice : (net : NetRows) (xs ys : List PipeEdge) → with_edges (with_edges net xs) ys ≡ with_edges net (xs ++ ys)
edges_twice net xs ys =
    ap (λ (edges : List EdgeRow). record { tasks = net.tasks; edges = edges; sems = net.sems })
    (append_assoc net.edges (map (λ (edge : PipeEdge). edge.row) xs) (map (λ (edge : PipeEdge). edge.row) ys) ∙ ap (λ zs. net.edges ++ zs) (sym (map_append xs ys)))

-- one line more
pub line_more : (old new : NetRows) (lines line : ℕ) (serials : List Bool) → line < lines → new ≡ with_edges old (edges_from lines (length serials) line 0 serials)
    → with_edges new (line_edges lines serials (line + 1) (lines - (line + 1))) ≡ with_edges old (line_edges lines serials line (lines - line))
line_more old new lines line serials below made =
    ap (λ net. with_edges net (line_edges lines serials (line + 1) (lines - (line + 1)))) made
    ∙ edges_twice old (edges_from lines (length serials) line 0 serials) (line_edges lines serials (line + 1) (lines - (line + 1)))
    ∙ ap (λ n. with_edges old (line_edges lines serials line n)) count
  where
    count : suc (lines - (line + 1)) ≡ lines - line
    count = omega arith
