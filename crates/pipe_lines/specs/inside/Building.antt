-- Nets in the making, and the tags of their edges, one by one.
use Rattle.std.specs.Prelude.{ℕ, zero, suc, Bool, true, false, List, [], ◌∷◌, ◌++◌, map, replicate, if◌then◌else◌}
use Rattle.task_graph.specs.NetRows.{NetRows}
use Rattle.pipe_lines.specs.PipeNet.{PipeEdge, cell_row}

-- so many cells, without edges
abbrev pub cells_net : ℕ → NetRows
cells_net count = record { tasks = replicate count cell_row; edges = []; sems = [] }

-- the net with these edges more
abbrev pub with_edges : NetRows → List PipeEdge → NetRows
with_edges net edges = record { tasks = net.tasks; edges = net.edges ++ map (λ (edge : PipeEdge). edge.row) edges; sems = net.sems }

-- whether the edges out of a cell, of a line and of n lines lead along a pipe
abbrev pub cell_tags : Bool → List Bool
cell_tags is_serial = false ∷ (if is_serial then true ∷ [] else [])

abbrev pub line_tags : List Bool → List Bool
line_tags [] = []
line_tags (is_serial ∷ rest) = cell_tags is_serial ++ line_tags rest

abbrev pub all_tags : List Bool → ℕ → List Bool
all_tags serials zero = []
all_tags serials (suc n) = line_tags serials ++ all_tags serials n
