-- The net of lines and pipes.
use Rattle.std.specs.Prelude.{ℕ, suc, zero, ◌+◌, ◌*◌, ◌==◌, Bool, true, false, List, [], ◌∷◌, ◌++◌, map, length, replicate, if◌then◌else◌}
use Rattle.task_graph.specs.NetRows.{NetRows}
use Rattle.task_graph.specs.declared.net.Shape.TheVariants.{Plain}
use Rattle.task_graph.specs.declared.net.EdgeRow.{EdgeRow}
use Rattle.task_graph.specs.declared.net.TaskRow.{TaskRow}

-- the number after this one of n numbers, round
abbrev pub next : ℕ → ℕ → ℕ
next n i = if i + 1 == n then 0 else i + 1

-- the task of line l and pipe p
abbrev pub cell : ℕ → ℕ → ℕ → ℕ
cell pipes l p = l * pipes + p

-- an edge of a line or of a serial pipe, with the line's or the pipe's number
pub record PipeEdge : Type 0 where
  pub serial : Bool
  pub of : ℕ
  pub row : EdgeRow

-- the edge from a cell to the next one of its line; the one into pipe 0 begins with a token
abbrev pub line_edge : ℕ → ℕ → ℕ → PipeEdge
line_edge pipes l p = record { serial = false; of = l; row = record { from = cell pipes l p; to = cell pipes l (next pipes p); start = p + 1 == pipes } }

-- the edge from a cell to that of the next line in its pipe; the one into line 0 begins with a token
abbrev pub serial_edge : ℕ → ℕ → ℕ → ℕ → PipeEdge
serial_edge lines pipes l p = record { serial = true; of = p; row = record { from = cell pipes l p; to = cell pipes (next lines l) p; start = l + 1 == lines } }

abbrev pub cell_edges : ℕ → ℕ → ℕ → ℕ → Bool → List PipeEdge
cell_edges lines pipes l p is_serial = line_edge pipes l p ∷ (if is_serial then serial_edge lines pipes l p ∷ [] else [])

-- the edges out of the cells of a line from pipe p on
abbrev pub edges_from : ℕ → ℕ → ℕ → ℕ → List Bool → List PipeEdge
edges_from lines pipes l p [] = []
edges_from lines pipes l p (is_serial ∷ rest) = cell_edges lines pipes l p is_serial ++ edges_from lines pipes l (p + 1) rest

-- the edges out of the cells of n lines from line l on
abbrev pub line_edges : ℕ → List Bool → ℕ → ℕ → List PipeEdge
line_edges lines serials l zero = []
line_edges lines serials l (suc n) = edges_from lines (length serials) l 0 serials ++ line_edges lines serials (l + 1) n

-- the edges by rising number, those of cell (l, p) after those of the cells before it
abbrev pub pipe_edges : ℕ → List Bool → List PipeEdge
pipe_edges lines serials = line_edges lines serials 0 lines

-- whether each of them leads along a pipe
abbrev pub along_pipes : ℕ → List Bool → List Bool
along_pipes lines serials = map (λ (edge : PipeEdge). edge.serial) (pipe_edges lines serials)

-- the task of a cell, which needs no unit
abbrev pub cell_row : TaskRow
cell_row = record { shape = Plain; takes = []; puts = [] }

-- The net of so many lines and of these pipes. Of each pipe the list has whether it is serial.
abbrev pub pipe_net : ℕ → List Bool → NetRows
pipe_net lines serials = record {
  tasks = replicate (lines * length serials) cell_row;
  edges = map (λ (edge : PipeEdge). edge.row) (pipe_edges lines serials);
  sems = [];
}
