-- The names that are written for a task.
use Rattle.std.proofs.Common.{◌≡◌, ◌==◌, ℕ, zero, suc, ◌+◌, ◌<◌, false, List, [], ◌∷◌, ◌++◌, map, filter, length, get_or, take, Bool, true, cond, All, refl, sym, ap, subst, ◌∙◌, append_assoc, arith}
use Rattle.std.proofs.lemmas.List.{get_or-map, length-append, length-map, map-append, take_more}
use Rattle.std.proofs.lemmas.Str.{IsUtf8-from_is_utf8}
use Rattle.std.proofs.Math.Seq.{get_or-append_seam}
use Rattle.std.specs.Str.{IsUtf8, is_utf8}
use Rattle.task_graph.specs.Places.{places_from}
use Rattle.task_graph.specs.Net.{out_edges}
use Rattle.task_graph.specs.declared.net.EdgeRow.{EdgeRow}
use Rattle.task_graph.specs.declared.net.TaskRow.{TaskRow}
use Rattle.serde_json.specs.Data.{Data}
use Rattle.graph_plans.specs.declared.ops.Op.{Op}
use Rattle.graph_plans.specs.declared.pipes.LineOp.{LineOp}
use Rattle.graph_plans.specs.declared.plans.Graph.{Graph}
use Rattle.graph_plans.specs.PlanRows.{GraphRows, PlanRows, graph_rows, names_of_graphs}
use Rattle.graph_writer.specs.WrittenPlan.{module_data, op_text, pipe_data, pipes_from, sem_data, sems_from, sems_named, task_data, tasks_from, to_of}
use Rattle.graph_drafts.specs.FileText.{TaskNames}
use Rattle.graph_writer.specs.inside.Writer.{HasSems, IsString, IsWritableGraph, end_name, names_at, no_row}

pub utf8_of : (text : List ℕ) → is_utf8 text ≡ true → IsUtf8 text
utf8_of = IsUtf8-from_is_utf8

-- a name at a place is UTF-8
pub utf8-at : (names : List (List ℕ)) (i : ℕ) (name : List ℕ) → i < length names → name ≡ get_or names i name → All IsString names → IsString name
utf8-at names i name within is all = subst IsString (sym is) (all i name within)

within_step : {X : Type 0} (p : X → Bool) (n k : ℕ) (here : Bool) (rest : List ℕ) (last : ℕ) → ((j : ℕ) → j < length rest → get_or rest j 0 < last) → n < last → k < length (cond here (n ∷ rest) rest) → get_or (cond here (n ∷ rest) rest) k 0 < last
within_step p n zero true rest last others less within = less
within_step p n (suc k) true rest last others less within = others k (omega arith)
within_step p n k false rest last others less within = others k within

places-within : {X : Type 0} (p : X → Bool) (n : ℕ) (xs : List X) (k : ℕ) → k < length (places_from p n xs) → get_or (places_from p n xs) k 0 < n + length xs
places-within p n [] k within = absurd (omega arith)
places-within p n (x ∷ xs) k within =
    within_step p n k (p x) (places_from p (suc n) xs) (n + suc (length xs)) (λ j less. let later = places-within p (suc n) xs j less in omega (arith, later)) (omega arith) within

-- an edge out of a task is one of the edges
pub edge-within : (graph : GraphRows) (t i : ℕ) (shown : List ℕ) → shown ≡ out_edges graph.net t → i < length shown → get_or shown i 0 < length graph.net.edges
edge-within graph t i shown same within =
    let long : i < length (out_edges graph.net t) = rw (← same) within in
    rw same (let less = places-within (λ (row : EdgeRow). row.from == t) 0 graph.net.edges i long in omega (arith, less))

ends_step : (names : List (List ℕ)) (all : List EdgeRow) (edge : EdgeRow) (here : Bool) (n : ℕ) (rest : List ℕ) (edges : List EdgeRow) → get_or all n (record { from = 0; to = 0; start = false }) ≡ edge
    → map (λ e. get_or names (get_or all e (record { from = 0; to = 0; start = false })).to []) rest ≡ map (λ (e : EdgeRow). get_or names e.to []) edges
    → map (λ e. get_or names (get_or all e (record { from = 0; to = 0; start = false })).to []) (cond here (n ∷ rest) rest) ≡ map (λ (e : EdgeRow). get_or names e.to []) (cond here (edge ∷ edges) edges)
ends_step names all edge true n rest edges at same = rw (at, same) refl
ends_step names all edge false n rest edges at same = same

ends-from : (names : List (List ℕ)) (t : ℕ) (before edges : List EdgeRow)
    → map (λ e. get_or names (get_or (before ++ edges) e (record { from = 0; to = 0; start = false })).to []) (places_from (λ (row : EdgeRow). row.from == t) (length before) edges)
    ≡ map (λ (e : EdgeRow). get_or names e.to []) (filter (λ (row : EdgeRow). row.from == t) edges)
ends-from names t before [] = refl
ends-from names t before (edge ∷ edges) =
    let d : EdgeRow = record { from = 0; to = 0; start = false } in
    let all = before ++ edge ∷ edges in
    let longer : (before ++ edge ∷ []) ++ edges ≡ all = append_assoc before (edge ∷ []) edges in
    let number : length (before ++ edge ∷ []) ≡ suc (length before) = omega (arith, length-append before (edge ∷ [])) in
    let others = rw (longer, number) at (ends-from names t (before ++ edge ∷ []) edges) in
    ends_step names all edge (edge.from == t) (length before) _ _ (get_or-append_seam before edge edges d) others

-- the names of the ends of a task's edges
pub ends-to : (graph : GraphRows) (t : ℕ) → map (end_name graph) (out_edges graph.net t) ≡ to_of graph t
ends-to graph t = ends-from graph.names t [] graph.net.edges

-- ---- task by task

-- the names of task number t of a graph, with these rows
abbrev named_at : GraphRows → ℕ → List ℕ → TaskRow → TaskNames
named_at graph t name row = record { name = name; to = to_of graph t; takes = sems_named graph row.takes; puts = sems_named graph row.puts }

module _ (texts modules : List (List ℕ)) (graph : GraphRows) where
  tasks-snoc : (t i : ℕ) (names : List (List ℕ)) (ops : List Op) (rows : List TaskRow) (d : Op) → i < length names → i < length ops → i < length rows
      → tasks_from texts modules graph t (take (suc i) names) (take (suc i) ops) (take (suc i) rows)
      ≡ tasks_from texts modules graph t (take i names) (take i ops) (take i rows) ++ task_data (op_text texts modules (get_or ops i d)) (named_at graph (t + i) (get_or names i []) (get_or rows i no_row)) ∷ []
  tasks-snoc t i [] ops rows d in_names in_ops in_rows = absurd (omega (arith, in_names))
  tasks-snoc t i (name ∷ names) [] rows d in_names in_ops in_rows = absurd (omega (arith, in_ops))
  tasks-snoc t i (name ∷ names) (op ∷ ops) [] d in_names in_ops in_rows = absurd (omega (arith, in_rows))
  tasks-snoc t zero (name ∷ names) (op ∷ ops) (row ∷ rows) d in_names in_ops in_rows = let here : t + 0 ≡ t = omega arith in rw here refl
  tasks-snoc t (suc i) (name ∷ names) (op ∷ ops) (row ∷ rows) d in_names in_ops in_rows =
      let number : t + suc i ≡ suc t + i = omega arith in
      ap (λ ds. task_data (op_text texts modules op) (named_at graph t name row) ∷ ds) (rw number (tasks-snoc (suc t) i names ops rows d (omega (arith, in_names)) (omega (arith, in_ops)) (omega (arith, in_rows))))

  -- one task more was written
  pub tasks-more : (i : ℕ) (op : Op) (old : List Data) (new : Data) → i < length graph.ops → length graph.ops ≡ length graph.names → length graph.net.tasks ≡ length graph.names
      → op ≡ get_or graph.ops i op → new ≡ task_data (op_text texts modules op) (names_at graph i)
      → old ≡ tasks_from texts modules graph 0 (take i graph.names) (take i graph.ops) (take i graph.net.tasks)
      → old ++ new ∷ [] ≡ tasks_from texts modules graph 0 (take (i + 1) graph.names) (take (i + 1) graph.ops) (take (i + 1) graph.net.tasks)
  tasks-more i op old new within count tasks is written so_far =
      let in_names : i < length graph.names = omega (arith, within, count) in
      let in_rows : i < length graph.net.tasks = omega (arith, in_names, tasks) in
      let number : i + 1 ≡ suc i = omega arith in
      let here : 0 + i ≡ i = omega arith in
      let at_op : get_or graph.ops i op ≡ op = sym is in
      rw (number, tasks-snoc 0 i graph.names graph.ops graph.net.tasks op in_names within in_rows, here, at_op, so_far, written) refl

-- the semaphores of a task are semaphores
pub row-sems : (count t : ℕ) (row : TaskRow) (rows shown : List TaskRow) → shown ≡ rows → t < length rows → row ≡ get_or shown t row → All (HasSems count) rows → HasSems count row
row-sems count t row rows shown same within is all = subst (HasSems count) (sym (is ∙ ap (λ rs. get_or rs t row) same)) (all t row within)

-- ---- semaphores

sems-snoc : (names : List (List ℕ)) (maxima : List ℕ) (i : ℕ) → i < length names → i < length maxima
    → sems_from (take (suc i) names) (take (suc i) maxima) ≡ sems_from (take i names) (take i maxima) ++ sem_data (get_or names i []) (get_or maxima i 0) ∷ []
sems-snoc [] maxima i in_names in_maxima = absurd (omega (arith, in_names))
sems-snoc (name ∷ names) [] i in_names in_maxima = absurd (omega (arith, in_maxima))
sems-snoc (name ∷ names) (max ∷ maxima) zero in_names in_maxima = refl
sems-snoc (name ∷ names) (max ∷ maxima) (suc i) in_names in_maxima = ap (λ ds. sem_data name max ∷ ds) (sems-snoc names maxima i (omega (arith, in_names)) (omega (arith, in_maxima)))

-- one semaphore more was written
pub sems-more : (names : List (List ℕ)) (maxima : List ℕ) (i : ℕ) (old : List Data) (new : Data) → i < length names → length maxima ≡ length names → new ≡ sem_data (get_or names i []) (get_or maxima i 0)
    → old ≡ sems_from (take i names) (take i maxima) → old ++ new ∷ [] ≡ sems_from (take (i + 1) names) (take (i + 1) maxima)
sems-more names maxima i old new within count written so_far =
    let number : i + 1 ≡ suc i = omega arith in
    rw (number, sems-snoc names maxima i within (omega (arith, within, count)), so_far, written) refl

-- ---- pipes

pipes-snoc : (serial : List Bool) (ops : List LineOp) (i : ℕ) (op : LineOp) → i < length serial → i < length ops
    → pipes_from (take (suc i) serial) (take (suc i) ops) ≡ pipes_from (take i serial) (take i ops) ++ pipe_data (get_or serial i false) (get_or ops i op) ∷ []
pipes-snoc [] ops i op in_serial in_ops = absurd (omega (arith, in_serial))
pipes-snoc (s ∷ serial) [] i op in_serial in_ops = absurd (omega (arith, in_ops))
pipes-snoc (s ∷ serial) (o ∷ ops) zero op in_serial in_ops = refl
pipes-snoc (s ∷ serial) (o ∷ ops) (suc i) op in_serial in_ops = ap (λ ds. pipe_data s o ∷ ds) (pipes-snoc serial ops i op (omega (arith, in_serial)) (omega (arith, in_ops)))

-- one pipe more was written
pub pipes-more : (serial : List Bool) (ops : List LineOp) (i : ℕ) (op : LineOp) (old : List Data) (new : Data) → i < length ops → length ops ≡ length serial → op ≡ get_or ops i op → new ≡ pipe_data (get_or serial i false) op
    → old ≡ pipes_from (take i serial) (take i ops) → old ++ new ∷ [] ≡ pipes_from (take (i + 1) serial) (take (i + 1) ops)
pipes-more serial ops i op old new within count is written so_far =
    let number : i + 1 ≡ suc i = omega arith in
    let at_op : get_or ops i op ≡ op = sym is in
    rw (number, pipes-snoc serial ops i op (omega (arith, within, count)) within, at_op, so_far, written) refl

-- ---- modules

names-shown : (graphs : List Graph) → map (λ (graph : Graph). graph.name) graphs ≡ names_of_graphs (map graph_rows graphs)
names-shown [] = refl
names-shown (graph ∷ graphs) = ap (λ ns. graph.name ∷ ns) (names-shown graphs)

-- the name of the module at a place
pub name-at : (graphs : List Graph) (m : ℕ) (d : Graph) → m < length graphs → (get_or graphs m d).name ≡ get_or (names_of_graphs (map graph_rows graphs)) m []
name-at graphs m d within = sym (get_or-map (λ (graph : Graph). graph.name) graphs m d [] within) ∙ ap (λ ns. get_or ns m []) (names-shown graphs)

pub names-count : (graphs : List Graph) → length (names_of_graphs (map graph_rows graphs)) ≡ length graphs
names-count graphs = ap length (sym (names-shown graphs)) ∙ length-map graphs (λ (graph : Graph). graph.name)

-- one module more was written
pub modules-more : (plan : PlanRows) (graphs : List Graph) (i : ℕ) (graph : Graph) (old : List Data) (new : Data) → i < length graphs → graph ≡ get_or graphs i graph → new ≡ module_data plan (graph_rows graph)
    → old ≡ map (module_data plan) (map graph_rows (take i graphs)) → old ++ new ∷ [] ≡ map (module_data plan) (map graph_rows (take (i + 1) graphs))
modules-more plan graphs i graph old new within is written so_far =
    let longer : take (i + 1) graphs ≡ take i graphs ++ graph ∷ [] = take_more graphs i graph within ∙ rw (← is) refl in
    rw (longer, map-append graph_rows (take i graphs) (graph ∷ []), map-append (module_data plan) (map graph_rows (take i graphs)) (graph_rows graph ∷ []), so_far, written) refl

-- a module of a plan can be written
pub module-writable : (texts modules : List (List ℕ)) (graphs : List Graph) (i : ℕ) (graph : Graph) → i < length graphs → graph ≡ get_or graphs i graph → All (IsWritableGraph texts modules) (map graph_rows graphs) → IsWritableGraph texts modules (graph_rows graph)
module-writable texts modules graphs i graph within is all =
    let long : i < length (map graph_rows graphs) = rw (length-map graphs graph_rows) within in
    let at : get_or (map graph_rows graphs) i (graph_rows graph) ≡ graph_rows graph = get_or-map graph_rows graphs i graph (graph_rows graph) within ∙ ap graph_rows (sym is) in
    subst (IsWritableGraph texts modules) at (all i (graph_rows graph) long)

pub module-named : (graphs : List Graph) (i : ℕ) (graph : Graph) → i < length graphs → graph ≡ get_or graphs i graph → All IsString (names_of_graphs (map graph_rows graphs)) → IsString graph.name
module-named graphs i graph within is all =
    let long : i < length (names_of_graphs (map graph_rows graphs)) = rw (names-count graphs) within in
    subst IsString (sym (name-at graphs i graph within) ∙ ap (λ (g : Graph). g.name) (sym is)) (all i [] long)
