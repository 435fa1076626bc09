-- A net stays well formed, and plain, where a row is added.
use Rattle.std.proofs.Common.{◌≡◌, ℕ, zero, suc, ◌<◌, ◌≤◌, false, List, [], ◌∷◌, ◌++◌, length, slice_get, arith, refl, ap, ◌∙◌}
use Rattle.std.specs.Option.{option_map_or}
use Rattle.std.proofs.lemmas.List.{length_push}
use Rattle.std.proofs.lemmas.List.Elements.{All-push, All-weaker}
use Rattle.task_graph.specs.declared.net.TaskRow.{TaskRow}
use Rattle.task_graph.specs.declared.net.EdgeRow.{EdgeRow}
use Rattle.task_graph.specs.NetRows.{NetRows}
use Rattle.task_graph.specs.Net.{chooses, is_weak_row, IsEdgeOf, AreSemaphoresOf, IsTaskOf, IsNet, IsPlainTask, IsPlainNet}
use Rattle.task_graph.specs.NetBuilder.{task_limit, edge_limit, semaphore_limit, with_task, with_edge, with_semaphore}

-- an item behind the others doesn't move them
slice_get-push : {X : Type 0} (xs : List X) (x : X) (i : ℕ) → i < length xs → slice_get (xs ++ x ∷ []) i ≡ slice_get xs i
slice_get-push [] x i h = absurd (omega arith)
slice_get-push (y ∷ ys) x zero h = refl
slice_get-push (y ∷ ys) x (suc i) h = slice_get-push ys x i (omega arith)

-- one more task makes no earlier edge weak, nor strong
is_weak_row-with_task : (net : NetRows) (task : TaskRow) (row : EdgeRow) → row.from < length net.tasks → is_weak_row (with_task net task) row ≡ is_weak_row net row
is_weak_row-with_task net task row h =
    ap (λ found. option_map_or (λ t. chooses t.shape) found false) (slice_get-push net.tasks task row.from h)

-- the ends of an edge stay tasks
edge_with_task : (net : NetRows) (task : TaskRow) (row : EdgeRow) → IsEdgeOf net row → IsEdgeOf (with_task net task) row
edge_with_task net task row e = record {
  from_in_range = let l = length_push net.tasks task in let f = e.from_in_range in omega arith;
  to_in_range = let l = length_push net.tasks task in let t = e.to_in_range in omega arith;
  starts_strong = λ start. is_weak_row-with_task net task row e.from_in_range ∙ e.starts_strong start;
}

-- tasks depend on the semaphores alone
task_with_rows : (net : NetRows) (tasks : List TaskRow) (edges : List EdgeRow) (row : TaskRow) → IsTaskOf net row → IsTaskOf (record { tasks = tasks; edges = edges; sems = net.sems }) row
task_with_rows net tasks edges row t = record {
  takes = record { rising = t.takes.rising; in_range = t.takes.in_range };
  puts = record { rising = t.puts.rising; in_range = t.puts.in_range };
}

-- edges depend on the tasks alone
edge_with_rows : (net : NetRows) (edges : List EdgeRow) (row : EdgeRow) → IsEdgeOf net row → IsEdgeOf (record { tasks = net.tasks; edges = edges; sems = net.sems }) row
edge_with_rows net edges row e = record {
  from_in_range = e.from_in_range;
  to_in_range = e.to_in_range;
  starts_strong = e.starts_strong;
}

pub net_with_task : (net : NetRows) (row : TaskRow) → IsNet net → IsTaskOf net row → length net.tasks < task_limit → IsNet (with_task net row)
net_with_task net row n t room = record {
  tasks = let new = with_task net row in
      All-push (IsTaskOf new) net.tasks row (All-weaker (IsTaskOf net) (IsTaskOf new) (task_with_rows net new.tasks new.edges) net.tasks n.tasks) (task_with_rows net new.tasks new.edges row t);
  edges = All-weaker (IsEdgeOf net) (IsEdgeOf (with_task net row)) (edge_with_task net row) net.edges n.edges;
  sems = n.sems;
  task_count = let l = length_push net.tasks row in omega arith;
  edge_count = n.edge_count;
  sem_count = n.sem_count;
}

pub net_with_edge : (net : NetRows) (row : EdgeRow) → IsNet net → IsEdgeOf net row → length net.edges < edge_limit → IsNet (with_edge net row)
net_with_edge net row n e room = record {
  tasks = let new = with_edge net row in
      All-weaker (IsTaskOf net) (IsTaskOf new) (task_with_rows net new.tasks new.edges) net.tasks n.tasks;
  edges = let new = with_edge net row in
      All-push (IsEdgeOf new) net.edges row (All-weaker (IsEdgeOf net) (IsEdgeOf new) (edge_with_rows net new.edges) net.edges n.edges) (edge_with_rows net new.edges row e);
  sems = n.sems;
  task_count = n.task_count;
  edge_count = let l = length_push net.edges row in omega arith;
  sem_count = n.sem_count;
}

-- one more semaphore leaves the others' numbers in range
semaphores_with_one : (net : NetRows) (max : ℕ) (ids : List ℕ) → AreSemaphoresOf net ids → AreSemaphoresOf (with_semaphore net max) ids
semaphores_with_one net max ids are = record {
  rising = are.rising;
  in_range = All-weaker (λ s. s < length net.sems) (λ s. s < length (net.sems ++ max ∷ [])) (λ s h. let l = length_push net.sems max in omega arith) ids are.in_range;
}

task_with_semaphore : (net : NetRows) (max : ℕ) (row : TaskRow) → IsTaskOf net row → IsTaskOf (with_semaphore net max) row
task_with_semaphore net max row t = record {
  takes = semaphores_with_one net max row.takes t.takes;
  puts = semaphores_with_one net max row.puts t.puts;
}

edge_with_semaphore : (net : NetRows) (max : ℕ) (row : EdgeRow) → IsEdgeOf net row → IsEdgeOf (with_semaphore net max) row
edge_with_semaphore net max row e = record {
  from_in_range = e.from_in_range;
  to_in_range = e.to_in_range;
  starts_strong = e.starts_strong;
}

pub net_with_semaphore : (net : NetRows) (max : ℕ) → IsNet net → 1 ≤ max → length net.sems < semaphore_limit → IsNet (with_semaphore net max)
net_with_semaphore net max n positive room = record {
  tasks = All-weaker (IsTaskOf net) (IsTaskOf (with_semaphore net max)) (task_with_semaphore net max) net.tasks n.tasks;
  edges = All-weaker (IsEdgeOf net) (IsEdgeOf (with_semaphore net max)) (edge_with_semaphore net max) net.edges n.edges;
  sems = All-push (λ m. 1 ≤ m) net.sems max n.sems positive;
  task_count = n.task_count;
  edge_count = n.edge_count;
  sem_count = let l = length_push net.sems max in omega arith;
}

pub plain_with_task : (net : NetRows) (row : TaskRow) → IsPlainTask row → IsPlainNet net → IsPlainNet (with_task net row)
plain_with_task net row t p = record { tasks = All-push IsPlainTask net.tasks row p.tasks t; edges = p.edges }

pub plain_with_edge : (net : NetRows) (row : EdgeRow) → row.start ≡ false → IsPlainNet net → IsPlainNet (with_edge net row)
plain_with_edge net row s p = record { tasks = p.tasks; edges = All-push (λ (e : EdgeRow). e.start ≡ false) net.edges row p.edges s }
