-- Nets in the making.
use Rattle.std.proofs.Common.{◌≡◌, ◌≢◌, ℕ, zero, suc, ◌+◌, ◌<◌, List, [], ◌∷◌, ◌++◌, length, map, take, get_or, None, All, refl, sym, subst, ap, ◌∙◌, append_assoc, arith}
use Rattle.std.proofs.lemmas.Option.{none-some}
use Rattle.std.proofs.lemmas.List.{append-nil, length-take-le}
use Rattle.task_graph.specs.NetRows.{NetRows}
use Rattle.task_graph.specs.NetBuilder.{with_task, repeated_semaphore, unknown_semaphore, RefusesTask}
use Rattle.task_graph.specs.declared.builder.BuildError.{BuildError}
use Rattle.task_graph.specs.declared.builder.BuildError.TheVariants.{NoSuchTask, NoSuchSemaphore, ZeroCount, Repeated, WeakStart, TooMany, NoMemory}
use Rattle.task_graph.specs.declared.net.EdgeRow.{EdgeRow}
use Rattle.task_graph.specs.declared.net.TaskRow.{TaskRow}
use Rattle.graph_plans.specs.declared.ops.Op.{Op}
use Rattle.graph_file.specs.declared.numbers.TaskNumbers.{TaskNumbers}
use Rattle.graph_file.specs.PlanText.{edge_to, edges_from, task_row, task_rows}
use Rattle.graph_file.specs.inside.Drafts.{AreIds, NamesOnce, net_with}
use Rattle.graph_file.proofs.SettledLemmas.{none-twice, none-unknown}

-- ---- a task of lists that name semaphores of the net, none twice

module _ (net : NetRows) (row : TaskRow) (takes : AreIds (length net.sems) row.takes) (puts : AreIds (length net.sems) row.puts) where
  no-unknown : unknown_semaphore net row.takes row.puts ≡ None
  no-unknown = rw (none-unknown (length net.sems) row.takes takes.in_range) (none-unknown (length net.sems) row.puts puts.in_range)

  no-repeated : repeated_semaphore net row.takes row.puts ≡ None
  no-repeated = rw (none-twice (length net.sems) row.takes takes.differ) (none-twice (length net.sems) row.puts puts.differ)

  -- Nothing but want of memory refuses it while the net has room.
  pub not-refused : (error : BuildError) → length net.tasks < 10000 → error ≢ NoMemory → RefusesTask net row error → ⊥
  not-refused (NoSuchTask id) room other never = never
  not-refused (NoSuchSemaphore id) room other unknown = none-some id (sym no-unknown ∙ unknown)
  not-refused ZeroCount room other never = never
  not-refused (Repeated id) room other repeated = none-some id (sym no-repeated ∙ repeated.1)
  not-refused WeakStart room other never = never
  not-refused (TooMany count) room other full = absurd (omega (arith, room, full.2))
  not-refused NoMemory room other refused = other refl

-- ---- tasks and edges, one after another

-- one task more
pub task_rows-more : (sems : ℕ) (ops : List Op) (tasks : List TaskNumbers) (i : ℕ) (op : Op) (task : TaskNumbers) → i < length ops → i < length tasks
    → task_rows sems (take (suc i) ops) (take (suc i) tasks) ≡ task_rows sems (take i ops) (take i tasks) ++ task_row sems (get_or ops i op) (get_or tasks i task) ∷ []
task_rows-more sems [] tasks i op task in_ops in_tasks = absurd (omega (arith, in_ops))
task_rows-more sems (o ∷ ops) [] i op task in_ops in_tasks = absurd (omega (arith, in_tasks))
task_rows-more sems (o ∷ ops) (t ∷ tasks) zero op task in_ops in_tasks = refl
task_rows-more sems (o ∷ ops) (t ∷ tasks) (suc i) op task in_ops in_tasks = ap (λ rows. task_row sems o t ∷ rows) (task_rows-more sems ops tasks i op task (omega (arith, in_ops)) (omega (arith, in_tasks)))

pub task_rows-length : (sems : ℕ) (ops : List Op) (tasks : List TaskNumbers) → length tasks ≡ length ops → length (task_rows sems ops tasks) ≡ length ops
task_rows-length sems [] tasks count = refl
task_rows-length sems (op ∷ ops) [] count = absurd (omega (arith, count))
task_rows-length sems (op ∷ ops) (task ∷ tasks) count = ap suc (task_rows-length sems ops tasks (omega (arith, count)))

-- the edges of one task more
pub edges_from-more : (n : ℕ) (tasks : List TaskNumbers) (i : ℕ) (task : TaskNumbers) → i < length tasks
    → edges_from n (take (suc i) tasks) ≡ edges_from n (take i tasks) ++ map (edge_to (n + i)) (get_or tasks i task).to
edges_from-more n [] i task within = absurd (omega (arith, within))
edges_from-more n (t ∷ tasks) zero task within = let here : n + 0 ≡ n = omega arith in rw here (append-nil (map (edge_to n) t.to))
edges_from-more n (t ∷ tasks) (suc i) task within =
    let number : n + suc i ≡ suc n + i = omega arith in
    rw number (ap (λ es. map (edge_to n) t.to ++ es) (edges_from-more (suc n) tasks i task (omega (arith, within))) ∙ sym (append_assoc (map (edge_to n) t.to) (edges_from (suc n) (take i tasks)) _))

-- ---- while the tasks are added

pub rows-before : (sems : ℕ) (ops : List Op) (tasks : List TaskNumbers) (n : ℕ) → n < length ops → length tasks ≡ length ops → length (task_rows sems (take n ops) (take n tasks)) ≡ n
rows-before sems ops tasks n within each =
    let first : length (take n ops) ≡ n = length-take-le n ops (omega (arith, within)) in
    let second : length (take n tasks) ≡ n = length-take-le n tasks (omega (arith, within, each)) in
    task_rows-length sems (take n ops) (take n tasks) (second ∙ sym first) ∙ first

pub units-at : (count : ℕ) (tasks : List TaskNumbers) (i : ℕ) (task : TaskNumbers) → i < length tasks → task ≡ get_or tasks i task → All (NamesOnce count) tasks → NamesOnce count task
units-at count tasks i task within is all = subst (NamesOnce count) (sym is) (all i task within)

pub net_with-more : (sems : List ℕ) (ops : List Op) (tasks : List TaskNumbers) (n : ℕ) (op : Op) (task : TaskNumbers) (old new : NetRows) → n < length ops → length tasks ≡ length ops → op ≡ get_or ops n op → task ≡ get_or tasks n task
    → old ≡ net_with sems (take n ops) (take n tasks) [] → new ≡ with_task old (task_row (length old.sems) op task) → new ≡ net_with sems (take (n + 1) ops) (take (n + 1) tasks) []
net_with-more sems ops tasks n op task old new within each is_op is_task so_far added =
    let number : n + 1 ≡ suc n = omega arith in
    let at_op : get_or ops n op ≡ op = sym is_op in
    let at_task : get_or tasks n task ≡ task = sym is_task in
    added ∙ rw (so_far, number, task_rows-more (length sems) ops tasks n op task within (omega (arith, within, each)), at_op, at_task) refl

-- the edges of one task more
pub edges-more : (tasks : List TaskNumbers) (i : ℕ) (task : TaskNumbers) (old : List EdgeRow) → i < length tasks → task ≡ get_or tasks i task → old ≡ edges_from 0 (take i tasks)
    → old ++ map (edge_to i) task.to ≡ edges_from 0 (take (i + 1) tasks)
edges-more tasks i task old within is so_far =
    let number : i + 1 ≡ suc i = omega arith in
    let here : 0 + i ≡ i = omega arith in
    let at_task : get_or tasks i task ≡ task = sym is in
    rw (number, edges_from-more 0 tasks i task within, here, at_task, so_far) refl
