-- What the builder of nets answers, and which nets are well formed, computed on small ones.
use Rattle.std.proofs.Common.{◌≡◌, ℕ, true, false, List, [], ◌∷◌, length, map, Ok, Err, refl, ap, arith}
use Rattle.std.specs.Prelude.{replicate}
use Rattle.task_graph.specs.declared.net.Shape.{Shape}
use Rattle.task_graph.specs.declared.net.Shape.TheVariants.{Plain, Choice}
use Rattle.task_graph.specs.declared.net.TaskRow.{TaskRow}
use Rattle.task_graph.specs.declared.net.EdgeRow.{EdgeRow}
use Rattle.task_graph.specs.declared.builder.BuildError.TheVariants.{NoSuchTask, ZeroCount, Repeated, WeakStart, TooMany, NoMemory}
use Rattle.task_graph.specs.NetRows.{NetRows}
use Rattle.task_graph.specs.Net.{IsSource, IsNet}
use Rattle.task_graph.specs.NetBuilder.{task_limit, edge_limit, with_task, with_edge, with_semaphore, AddsTask, AddsEdge, SemaphoreAnswer, TaskAnswer, EdgeAnswer, RefusesTask, RefusesEdge, RefusesSemaphore}

abbrev free : Shape → TaskRow
free shape = record { shape = shape; takes = []; puts = [] }

abbrev edge : ℕ → ℕ → EdgeRow
edge from to = record { from = from; to = to; start = false }

-- a plain task that leads to a choice, and a semaphore of two units
abbrev net : NetRows
net = record { tasks = free Plain ∷ free Choice ∷ []; edges = edge 0 1 ∷ []; sems = 2 ∷ [] }

-- An edge from a task to itself leads into it too.
no_source_by_its_own_edge : ¬ IsSource (record { tasks = free Plain ∷ []; edges = edge 0 0 ∷ []; sems = [] }) 0
no_source_by_its_own_edge is = absurd (cc)

-- A net is well formed by each of its tasks, edges and semaphores.
edge_to_no_task : ¬ IsNet (with_edge net (edge 0 2))
edge_to_no_task is = absurd (omega (arith, (is.edges 1 (edge 0 0) (omega arith)).to_in_range))

task_of_no_semaphore : ¬ IsNet (with_task net (record { shape = Plain; takes = 1 ∷ []; puts = [] }))
task_of_no_semaphore is = absurd (omega (arith, (is.tasks 2 (free Plain) (omega arith)).takes.in_range 0 0 (omega arith)))

-- What is added is added alone.
edge_added_alone : with_edge net (edge 1 0) ≡ record net { edges = edge 0 1 ∷ edge 1 0 ∷ [] }
edge_added_alone = refl

task_added_alone : with_task net (free Plain) ≡ record net { tasks = free Plain ∷ free Choice ∷ free Plain ∷ [] }
task_added_alone = refl

semaphore_added_alone : with_semaphore net 7 ≡ record net { sems = 2 ∷ 7 ∷ [] }
semaphore_added_alone = refl

-- A semaphore that is added has the number of its place; one that is refused leaves the net as it was.
semaphore_numbered : SemaphoreAnswer net 7 (Ok 1) (with_semaphore net 7)
semaphore_numbered = record { positive = omega arith; room = omega arith; number = refl; rows = refl }

semaphore_of_another_number : ¬ SemaphoreAnswer net 7 (Ok 0) (with_semaphore net 7)
semaphore_of_another_number is = absurd (omega (arith, is.number))

semaphore_of_another_maximum : ¬ SemaphoreAnswer net 7 (Ok 1) (with_semaphore net 6)
semaphore_of_another_maximum is = let same = ap (λ (made : NetRows). made.sems) is.rows in absurd (cc)

empty_semaphore_added : ¬ SemaphoreAnswer net 0 (Ok 1) (with_semaphore net 0)
empty_semaphore_added is = absurd (omega (arith, is.positive))

abbrev full_of_semaphores : NetRows
full_of_semaphores = record { tasks = []; edges = []; sems = replicate 256 1 }

one_semaphore_too_many : ¬ SemaphoreAnswer full_of_semaphores 1 (Ok 256) (with_semaphore full_of_semaphores 1)
one_semaphore_too_many is = absurd (omega (arith, is.room))

semaphores_full : RefusesSemaphore full_of_semaphores 1 (TooMany 256)
semaphores_full = (omega arith, refl, refl)

no_memory_comes_after_full : ¬ RefusesSemaphore full_of_semaphores 1 NoMemory
no_memory_comes_after_full is = absurd (omega (arith, is.1))

semaphore_refused : SemaphoreAnswer net 0 (Err ZeroCount) net
semaphore_refused = (refl, refl)

semaphore_refused_and_added : ¬ SemaphoreAnswer net 0 (Err ZeroCount) (with_semaphore net 0)
semaphore_refused_and_added is = let same = ap (λ (made : NetRows). made.sems) is.1 in absurd (cc)

-- So has a task, whose lists are kept by rising number.
task_numbered : TaskAnswer net (record { shape = Plain; takes = 0 ∷ []; puts = [] }) (Ok 2) (with_task net (record { shape = Plain; takes = 0 ∷ []; puts = [] }))
task_numbered = record { fits = record { known = refl; once = refl }; room = omega arith; number = refl; rows = refl }

task_of_another_number : ¬ TaskAnswer net (free Plain) (Ok 1) (with_task net (free Plain))
task_of_another_number is = absurd (omega (arith, is.number))

task_of_another_shape : ¬ TaskAnswer net (free Plain) (Ok 2) (with_task net (free Choice))
task_of_another_shape is = let same = ap (λ (made : NetRows). map (λ (row : TaskRow). row.shape) made.tasks) is.rows in absurd (cc)

task_of_an_unknown_semaphore : ¬ TaskAnswer net (record { shape = Plain; takes = []; puts = 1 ∷ [] }) (Ok 2) (with_task net (free Plain))
task_of_an_unknown_semaphore is = let known = is.fits.known in absurd (cc)

task_that_takes_twice : ¬ TaskAnswer net (record { shape = Plain; takes = 0 ∷ 0 ∷ []; puts = [] }) (Ok 2) (with_task net (record { shape = Plain; takes = 0 ∷ []; puts = [] }))
task_that_takes_twice is = let once = is.fits.once in absurd (cc)

one_task_too_many : (rows : List TaskRow) → length rows ≡ task_limit → ¬ AddsTask (record net { tasks = rows }) (free Plain) task_limit (with_task (record net { tasks = rows }) (free Plain))
one_task_too_many rows full is = absurd (omega (arith, full, is.room))

tasks_full : (rows : List TaskRow) → length rows ≡ task_limit → RefusesTask (record net { tasks = rows }) (free Plain) (TooMany task_limit)
tasks_full rows full = (record { known = refl; once = refl }, refl, full)

unknown_semaphore_comes_first : ¬ RefusesTask net (record { shape = Plain; takes = 9 ∷ []; puts = [] }) (TooMany task_limit)
unknown_semaphore_comes_first is = let known = is.0.known in absurd (cc)

task_refused : TaskAnswer net (record { shape = Plain; takes = 0 ∷ 0 ∷ []; puts = [] }) (Err (Repeated 0)) net
task_refused = ((refl, refl), refl)

task_refused_and_added : ¬ TaskAnswer net (record { shape = Plain; takes = 0 ∷ 0 ∷ []; puts = [] }) (Err (Repeated 0)) (with_task net (free Plain))
task_refused_and_added is = let longer = ap (λ (made : NetRows). length made.tasks) is.1 in absurd (omega (arith, longer))

-- And an edge. The first of its ends that is no task is told, also where it is the number just past the tasks.
edge_numbered : EdgeAnswer net (edge 0 0) (Ok 1) (with_edge net (edge 0 0))
edge_numbered = record { fits = record { from_in_range = omega arith; to_in_range = omega arith; starts_strong = λ start. refl }; room = omega arith; number = refl; rows = refl }

edge_of_another_number : ¬ EdgeAnswer net (edge 0 0) (Ok 2) (with_edge net (edge 0 0))
edge_of_another_number is = absurd (omega (arith, is.number))

edge_turned_round : ¬ EdgeAnswer net (edge 0 1) (Ok 1) (with_edge net (edge 1 0))
edge_turned_round is = let same = ap (λ (made : NetRows). map (λ (row : EdgeRow). row.from) made.edges) is.rows in absurd (cc)

edge_to_no_task_added : ¬ EdgeAnswer net (edge 0 2) (Ok 1) (with_edge net (edge 0 2))
edge_to_no_task_added is = absurd (omega (arith, is.fits.to_in_range))

one_edge_too_many : (rows : List EdgeRow) → length rows ≡ edge_limit → ¬ AddsEdge (record net { edges = rows }) (edge 0 1) edge_limit (with_edge (record net { edges = rows }) (edge 0 1))
one_edge_too_many rows full is = absurd (omega (arith, full, is.room))

edges_full : (rows : List EdgeRow) → length rows ≡ edge_limit → RefusesEdge (record net { edges = rows }) (edge 0 1) (TooMany edge_limit)
edges_full rows full = (record { from_in_range = omega arith; to_in_range = omega arith; starts_strong = λ start. refl }, refl, full)

unknown_end_comes_first : ¬ RefusesEdge net (edge 0 2) (TooMany edge_limit)
unknown_end_comes_first is = absurd (omega (arith, is.0.to_in_range))

from_just_past_the_tasks : RefusesEdge net (edge 2 9) (NoSuchTask 2)
from_just_past_the_tasks = record { unknown = omega arith; from_first = λ past. refl; then_to = λ within. absurd (omega (arith, within)) }

neither_end : ¬ RefusesEdge net (edge 1 2) (NoSuchTask 5)
neither_end is = absurd (omega (arith, is.then_to (omega arith)))

weak_start_to_no_task : ¬ RefusesEdge net (record { from = 1; to = 2; start = true }) WeakStart
weak_start_to_no_task is = absurd (omega (arith, is.to_in_range))

edge_refused : EdgeAnswer net (record { from = 1; to = 0; start = true }) (Err WeakStart) net
edge_refused = (record { from_in_range = omega arith; to_in_range = omega arith; start = refl; weak = refl }, refl)

edge_refused_and_added : ¬ EdgeAnswer net (record { from = 1; to = 0; start = true }) (Err WeakStart) (with_edge net (edge 1 0))
edge_refused_and_added is = let longer = ap (λ (made : NetRows). length made.edges) is.1 in absurd (omega (arith, longer))
