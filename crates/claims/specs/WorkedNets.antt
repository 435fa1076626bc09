-- The nets of the worked journals.
use Rattle.std.specs.Prelude.{ℕ, true, false, List, [], ◌∷◌}
use Rattle.task_graph.specs.NetRows.{NetRows}
use Rattle.task_graph.specs.declared.net.Shape.{Shape}
use Rattle.task_graph.specs.declared.net.Shape.TheVariants.{Plain, Choice, Many, Nested}
use Rattle.task_graph.specs.declared.net.TaskRow.{TaskRow}
use Rattle.task_graph.specs.declared.net.EdgeRow.{EdgeRow}

-- a task that needs no semaphore
abbrev pub free : Shape → TaskRow
free shape = record { shape = shape; takes = []; puts = [] }

-- a Plain task that takes and puts these semaphores
abbrev pub bound : List ℕ → List ℕ → TaskRow
bound takes puts = record { shape = Plain; takes = takes; puts = puts }

-- an edge without a token at the beginning
abbrev pub edge : ℕ → ℕ → EdgeRow
edge from to = record { from = from; to = to; start = false }

-- an edge from a task to itself, with a token at the beginning
abbrev pub ring : ℕ → EdgeRow
ring task = record { from = task; to = task; start = true }

-- task 1 after task 0
abbrev pub row_net : NetRows
row_net = record { tasks = free Plain ∷ free Plain ∷ []; edges = edge 0 1 ∷ []; sems = [] }

-- tasks 1 and 2 after task 0, and task 3 after both
abbrev pub diamond_net : NetRows
diamond_net = record {
  tasks = free Plain ∷ free Plain ∷ free Plain ∷ free Plain ∷ [];
  edges = edge 0 1 ∷ edge 0 2 ∷ edge 1 3 ∷ edge 2 3 ∷ [];
  sems = [];
}

-- task 1 after task 0, by two edges
abbrev pub double_net : NetRows
double_net = record { tasks = free Plain ∷ free Plain ∷ []; edges = edge 0 1 ∷ edge 0 1 ∷ []; sems = [] }

-- Task 0 begins a loop of task 1 and the Choice 2, which goes back by edge 2 or on to task 3 by edge 3.
abbrev pub loop_net : NetRows
loop_net = record {
  tasks = free Plain ∷ free Plain ∷ free Choice ∷ free Plain ∷ [];
  edges = edge 0 1 ∷ edge 1 2 ∷ edge 2 1 ∷ edge 2 3 ∷ [];
  sems = [];
}

-- Task 0 begins a loop of task 1 and the Choice 2, which goes back by edge 3. Task 4 follows task 1, by edge 2,
-- and task 3.
abbrev pub kept_net : NetRows
kept_net = record {
  tasks = free Plain ∷ free Plain ∷ free Choice ∷ free Plain ∷ free Plain ∷ [];
  edges = edge 0 1 ∷ edge 1 2 ∷ edge 1 4 ∷ edge 2 1 ∷ edge 3 4 ∷ [];
  sems = [];
}

-- after task 0 the Choice 1, with the one successor 2
abbrev pub choice_net : NetRows
choice_net = record { tasks = free Plain ∷ free Choice ∷ free Plain ∷ []; edges = edge 0 1 ∷ edge 1 2 ∷ []; sems = [] }

-- after task 0 the Many 1, with the successors 2 to 5 by the edges 1 to 4
abbrev pub route_net : NetRows
route_net = record {
  tasks = free Plain ∷ free Many ∷ free Plain ∷ free Plain ∷ free Plain ∷ free Plain ∷ [];
  edges = edge 0 1 ∷ edge 1 2 ∷ edge 1 3 ∷ edge 1 4 ∷ edge 1 5 ∷ [];
  sems = [];
}

-- after task 0 the Nested 1
abbrev pub nested_net : NetRows
nested_net = record { tasks = free Plain ∷ free Nested ∷ []; edges = edge 0 1 ∷ []; sems = [] }

-- after task 0 four tasks, each of which takes and puts the one unit of semaphore 0
abbrev pub one_unit_net : NetRows
one_unit_net = record {
  tasks = free Plain ∷ bound (0 ∷ []) (0 ∷ []) ∷ bound (0 ∷ []) (0 ∷ []) ∷ bound (0 ∷ []) (0 ∷ []) ∷ bound (0 ∷ []) (0 ∷ []) ∷ [];
  edges = edge 0 1 ∷ edge 0 2 ∷ edge 0 3 ∷ edge 0 4 ∷ [];
  sems = 1 ∷ [];
}

-- Task 0 takes the one unit of semaphore 0, task 1 after it puts it back, and task 2 takes it.
abbrev pub across_net : NetRows
across_net = record {
  tasks = bound (0 ∷ []) [] ∷ bound [] (0 ∷ []) ∷ bound (0 ∷ []) [] ∷ [];
  edges = edge 0 1 ∷ [];
  sems = 1 ∷ [];
}

-- two tasks that take the one unit of semaphore 0
abbrev pub takers_net : NetRows
takers_net = record { tasks = bound (0 ∷ []) [] ∷ bound (0 ∷ []) [] ∷ []; edges = []; sems = 1 ∷ [] }

-- the same two tasks, and one that needs no unit
abbrev pub takers_and_free_net : NetRows
takers_and_free_net = record {
  tasks = bound (0 ∷ []) [] ∷ bound (0 ∷ []) [] ∷ free Plain ∷ [];
  edges = [];
  sems = 1 ∷ [];
}

-- one task, which puts a unit of semaphore 0
abbrev pub putter_net : NetRows
putter_net = record { tasks = bound [] (0 ∷ []) ∷ []; edges = []; sems = 1 ∷ [] }

-- Task 0 puts a unit of semaphore 0, and task 1 takes one.
abbrev pub putter_and_taker_net : NetRows
putter_and_taker_net = record { tasks = bound [] (0 ∷ []) ∷ bound (0 ∷ []) [] ∷ []; edges = []; sems = 1 ∷ [] }

-- Tasks 0 and 1 put a unit of semaphore 0 each, and task 2 takes one.
abbrev pub putters_and_taker_net : NetRows
putters_and_taker_net = record {
  tasks = bound [] (0 ∷ []) ∷ bound [] (0 ∷ []) ∷ bound (0 ∷ []) [] ∷ [];
  edges = [];
  sems = 1 ∷ [];
}

-- two tasks without edges
abbrev pub apart_net : NetRows
apart_net = record { tasks = free Plain ∷ free Plain ∷ []; edges = []; sems = [] }

-- after task 0 the Choice 1, which goes to itself by edge 1 or to task 2 by edge 2
abbrev pub self_net : NetRows
self_net = record {
  tasks = free Plain ∷ free Choice ∷ free Plain ∷ [];
  edges = edge 0 1 ∷ edge 1 1 ∷ edge 1 2 ∷ [];
  sems = [];
}

-- Task 0 releases itself by edge 1, which begins with a token, and task 1 by edge 0.
abbrev pub ring_net : NetRows
ring_net = record { tasks = free Plain ∷ free Plain ∷ []; edges = edge 0 1 ∷ ring 0 ∷ []; sems = [] }

-- Tasks 0 and 1 release themselves by the edges 2 and 3, which begin with a token, and both release task 2.
abbrev pub two_rings_net : NetRows
two_rings_net = record {
  tasks = free Plain ∷ free Plain ∷ free Plain ∷ [];
  edges = edge 0 2 ∷ edge 1 2 ∷ ring 0 ∷ ring 1 ∷ [];
  sems = [];
}
