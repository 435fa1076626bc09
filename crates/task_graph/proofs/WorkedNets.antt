-- The definitions of nets, computed on a small one.
use Rattle.std.proofs.Common.{◌≡◌, ℕ, true, false, [], ◌∷◌, Some, None, pos, negsuc, refl, arith}
use Rattle.task_graph.specs.declared.net.Shape.{Shape}
use Rattle.task_graph.specs.declared.net.Shape.TheVariants.{Plain, Choice, Many, Nested}
use Rattle.task_graph.specs.declared.net.TaskRow.{TaskRow}
use Rattle.task_graph.specs.declared.net.EdgeRow.{EdgeRow}
use Rattle.task_graph.specs.declared.builder.BuildError.TheVariants.{NoSuchTask, NoSuchSemaphore, ZeroCount, Repeated, WeakStart, TooMany, NoMemory}
use Rattle.task_graph.specs.NetRows.{NetRows}
use Rattle.task_graph.specs.Places.{places}
use Rattle.task_graph.specs.Net.{chooses, task_chooses, is_weak, out_edges, in_edges, strong_in, weak_in, IsSource, IsEdgeOf, AreSemaphoresOf, IsTaskOf, IsNet, IsPlainTask, IsPlainNet}
use Rattle.task_graph.specs.Chosen.{chosen_edges, IsAnswerFor}
use Rattle.task_graph.specs.NetBuilder.{task_limit, edge_limit, semaphore_limit, empty_net, with_task, with_edge, with_semaphore, settled, unknown_semaphore, repeated_semaphore, RefusesTask, RefusesEdge, RefusesSemaphore}

-- A plain task that leads to a choice, which leads to a task with an inner graph twice and to a multi-choice; the
-- latter leads back to the choice, and the nested task to itself with a token at the beginning.
abbrev row : Shape → TaskRow
row shape = record { shape = shape; takes = []; puts = [] }

abbrev edge : ℕ → ℕ → EdgeRow
edge from to = record { from = from; to = to; start = false }

abbrev net : NetRows
net = record {
  tasks = row Plain ∷ row Choice ∷ row Nested ∷ row Many ∷ [];
  edges = edge 0 1 ∷ edge 1 2 ∷ edge 1 2 ∷ edge 1 3 ∷ edge 3 1 ∷ record { from = 2; to = 2; start = true } ∷ [];
  sems = 2 ∷ 1 ∷ 5 ∷ [];
}

-- Places count from 0.
places_rise : places chooses (Plain ∷ Choice ∷ Nested ∷ Many ∷ []) ≡ 1 ∷ 3 ∷ []
places_rise = refl

-- Edges out of choosing tasks are weak, and no others.
weak_out_of_choice : is_weak net 1 ≡ true
weak_out_of_choice = refl

weak_out_of_many : is_weak net 4 ≡ true
weak_out_of_many = refl

strong_out_of_plain : is_weak net 0 ≡ false
strong_out_of_plain = refl

strong_out_of_nested : is_weak net 5 ≡ false
strong_out_of_nested = refl

no_edge_is_strong : is_weak net 6 ≡ false
no_edge_is_strong = refl

no_task_chooses : task_chooses net 4 ≡ false
no_task_chooses = refl

-- The edges of a task, by rising number; two edges between two tasks are two.
out_of_choice : out_edges net 1 ≡ 1 ∷ 2 ∷ 3 ∷ []
out_of_choice = refl

into_choice : in_edges net 1 ≡ 0 ∷ 4 ∷ []
into_choice = refl

strong_into_choice : strong_in net 1 ≡ 0 ∷ []
strong_into_choice = refl

weak_into_choice : weak_in net 1 ≡ 4 ∷ []
weak_into_choice = refl

into_nested : strong_in net 2 ≡ 5 ∷ []
into_nested = refl

weak_into_nested : weak_in net 2 ≡ 1 ∷ 2 ∷ []
weak_into_nested = refl

-- A source has no in-edge, be it strong or weak.
source : IsSource net 0
source = refl

no_source_by_a_weak_edge : ¬ IsSource net 3
no_source_by_a_weak_edge is = absurd (cc)

-- What an answer chooses: the edges at the indices in range, each where it is first named.
each_once : chosen_edges (4 ∷ 7 ∷ 9 ∷ []) (pos 1 ∷ pos 1 ∷ pos 0 ∷ pos 7 ∷ negsuc 0 ∷ []) ≡ 7 ∷ 4 ∷ []
each_once = refl

past_the_end : chosen_edges (4 ∷ 7 ∷ []) (pos 3 ∷ []) ≡ []
past_the_end = refl

just_past_the_end : chosen_edges (4 ∷ 7 ∷ []) (pos 2 ∷ []) ≡ []
just_past_the_end = refl

negative : chosen_edges (4 ∷ 7 ∷ []) (negsuc 0 ∷ []) ≡ []
negative = refl

last_alone : chosen_edges (4 ∷ 7 ∷ []) (pos 1 ∷ []) ≡ 7 ∷ []
last_alone = refl

first_mention : chosen_edges (4 ∷ 7 ∷ 9 ∷ []) (pos 2 ∷ pos 0 ∷ pos 2 ∷ pos 1 ∷ []) ≡ 9 ∷ 4 ∷ 7 ∷ []
first_mention = refl

-- A Choice answers one index and a Many any number; no other task answers indices, and no number that is no task's.
choice_one : IsAnswerFor net 1 1
choice_one = refl

choice_two : ¬ IsAnswerFor net 1 2
choice_two is = absurd (omega (arith, is))

many_none : IsAnswerFor net 3 0
many_none = tt

plain_one : ¬ IsAnswerFor net 0 1
plain_one is = is

nested_one : ¬ IsAnswerFor net 2 1
nested_one is = is

no_task : ¬ IsAnswerFor net 4 1
no_task is = is

-- Edges join tasks, and one that begins with a token is strong.
edge_fits : IsEdgeOf net (record { from = 0; to = 3; start = true })
edge_fits = record { from_in_range = omega arith; to_in_range = omega arith; starts_strong = λ start. refl }

weak_edge_with_token : ¬ IsEdgeOf net (record { from = 1; to = 3; start = true })
weak_edge_with_token is = let strong : true ≡ false = is.starts_strong refl in absurd (cc)

edge_from_nowhere : ¬ IsEdgeOf net (edge 4 0)
edge_from_nowhere is = absurd (omega (arith, is.from_in_range))

edge_to_nowhere : ¬ IsEdgeOf net (edge 0 4)
edge_to_nowhere is = absurd (omega (arith, is.to_in_range))

-- Lists of semaphores rise and name semaphores of the net.
falling : ¬ AreSemaphoresOf net (1 ∷ 0 ∷ [])
falling is = absurd (omega (arith, is.rising 0 (omega arith)))

twice : ¬ AreSemaphoresOf net (1 ∷ 1 ∷ [])
twice is = absurd (omega (arith, is.rising 0 (omega arith)))

no_semaphore : ¬ AreSemaphoresOf net (3 ∷ [])
no_semaphore is = absurd (omega (arith, is.in_range 0 0 (omega arith)))

takes_no_semaphore : ¬ IsTaskOf net (record { shape = Plain; takes = 3 ∷ []; puts = [] })
takes_no_semaphore is = no_semaphore is.takes

puts_no_semaphore : ¬ IsTaskOf net (record { shape = Plain; takes = []; puts = 3 ∷ [] })
puts_no_semaphore is = no_semaphore is.puts

empty_semaphore : ¬ IsNet (with_semaphore net 0)
empty_semaphore is = absurd (omega (arith, is.sems 3 0 (omega arith)))

-- A plain net has plain tasks, no semaphore in use and no token.
choosing_net : ¬ IsPlainNet net
choosing_net is = let shape = (is.tasks 1 (row Plain) (omega arith)).shape in absurd (cc)

waiting_token : ¬ IsPlainNet (record { tasks = []; edges = record { from = 0; to = 0; start = true } ∷ []; sems = [] })
waiting_token is = let start = is.edges 0 (edge 0 0) (omega arith) in absurd (cc)

taking_task : ¬ IsPlainTask (record { shape = Plain; takes = 0 ∷ []; puts = [] })
taking_task is = let takes = is.takes in absurd (cc)

putting_task : ¬ IsPlainTask (record { shape = Plain; takes = []; puts = 0 ∷ [] })
putting_task is = let puts = is.puts in absurd (cc)

-- What is added stands at the end.
task_added : with_task net (row Many) ≡ record net { tasks = row Plain ∷ row Choice ∷ row Nested ∷ row Many ∷ row Many ∷ [] }
task_added = refl

edge_added : out_edges (with_edge net (edge 0 3)) 0 ≡ 0 ∷ 6 ∷ []
edge_added = refl

semaphore_added : (with_semaphore net 7).sems ≡ 2 ∷ 1 ∷ 5 ∷ 7 ∷ []
semaphore_added = refl

-- A task's lists are kept by rising number.
lists_rise : settled net (record { shape = Many; takes = 2 ∷ 0 ∷ []; puts = 1 ∷ [] }) ≡ record { shape = Many; takes = 0 ∷ 2 ∷ []; puts = 1 ∷ [] }
lists_rise = refl

-- Of a task's lists the first unknown number counts, what it takes before what it puts; then the least number that
-- stands twice, in the same order.
first_unknown_taken : unknown_semaphore net (1 ∷ 9 ∷ 8 ∷ []) (3 ∷ []) ≡ Some 9
first_unknown_taken = refl

just_past_the_semaphores : unknown_semaphore net (2 ∷ 3 ∷ []) [] ≡ Some 3
just_past_the_semaphores = refl

unknown_put : unknown_semaphore net (1 ∷ 1 ∷ []) (0 ∷ 4 ∷ []) ≡ Some 4
unknown_put = refl

all_known : unknown_semaphore net (1 ∷ 1 ∷ []) (2 ∷ []) ≡ None
all_known = refl

least_repeated_taken : repeated_semaphore net (2 ∷ 2 ∷ 1 ∷ 1 ∷ []) (0 ∷ 0 ∷ []) ≡ Some 1
least_repeated_taken = refl

repeated_put : repeated_semaphore net (2 ∷ 1 ∷ []) (0 ∷ 2 ∷ 0 ∷ []) ≡ Some 0
repeated_put = refl

one_taken_and_put : repeated_semaphore net (2 ∷ []) (2 ∷ []) ≡ None
one_taken_and_put = refl

-- The refusals of a task in their order.
unknown_comes_first : RefusesTask net (record { shape = Plain; takes = 1 ∷ 1 ∷ 7 ∷ []; puts = [] }) (NoSuchSemaphore 7)
unknown_comes_first = refl

repeated_comes_later : ¬ RefusesTask net (record { shape = Plain; takes = 1 ∷ 1 ∷ 7 ∷ []; puts = [] }) (Repeated 1)
repeated_comes_later is = let none = is.0 in absurd (cc)

repeated_refused : RefusesTask net (record { shape = Plain; takes = 1 ∷ 1 ∷ []; puts = [] }) (Repeated 1)
repeated_refused = (refl, refl)

room_for_tasks : ¬ RefusesTask net (row Plain) (TooMany task_limit)
room_for_tasks is = absurd (omega (arith, is.2))

no_memory_for_a_task : RefusesTask net (row Plain) NoMemory
no_memory_for_a_task = (record { known = refl; once = refl }, omega arith)

no_memory_for_a_bad_task : ¬ RefusesTask net (record { shape = Plain; takes = 7 ∷ []; puts = [] }) NoMemory
no_memory_for_a_bad_task is = let known = is.0.known in absurd (cc)

-- Of an edge: its first end that is no task, then a token on a weak edge.
from_comes_first : RefusesEdge net (record { from = 5; to = 4; start = false }) (NoSuchTask 5)
from_comes_first = record { unknown = omega arith; from_first = λ past. refl; then_to = λ within. absurd (omega arith) }

to_refused : RefusesEdge net (record { from = 1; to = 4; start = true }) (NoSuchTask 4)
to_refused = record { unknown = omega arith; from_first = λ past. absurd (omega arith); then_to = λ within. refl }

to_comes_later : ¬ RefusesEdge net (edge 5 4) (NoSuchTask 4)
to_comes_later is = absurd (omega (arith, is.from_first (omega arith)))

known_end : ¬ RefusesEdge net (edge 5 1) (NoSuchTask 1)
known_end is = absurd (omega (arith, is.unknown))

weak_start_refused : RefusesEdge net (record { from = 3; to = 0; start = true }) WeakStart
weak_start_refused = record { from_in_range = omega arith; to_in_range = omega arith; start = refl; weak = refl }

strong_start : ¬ RefusesEdge net (record { from = 2; to = 0; start = true }) WeakStart
strong_start is = let weak = is.weak in absurd (cc)

weak_without_token : ¬ RefusesEdge net (edge 1 0) WeakStart
weak_without_token is = let start = is.start in absurd (cc)

room_for_edges : ¬ RefusesEdge net (edge 0 1) (TooMany edge_limit)
room_for_edges is = absurd (omega (arith, is.2))

no_memory_for_a_bad_edge : ¬ RefusesEdge net (edge 0 9) NoMemory
no_memory_for_a_bad_edge is = absurd (omega (arith, is.0.to_in_range))

-- Of a semaphore: a maximum of 0.
zero_refused : RefusesSemaphore net 0 ZeroCount
zero_refused = refl

one_is_no_zero : ¬ RefusesSemaphore net 1 ZeroCount
one_is_no_zero is = absurd (omega (arith, is))

room_for_semaphores : ¬ RefusesSemaphore net 1 (TooMany semaphore_limit)
room_for_semaphores is = absurd (omega (arith, is.2))

zero_comes_first : ¬ RefusesSemaphore net 0 NoMemory
zero_comes_first is = absurd (omega (arith, is.0))

-- The limits.
limits : (task_limit ≡ 4000000) × (edge_limit ≡ 8000000) × (semaphore_limit ≡ 256)
limits = (refl, refl, refl)

nothing_built : empty_net ≡ record { tasks = []; edges = []; sems = [] }
nothing_built = refl
