-- The definitions of generated graphs, computed.
use Rattle.std.proofs.Common.{◌≡◌, ◌*◌, true, false, [], ◌∷◌, ◌++◌, codes, refl, arith}
use Rattle.std.specs.Fmt.{digits}
use Rattle.graph_plans.specs.declared.ops.Op.TheVariants.{Read, Text, IfMore, Pipe}
use Rattle.graph_plans.specs.declared.ops.TextOp.TheVariants.{Pass, Keep, Head, Tail, Skip, Sort, Uniq, Tally}
use Rattle.task_graph.specs.declared.net.Shape.TheVariants.{Plain, Choice, Nested}
use Rattle.graph_generator.specs.Draws.{next_state, state_after, draw}
use Rattle.graph_generator.specs.GeneratedText.{text_line, text_lines, generated_text}
use Rattle.graph_generator.specs.GeneratedPlan.{max_layers, op_draw, edge_draw, layer_name, layer_op, second_before, leads_to, next_layer, tasks_behind, successors, generated_pipeline, edge, layer_tasks, generated_names, generated_ops, layer_edges, generated_edges, generated_row, generated_graph, generated_plan}
use Rattle.graph_generator.specs.inside.Drawn.{draws, drawn}

-- ---- numbers

state_of_seed : state_after 1 0 ≡ 1
state_of_seed = refl

first_state : next_state 1 ≡ 7806831264735756412
first_state = refl

second_state : state_after 1 2 ≡ 9396908728118811419
second_state = refl

first_draw : draw 1 0 ≡ 908834774
first_draw = refl

third_draw : draw 1 2 ≡ 1392341196
third_draw = refl

last_draw_of_text : draw 1 199 ≡ 1783765473
last_draw_of_text = refl

three_draws : draws 1 3 ≡ 908834774 ∷ 1093944153 ∷ 1392341196 ∷ []
three_draws = refl

-- a plan of one layer takes those of the text
one_layer_drawn : drawn 1 ≡ draws 1 200
one_layer_drawn = refl

-- ---- the text

one_line : text_line 12 99 ≡ codes "w49 12\n"
unfolding digits
one_line = refl

first_line : text_line 0 (draw 1 0) ≡ codes "w24 0\n"
unfolding digits
first_line = refl

two_lines : text_lines 1 2 ≡ codes "w24 0\n" ++ codes "w3 1\n"
unfolding digits text_lines
two_lines = refl

all_lines : generated_text 7 ≡ text_lines 7 200
all_lines = refl

-- ---- tasks of layers

first_name : layer_name 0 ≡ codes "g0_0"
unfolding digits
first_name = refl

name_of_layer_12 : layer_name 127 ≡ codes "g12_7"
unfolding digits
name_of_layer_12 = refl

-- Layer 0 reads the text, whatever is drawn.
first_layer_reads : layer_op 9 5 ≡ Read 0
first_layer_reads = refl

even_draw_in_odd_layer : layer_op 10 4 ≡ Text (Head 100)
even_draw_in_odd_layer = refl

odd_draw_in_odd_layer : layer_op 39 5 ≡ Text (Tail 100)
odd_draw_in_odd_layer = refl

sorts : layer_op 20 6 ≡ Text Sort
sorts = refl

drops_repetitions : layer_op 20 7 ≡ Text Uniq
drops_repetitions = refl

keeps_ones : layer_op 49 8 ≡ Text (Keep (codes "1"))
keeps_ones = refl

-- Task 10 is the first that draws; it takes the first two draws behind the text's.
first_op_draw : op_draw 2 10 ≡ draw 2 200
first_op_draw = refl

first_edge_draw : edge_draw 2 10 ≡ draw 2 201
first_edge_draw = refl

-- The second predecessor is 1 to 9 places behind the first one, in a circle.
next_in_circle : second_before 10 9 ≡ 1
next_in_circle = refl

last_in_circle : second_before 10 8 ≡ 9
last_in_circle = refl

over_the_end : second_before 29 3 ≡ 13
over_the_end = refl

to_its_own_number : leads_to 4 14 0 ≡ true
to_its_own_number = refl

to_a_second : leads_to 5 14 0 ≡ true
to_a_second = refl

to_no_third : leads_to 6 14 0 ≡ false
to_no_third = refl

layer_behind : next_layer 13 ≡ 20 ∷ 21 ∷ 22 ∷ 23 ∷ 24 ∷ 25 ∷ 26 ∷ 27 ∷ 28 ∷ 29 ∷ []
unfolding next_layer
layer_behind = refl

some_behind : tasks_behind 2 1 ≡ 11 ∷ 16 ∷ 17 ∷ []
unfolding next_layer
some_behind = refl

one_behind : successors 2 0 ≡ 10 ∷ []
unfolding next_layer
one_behind = refl

tally_behind : successors 2 14 ≡ 20 ∷ []
tally_behind = refl

edges_out : layer_edges 2 2 ≡ edge 2 12 ∷ edge 2 14 ∷ []
unfolding next_layer
edges_out = refl

no_first_token : (edge 2 12).start ≡ false
no_first_token = refl

-- ---- a plan of one layer, and one of two

most_layers : layer_name (10 * max_layers) ≡ codes "g900_0"
unfolding digits
most_layers = refl

names_of_one : generated_names 1 ≡ codes "g0_0" ∷ codes "g0_1" ∷ codes "g0_2" ∷ codes "g0_3" ∷ codes "g0_4" ∷ codes "g0_5" ∷ codes "g0_6" ∷ codes "g0_7" ∷ codes "g0_8" ∷ codes "g0_9" ∷ codes "sum" ∷ codes "init" ∷ codes "body" ∷ codes "more" ∷ codes "done" ∷ codes "pr" ∷ codes "pp" ∷ []
unfolding digits
names_of_one = refl

tasks_of_one : layer_tasks 1 ≡ 0 ∷ 1 ∷ 2 ∷ 3 ∷ 4 ∷ 5 ∷ 6 ∷ 7 ∷ 8 ∷ 9 ∷ []
tasks_of_one = refl

edges_of_one : generated_edges 1 ≡ edge 0 10 ∷ edge 1 10 ∷ edge 2 10 ∷ edge 3 10 ∷ edge 4 10 ∷ edge 5 10 ∷ edge 6 10 ∷ edge 7 10 ∷ edge 8 10 ∷ edge 9 10 ∷ edge 11 12 ∷ edge 12 13 ∷ edge 13 12 ∷ edge 13 14 ∷ edge 15 16 ∷ []
edges_of_one = refl

ops_of_two : generated_ops 2 ≡ Read 0 ∷ Read 0 ∷ Read 0 ∷ Read 0 ∷ Read 0 ∷ Read 0 ∷ Read 0 ∷ Read 0 ∷ Read 0 ∷ Read 0 ∷ Text (Tail 100) ∷ Text (Tail 100) ∷ Text (Head 100) ∷ Text (Tail 100) ∷ Text (Tail 100) ∷ Text (Head 100) ∷ Text (Tail 100) ∷ Text (Head 100) ∷ Text (Head 100) ∷ Text (Head 100) ∷ Text Tally ∷ Read 0 ∷ Text (Skip 1) ∷ IfMore 10 ∷ Text Pass ∷ Read 0 ∷ Pipe generated_pipeline ∷ []
ops_of_two = refl

edges_of_two : generated_edges 2 ≡ edge 0 10 ∷ edge 1 11 ∷ edge 1 16 ∷ edge 1 17 ∷ edge 2 12 ∷ edge 2 14 ∷ edge 3 13 ∷ edge 3 19 ∷ edge 4 12 ∷ edge 4 13 ∷ edge 4 14 ∷ edge 5 15 ∷ edge 6 10 ∷ edge 6 16 ∷ edge 7 15 ∷ edge 7 17 ∷ edge 7 18 ∷ edge 8 18 ∷ edge 9 11 ∷ edge 9 19 ∷ edge 10 20 ∷ edge 11 20 ∷ edge 12 20 ∷ edge 13 20 ∷ edge 14 20 ∷ edge 15 20 ∷ edge 16 20 ∷ edge 17 20 ∷ edge 18 20 ∷ edge 19 20 ∷ edge 21 22 ∷ edge 22 23 ∷ edge 23 22 ∷ edge 23 24 ∷ edge 25 26 ∷ []
unfolding next_layer
edges_of_two = refl

-- The tasks behind the layers: one chooses, and one has an inner graph.
plain_row : generated_row (Text Tally) ≡ record { shape = Plain; takes = []; puts = [] }
plain_row = refl

choice_row : (generated_row (IfMore 10)).shape ≡ Choice
choice_row = refl

pipe_row : (generated_row (Pipe generated_pipeline)).shape ≡ Nested
pipe_row = refl

no_name : (generated_graph 5).name ≡ []
no_name = refl

no_module : (generated_plan 5).modules ≡ []
no_module = refl

one_text : (generated_plan 5).texts ≡ codes "gen.txt" ∷ []
one_text = refl
