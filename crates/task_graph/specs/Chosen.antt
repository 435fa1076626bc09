-- Which edges a choosing task signals.
use Rattle.std.specs.Prelude.{◌≡◌, ℕ, ℤ, pos, negsuc, not, ◌==◌, List, [], ◌∷◌, filter, Option, Some, None, slice_get, IsSomeAnd}
use Rattle.task_graph.specs.NetRows.{NetRows}
use Rattle.task_graph.specs.declared.net.Shape.{Shape}
use Rattle.task_graph.specs.declared.net.Shape.TheVariants.{Plain, Choice, Many, Nested}
use Rattle.task_graph.specs.declared.net.TaskRow.{TaskRow}

-- the edge at an index; no edge stands at a negative one or past the end
abbrev pub edge_at : List ℕ → ℤ → Option ℕ
edge_at out (pos i) = slice_get out i
edge_at out (negsuc i) = None

-- the edge before the others, and not again among them
abbrev pub first_of : Option ℕ → List ℕ → List ℕ
first_of None rest = rest
first_of (Some e) rest = e ∷ filter (λ f. not (f == e)) rest

-- the edges at the indices that are in range, each where it is first named
abbrev pub chosen_edges : List ℕ → List ℤ → List ℕ
chosen_edges out [] = []
chosen_edges out (i ∷ is) = first_of (edge_at out i) (chosen_edges out is)

-- how many indices the answer of a task of this shape has: a Choice's one, a Many's any number
abbrev pub AnswersSoMany : Shape → ℕ → Type 0
AnswersSoMany Plain n = ⊥
AnswersSoMany Choice n = n ≡ 1
AnswersSoMany Many n = Unit {0}
AnswersSoMany Nested n = ⊥

-- a task may answer so many indices
abbrev pub IsAnswerFor : NetRows → ℕ → ℕ → Type 0
IsAnswerFor net t n = IsSomeAnd (slice_get net.tasks t) (λ (row : TaskRow). AnswersSoMany row.shape n)
