-- Pipelines, their nets and why they are refused, computed on small ones.
use Rattle.std.proofs.Common.{◌≡◌, ℕ, Bool, true, false, List, [], ◌∷◌, length, replicate, Some, None, refl, ap, arith}
use Rattle.std.proofs.lemmas.List.{length-replicate}
use Rattle.task_graph.specs.NetRows.{NetRows}
use Rattle.task_graph.specs.declared.net.EdgeRow.{EdgeRow}
use Rattle.task_graph.specs.declared.net.Shape.TheVariants.{Plain}
use Rattle.task_graph.specs.declared.net.TaskRow.{TaskRow}
use Rattle.pipe_lines.specs.declared.pipeline.PipeSpec.{PipeSpec}
use Rattle.pipe_lines.specs.declared.pipeline.PipeError.TheVariants.{NoLines, NoPipes, FirstParallel, TooManyLines, TooManyPipes, NoMemory}
use Rattle.pipe_lines.specs.PipeNet.{along_pipes, cell, next, pipe_net}
use Rattle.pipe_lines.specs.Pipelines.{IsPipeNet, IsPipeline, RefusesPipes}

-- ---- nets

nexts : (next 3 0 ≡ 1) × (next 3 1 ≡ 2) × (next 3 2 ≡ 0) × (next 1 0 ≡ 0)
nexts = (refl, refl, refl, refl)

cells : (cell 3 0 2 ≡ 2) × (cell 3 2 1 ≡ 7)
cells = (refl, refl)

abbrev free : TaskRow
free = record { shape = Plain; takes = []; puts = [] }

abbrev from_to : ℕ → ℕ → Bool → EdgeRow
from_to from to start = record { from = from; to = to; start = start }

-- Two lines, and of three pipes the second parallel: the cells of the first line are the tasks 0 to 2, those of the
-- second 3 to 5.
abbrev two_by_three : NetRows
two_by_three = record {
  tasks = free ∷ free ∷ free ∷ free ∷ free ∷ free ∷ [];
  edges = from_to 0 1 false ∷ from_to 0 3 false ∷ from_to 1 2 false ∷ from_to 2 0 true ∷ from_to 2 5 false
      ∷ from_to 3 4 false ∷ from_to 3 0 true ∷ from_to 4 5 false ∷ from_to 5 3 true ∷ from_to 5 2 true ∷ [];
  sems = [];
}

net_of_two_by_three : pipe_net 2 (true ∷ false ∷ true ∷ []) ≡ two_by_three
net_of_two_by_three = refl

tags_of_two_by_three : along_pipes 2 (true ∷ false ∷ true ∷ []) ≡ false ∷ true ∷ false ∷ false ∷ true ∷ false ∷ true ∷ false ∷ false ∷ true ∷ []
tags_of_two_by_three = refl

-- one line of a serial pipe alone: both edges lead from its task to itself
net_of_one_by_one : pipe_net 1 (true ∷ []) ≡ record { tasks = free ∷ []; edges = from_to 0 0 true ∷ from_to 0 0 true ∷ []; sems = [] }
net_of_one_by_one = refl

-- one line of two pipes
net_of_one_by_two : pipe_net 1 (true ∷ false ∷ []) ≡ record { tasks = free ∷ free ∷ []; edges = from_to 0 1 false ∷ from_to 0 0 true ∷ from_to 1 0 true ∷ []; sems = [] }
net_of_one_by_two = refl

-- ---- pipelines

abbrev spec : ℕ → List Bool → PipeSpec
spec lines serial = record { lines = lines; serial = serial }

smallest : IsPipeline (spec 1 (true ∷ []))
smallest = record { some_lines = omega arith; first_serial = refl; few_lines = omega arith; few_pipes = omega arith }

largest : IsPipeline (spec 64 (true ∷ replicate 31 false))
largest = record { some_lines = omega arith; first_serial = refl; few_lines = omega arith; few_pipes = omega (arith, length-replicate 31 false) }

without_lines : ¬ IsPipeline (spec 0 (true ∷ []))
without_lines is = absurd (omega (arith, is.some_lines))

without_pipes : ¬ IsPipeline (spec 1 [])
without_pipes is = let none : None ≡ Some true = is.first_serial in absurd (cc)

first_is_parallel : ¬ IsPipeline (spec 1 (false ∷ true ∷ []))
first_is_parallel is = let other : Some false ≡ Some true = is.first_serial in absurd (cc)

past_the_lines : ¬ IsPipeline (spec 65 (true ∷ []))
past_the_lines is = absurd (omega (arith, is.few_lines))

past_the_pipes : ¬ IsPipeline (spec 1 (true ∷ replicate 32 false))
past_the_pipes is = absurd (omega (arith, is.few_pipes, length-replicate 32 false))

-- A net is that of a pipeline.
is_net : IsPipeNet (spec 2 (true ∷ false ∷ true ∷ [])) two_by_three
is_net = record { pipeline = record { some_lines = omega arith; first_serial = refl; few_lines = omega arith; few_pipes = omega arith }; rows = refl }

net_of_another : ¬ IsPipeNet (spec 1 (true ∷ false ∷ true ∷ [])) two_by_three
net_of_another is = absurd (omega (arith, ap (λ (net : NetRows). length net.tasks) is.rows))

net_of_none : ¬ IsPipeNet (spec 0 (true ∷ [])) (record { tasks = []; edges = []; sems = [] })
net_of_none is = absurd (omega (arith, is.pipeline.some_lines))

-- ---- refusals, each before those behind it

refused_without_lines : RefusesPipes (spec 0 []) NoLines × ¬ RefusesPipes (spec 1 []) NoLines
refused_without_lines = (refl, λ is. absurd (omega (arith, is)))

refused_without_pipes : RefusesPipes (spec 65 []) NoPipes × ¬ RefusesPipes (spec 0 []) NoPipes × ¬ RefusesPipes (spec 1 (true ∷ [])) NoPipes
refused_without_pipes = ((omega arith, refl), (λ is. absurd (omega (arith, is.0))), λ is. absurd (omega (arith, ap length is.1)))

refused_with_first_parallel : RefusesPipes (spec 65 (false ∷ [])) FirstParallel × ¬ RefusesPipes (spec 0 (false ∷ [])) FirstParallel × ¬ RefusesPipes (spec 1 (true ∷ false ∷ [])) FirstParallel
refused_with_first_parallel = ((omega arith, refl), (λ is. absurd (omega (arith, is.0))), λ is. let other : Some true ≡ Some false = is.1 in absurd (cc))

refused_past_the_lines : RefusesPipes (spec 65 (true ∷ replicate 32 true)) TooManyLines × ¬ RefusesPipes (spec 64 (true ∷ [])) TooManyLines × ¬ RefusesPipes (spec 65 (false ∷ [])) TooManyLines
refused_past_the_lines = ((refl, omega arith), (λ is. absurd (omega (arith, is.1))), λ is. let other : Some false ≡ Some true = is.0 in absurd (cc))

refused_past_the_pipes : RefusesPipes (spec 64 (true ∷ replicate 32 true)) TooManyPipes × ¬ RefusesPipes (spec 64 (true ∷ replicate 31 true)) TooManyPipes × ¬ RefusesPipes (spec 65 (true ∷ replicate 32 true)) TooManyPipes
refused_past_the_pipes = (
  (omega arith, refl, omega arith, omega (arith, length-replicate 32 true)),
  (λ is. absurd (omega (arith, is.3, length-replicate 31 true))),
  λ is. absurd (omega (arith, is.2)),
)

not_refused_past_the_pipes : ¬ RefusesPipes (spec 0 (true ∷ replicate 32 true)) TooManyPipes × ¬ RefusesPipes (spec 1 (false ∷ replicate 32 true)) TooManyPipes
not_refused_past_the_pipes = ((λ is. absurd (omega (arith, is.0))), λ is. let other : Some false ≡ Some true = is.1 in absurd (cc))

no_memory_for_a_pipeline : RefusesPipes (spec 1 (true ∷ [])) NoMemory × ¬ RefusesPipes (spec 0 (true ∷ [])) NoMemory
no_memory_for_a_pipeline = (smallest, without_lines)
