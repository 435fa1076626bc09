-- What the steps from a draft to a plan answer.
use Rattle.std.specs.Prelude.{ℕ, Bool, List, [], Option, Some, None, Result, Ok, Err, codes}
use Rattle.std.specs.Borrow.{Bor}
use Rattle.std.specs.HashMap.{HashMap}
use Rattle.graph_file.specs.declared.numbers.Numbers.{Numbers}
use Rattle.graph_drafts.specs.declared.scopes.Scope.{Scope}
use Rattle.graph_drafts.specs.declared.scopes.Scope.TheVariants.{Module as OfModule}
use Rattle.graph_drafts.specs.declared.refusals.GraphError.{GraphError}
use Rattle.graph_drafts.specs.declared.refusals.GraphError.TheVariants.{Repeated}
use Rattle.graph_drafts.specs.Fields.{graph_spot, task_spot}
use Rattle.graph_drafts.specs.FileText.{DraftRows, TaskNames, puts_field, takes_field}
use Rattle.graph_file.specs.PlanText.{FileNumbers, add_name, graph_names}
use Rattle.graph_drafts.specs.Steps.{◌>>=◌, passed, walk}
use Rattle.graph_file.specs.inside.Lookups.{place_in}
use Rattle.graph_drafts.specs.inside.Reading.{put_each}

abbrev pub numbers_rows : Numbers → FileNumbers
numbers_rows numbers = record { top = numbers.top; modules = numbers.modules.items }

-- the place of a name is put at the end
abbrev pub put_place : {S : Type 0} → HashMap (Bor (List ℕ)) ℕ S → GraphError → List ℕ → List ℕ → Result (List ℕ) GraphError
put_place places refusal numbers name = put_each (place_in places) (λ number. number) refusal numbers name

-- ---- names that occur twice

-- the names, unless one occurs at this place that occurred before
abbrev pub unless_repeated : (ℕ → GraphError) → List (List ℕ) → Option ℕ → Result (List (List ℕ)) GraphError
unless_repeated refusal names None = Ok names
unless_repeated refusal names (Some place) = Err (refusal place)

-- the number of a task, unless its name isn't new or it has a semaphore twice in a list
abbrev pub once_or : Scope → ℕ → ℕ → Bool → TaskNames → Result ℕ GraphError
once_or scope version number new task = let spot = task_spot scope number in do
  named ← passed new (Repeated spot (codes "name"))
  takes ← walk (add_name (λ k. Repeated spot (takes_field version))) [] task.takes
  puts ← walk (add_name (λ k. Repeated spot (puts_field version))) [] task.puts
  Ok number

-- the number of a module, unless its name isn't new, or what the code finds of the names in it
abbrev pub once_module : ℕ → Bool → DraftRows → Result ℕ GraphError
once_module number new draft = do
  named ← passed new (Repeated (graph_spot (OfModule number)) (codes "name"))
  tasks ← graph_names draft
  Ok number
