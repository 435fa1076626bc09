-- The fields of an object, and the refusals of them.
use Rattle.std.specs.Prelude.{ℕ, min, Bool, List, [], ◌∷◌, not, Option, Result, ok_or, option_and_then, Some, ⊤}
use Rattle.std.specs.List.{find, list_any}
use Rattle.std.specs.Option.{option_map_or}
use Rattle.std.specs.Str.{bytes_eq}
use Rattle.serde_json.specs.Data.{Data, Members, no_members, member}
use Rattle.serde_json.specs.Find.{get, as_object}
use Rattle.graph_plans.specs.declared.spots.Spot.{Spot}
use Rattle.graph_plans.specs.declared.spots.Spot.TheVariants.{File, Sem, Task, Module, ModuleSem, ModuleTask}
use Rattle.graph_drafts.specs.declared.scopes.Scope.{Scope}
use Rattle.graph_drafts.specs.declared.scopes.Scope.TheVariants.{Top, Module as OfModule}
use Rattle.graph_drafts.specs.declared.refusals.GraphError.{GraphError}
use Rattle.graph_drafts.specs.declared.refusals.GraphError.TheVariants.{BadField}
use Rattle.graph_drafts.specs.Steps.{unless}

-- a number as a `u32`; one past the greatest is reported as that one
abbrev pub u32_of : ℕ → ℕ
u32_of n = min n 4294967295

-- a graph's place
abbrev pub graph_spot : Scope → Spot
graph_spot Top = File
graph_spot (OfModule m) = Module (u32_of m)

-- a semaphore's place
abbrev pub sem_spot : Scope → ℕ → Spot
sem_spot Top s = Sem (u32_of s)
sem_spot (OfModule m) s = ModuleSem (u32_of m) (u32_of s)

-- a task's place
abbrev pub task_spot : Scope → ℕ → Spot
task_spot Top t = Task (u32_of t)
task_spot (OfModule m) t = ModuleTask (u32_of m) (u32_of t)

-- what the field of an object holds, which may not be missing
abbrev pub needed : {A : Type 0} → (Data → Option A) → Spot → List ℕ → Data → Result A GraphError
needed content spot field d = ok_or (option_and_then content (get field d)) (BadField spot field)

-- what it holds, or this where it is missing
abbrev pub allowed : {A : Type 0} → A → (Data → Option A) → Spot → List ℕ → Data → Result A GraphError
allowed missing content spot field d = ok_or (option_map_or content (get field d) (Some missing)) (BadField spot field)

-- the keys of an object, in the order of their bytes
abbrev pub keys_of : Members → List (List ℕ)
keys_of no_members = []
keys_of (member k d ms) = k ∷ keys_of ms

-- whether a field is none of these
abbrev pub is_unknown : List (List ℕ) → List ℕ → Bool
is_unknown fields key = not (list_any (λ field. bytes_eq field key) fields)

-- the first field that is none of these
abbrev pub unknown : List (List ℕ) → Data → Option (List ℕ)
unknown fields d = find (is_unknown fields) (option_map_or keys_of (as_object d) [])

-- an object has no field but these
abbrev pub only : List (List ℕ) → Spot → Data → Result ⊤ GraphError
only fields spot d = unless (unknown fields d) (λ key. BadField spot key)
