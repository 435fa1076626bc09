-- Which units of semaphores a task's start needs, and which its end gives back, as contracts see it.
use Rattle.std.specs.Prelude.{◌≡◌, ◌==◌, ℕ, not, ◌&&◌, List, [], ◌∷◌, if◌then◌else◌}
use Rattle.task_graph.specs.NetRows.{NetRows}
use Rattle.journal_rules.specs.SemaphoreRule.{takes, puts}
use Rattle.table_steps.specs.Giving.{one_if, times}

-- these are a unit of each semaphore that the task takes, and no others
abbrev pub HoldsEachUnit : NetRows → ℕ → List ℕ → Type 0
HoldsEachUnit net t units = (s : ℕ) → times s units ≡ one_if (takes net s t)

-- and of each that it puts
abbrev pub PutsEach : NetRows → ℕ → List ℕ → Type 0
PutsEach net t units = (s : ℕ) → times s units ≡ one_if (puts net s t)

-- and of each that it takes and puts
abbrev pub PutsBack : NetRows → ℕ → List ℕ → Type 0
PutsBack net t units = (s : ℕ) → times s units ≡ one_if (takes net s t && puts net s t)

-- and of each that it takes and doesn't put
abbrev pub TakesAlone : NetRows → ℕ → List ℕ → Type 0
TakesAlone net t units = (s : ℕ) → times s units ≡ one_if (takes net s t && not (puts net s t))

-- and of each that it puts and doesn't take
abbrev pub PutsAlone : NetRows → ℕ → List ℕ → Type 0
PutsAlone net t units = (s : ℕ) → times s units ≡ one_if (puts net s t && not (takes net s t))

-- a task puts just what it takes
abbrev pub PutsAll : NetRows → ℕ → Type 0
PutsAll net t = (s : ℕ) → puts net s t ≡ takes net s t

-- one unit fewer of a semaphore
abbrev pub without : ℕ → List ℕ → List ℕ
without s [] = []
without s (z ∷ zs) = if z == s then zs else z ∷ without s zs
