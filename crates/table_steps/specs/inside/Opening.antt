-- How a table begins.
use Rattle.std.specs.Prelude.{ℕ, zero, suc, ◌+◌, Bool, true, false, List, [], ◌∷◌, ◌++◌}
use Rattle.task_graph.specs.NetRows.{NetRows}
use Rattle.task_graph.specs.Net.{in_edges, strong_in}
use Rattle.journal_rules.specs.declared.entry.Cause.TheVariants.{Source, Strong}
use Rattle.journal_rules.specs.declared.entry.Part.{Part}
use Rattle.journal_rules.specs.declared.entry.Part.TheVariants.{First}
use Rattle.journal_rules.specs.Counts.{first_tokens}
use Rattle.table_steps.specs.declared.view.TurnDuty.{TurnDuty}
use Rattle.table_steps.specs.declared.view.TurnDuty.TheVariants.{Fresh}
use Rattle.table_steps.specs.inside.Duties.{nil}

-- how many strong in-edges of a task begin without a token
abbrev pub count_without_token : NetRows → List ℕ → ℕ
count_without_token net [] = 0
count_without_token net (e ∷ es) = nil (first_tokens net e) + count_without_token net es

abbrev pub is_empty : List ℕ → Bool
is_empty [] = true
is_empty (e ∷ es) = false

abbrev pub source_duties : ℕ → Bool → List TurnDuty
source_duties t true = Fresh t Source ∷ []
source_duties t false = []

-- a task whose strong in-edges all begin with a token has a release
abbrev pub full_duties : ℕ → List ℕ → ℕ → List TurnDuty
full_duties t [] n = []
full_duties t (e ∷ es) zero = Fresh t Strong ∷ []
full_duties t (e ∷ es) (suc n) = []

-- the first releases of the tasks from t on, so many
abbrev pub first_duties : NetRows → ℕ → ℕ → List TurnDuty
first_duties net t zero = []
first_duties net t (suc n) = source_duties t (is_empty (in_edges net t)) ++ full_duties t (strong_in net t) (count_without_token net (strong_in net t)) ++ first_duties net (suc t) n

-- the parts that lie in an edge's slot at first
abbrev pub parts_of_tokens : ℕ → List Part
parts_of_tokens zero = []
parts_of_tokens (suc n) = First ∷ []

abbrev pub first_queue : NetRows → ℕ → List Part
first_queue net e = parts_of_tokens (first_tokens net e)
