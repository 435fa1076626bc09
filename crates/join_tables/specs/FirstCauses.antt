-- The releases with which a run begins.
use Rattle.std.specs.Prelude.{ℕ, zero, suc, Bool, false, not, ◌==◌, List, [], ◌∷◌, ◌++◌, length, map, if◌then◌else◌}
use Rattle.std.specs.List.{list_any}
use Rattle.task_graph.specs.NetRows.{NetRows}
use Rattle.task_graph.specs.Net.{in_edges, strong_in}
use Rattle.atomic_table.specs.Seated.{TableId}
use Rattle.journal_rules.specs.Counts.{first_tokens}
use Rattle.journal_rules.specs.declared.entry.Cause.{Cause}
use Rattle.journal_rules.specs.declared.entry.Cause.TheVariants.{Source, Strong}
use Rattle.join_tables.specs.States.{FreshState, fresh_state}

-- whether there are edges here, and each begins with a token
abbrev pub begin_full : NetRows → List ℕ → Bool
begin_full net [] = false
begin_full net (e ∷ es) = not (list_any (λ f. first_tokens net f == 0) (e ∷ es))

abbrev pub cause_if : Bool → Cause → List Cause
cause_if is_so cause = if is_so then cause ∷ [] else []

-- by which causes a task is released before anything has run: a source task by itself, and one whose strong in-edges
-- all begin with a token by these
abbrev pub first_causes : NetRows → ℕ → List Cause
first_causes net t = cause_if (length (in_edges net t) == 0) Source ++ cause_if (begin_full net (strong_in net t)) Strong

-- the first releases of the tasks from t on, so many
abbrev pub first_fresh : TableId → NetRows → ℕ → ℕ → List FreshState
first_fresh n net t zero = []
first_fresh n net t (suc k) = map (fresh_state n t) (first_causes net t) ++ first_fresh n net (suc t) k
