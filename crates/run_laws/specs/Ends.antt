-- The ends of a task in a journal.
use Rattle.std.specs.Prelude.{ℕ, suc, Bool, false, ◌==◌, List, [], ◌∷◌, ◌++◌, Option, Some, None, if◌then◌else◌}
use Rattle.std.specs.Option.{option_map_or}
use Rattle.journal_rules.specs.declared.entry.Entry.{Entry}
use Rattle.journal_rules.specs.declared.entry.Entry.TheVariants.{Start, End, Fault, Drop}
use Rattle.journal_rules.specs.Counts.{start_at}
use Rattle.run_frame.specs.declared.run.ValueRow.{ValueRow}
use Rattle.run_frame.specs.Runs.{value_at}
use Rattle.run_laws.specs.OneThreadValue.{TaskEnd}

-- what each item has, one after another, where the first stands at place n
abbrev pub gather : {X Y : Type 0} → (ℕ → X → List Y) → ℕ → List X → List Y
gather f n [] = []
gather f n (x ∷ xs) = f n x ++ gather f (suc n) xs

-- whether this is the task
abbrev pub is_task : ℕ → Option ℕ → Bool
is_task t started = option_map_or (λ s. s == t) started false

-- the end that an entry at place n is, if it is one of the task; `started` tells the task of each Start
abbrev pub end_of : {V : Type 0} → List (ValueRow V) → (ℕ → Option ℕ) → ℕ → ℕ → Entry → List (TaskEnd V)
end_of values started t n (Start task cause ins) = []
end_of values started t n (End start gives inner) =
    elim (value_at values n) [ None ↦ [] | Some v ↦ if is_task t (started start) then (record { value = v; gives = gives }) ∷ [] else [] ]
end_of values started t n (Fault start why) = []
end_of values started t n (Drop task cause why) = []

-- the ends of a task in a journal, in order, with their values
abbrev pub ends : {V : Type 0} → List (ValueRow V) → List Entry → ℕ → List (TaskEnd V)
ends values journal t = gather (end_of values (start_at journal) t) 0 journal
