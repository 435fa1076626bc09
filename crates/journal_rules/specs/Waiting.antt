-- What waits at an edge for the next start that uses a token of it, where one thread keeps the journal.
use Rattle.std.specs.Prelude.{ℕ, suc, Bool, false, ◌==◌, List, [], ◌∷◌, map, Option, Some, None, slice_get, nat_lt, if◌then◌else◌}
use Rattle.std.specs.Option.{option_map_or, option_or}
use Rattle.std.specs.List.{list_any}
use Rattle.task_graph.specs.NetRows.{NetRows}
use Rattle.task_graph.specs.declared.net.EdgeRow.{EdgeRow}
use Rattle.journal_rules.specs.declared.entry.Cause.{Cause}
use Rattle.journal_rules.specs.declared.entry.Part.{Part}
use Rattle.journal_rules.specs.declared.entry.Part.TheVariants.{From, First, Nothing}
use Rattle.journal_rules.specs.declared.entry.Entry.{Entry}
use Rattle.journal_rules.specs.declared.entry.Entry.TheVariants.{Start, End, Fault, Drop}
use Rattle.journal_rules.specs.Counts.{gives_edge}
use Rattle.journal_rules.specs.DataRule.{edges_of}

-- whether an entry uses a token of the edge
abbrev pub uses_edge : NetRows → ℕ → Entry → Bool
uses_edge net e (Start task cause ins) = list_any (λ f. f == e) (edges_of net task cause)
uses_edge net e (End start gives inner) = false
uses_edge net e (Fault start why) = false
uses_edge net e (Drop task cause why) = list_any (λ f. f == e) (edges_of net task cause)

-- the place of the last entry that passes, among entries of which the first stands at place n
abbrev pub last_place_from : (Entry → Bool) → ℕ → List Entry → Option ℕ
last_place_from p n [] = None
last_place_from p n (x ∷ rest) = option_or (last_place_from p (suc n) rest) (if p x then Some n else None)

-- the place of the last entry that passes
abbrev pub last_place : (Entry → Bool) → List Entry → Option ℕ
last_place p journal = last_place_from p 0 journal

-- the token with which the edge begins, if it begins with one
abbrev pub first_waiting : NetRows → ℕ → Part
first_waiting net e = option_map_or (λ (row : EdgeRow). if row.start then First else Nothing) (slice_get net.edges e) Nothing

-- what is left of the last gift and the first token, where the edge was given and used last at these places
abbrev pub left_over : Option ℕ → Option ℕ → Part → Part
left_over None None token = token
left_over None (Some used) token = Nothing
left_over (Some gift) None token = From gift
left_over (Some gift) (Some used) token = if nat_lt used gift then From gift else Nothing

-- The last End that gave the edge, where no later entry used the edge; else the token with which the edge
-- began, where nothing gave or used it; else nothing.
abbrev pub waiting : NetRows → ℕ → List Entry → Part
waiting net e journal =
    left_over (last_place (gives_edge e) journal) (last_place (uses_edge net e) journal) (first_waiting net e)

-- what waits at each edge that releases the task by the cause
abbrev pub waiting_parts : NetRows → ℕ → Cause → List Entry → List Part
waiting_parts net t cause journal = map (λ e. waiting net e journal) (edges_of net t cause)

-- what waits at an edge after an entry at place n, where this waited before it: the entry itself where it gave
-- the edge, nothing where it used it
abbrev pub waiting_after : NetRows → ℕ → ℕ → Part → Entry → Part
waiting_after net e n part entry = if gives_edge e entry then From n else (if uses_edge net e entry then Nothing else part)
