-- What a Start finds at the edges that released it.
use Rattle.std.specs.Prelude.{◌≡◌, ℕ, suc, Bool, true, false, ◌&&◌, ◌==◌, List, [], ◌∷◌, count_by, slice_get, IsTrue, if◌then◌else◌}
use Rattle.std.specs.Option.{option_map_or}
use Rattle.std.specs.List.{AllZip, list_any, zip}
use Rattle.task_graph.specs.NetRows.{NetRows}
use Rattle.task_graph.specs.Net.{strong_in}
use Rattle.journal_rules.specs.declared.entry.Cause.{Cause}
use Rattle.journal_rules.specs.declared.entry.Cause.TheVariants.{Source, Strong, Weak}
use Rattle.journal_rules.specs.declared.entry.Part.{Part}
use Rattle.journal_rules.specs.declared.entry.Part.TheVariants.{From, First, Nothing}
use Rattle.journal_rules.specs.declared.entry.Entry.{Entry}
use Rattle.journal_rules.specs.declared.entry.Entry.TheVariants.{Start, End, Fault, Drop}
use Rattle.journal_rules.specs.Counts.{gives_edge, first_tokens}
use Rattle.journal_rules.specs.Calm.{IsCalm}

-- the edges that release a task by a cause, of each of which a token is used
abbrev pub edges_of : NetRows → ℕ → Cause → List ℕ
edges_of net t Source = []
edges_of net t Strong = strong_in net t
edges_of net t (Weak e) = e ∷ []

-- whether a part is the End at this place
abbrev pub is_from : ℕ → Part → Bool
is_from n (From m) = m == n
is_from n First = false
is_from n Nothing = false

-- whether a part is the token with which the edge began
abbrev pub is_first : Part → Bool
is_first (From m) = false
is_first First = true
is_first Nothing = false

-- whether an entry is a Start that has, at this edge, a part that passes
abbrev pub has_part : NetRows → ℕ → (Part → Bool) → Entry → Bool
has_part net e test (Start task cause ins) = list_any (λ p. (p.0 == e) && test p.1) (zip (edges_of net task cause) ins)
has_part net e test (End start gives inner) = false
has_part net e test (Fault start why) = false
has_part net e test (Drop task cause why) = false

-- the last End that gave the edge, among entries of which the first stands at place n; else this part
abbrev pub last_from : ℕ → ℕ → Part → List Entry → Part
last_from e n part [] = part
last_from e n part (x ∷ rest) = last_from e (suc n) (if gives_edge e x then From n else part) rest

-- the last End that gave the edge, or First where none did
abbrev pub last_part : ℕ → List Entry → Part
last_part e journal = last_from e 0 First journal

-- What may be found at an edge: an End that gave it and that no Start has found there; the token with which
-- it began, if no Start has found that; or nothing.
abbrev pub MayFind : NetRows → List Entry → ℕ → Part → Type 0
MayFind net journal e (From n) =
    IsTrue (option_map_or (gives_edge e) (slice_get journal n) false) × (count_by (has_part net e (is_from n)) journal ≡ 0)
MayFind net journal e First = (first_tokens net e ≡ 1) × (count_by (has_part net e is_first) journal ≡ 0)
MayFind net journal e Nothing = Unit {0}

-- a part that a Start may have at an edge; where the edge is calm it is the last one given
pub record IsPartAt (net : NetRows) (journal : List Entry) (e : ℕ) (part : Part) : Type 0 where
  pub found : MayFind net journal e part
  pub last : IsCalm net e journal → part ≡ last_part e journal

-- A Start has one part for each edge that released it, in order.
abbrev pub DataRule : NetRows → List Entry → Entry → Type 0
DataRule net journal (Start task cause ins) = AllZip (IsPartAt net journal) (edges_of net task cause) ins
DataRule net journal (End start gives inner) = Unit {0}
DataRule net journal (Fault start why) = Unit {0}
DataRule net journal (Drop task cause why) = Unit {0}
