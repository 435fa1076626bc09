-- Which edges an End may give: the part of the rule on choices that the shape of its task decides.
use Rattle.std.specs.Prelude.{◌≡◌, ℕ, ◌≤◌, ◌==◌, ◌⊎◌, Bool, false, List, [], length, slice_get, IsSomeAnd, IsTrue}
use Rattle.std.specs.List.{AllByRecursion, IsDistinct, list_any}
use Rattle.task_graph.specs.NetRows.{NetRows}
use Rattle.task_graph.specs.Net.{out_edges}
use Rattle.task_graph.specs.declared.net.Shape.{Shape}
use Rattle.task_graph.specs.declared.net.Shape.TheVariants.{Plain, Choice, Many, Nested}
use Rattle.task_graph.specs.declared.net.TaskRow.{TaskRow}
use Rattle.journal_rules.specs.declared.entry.Entry.{Entry}
use Rattle.journal_rules.specs.declared.entry.Entry.TheVariants.{Start, End, Fault, Drop}
use Rattle.journal_rules.specs.Counts.{start_at}

-- each of these edges is among the out-edges
abbrev pub AreAmong : List ℕ → List ℕ → Type 0
AreAmong out gives = AllByRecursion (λ g. IsTrue (list_any (λ e. e == g) out)) gives

-- What an End gives fits the shape of its task, which has these out-edges:
-- a Plain or a Nested task gives all of them in order, or none; a Choice gives one or none; a Many gives
-- different ones.
abbrev pub GivesFit : Shape → List ℕ → List ℕ → Type 0
GivesFit Plain out gives = (gives ≡ out) ⊎ (gives ≡ [])
GivesFit Choice out gives = (length gives ≤ 1) × AreAmong out gives
GivesFit Many out gives = IsDistinct ◌==◌ gives × AreAmong out gives
GivesFit Nested out gives = (gives ≡ out) ⊎ (gives ≡ [])

-- Only a Nested task's End is inner.
abbrev pub InnerFits : Shape → Bool → Type 0
InnerFits Plain inner = inner ≡ false
InnerFits Choice inner = inner ≡ false
InnerFits Many inner = inner ≡ false
InnerFits Nested inner = Unit {0}

-- An End fits the task of the Start that it closes.
abbrev pub ChoiceRule : NetRows → List Entry → Entry → Type 0
ChoiceRule net journal (Start task cause ins) = Unit {0}
ChoiceRule net journal (End start gives inner) =
    IsSomeAnd (start_at journal start) (λ t.
    IsSomeAnd (slice_get net.tasks t) (λ (row : TaskRow).
    GivesFit row.shape (out_edges net t) gives × InnerFits row.shape inner))
ChoiceRule net journal (Fault start why) = Unit {0}
ChoiceRule net journal (Drop task cause why) = Unit {0}
