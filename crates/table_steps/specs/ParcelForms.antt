-- Parcels in the slot of an edge, and on their way there.
use Rattle.std.specs.Prelude.{◌≡◌, Bool, true, false, List, [], ◌∷◌}
use Rattle.join_words.specs.declared.ins.Given.{Given}
use Rattle.task_graph.specs.NetRows.{NetRows}
use Rattle.journal_rules.specs.OnceNets.{IsOnceNet}
use Rattle.table_steps.specs.declared.parcels.Parcel.{Parcel}
use Rattle.table_steps.specs.declared.parcels.Parcel.TheVariants.{Bare, Linked}

-- the parcel, in a list of one
abbrev pub parcel_in : {V : Type 0} → Parcel V → List (Given V)
parcel_in (Bare given) = given ∷ []
parcel_in (Linked node) = node

-- whether it lies in an empty slot alone
abbrev pub is_bare : {V : Type 0} → Parcel V → Bool
is_bare (Bare given) = true
is_bare (Linked node) = false

-- So a bare one has no others before it.
abbrev pub MayLieBehind : {V : Type 0} → List (Given V) → Parcel V → Type 0
MayLieBehind others parcel = is_bare parcel ≡ true → others ≡ []

-- Bare parcels do where an edge is given one token at most.
abbrev pub MayBeBare : NetRows → Bool → Type 0
MayBeBare net bare = bare ≡ true → IsOnceNet net
