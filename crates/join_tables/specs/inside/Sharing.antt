-- Owners of one value, some in parcels whose place is still to be written.
use Rattle.std.specs.Prelude.{◌≡◌, ℕ, ◌+◌, Bool, true, false, List, [], ◌∷◌, length}
use Rattle.std.specs.List.{AllByRecursion}
use Rattle.std.specs.declared.sync.Arc.{Arc}
use Rattle.std.specs.Arc.{arc_value}
use Rattle.join_words.specs.declared.ins.Given.{Given}
use Rattle.join_words.specs.declared.ins.Given.TheVariants.{Value}
use Rattle.journal_rules.specs.declared.entry.Part.TheVariants.{From}
use Rattle.table_steps.specs.declared.view.EndValue.{EndValue}
use Rattle.table_steps.specs.Values.{ended_with, given_parts, values_in, Knows}
use Rattle.join_tables.specs.declared.shares.Shares.{Shares}
use Rattle.join_tables.specs.declared.shares.Shares.TheVariants.{Bare, Linked}

-- a parcel with this value
abbrev pub IsShareOf : {V : Type 0} → V → Given V → Type 0
IsShareOf value (Value place share) = arc_value share ≡ value
IsShareOf value _ = ⊥

abbrev pub AreParcelsOf : {V : Type 0} → V → List (Given V) → Type 0
AreParcelsOf value parcels = AllByRecursion (IsShareOf value) parcels

-- owners of this value
abbrev pub AreOwnersOf : {V A : Type 0} → V → List (Arc V A) → Type 0
AreOwnersOf value owners = AllByRecursion (λ owner. arc_value owner ≡ value) owners

abbrev pub AreSharesOf : {V : Type 0} → V → Shares V → Type 0
AreSharesOf value (Bare owners) = AreOwnersOf value owners.items
AreSharesOf value (Linked parcels) = AreParcelsOf value parcels

-- how many there are
abbrev pub count_in : {V : Type 0} → Shares V → ℕ
count_in (Bare owners) = length owners.items
count_in (Linked parcels) = length parcels

-- whether they go into slots bare
abbrev pub have_no_node : {V : Type 0} → Shares V → Bool
have_no_node (Bare owners) = true
have_no_node (Linked parcels) = false

-- one more stands behind the others
pub record AddsShare {V : Type 0} (value : V) (before after : List (Given V)) : Type 0 where
  pub shares : AreParcelsOf value before → AreParcelsOf value after
  pub count : length after ≡ length before + 1

-- one was taken
pub record IsOneFewer {V : Type 0} (before after : Shares V) : Type 0 where
  pub count : count_in after + 1 ≡ count_in before
  pub bare : have_no_node after ≡ have_no_node before
  pub shares : (value : V) → AreSharesOf value before → AreSharesOf value after

-- the first parcel with this place
abbrev pub at_place : {V : Type 0} → ℕ → Given V → Given V
at_place n (Value place share) = Value n share
at_place n given = given

abbrev pub placed : {V : Type 0} → ℕ → List (Given V) → List (Given V)
placed n [] = []
placed n (x ∷ xs) = at_place n x ∷ xs

-- the parcel of the End at this place, which has this value
pub record IsParcelOf {V : Type 0} (value : V) (n : ℕ) (parcel : List (Given V)) : Type 0 where
  pub part : given_parts parcel ≡ From n ∷ []
  pub has : values_in parcel ≡ ended_with n value

-- the value that they share is known for that of the End at this place
pub record KnowsShares {V : Type 0} (n : ℕ) (shares : Shares V) (known : List (EndValue V)) : Type 0 where
  pub value : V
  pub are : AreSharesOf value shares
  pub knows : Knows known (ended_with n value)
