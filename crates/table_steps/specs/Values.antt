-- What is known of the values of Ends.
use Rattle.std.specs.Prelude.{◌≡◌, ℕ, Option, Some, List, [], ◌∷◌, map, flat_map}
use Rattle.std.specs.Arc.{arc_value}
use Rattle.join_words.specs.declared.ins.Given.{Given}
use Rattle.join_words.specs.declared.ins.Given.TheVariants.{Value, First as FirstToken, Nothing as NoValue}
use Rattle.journal_rules.specs.declared.entry.Part.{Part}
use Rattle.journal_rules.specs.declared.entry.Part.TheVariants.{From, First, Nothing}
use Rattle.table_steps.specs.declared.view.EndValue.{EndValue}

-- the part of a start at whose edge this is found
abbrev pub given_part : {V : Type 0} → Given V → Part
given_part (Value place shared) = From place
given_part FirstToken = First
given_part NoValue = Nothing

-- and those of parcels
abbrev pub given_parts : {V : Type 0} → List (Given V) → List Part
given_parts parcels = map given_part parcels

-- the End at this place has this value
abbrev pub ended_with : {V : Type 0} → ℕ → V → List (EndValue V)
ended_with n v = record { place = n; value = v } ∷ []

-- the value that a parcel has
abbrev pub given_values : {V : Type 0} → Given V → List (EndValue V)
given_values (Value place shared) = ended_with place (arc_value shared)
given_values FirstToken = []
given_values NoValue = []

-- and those of parcels
abbrev pub values_in : {V : Type 0} → List (Given V) → List (EndValue V)
values_in parcels = flat_map given_values parcels

-- the Ends at these places have these values
abbrev pub AreValues : {V : Type 0} → (ℕ → Option V) → List (EndValue V) → Type 0
AreValues value_at [] = Unit {0}
AreValues value_at (e ∷ more) = (value_at e.place ≡ Some e.value) × AreValues value_at more

-- Who knows these values knows those too.
pub record Knows {V : Type 0} (values claims : List (EndValue V)) : Type 0 where
  pub follow : (value_at : ℕ → Option V) → AreValues value_at values → AreValues value_at claims

-- No End has two values here.
pub record HaveOneValueEach {V : Type 0} (values : List (EndValue V)) : Type 0 where
  pub value_at : ℕ → Option V
  pub all : AreValues value_at values
