-- What turns and keepers know of the values of Ends.
use Rattle.std.proofs.Common.{◌≡◌, List, [], ◌∷◌, ◌++◌, length, Option, Some, None, IfSome, IfNone, refl, sym, ap, ◌∙◌, subst, arith}
use Rattle.std.specs.Option.{option_map_or}
use Rattle.std.proofs.lemmas.Grind.{flat_map-append}
use Rattle.table_steps.specs.declared.view.EndValue.{EndValue}
use Rattle.table_steps.specs.Values.{values_in, Knows, HaveOneValueEach}
use Rattle.table_steps.proofs.Values.{knows_none, knows_both, knows_front, knows_back}
use Rattle.join_tables.specs.declared.fates.Fate.{Fate}
use Rattle.join_tables.specs.declared.parts.Inputs.{Inputs}
use Rattle.join_tables.specs.Inputs.{given_in}
use Rattle.join_tables.specs.Values.{known_values, values_known, found_values}

pub no_items : {X : Type 0} (xs : List X) → length xs ≡ 0 → xs ≡ []
no_items [] is = refl
no_items (x ∷ xs) is = absurd (omega (arith, is))

pub one_none : {V : Type 0} → HaveOneValueEach {V = V} []
one_none = record { value_at = λ n. None; all = tt }

module _ {V : Type 0} where
  -- what the turns of two lists know
  pub knows_all : (known : List (EndValue V)) (fates more : List (Fate V)) → Knows known (values_known fates) → Knows known (values_known more) → Knows known (values_known (fates ++ more))
  knows_all known fates more before new = subst (Knows known) (sym (flat_map-append known_values fates more)) (knows_both known (values_known fates) (values_known more) before new)

  -- and one turn
  pub knows_one : (known : List (EndValue V)) (fate : Fate V) → Knows known (known_values fate) → Knows known (values_known (fate ∷ []))
  knows_one known fate new = knows_both known (known_values fate) [] new (knows_none known)

  -- a batch without a turn knows none
  pub knows_batch : {X : Type 0} (f : X → List (EndValue V)) (seat : Option X) (fates : List (Fate V)) → IfNone seat (fates ≡ []) → IfSome seat (λ s. Knows (f s) (values_known fates)) → Knows (option_map_or f seat []) (values_known fates)
  knows_batch f None fates none is = subst (λ fs. Knows [] (values_known fs)) (sym none) (knows_none [])
  knows_batch f (Some x) fates none is = is

  -- a turn more in a rest
  pub knows_parked : (known : List (EndValue V)) (all : List (Inputs V)) (inputs : Inputs V) → Knows known (found_values all) → Knows known (values_in (given_in inputs)) → Knows known (found_values (all ++ inputs ∷ []))
  knows_parked known all inputs before new = let values = λ (i : Inputs V). values_in (given_in i) in
      subst (Knows known) (sym (flat_map-append values all (inputs ∷ []))) (knows_both known (found_values all) (found_values (inputs ∷ [])) before (knows_both known (values_in (given_in inputs)) [] new (knows_none known)))

  -- and one fewer
  pub knows_left : (known : List (EndValue V)) (all left : List (Inputs V)) (inputs : Inputs V) → all ≡ left ++ inputs ∷ [] → Knows known (found_values all) → Knows known (found_values left) × Knows known (values_in (given_in inputs))
  knows_left known all left inputs is before = let values = λ (i : Inputs V). values_in (given_in i) in
      let both = subst (Knows known) (ap found_values is ∙ flat_map-append values left (inputs ∷ [])) before in
      (knows_front known (found_values left) (found_values (inputs ∷ [])) both, knows_front known (values_in (given_in inputs)) [] (knows_back known (found_values left) (found_values (inputs ∷ [])) both))

  -- a rest without a turn knows none
  pub knows_rest : {X : Type 0} (f : X → List (EndValue V)) (seat : Option X) (all : List (Inputs V)) → (seat ≡ None → all ≡ []) → IfSome seat (λ s. Knows (f s) (found_values all)) → Knows (option_map_or f seat []) (found_values all)
  knows_rest f None all none is = subst (λ xs. Knows [] (found_values xs)) (sym (none refl)) (knows_none [])
  knows_rest f (Some x) all none is = is
