-- What follows from known values.
use Rattle.std.proofs.Common.{◌≡◌, ℕ, zero, suc, List, [], ◌∷◌, ◌++◌, Option, Some, sym, ap, ◌∙◌, subst}
use Rattle.std.specs.Prelude.{slice_get, unwrap_or}
use Rattle.std.proofs.lemmas.Grind.{flat_map-append}
use Rattle.atomic_table.specs.Table.{Me, rest}
use Rattle.join_words.specs.declared.ins.Given.{Given}
use Rattle.table_steps.specs.declared.view.Note.{Note}
use Rattle.table_steps.specs.declared.view.EndValue.{EndValue}
use Rattle.table_steps.specs.declared.view.SeatView.{SeatView}
use Rattle.table_steps.specs.Values.{given_values, values_in, AreValues, Knows, HaveOneValueEach}
use Rattle.table_steps.specs.inside.SeatViews.{values_held, both_views}
use Rattle.table_steps.specs.inside.SlotKinds.{IsOldest}

module _ {V : Type 0} where
  pub are_both : (value_at : ℕ → Option V) (xs ys : List (EndValue V)) → AreValues value_at xs → AreValues value_at ys → AreValues value_at (xs ++ ys)
  are_both value_at [] ys front back = back
  are_both value_at (x ∷ xs) ys front back = (front.0, are_both value_at xs ys front.1 back)

  pub are_front : (value_at : ℕ → Option V) (xs ys : List (EndValue V)) → AreValues value_at (xs ++ ys) → AreValues value_at xs
  are_front value_at [] ys all = tt
  are_front value_at (x ∷ xs) ys all = (all.0, are_front value_at xs ys all.1)

  pub are_back : (value_at : ℕ → Option V) (xs ys : List (EndValue V)) → AreValues value_at (xs ++ ys) → AreValues value_at ys
  are_back value_at [] ys all = all
  are_back value_at (x ∷ xs) ys all = are_back value_at xs ys all.1

  -- and where more Ends have values
  pub are_still : (value_at after : ℕ → Option V) → ((n : ℕ) (v : V) → value_at n ≡ Some v → after n ≡ Some v) → (xs : List (EndValue V)) → AreValues value_at xs → AreValues after xs
  are_still value_at after more [] all = tt
  are_still value_at after more (x ∷ xs) all = (more x.place x.value all.0, are_still value_at after more xs all.1)

  -- ONE VALUE EACH
  are_at : (value_at : ℕ → Option V) (xs : List (EndValue V)) (i : ℕ) (a : EndValue V) → AreValues value_at xs → slice_get xs i ≡ Some a → value_at a.place ≡ Some a.value
  are_at value_at [] i a all at = absurd cc
  are_at value_at (x ∷ xs) zero a all at = subst (λ (e : EndValue V). value_at e.place ≡ Some e.value) (ap (λ o. unwrap_or o x) at) all.0
  are_at value_at (x ∷ xs) (suc i) a all at = are_at value_at xs i a all.1 at

  -- two values of one End are the same
  pub values_agree : (xs : List (EndValue V)) (i j : ℕ) (a b : EndValue V) → HaveOneValueEach xs → slice_get xs i ≡ Some a → slice_get xs j ≡ Some b → a.place ≡ b.place → a.value ≡ b.value
  values_agree xs i j a b one first second same = ap (λ o. unwrap_or o a.value) (sym (are_at one.value_at xs i a one.all first) ∙ ap one.value_at same ∙ are_at one.value_at xs j b one.all second)

  pub one_known : (xs ys : List (EndValue V)) → Knows xs ys → HaveOneValueEach xs → HaveOneValueEach ys
  one_known xs ys known one = record { value_at = one.value_at; all = known.follow one.value_at one.all }

  -- KNOWING
  pub knows_self : (xs : List (EndValue V)) → Knows xs xs
  knows_self xs = record { follow = λ value_at all. all }

  pub knows_none : (xs : List (EndValue V)) → Knows xs []
  knows_none xs = record { follow = λ value_at all. tt }

  pub knows_again : (xs ys zs : List (EndValue V)) → Knows xs ys → Knows ys zs → Knows xs zs
  knows_again xs ys zs a b = record { follow = λ value_at all. b.follow value_at (a.follow value_at all) }

  pub knows_both : (xs ys zs : List (EndValue V)) → Knows xs ys → Knows xs zs → Knows xs (ys ++ zs)
  knows_both xs ys zs a b = record { follow = λ value_at all. are_both value_at ys zs (a.follow value_at all) (b.follow value_at all) }

  pub knows_front : (xs ys zs : List (EndValue V)) → Knows xs (ys ++ zs) → Knows xs ys
  knows_front xs ys zs a = record { follow = λ value_at all. are_front value_at ys zs (a.follow value_at all) }

  pub knows_back : (xs ys zs : List (EndValue V)) → Knows xs (ys ++ zs) → Knows xs zs
  knows_back xs ys zs a = record { follow = λ value_at all. are_back value_at ys zs (a.follow value_at all) }

  -- PARCELS
  pub knows_more : (known : List (EndValue V)) (parcels : List (Given V)) (parcel : Given V) → Knows known (values_in parcels) → Knows known (given_values parcel) → Knows known (values_in (parcels ++ parcel ∷ []))
  knows_more known parcels parcel before new = subst (Knows known) (sym (flat_map-append given_values parcels (parcel ∷ []))) (knows_both known (values_in parcels) (values_in (parcel ∷ [])) before (knows_both known (given_values parcel) [] new (knows_none known)))

  -- those of two lists
  pub knows_appended : (known : List (EndValue V)) (parcels more : List (Given V)) → Knows known (values_in parcels) → Knows known (values_in more) → Knows known (values_in (parcels ++ more))
  knows_appended known parcels more before new = subst (Knows known) (sym (flat_map-append given_values parcels more)) (knows_both known (values_in parcels) (values_in more) before new)

  -- the oldest of a list, and the others
  pub knows_oldest : (known : List (EndValue V)) (parcels : List (Given V)) (given : Given V) (others : List (Given V)) → IsOldest parcels given others → Knows known (values_in parcels) → Knows known (given_values given) × Knows known (values_in others)
  knows_oldest known [] given others is known_all = (subst (λ g. Knows known (given_values g)) (sym is.0) (knows_none known), subst (λ (l : List (Given V)). Knows known (values_in l)) (sym is.1) (knows_none known))
  knows_oldest known (y ∷ ys) given others is known_all =
      (subst (λ g. Knows known (given_values g)) (sym is.0) (knows_front known (given_values y) (values_in ys) known_all), subst (λ (l : List (Given V)). Knows known (values_in l)) (sym is.1) (knows_back known (given_values y) (values_in ys) known_all))

  pub knows_held : (known : List (EndValue V)) (slots : List (ℕ × List (Given V))) (edge : ℕ) (lay : List (Given V)) → slots ≡ (edge, lay) ∷ rest slots → Knows known (values_held slots) → Knows known (values_in lay)
  knows_held known slots edge lay is held = knows_front known (values_in lay) (values_held (rest slots)) (subst (λ (l : List (ℕ × List (Given V))). Knows known (values_held l)) is held)

  pub knows_exchanged : (me me' : Me (List (Given V)) (SeatView V)) (edge : ℕ) (lay parcels : List (Given V)) → me.1 ≡ (edge, lay) ∷ rest me.1 → me' ≡ (me.0, (edge, parcels) ∷ rest me.1) → Knows me.0.values (values_held me.1) → Knows me.0.values (values_in parcels) → Knows me'.0.values (values_held me'.1)
  knows_exchanged me me' edge lay parcels is after held new = let known = me.0.values in let others = values_held (rest me.1) in
      subst (λ (m : Me (List (Given V)) (SeatView V)). Knows m.0.values (values_held m.1)) (sym after)
      (knows_both known (values_in parcels) others new (knows_back known (values_in lay) others (subst (λ (l : List (ℕ × List (Given V))). Knows known (values_held l)) is held)))

  -- A JOIN
  pub knows_joined : (me me' : Me (List (Given V)) (SeatView V)) (w : SeatView V) (both : List Note → List Note → List Note) → me' ≡ (both_views both me.0 w, me.1) → Knows me.0.values (values_held me.1) → Knows me'.0.values (values_held me'.1)
  knows_joined me me' w both after held = let all = w.values ++ me.0.values in
      subst (λ (m : Me (List (Given V)) (SeatView V)). Knows m.0.values (values_held m.1)) (sym after) (knows_again all me.0.values (values_held me.1) (knows_back all w.values me.0.values (knows_self all)) held)

  pub knows_two : (me me' : Me (List (Given V)) (SeatView V)) (w : SeatView V) (both : List Note → List Note → List Note) (xs ys : List (EndValue V)) → me' ≡ (both_views both me.0 w, me.1) → me.0.values ≡ xs → w.values ≡ ys → Knows me'.0.values xs × Knows me'.0.values ys
  knows_two me me' w both xs ys after first second = let all = w.values ++ me.0.values in
      subst (λ (m : Me (List (Given V)) (SeatView V)). Knows m.0.values xs × Knows m.0.values ys) (sym after)
      (subst (Knows all) first (knows_back all w.values me.0.values (knows_self all)), subst (Knows all) second (knows_front all w.values me.0.values (knows_self all)))
