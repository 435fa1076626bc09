-- The values of a finished run are those of its journal's Ends.
use Rattle.std.proofs.Common.{◌≡◌, ℕ, zero, suc, ◌+◌, List, [], ◌∷◌, ◌++◌, length, map, reverse, Option, Some, None, set, replicate, refl, sym, ap, ◌∙◌, subst, arith, Contains}
use Rattle.std.specs.Prelude.{IfOk, Result}
use Rattle.std.specs.declared.result.Result.TheVariants.{Ok, Err}
use Rattle.std.specs.List.{AllByRecursion}
use Rattle.std.proofs.lemmas.List.{map-append}
use Rattle.std.proofs.lemmas.List.Elements.{All-from_recursion}
use Rattle.journal_rules.specs.declared.entry.Entry.{Entry}
use Rattle.join_tables.specs.declared.fates.Dropping.{Dropping}
use Rattle.join_tables.specs.declared.fates.Fate.{Fate}
use Rattle.join_tables.specs.declared.fates.Fate.TheVariants.{Ended, Faulted, Dropped, AllDropped}
use Rattle.join_tables.specs.declared.entry_row.EntryRow.{EntryRow}
use Rattle.join_tables.specs.declared.keeper.FinishedRun.{FinishedRun}
use Rattle.join_tables.specs.declared.keeper.RecordedValue.{RecordedValue}
use Rattle.join_tables.specs.Finishing.{recorded_values, values_told, end_if, end_places, AreEndValues, IsRunTold}
use Rattle.join_tables.specs.Keeping.{entries_told, Merges, TellsSomeRun}
use Rattle.join_tables.specs.inside.Merging.{drop_row, fate_rows, all_rows, placed, journal_in, value_if, values_from, IsFinishedOf}
use Rattle.join_tables.proofs.Merging.{shown, shown_all, places_of, all_merge, all_finished}

both_so : {X : Type 0} (P : X → Type 0) (xs ys : List X) → AllByRecursion P xs → AllByRecursion P ys → AllByRecursion P (xs ++ ys)
both_so P [] ys front back = back
both_so P (x ∷ xs) ys front back = (front.0, both_so P xs ys front.1 back)

front_so : {X : Type 0} (P : X → Type 0) (xs ys : List X) → AllByRecursion P (xs ++ ys) → AllByRecursion P xs
front_so P [] ys h = tt
front_so P (x ∷ xs) ys h = (h.0, front_so P xs ys h.1)

back_so : {X : Type 0} (P : X → Type 0) (xs ys : List X) → AllByRecursion P (xs ++ ys) → AllByRecursion P ys
back_so P [] ys h = h
back_so P (x ∷ xs) ys h = back_so P xs ys h.1

-- each element is among them
later_so : {X : Type 0} (x : X) (xs ys : List X) → AllByRecursion (Contains xs) ys → AllByRecursion (Contains (x ∷ xs)) ys
later_so x xs [] h = tt
later_so x xs (y ∷ ys) h = ((suc h.0.0, omega (arith, h.0.1), h.0.2), later_so x xs ys h.1)

all_among : {X : Type 0} (xs : List X) → AllByRecursion (Contains xs) xs
all_among [] = tt
all_among (x ∷ xs) = ((0, omega arith, refl), later_so x xs xs (all_among xs))

abbrev place_of : {V : Type 0} → RecordedValue V → ℕ
place_of r = r.place

-- an entry has a value where it is an End
abbrev FitsEnd : {V : Type 0} → ℕ → EntryRow V → Type 0
FitsEnd n f = (k : ℕ) → map place_of (value_if k f.value) ≡ end_if k f.entry

drops_fit : (V : Type 0) (ds : List Dropping) → AllByRecursion (λ (x : ℕ × EntryRow V). FitsEnd x.0 x.1) (map drop_row ds)
drops_fit V [] = tt
drops_fit V (d ∷ ds) = ((λ k. refl), drops_fit V ds)

module _ {V : Type 0} where
  -- what lies at each place, from n on, is so
  module _ (P : ℕ → EntryRow V → Type 0) where
    abbrev EachFrom : ℕ → List (Option (EntryRow V)) → Type 0
    EachFrom n [] = Unit {0}
    EachFrom n (None ∷ fs) = EachFrom (suc n) fs
    EachFrom n (Some f ∷ fs) = P n f × EachFrom (suc n) fs

    each_set : (n i m : ℕ) (f : EntryRow V) (fs : List (Option (EntryRow V))) → m ≡ i + n → P m f → EachFrom n fs → EachFrom n (set fs i (Some f))
    each_set n i m f [] is p h = tt
    each_set n zero m f (None ∷ fs) is p h = let here : m ≡ n = omega (arith, is) in (subst (λ k. P k f) here p, h)
    each_set n zero m f (Some g ∷ fs) is p h = let here : m ≡ n = omega (arith, is) in (subst (λ k. P k f) here p, h.1)
    each_set n (suc i) m f (None ∷ fs) is p h = each_set (suc n) i m f fs (omega (arith, is)) p h
    each_set n (suc i) m f (Some g ∷ fs) is p h = (h.0, each_set (suc n) i m f fs (omega (arith, is)) p h.1)

    each_placed : (xs : List (ℕ × EntryRow V)) (fs : List (Option (EntryRow V))) → AllByRecursion (λ x. P x.0 x.1) xs → EachFrom 0 fs → EachFrom 0 (placed xs fs)
    each_placed [] fs all h = h
    each_placed (x ∷ xs) fs all h = each_placed xs (set fs x.0 (Some x.1)) all.1 (each_set 0 x.0 x.0 x.1 fs (omega arith) all.0 h)

    each_none : (n k : ℕ) → EachFrom n (replicate k None)
    each_none n zero = tt
    each_none n (suc k) = each_none (suc n) k

    -- where what each fate puts is so
    each_row : ((fate : Fate V) → AllByRecursion (λ x. P x.0 x.1) (fate_rows fate)) → (fates : List (Fate V)) → AllByRecursion (λ x. P x.0 x.1) (all_rows fates)
    each_row one [] = tt
    each_row one (fate ∷ fates) = both_so (λ x. P x.0 x.1) (fate_rows fate) (all_rows fates) (one fate) (each_row one fates)

  -- A VALUE FOR EACH END
  fate_fits : (fate : Fate V) → AllByRecursion (λ x. FitsEnd x.0 x.1) (fate_rows fate)
  fate_fits (Ended e) = ((λ k. refl), ((λ k. refl), tt))
  fate_fits (Faulted f) = ((λ k. refl), ((λ k. refl), tt))
  fate_fits (Dropped d) = ((λ k. refl), tt)
  fate_fits (AllDropped drops) = drops_fit V (reverse drops.items)

  ends_valued : (m n : ℕ) (fs : List (Option (EntryRow V))) → EachFrom FitsEnd m fs → map place_of (values_from n fs) ≡ end_places n (journal_in fs)
  ends_valued m n [] h = refl
  ends_valued m n (None ∷ fs) h = ends_valued (suc m) n fs h
  ends_valued m n (Some f ∷ fs) h = map-append place_of (value_if n f.value) (values_from (suc n) fs) ∙ (λ i. h.0 n i ++ ends_valued (suc m) (suc n) fs h.1 i)

  -- EACH IS THAT OF ITS FATE
  module _ (Q : RecordedValue V → Type 0) where
    abbrev Valued : ℕ → EntryRow V → Type 0
    Valued n f = AllByRecursion Q (value_if n f.value)

    drops_valued : (ds : List Dropping) → AllByRecursion (λ x. Valued x.0 x.1) (map drop_row ds)
    drops_valued [] = tt
    drops_valued (d ∷ ds) = (tt, drops_valued ds)

    fate_valued : (fate : Fate V) → AllByRecursion Q (recorded_values fate) → AllByRecursion (λ x. Valued x.0 x.1) (fate_rows fate)
    fate_valued (Ended e) h = (tt, (h, tt))
    fate_valued (Faulted f) h = (tt, (tt, tt))
    fate_valued (Dropped d) h = (tt, tt)
    fate_valued (AllDropped drops) h = drops_valued (reverse drops.items)

    all_valued : (fates : List (Fate V)) → AllByRecursion Q (values_told fates) → AllByRecursion (λ x. Valued x.0 x.1) (all_rows fates)
    all_valued [] h = tt
    all_valued (fate ∷ fates) h = both_so (λ x. Valued x.0 x.1) (fate_rows fate) (all_rows fates) (fate_valued fate (front_so Q (recorded_values fate) (values_told fates) h)) (all_valued fates (back_so Q (recorded_values fate) (values_told fates) h))

    -- where an entry lies at each place
    from_places : (n : ℕ) (fs : List (Option (EntryRow V))) (xs : List Entry) → shown fs ≡ map Some xs → EachFrom Valued n fs → AllByRecursion Q (values_from n fs)
    from_places n [] xs is h = tt
    from_places n (None ∷ fs) [] is h = absurd (cc)
    from_places n (None ∷ fs) (x ∷ xs) is h = absurd (cc)
    from_places n (Some f ∷ fs) [] is h = absurd (cc)
    from_places n (Some f ∷ fs) (x ∷ xs) is h = let rest : shown fs ≡ map Some xs = cc in
        both_so Q (value_if n f.value) (values_from (suc n) fs) h.0 (from_places (suc n) fs xs rest h.1)

  values_of_ends : (fates : List (Fate V)) (journal made : List Entry) (values : List (RecordedValue V)) → Merges (entries_told fates) journal → made ≡ journal_in (places_of fates) → values ≡ values_from 0 (places_of fates) → AreEndValues fates made values
  values_of_ends fates journal made values m made_is values_are = record {
    places = ap (map place_of) values_are ∙ ends_valued 0 0 (places_of fates) (each_placed FitsEnd (all_rows fates) none (each_row FitsEnd fate_fits fates) (each_none FitsEnd 0 count)) ∙ ap (end_places 0) (sym made_is);
    told = All-from_recursion (Contains (values_told fates)) values (subst (AllByRecursion (Contains (values_told fates))) (sym values_are)
        (from_places (Contains (values_told fates)) 0 (places_of fates) journal (shown_all fates journal m) (each_placed (Valued (Contains (values_told fates))) (all_rows fates) none (all_valued (Contains (values_told fates)) fates (all_among (values_told fates))) (each_none (Valued (Contains (values_told fates))) 0 count))));
  }
    where
      count : ℕ
      count = length (entries_told fates)

      none : List (Option (EntryRow V))
      none = replicate count None

  -- WHAT IS MADE OF THE FATES OF A KEEPER
  pub merges_ok : (E : Type 0) (kept fates : List (Fate V)) (result : Result (FinishedRun V) E) → kept ≡ fates → TellsSomeRun (entries_told fates) → IfOk result (IsFinishedOf (places_of kept)) → IfOk result (λ run. Merges (entries_told fates) run.journal)
  merges_ok E kept fates (Ok run) is told of = subst (λ fs. Merges (entries_told fs) run.journal) is (all_merge kept run.journal of.0 (subst (λ fs. TellsSomeRun (entries_told fs)) (sym is) told))
  merges_ok E kept fates (Err e) is told of = tt

  pub finished_ok : (E : Type 0) (kept fates : List (Fate V)) (result : Result (FinishedRun V) E) → kept ≡ fates → IfOk result (IsFinishedOf (places_of kept)) → IfOk result (λ run. IsRunTold fates run.journal)
  finished_ok E kept fates (Ok run) is of = subst (λ fs. IsRunTold fs run.journal) is (all_finished kept run.journal of.0)
  finished_ok E kept fates (Err e) is of = tt

  pub values_ok : (E : Type 0) (kept fates : List (Fate V)) (result : Result (FinishedRun V) E) → kept ≡ fates → TellsSomeRun (entries_told fates) → IfOk result (IsFinishedOf (places_of kept)) → IfOk result (λ run. AreEndValues fates run.journal run.values.items)
  values_ok E kept fates (Ok run) is told of = let here = subst (λ fs. TellsSomeRun (entries_told fs)) (sym is) told in
      subst (λ fs. AreEndValues fs run.journal run.values.items) is (values_of_ends kept here.tells.journal run.journal run.values.items here.tells.merges of.0 of.1)
  values_ok E kept fates (Err e) is told of = tt
