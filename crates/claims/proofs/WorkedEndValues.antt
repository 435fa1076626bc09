-- The values of Ends: those that starts find, those that a keeper has, and when they agree.
use Rattle.std.proofs.Common.{◌≡◌, ℕ, List, [], ◌∷◌, ◌++◌, length, map, false, Option, Some, None, cond, refl, ap, sym, subst, ◌∙◌, arith}
use Rattle.std.specs.Prelude.{◌==◌, unwrap_or}
use Rattle.std.specs.Arc.{arc_with_value}
use Rattle.std.specs.Global.{Global}
use Rattle.std.specs.declared.sync.Arc.{Arc}
use Rattle.std.specs.declared.vec.Vec.{Vec}
use Rattle.atomic_table.specs.Seated.{TableId}
use Rattle.journal_rules.specs.declared.entry.Cause.TheVariants.{Strong}
use Rattle.journal_rules.specs.declared.entry.Why.TheVariants.{Inner}
use Rattle.journal_rules.specs.declared.entry.DropWhy.TheVariants.{Limit}
use Rattle.journal_rules.specs.declared.entry.Part.{Part}
use Rattle.journal_rules.specs.declared.entry.Part.TheVariants.{From, First, Nothing}
use Rattle.join_words.specs.declared.ins.Given.TheVariants.{Value, First as FirstToken, Nothing as NoValue}
use Rattle.join_words.specs.Ins.{parts_of}
use Rattle.table_steps.specs.declared.view.EndValue.{EndValue}
use Rattle.table_steps.specs.Values.{given_part, given_parts, ended_with, given_values, values_in, AreValues, Knows, HaveOneValueEach}
use Rattle.join_tables.specs.declared.turns.EndedStart.{EndedStart}
use Rattle.join_tables.specs.declared.fates.Failure.{Failure}
use Rattle.join_tables.specs.declared.fates.Dropping.{Dropping}
use Rattle.join_tables.specs.declared.fates.Fate.TheVariants.{Ended, Faulted, Dropped, AllDropped}
use Rattle.join_tables.specs.declared.fates.Fate.{Fate}
use Rattle.join_tables.specs.declared.keeper.RecordedValue.{RecordedValue}
use Rattle.join_tables.specs.declared.parts.FoundParts.{FoundParts}
use Rattle.join_tables.specs.declared.parts.Inputs.{Inputs}
use Rattle.join_tables.specs.Inputs.{given_in}
use Rattle.join_tables.specs.Values.{own_values, known_values, values_known, found_values}
use Rattle.join_tables.specs.Finishing.{recorded_values, values_told}
use Rattle.join_tables.specs.Keeping.{KeeperState, keeper_state, keeper_with, drop_of, entries_of, entries_told, AgreeOnValues}

-- the place and the value of the first of these
abbrev first_place : List (EndValue ℕ) → ℕ
first_place [] = 0
first_place (e ∷ more) = e.place

abbrev first_value : List (EndValue ℕ) → ℕ
first_value [] = 0
first_value (e ∷ more) = e.value

-- the place of the End that a part names, and that of the first of these values
abbrev end_place : Part → ℕ
end_place (From place) = place
end_place part = 0

abbrev head_place : List Part → ℕ
head_place [] = 0
head_place (part ∷ more) = end_place part

abbrev row_place : List (RecordedValue ℕ) → ℕ
row_place [] = 0
row_place (row ∷ more) = row.place

-- the End at place 3 has the value 7, that at place 5 the value 8, and there is no other
abbrev two_ends_at : ℕ → Option ℕ
two_ends_at n = cond (n == 3) (Some 7) (cond (n == 5) (Some 8) None)

-- KNOWN VALUES
both_have_their_values : AreValues two_ends_at (ended_with 3 7 ++ ended_with 5 8)
both_have_their_values = (refl, (refl, tt))

first_has_another_value : ¬ AreValues two_ends_at (ended_with 3 8 ++ ended_with 5 8)
first_has_another_value are = omega (arith, ap (λ o. unwrap_or o 0) are.0)

second_has_another_value : ¬ AreValues two_ends_at (ended_with 3 7 ++ ended_with 5 7)
second_has_another_value are = omega (arith, ap (λ o. unwrap_or o 0) are.1.0)

no_end_has_no_value : ¬ AreValues two_ends_at (ended_with 4 7)
no_end_has_no_value are = let no : ◌≡◌ {A = Option ℕ} None (Some 7) = are.0 in absurd (cc)

known_in_any_order : Knows {V = ℕ} (ended_with 3 7 ++ ended_with 5 8) (ended_with 5 8 ++ ended_with 3 7)
known_in_any_order = record { follow = λ value_at all. (all.1.0, (all.0, tt)) }

another_end_is_not_known : ¬ Knows {V = ℕ} (ended_with 3 7) (ended_with 5 8)
another_end_is_not_known known = let no : ◌≡◌ {A = Option ℕ} None (Some 8) = (known.follow (λ n. cond (n == 3) (Some 7) None) (refl, tt)).0 in absurd (cc)

known_twice : HaveOneValueEach {V = ℕ} (ended_with 3 7 ++ ended_with 3 7)
known_twice = record { value_at = two_ends_at; all = (refl, (refl, tt)) }

-- two values of one End are one
same_of_one_end : (v w : ℕ) → HaveOneValueEach (ended_with 3 v ++ ended_with 3 w) → v ≡ w
same_of_one_end v w one = ap (λ o. unwrap_or o 0) (sym one.all.0 ∙ one.all.1.0)

-- A start found the value 7 of the End at place 3 and the token with which an edge began, another one the value 8 of
-- the End at place 5, and a third one nothing.
module _ (shared : Arc ℕ Global) (this other nothing : FoundParts ℕ) (found : parts_of this.ins.value ≡ Value 3 (arc_with_value shared 7) ∷ FirstToken ∷ []) (other_found : parts_of other.ins.value ≡ Value 5 (arc_with_value shared 8) ∷ []) (none_found : parts_of nothing.ins.value ≡ []) where
  abbrev seven : Arc ℕ Global
  seven = arc_with_value shared 7

  abbrev eight : Arc ℕ Global
  eight = arc_with_value shared 8

  -- PARTS
  value_is_from_its_end : given_part (Value 3 seven) ≡ From 3
  value_is_from_its_end = refl

  value_is_from_no_other_end : ¬ (given_part (Value 3 seven) ≡ From 2)
  value_is_from_no_other_end is = omega (arith, ap end_place is)

  token_is_no_missing_value : ¬ (given_part {V = ℕ} FirstToken ≡ Nothing)
  token_is_no_missing_value is = let no : First ≡ Nothing = is in absurd (cc)

  parts_of_parcels : given_parts (Value 3 seven ∷ FirstToken ∷ NoValue ∷ []) ≡ From 3 ∷ First ∷ Nothing ∷ []
  parts_of_parcels = refl

  parts_of_parcels_in_order : ¬ (given_parts (Value 3 seven ∷ Value 5 eight ∷ []) ≡ From 5 ∷ From 3 ∷ [])
  parts_of_parcels_in_order is = omega (arith, ap head_place is)

  value_of_its_end : given_values (Value 3 seven) ≡ ended_with 3 7
  value_of_its_end = refl

  value_of_no_other_end : ¬ (given_values (Value 3 seven) ≡ ended_with 5 7)
  value_of_no_other_end is = omega (arith, ap first_place is)

  no_other_value_of_its_end : ¬ (given_values (Value 3 seven) ≡ ended_with 3 8)
  no_other_value_of_its_end is = omega (arith, ap first_value is)

  token_has_no_value : given_values {V = ℕ} FirstToken ≡ []
  token_has_no_value = refl

  values_of_the_parts : values_in (Value 3 seven ∷ FirstToken ∷ Value 5 eight ∷ NoValue ∷ []) ≡ ended_with 3 7 ++ ended_with 5 8
  values_of_the_parts = refl

  values_in_the_order_of_the_parts : ¬ (values_in (Value 3 seven ∷ Value 5 eight ∷ []) ≡ ended_with 5 8 ++ ended_with 3 7)
  values_in_the_order_of_the_parts is = omega (arith, ap first_place is)

  token_is_a_part : ¬ (this.parts ≡ From 3 ∷ [])
  token_is_a_part is = omega (arith, ap length (sym (this.same ∙ ap (map given_part) found) ∙ is))

  -- ENDS AND STARTS
  abbrev ending : EndedStart ℕ
  ending = record { task = 0; cause = Strong; start = 4; found = this; value = eight; place = 6; gives = []; inner = false }

  abbrev failure : Failure ℕ
  failure = record { task = 0; cause = Strong; start = 4; found = this; place = 6; why = Inner }

  abbrev dropping : Dropping
  dropping = record { task = 0; cause = Strong; place = 2; why = Limit }

  -- an End at a place with a value, and what is handed out of it
  abbrev ended_at : ℕ → ℕ → Fate ℕ
  ended_at place v = Ended (record { task = 0; cause = Strong; start = 0; found = nothing; value = arc_with_value shared v; place = place; gives = []; inner = false })

  abbrev with_value : ℕ → ℕ → List (RecordedValue ℕ)
  with_value place v = record { place = place; value = arc_with_value shared v } ∷ []

  values_of_an_end_and_its_start : own_values ending ≡ ended_with 6 8 ++ ended_with 3 7
  values_of_an_end_and_its_start = ap (λ parts. ended_with 6 8 ++ values_in parts) found

  not_its_value_alone : ¬ (own_values ending ≡ ended_with 6 8)
  not_its_value_alone is = omega (arith, ap length (sym values_of_an_end_and_its_start ∙ is))

  value_not_at_its_start : ¬ (own_values ending ≡ ended_with 4 8 ++ ended_with 3 7)
  value_not_at_its_start is = omega (arith, ap first_place is)

  values_of_a_fault : known_values (Faulted failure) ≡ ended_with 3 7
  values_of_a_fault = ap values_in found

  -- a value is that of the End, and not of the start that found it
  no_value_of_the_start : ¬ (known_values (Faulted failure) ≡ ended_with 4 7)
  no_value_of_the_start is = omega (arith, ap first_place (sym values_of_a_fault ∙ is))

  no_value_known_of_a_drop : known_values {V = ℕ} (Dropped dropping) ≡ []
  no_value_known_of_a_drop = refl

  module _ (first second : Inputs ℕ) (first_found : given_in first ≡ Value 3 seven ∷ FirstToken ∷ []) (second_found : given_in second ≡ Value 5 eight ∷ []) where
    values_of_two_turns : found_values (first ∷ second ∷ []) ≡ ended_with 3 7 ++ ended_with 5 8
    values_of_two_turns = (λ i. values_in (first_found i) ++ (values_in (second_found i) ++ []))

    not_those_of_the_first_alone : ¬ (found_values (first ∷ second ∷ []) ≡ ended_with 3 7)
    not_those_of_the_first_alone is = omega (arith, ap length (sym values_of_two_turns ∙ is))

  -- WHAT A KEEPER HANDS OUT
  end_has_its_value : recorded_values (Ended ending) ≡ with_value 6 8
  end_has_its_value = refl

  no_value_at_the_start : ¬ (recorded_values (Ended ending) ≡ with_value 4 8)
  no_value_at_the_start is = omega (arith, ap row_place is)

  no_value_of_a_fault : recorded_values (Faulted failure) ≡ []
  no_value_of_a_fault = refl

  no_value_of_a_drop : recorded_values {V = ℕ} (Dropped dropping) ≡ []
  no_value_of_a_drop = refl

  no_value_of_drops : (drops : Vec Dropping Global) → recorded_values {V = ℕ} (AllDropped drops) ≡ []
  no_value_of_drops drops = refl

  values_of_two_ends : values_told (ended_at 3 7 ∷ Faulted failure ∷ Ended ending ∷ []) ≡ with_value 3 7 ++ with_value 6 8
  values_of_two_ends = refl

  -- WHAT A KEEPER TAKES IN
  -- a keeper that took in the dropped release, and then these turns
  module _ (n : TableId) where
    abbrev kept : List (Fate ℕ) → KeeperState ℕ
    kept fates = keeper_state n (Dropped dropping ∷ fates) (2 ∷ [])

    end_taken_in : keeper_with (kept (ended_at 3 7 ∷ [])) (Ended ending ∷ []) (1 ∷ []) ≡ keeper_state n (Dropped dropping ∷ ended_at 3 7 ∷ Ended ending ∷ []) (1 ∷ [])
    end_taken_in = refl

    two_taken_in : keeper_with (kept []) (Faulted failure ∷ Ended ending ∷ []) (1 ∷ []) ≡ keeper_state n (Dropped dropping ∷ Faulted failure ∷ Ended ending ∷ []) (1 ∷ [])
    two_taken_in = refl

    entries_of_all : entries_told (kept (Ended ending ∷ [])).fates ≡ drop_of dropping ∷ entries_of (Ended ending)
    entries_of_all = refl

    no_end_in_front : ¬ (values_told (keeper_with (kept (ended_at 3 7 ∷ [])) (Ended ending ∷ []) (1 ∷ [])).fates ≡ with_value 6 8 ++ with_value 3 7)
    no_end_in_front is = omega (arith, ap row_place is)

    no_turn_is_left_out : ¬ (keeper_with (kept []) (Faulted failure ∷ []) (1 ∷ []) ≡ kept [])
    no_turn_is_left_out is = omega (arith, ap (λ (k : KeeperState ℕ). length k.fates) is)

    numbers_are_those_of_the_call : ¬ ((keeper_with (kept []) (Faulted failure ∷ []) (1 ∷ [])).found ≡ 1 ∷ 2 ∷ [])
    numbers_are_those_of_the_call is = omega (arith, ap length is)

  -- AGREEMENT
  -- an End at a place with a value, and the start that found the value 7 of the End at place 3
  end_and_start : (place v : ℕ) → values_known (ended_at place v ∷ Faulted failure ∷ []) ≡ ended_with place v ++ ended_with 3 7
  end_and_start place v = (λ i. (ended_with place v ++ values_in (none_found i)) ++ (values_in (found i) ++ []))

  found_as_ended : AgreeOnValues (ended_at 3 7 ∷ Faulted failure ∷ [])
  found_as_ended = subst HaveOneValueEach (sym (end_and_start 3 7)) known_twice

  found_with_another_value : ¬ AgreeOnValues (ended_at 3 8 ∷ Faulted failure ∷ [])
  found_with_another_value agree = omega (arith, same_of_one_end 8 7 (subst HaveOneValueEach (end_and_start 3 8) agree))

  another_end_has_another_value : AgreeOnValues (ended_at 5 8 ∷ Faulted failure ∷ [])
  another_end_has_another_value = subst HaveOneValueEach (sym (end_and_start 5 8)) (record { value_at = two_ends_at; all = (refl, (refl, tt)) })

  one_end_with_two_values : ¬ AgreeOnValues (ended_at 3 7 ∷ ended_at 3 8 ∷ [])
  one_end_with_two_values agree = omega (arith, same_of_one_end 7 8 (subst HaveOneValueEach (λ i. (ended_with 3 7 ++ values_in (none_found i)) ++ ((ended_with 3 8 ++ values_in (none_found i)) ++ [])) agree))

  -- also where the End isn't kept yet
  two_starts_found_two_values : (third : FoundParts ℕ) → parts_of third.ins.value ≡ Value 3 eight ∷ [] → ¬ AgreeOnValues (Faulted failure ∷ Faulted (record { task = 0; cause = Strong; start = 9; found = third; place = 10; why = Inner }) ∷ [])
  two_starts_found_two_values third third_found agree = omega (arith, same_of_one_end 7 8 (subst HaveOneValueEach (λ i. values_in (found i) ++ (values_in (third_found i) ++ [])) agree))
