-- The rows of a run's values, which are those of its Ends.
use Rattle.std.proofs.Common.{◌≡◌, ◌≢◌, ◌⊎◌, inl, inr, ℕ, zero, suc, ◌+◌, true, false, eqb, List, [], ◌∷◌, map, Option, Some, refl, sym, ap, ◌∙◌, arith}
use Rattle.std.specs.Prelude.{slice_get, All, Contains}
use Rattle.std.specs.List.{AllByRecursion}
use Rattle.std.specs.Arc.{arc_value}
use Rattle.std.proofs.lemmas.Bool.{cases_eq}
use Rattle.std.proofs.lemmas.Bool.Decides.{nat_tests}
use Rattle.std.proofs.lemmas.List.Elements.{All-contains, All-from_recursion, recursion_from_All}
use Rattle.journal_rules.specs.declared.entry.Entry.{Entry}
use Rattle.journal_rules.specs.declared.entry.Entry.TheVariants.{Start, End, Fault, Drop}
use Rattle.join_tables.specs.Finishing.{end_places}
use Rattle.join_tables.specs.declared.keeper.RecordedValue.{RecordedValue}
use Rattle.run_frame.specs.declared.run.ValueRow.{ValueRow}
use Rattle.run_frame.specs.Rows.{ends_from}
use Rattle.run_frame.specs.Runs.{value_at}
use Rattle.table_runs.specs.inside.Rows.{rows_of}

-- a number is among these
abbrev pub HasNumber : ℕ → List ℕ → Type 0
HasNumber m [] = ⊥
HasNumber m (n ∷ ns) = (n ≡ m) ⊎ HasNumber m ns

-- the places of Ends, in the words of both crates
pub places_are : (n : ℕ) (h : List Entry) → end_places n h ≡ ends_from n h
places_are n [] = refl
places_are n (Start t c i ∷ h) = places_are (suc n) h
places_are n (End s g b ∷ h) = ap (λ ps. n ∷ ps) (places_are (suc n) h)
places_are n (Fault s w ∷ h) = places_are (suc n) h
places_are n (Drop t c w ∷ h) = places_are (suc n) h

-- the place of an End is among them
end_placed : (n m k : ℕ) (h : List Entry) (s : ℕ) (g : List ℕ) (b : _) → slice_get h k ≡ Some (End s g b) → m ≡ n + k → HasNumber m (end_places n h)
end_placed n m k [] s g b at is = absurd (cc)
end_placed n m zero (Start t c i ∷ h) s g b at is = absurd (cc)
end_placed n m zero (End t h' c ∷ h) s g b at is = inl (omega (arith, is))
end_placed n m zero (Fault t w ∷ h) s g b at is = absurd (cc)
end_placed n m zero (Drop t c w ∷ h) s g b at is = absurd (cc)
end_placed n m (suc k) (Start t c i ∷ h) s g b at is = end_placed (suc n) m k h s g b at (omega (arith, is))
end_placed n m (suc k) (End t h' c ∷ h) s g b at is = inr (end_placed (suc n) m k h s g b at (omega (arith, is)))
end_placed n m (suc k) (Fault t w ∷ h) s g b at is = end_placed (suc n) m k h s g b at (omega (arith, is))
end_placed n m (suc k) (Drop t c w ∷ h) s g b at is = end_placed (suc n) m k h s g b at (omega (arith, is))

pub end_among : (m : ℕ) (h : List Entry) (s : ℕ) (g : List ℕ) (b : _) → slice_get h m ≡ Some (End s g b) → HasNumber m (end_places 0 h)
end_among m h s g b at = end_placed 0 m m h s g b at (omega arith)

module _ {V : Type 0} where
  pub row_places : (values : List (RecordedValue V)) → map (λ (row : ValueRow V). row.place) (rows_of values) ≡ map (λ (r : RecordedValue V). r.place) values
  row_places [] = refl
  row_places (r ∷ rs) = ap (λ ps. r.place ∷ ps) (row_places rs)

  module _ (star : ℕ → Option V) where
    -- the End at its place has this value
    abbrev pub IsItsValue : RecordedValue V → Type 0
    IsItsValue r = star r.place ≡ Some (arc_value r.value)

    -- values that are among these
    pub own_all : (told values : List (RecordedValue V)) → AllByRecursion IsItsValue told → All (Contains told) values → AllByRecursion IsItsValue values
    own_all told values all among = each values (recursion_from_All (Contains told) values among)
      where
        each : (vs : List (RecordedValue V)) → AllByRecursion (Contains told) vs → AllByRecursion IsItsValue vs
        each [] are = tt
        each (v ∷ vs) are = (All-contains IsItsValue told v (All-from_recursion IsItsValue told all) are.0, each vs are.1)

    -- what is found at the place of one of the values
    pub found_at : (m : ℕ) (values : List (RecordedValue V)) → AllByRecursion IsItsValue values → HasNumber m (map (λ (r : RecordedValue V). r.place) values) → value_at (rows_of values) m ≡ star m
    found_at m [] all has = absurd has
    found_at m (r ∷ rs) all has = by_place (cases_eq r.place m) has (found_at m rs all.1)
      where
        by_place : (r.place ≡ m) ⊎ (r.place ≢ m) → HasNumber m (map (λ (q : RecordedValue V). q.place) (r ∷ rs)) → (HasNumber m (map (λ (q : RecordedValue V). q.place) rs) → value_at (rows_of rs) m ≡ star m) → value_at (rows_of (r ∷ rs)) m ≡ star m
        by_place (inl here) has rest = let hit : eqb r.place m ≡ true = grind (arith, nat_tests, here) in rw hit (sym all.0 ∙ ap star here)
        by_place (inr other) (inl here) rest = absurd (other here)
        by_place (inr other) (inr there) rest = let miss : eqb r.place m ≡ false = grind (arith, nat_tests, other) in rw miss (rest there)
