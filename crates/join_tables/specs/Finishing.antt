-- What a keeper hands out of a run that is finished.
use Rattle.std.specs.Prelude.{◌≡◌, ℕ, suc, List, [], ◌∷◌, ◌++◌, map, flat_map, All, Contains}
use Rattle.task_graph.specs.NetRows.{NetRows}
use Rattle.journal_rules.specs.declared.entry.Entry.{Entry}
use Rattle.journal_rules.specs.declared.entry.Entry.TheVariants.{End}
use Rattle.journal_rules.specs.ShapeLegal.{ShapeLegal, MeetsDataRule}
use Rattle.journal_rules.specs.Complete.{Complete}
use Rattle.join_tables.specs.declared.fates.Fate.{Fate}
use Rattle.join_tables.specs.declared.fates.Fate.TheVariants.{Ended}
use Rattle.join_tables.specs.declared.keeper.RecordedValue.{RecordedValue}
use Rattle.join_tables.specs.Keeping.{TellsRun, entries_told}

-- the value of its End, if it has one
abbrev pub recorded_values : {V : Type 0} → Fate V → List (RecordedValue V)
recorded_values (Ended ended) = record { place = ended.place; value = ended.value } ∷ []
recorded_values _ = []

-- and those of several turns
abbrev pub values_told : {V : Type 0} → List (Fate V) → List (RecordedValue V)
values_told fates = flat_map recorded_values fates

-- the places of the Ends among these entries, the first of which is at place n
abbrev pub end_if : ℕ → Entry → List ℕ
end_if n (End start gives inner) = n ∷ []
end_if n _ = []

abbrev pub end_places : ℕ → List Entry → List ℕ
end_places n [] = []
end_places n (x ∷ xs) = end_if n x ++ end_places (suc n) xs

-- There is a value for each End of the journal, in their order, and no other. Each is that with which a turn ended.
pub record AreEndValues {V : Type 0} (fates : List (Fate V)) (journal : List Entry) (values : List (RecordedValue V)) : Type 0 where
  pub places : map (λ (r : RecordedValue V). r.place) values ≡ end_places 0 journal
  pub told : All (Contains (values_told fates)) values

-- the journal is legal as far as the net decides, its starts find what they may, and it is complete, of each net and
-- limit of which these fates tell a run
abbrev pub IsRunTold : {V : Type 0} → List (Fate V) → List Entry → Type 0
IsRunTold fates journal = (net : NetRows) (limit : ℕ) → TellsRun net limit (entries_told fates) → ShapeLegal net limit journal × MeetsDataRule net journal × Complete net limit journal
