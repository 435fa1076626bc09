-- Where a run's values and inner runs stand.
use Rattle.std.specs.Prelude.{◌≡◌, ℕ, suc, ◌<◌, true, List, [], ◌∷◌, map, slice_get, All, AllPairs, IsSomeAnd}
use Rattle.journal_rules.specs.declared.entry.Entry.{Entry}
use Rattle.journal_rules.specs.declared.entry.Entry.TheVariants.{Start, End, Fault, Drop}
use Rattle.run_frame.specs.declared.run.ValueRow.{ValueRow}
use Rattle.run_frame.specs.declared.run.FrameRun.{FrameRun, out-FrameRun}
use Rattle.run_frame.specs.declared.run.InnerRow.{out-InnerRow}
use Rattle.run_frame.specs.NestedRule.{journal_of}

-- the places of the Ends among these entries, the first of which stands at a place
abbrev pub ends_from : ℕ → List Entry → List ℕ
ends_from n [] = []
ends_from n (Start task cause ins ∷ entries) = ends_from (suc n) entries
ends_from n (End start gives inner ∷ entries) = n ∷ ends_from (suc n) entries
ends_from n (Fault start why ∷ entries) = ends_from (suc n) entries
ends_from n (Drop task cause why ∷ entries) = ends_from (suc n) entries

-- an entry that may have an inner run
abbrev pub MayHaveInner : Entry → Type 0
MayHaveInner (Start task cause ins) = ⊥
MayHaveInner (End start gives inner) = inner ≡ true
MayHaveInner (Fault start why) = Unit {0}
MayHaveInner (Drop task cause why) = ⊥

-- the places of the inner runs
abbrev pub inner_places : {J V : Type 0} → FrameRun J V → List ℕ
inner_places {J} {V} run = map (λ row. (out-InnerRow J V row).place) (out-FrameRun J V run).inner.items

-- A run has one value for each End, in their order, and no other. Its inner runs stand by rising place, each at
-- an inner End or a Fault.
pub record RowsFit {J V : Type 0} (run : FrameRun J V) : Type 0 where
  pub values : map (λ (row : ValueRow V). row.place) (out-FrameRun J V run).values ≡ ends_from 0 (journal_of run)
  pub rising : AllPairs (λ a b. a < b) (inner_places run)
  pub fit : All (λ n. IsSomeAnd (slice_get (journal_of run) n) MayHaveInner) (inner_places run)
