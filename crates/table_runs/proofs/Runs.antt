-- Where the runs inside a run are.
use Rattle.std.proofs.Common.{◌≡◌, ◌≢◌, ◌⊎◌, inl, inr, ℕ, true, false, eqb, List, [], ◌∷◌, ◌++◌, map, Option, Some, None, refl, sym, ap, ◌∙◌, subst, arith}
use Rattle.std.specs.Prelude.{IsPermutation}
use Rattle.std.specs.List.{AllByRecursion}
use Rattle.std.proofs.lemmas.Bool.{cases_eq}
use Rattle.std.proofs.lemmas.Bool.Decides.{nat_tests}
use Rattle.std.proofs.lemmas.List.Elements.{All-from_recursion, recursion_from_All}
use Rattle.std.proofs.lemmas.List.Sorted.{All-permutation, IsPermutation-map, IsPermutation-sym}
use Rattle.join_tables.specs.declared.fates.Fate.{Fate}
use Rattle.run_frame.specs.Runs.{inner_in}
use Rattle.run_frame.specs.declared.run.FrameRun.{FrameRun}
use Rattle.run_frame.specs.declared.run.InnerRow.{InnerRow, out-InnerRow}
use Rattle.table_runs.specs.inside.FateRuns.{FateWithRun, PlacedRun, closing_place, in_row, in_rows, placed_run, placed_runs, run_at}

-- an element of a list
abbrev pub IsIn : {X : Type 0} → X → List X → Type 0
IsIn x [] = ⊥
IsIn x (y ∷ ys) = (y ≡ x) ⊎ IsIn x ys

all_weaken : {X : Type 0} (P Q : X → Type 0) → ((x : X) → P x → Q x) → (xs : List X) → AllByRecursion P xs → AllByRecursion Q xs
all_weaken P Q so [] all = tt
all_weaken P Q so (x ∷ xs) all = (so x all.0, all_weaken P Q so xs all.1)

self_in : {X : Type 0} (xs : List X) → AllByRecursion (λ x. IsIn x xs) xs
self_in [] = tt
self_in (x ∷ xs) = (inl refl, all_weaken (λ y. IsIn y xs) (λ y. IsIn y (x ∷ xs)) (λ y is. inr is) xs (self_in xs))

pub of_all : {X : Type 0} (P : X → Type 0) (x : X) (xs : List X) → AllByRecursion P xs → IsIn x xs → P x
of_all P x [] all is = absurd is
of_all P x (y ∷ ys) all (inl same) = subst P same all.0
of_all P x (y ∷ ys) all (inr there) = of_all P x ys all.1 there

-- in another order
pub moved : {X : Type 0} (x : X) (xs ys : List X) → IsPermutation xs ys → IsIn x xs → IsIn x ys
moved x xs ys same is =
    let all = All-permutation (λ y. IsIn y ys) ys xs (IsPermutation-sym xs ys same) (All-from_recursion (λ y. IsIn y ys) ys (self_in ys)) in
    of_all (λ y. IsIn y ys) x xs (recursion_from_All (λ y. IsIn y ys) xs all) is

module _ {J V : Type 0} where
  abbrev pub fates_in : List (FateWithRun J V) → List (Fate V)
  fates_in turns = map (λ (turn : FateWithRun J V). turn.fate) turns

  abbrev pub placed_at : ℕ → FrameRun J V → PlacedRun J V
  placed_at m run = record { place = m; run = run }

  -- one of the turns made this run, and its End or Fault is at this place
  abbrev pub RunAt : ℕ → FrameRun J V → List (FateWithRun J V) → Type 0
  RunAt m run [] = ⊥
  RunAt m run (t ∷ ts) = ((closing_place t.fate ≡ m) × (t.run ≡ Some run)) ⊎ RunAt m run ts

  pub placed_of : (m : ℕ) (run : FrameRun J V) (turns : List (FateWithRun J V)) → RunAt m run turns → IsIn (placed_at m run) (placed_runs turns)
  placed_of m run [] at = absurd at
  placed_of m run (t ∷ ts) (inl here) = subst (λ o. IsIn (placed_at m run) (run_at (closing_place t.fate) o ++ placed_runs ts)) (sym here.1) (inl (ap (λ n. placed_at n run) here.0))
  placed_of m run (t ∷ ts) (inr there) = behind (placed_run t) (placed_of m run ts there)
    where
      behind : (ps : List (PlacedRun J V)) → IsIn (placed_at m run) (placed_runs ts) → IsIn (placed_at m run) (ps ++ placed_runs ts)
      behind [] is = is
      behind (p ∷ ps) is = inr (behind ps is)

  pub run_of : (m : ℕ) (run : FrameRun J V) (turns : List (FateWithRun J V)) → IsIn (placed_at m run) (placed_runs turns) → RunAt m run turns
  run_of m run [] is = absurd is
  run_of m run (t ∷ ts) is = by_run t.run refl (run_of m run ts) is
    where
      by_run : (o : Option (FrameRun J V)) → t.run ≡ o → (IsIn (placed_at m run) (placed_runs ts) → RunAt m run ts) → IsIn (placed_at m run) (run_at (closing_place t.fate) o ++ placed_runs ts) → RunAt m run (t ∷ ts)
      by_run None same rest at = inr (rest at)
      by_run (Some r) same rest (inl here) = inl (ap (λ (p : PlacedRun J V). p.place) here, same ∙ ap (λ (p : PlacedRun J V). Some p.run) here)
      by_run (Some r) same rest (inr there) = inr (rest there)

  -- what is found at a place among rows
  pub row_at : (m : ℕ) (rows : List (InnerRow J V)) → ((run : FrameRun J V) × (inner_in rows m ≡ Some run) × IsIn (placed_at m run) (in_rows rows)) ⊎ ((inner_in rows m ≡ None) × ((run : FrameRun J V) → IsIn (placed_at m run) (in_rows rows) → ⊥))
  row_at m [] = inr (refl, λ run is. is)
  row_at m (row ∷ rows) = by_place (cases_eq place m) (row_at m rows)
    where
      place : ℕ
      place = (out-InnerRow J V row).place

      own : FrameRun J V
      own = (out-InnerRow J V row).run

      by_place : (place ≡ m) ⊎ (place ≢ m) → ((run : FrameRun J V) × (inner_in rows m ≡ Some run) × IsIn (placed_at m run) (in_rows rows)) ⊎ ((inner_in rows m ≡ None) × ((run : FrameRun J V) → IsIn (placed_at m run) (in_rows rows) → ⊥))
          → ((run : FrameRun J V) × (inner_in (row ∷ rows) m ≡ Some run) × IsIn (placed_at m run) (in_rows (row ∷ rows))) ⊎ ((inner_in (row ∷ rows) m ≡ None) × ((run : FrameRun J V) → IsIn (placed_at m run) (in_rows (row ∷ rows)) → ⊥))
      by_place (inl here) rest = let hit : eqb place m ≡ true = grind (arith, nat_tests, here) in inl (own, rw hit refl, inl (ap (λ n. placed_at n own) here))
      by_place (inr other) (inl found) = let miss : eqb place m ≡ false = grind (arith, nat_tests, other) in inl (found.0, rw miss found.1, inr found.2)
      by_place (inr other) (inr none) = let miss : eqb place m ≡ false = grind (arith, nat_tests, other) in inr (rw miss none.0, λ run is. elim is [ inl same ↦ other (ap (λ (p : PlacedRun J V). p.place) same) | inr there ↦ none.1 run there ])

  -- rows in another order have the same runs
  pub rows_moved : (told rows : List (InnerRow J V)) (p : PlacedRun J V) → IsPermutation told rows → IsIn p (in_rows told) → IsIn p (in_rows rows)
  rows_moved told rows p same is = moved p (in_rows told) (in_rows rows) (IsPermutation-map in_row told rows same) is
