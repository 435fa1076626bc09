-- Which fates a job allows, with the runs in some rows.
use Rattle.std.proofs.Common.{◌≡◌, List, [], ◌∷◌, ◌++◌, map, append_assoc, Option, refl, sym, ap, ◌∙◌, subst}
use Rattle.std.specs.List.{AllByRecursion}
use Rattle.std.proofs.lemmas.List.{map-append}
use Rattle.join_tables.specs.declared.fates.Fate.{Fate}
use Rattle.run_frame.specs.Meaning.{Meaning}
use Rattle.run_frame.specs.declared.run.FrameRun.{FrameRun}
use Rattle.run_frame.specs.declared.run.InnerRow.{InnerRow}
use Rattle.table_runs.specs.AllowedFates.{IsAllowed}
use Rattle.table_runs.specs.inside.FateRuns.{AreAllowed, FateWithRun, PlacedRun, closing_place, in_row, in_rows, placed_run, placed_runs, run_at}

both_all : {X : Type 0} (P : X → Type 0) (xs ys : List X) → AllByRecursion P xs → AllByRecursion P ys → AllByRecursion P (xs ++ ys)
both_all P [] ys front back = back
both_all P (x ∷ xs) ys front back = (front.0, both_all P xs ys front.1 back)

placed_append : {J V : Type 0} (xs ys : List (FateWithRun J V)) → placed_runs (xs ++ ys) ≡ placed_runs xs ++ placed_runs ys
placed_append [] ys = refl
placed_append (x ∷ xs) ys = ap (λ ps. placed_run x ++ ps) (placed_append xs ys) ∙ sym (append_assoc (placed_run x) (placed_runs xs) (placed_runs ys))

module _ {J V : Type 0} (meaning : Meaning J V) (job : J) where
  pub none_allowed : (fates : List (Fate V)) (rows : List (InnerRow J V)) → fates ≡ [] → rows ≡ [] → AreAllowed meaning job fates rows
  none_allowed fates rows no_fate no_row = subst (λ fs. AreAllowed meaning job fs rows) (sym no_fate) (subst (AreAllowed meaning job []) (sym no_row) (record { turns = []; fates_are = refl; rows_are = refl; each = tt }))

  pub all_allowed : (xs ys : List (Fate V)) (rows more : List (InnerRow J V)) → AreAllowed meaning job xs rows → AreAllowed meaning job ys more → AreAllowed meaning job (xs ++ ys) (rows ++ more)
  all_allowed xs ys rows more front back = record {
    turns = front.turns ++ back.turns;
    fates_are = map-append (λ (turn : FateWithRun J V). turn.fate) front.turns back.turns ∙ (λ i. front.fates_are i ++ back.fates_are i);
    rows_are = placed_append front.turns back.turns ∙ (λ i. front.rows_are i ++ back.rows_are i) ∙ sym (map-append in_row rows more);
    each = both_all (λ (turn : FateWithRun J V). IsAllowed meaning job turn.fate turn.run) front.turns back.turns front.each back.each;
  }

  one_allowed : (fate : Fate V) (run : Option (FrameRun J V)) (rows : List (InnerRow J V)) → in_rows rows ≡ run_at (closing_place fate) run → IsAllowed meaning job fate run → AreAllowed meaning job (fate ∷ []) rows
  one_allowed fate run rows are allowed = record {
    turns = record { fate = fate; run = run } ∷ [];
    fates_are = refl;
    rows_are = nothing_behind (run_at (closing_place fate) run) ∙ sym are;
    each = (allowed, tt);
  }
    where
      nothing_behind : (ps : List (PlacedRun J V)) → ps ++ [] ≡ ps
      nothing_behind [] = refl
      nothing_behind (p ∷ ps) = ap (λ qs. p ∷ qs) (nothing_behind ps)

  -- one more turn, with its row
  pub one_more : (fates fates' : List (Fate V)) (rows rows' own : List (InnerRow J V)) (fate : Fate V) (run : Option (FrameRun J V)) → fates' ≡ fates ++ fate ∷ [] → rows' ≡ rows ++ own → in_rows own ≡ run_at (closing_place fate) run → AreAllowed meaning job fates rows → IsAllowed meaning job fate run → AreAllowed meaning job fates' rows'
  one_more fates fates' rows rows' own fate run fates_are rows_are own_is before allowed =
      subst (λ fs. AreAllowed meaning job fs rows') (sym fates_are)
      (subst (AreAllowed meaning job (fates ++ fate ∷ [])) (sym rows_are) (all_allowed fates (fate ∷ []) rows own before (one_allowed fate run own own_is allowed)))

  pub kept_more : (fates fates' more : List (Fate V)) (rows rows' own : List (InnerRow J V)) → fates' ≡ fates ++ more → rows' ≡ rows ++ own → AreAllowed meaning job fates rows → AreAllowed meaning job more own → AreAllowed meaning job fates' rows'
  kept_more fates fates' more rows rows' own fates_are rows_are before allowed =
      subst (λ fs. AreAllowed meaning job fs rows') (sym fates_are) (subst (AreAllowed meaning job (fates ++ more)) (sym rows_are) (all_allowed fates more rows own before allowed))

-- where no turn is there, no run is
pub no_run : {J V : Type 0} (meaning : Meaning J V) (job : J) (fates : List (Fate V)) (rows : List (InnerRow J V)) → fates ≡ [] → AreAllowed meaning job fates rows → rows ≡ []
no_run {J} {V} meaning job fates rows none allowed = by_turns allowed.turns allowed.rows_are (allowed.fates_are ∙ none)
  where
    by_rows : (rs : List (InnerRow J V)) → [] ≡ in_rows rs → rs ≡ []
    by_rows [] is = refl
    by_rows (r ∷ rs) is = absurd (cc)

    by_turns : (turns : List (FateWithRun J V)) → placed_runs turns ≡ in_rows rows → map (λ (turn : FateWithRun J V). turn.fate) turns ≡ [] → rows ≡ []
    by_turns [] rows_are is = by_rows rows rows_are
    by_turns (turn ∷ turns) rows_are is = absurd (cc)
