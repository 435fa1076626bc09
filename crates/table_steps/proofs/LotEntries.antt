-- The account of slots after an entry drawn, and after a release taken up.
use Rattle.std.proofs.Common.{◌≡◌, ℕ, ◌+◌, ◌≤◌, Bool, false, cond, List, [], ◌∷◌, ◌++◌, length, refl, sym, ap, ◌∙◌, arith}
use Rattle.std.specs.Prelude.{◌==◌}
use Rattle.std.specs.List.{list_any}
use Rattle.task_graph.specs.NetRows.{NetRows}
use Rattle.journal_rules.specs.declared.entry.Cause.{Cause}
use Rattle.journal_rules.specs.declared.entry.Part.{Part}
use Rattle.journal_rules.specs.declared.entry.Entry.{Entry}
use Rattle.journal_rules.specs.declared.entry.Entry.TheVariants.{Start, End}
use Rattle.journal_rules.specs.Counts.{given, gives_edge}
use Rattle.journal_rules.specs.DataRule.{DataRule, edges_of, has_part}
use Rattle.table_steps.specs.Giving.{times}
use Rattle.table_steps.specs.declared.view.TurnDuty.TheVariants.{Collecting, Owes}
use Rattle.table_steps.specs.declared.view.Lot.TheVariants.{Ours, Putting, Put, Awaited, Taking, Fetched, Found}
use Rattle.table_steps.specs.declared.view.Note.TheVariants.{Duty}
use Rattle.table_steps.specs.inside.Parcels.{part_times, Owned}
use Rattle.table_steps.specs.inside.Slots.{SlotCoord, parcel, lot, queue, owed, collected, left_at, SlotMoves, SlotPart, SlotBounds, awaited_lots, found_lots, our_lots}
use Rattle.table_steps.proofs.DataParts.{data_start, data_end, data_quiet}
use Rattle.journal_rules.proofs.Tallying.{count_once, given_push}
use Rattle.table_steps.proofs.Counting.{times_count}
use Rattle.table_steps.proofs.Slots.{data_alike}
use Rattle.table_steps.proofs.Lots.{awaited_count, awaited_none, found_count, found_parcels, found_none, our_count, our_parcels, our_none}

-- an End gives a token to each edge that it gives
given_end : (net : NetRows) (e m : ℕ) (gives : List ℕ) (inner : Bool) (journal : List Entry) → times e gives ≤ 1 → given net e (journal ++ End m gives inner ∷ []) ≡ given net e journal + times e gives
given_end net e m gives inner journal once =
    let some : times e gives ≡ cond (list_any (λ g. g == e) gives) 1 0 = times_count e gives ∙ count_once (λ g. g == e) gives (omega (arith, once, times_count e gives)) in
    given_push net e journal (End m gives inner) ∙ ap (λ k. given net e journal + k) (sym some)

-- START DRAWN, with the parts that were found
pub start_slots : (net : NetRows) (journal : List Entry) (edge : ℕ → ℕ) (T T' : SlotCoord → ℕ) (label : ℕ → List Part) (t : ℕ) (cause : Cause) (ins : List Part) → SlotPart net journal edge T label → length ins ≡ length (edges_of net t cause)
    → SlotMoves T (Duty (Collecting t cause (edges_of net t cause) []) ∷ found_lots (edges_of net t cause) ins) T' [] → SlotPart net (journal ++ Start t cause ins ∷ []) edge T' label
start_slots net journal edge T T' label t cause ins d same moved = let es = edges_of net t cause in record {
  parts = data_alike net (journal ++ Start t cause ins ∷ []) edge _ _ _ _ _ _ _ _
      (data_start net journal edge _ (λ e p. T' (parcel e p)) _ _ _ t cause ins d.parts same (λ e p. omega (arith, moved (parcel e p), found_parcels e p es ins)))
      (λ e p. refl) (λ e p. omega (arith, moved (queue (part_times p) e), found_none (queue (part_times p) e) tt es ins)) (λ e. omega (arith, moved (lot Fetched e), found_none (lot Fetched e) tt es ins)) (λ e. omega (arith, moved (lot Put e), found_none (lot Put e) tt es ins));
  owing = λ e. omega (arith, d.owing e, moved (lot Ours e), moved (lot Putting e), moved (lot Put e), moved (owed e), found_none (lot Ours e) tt es ins, found_none (lot Putting e) tt es ins, found_none (lot Put e) tt es ins, found_none (owed e) tt es ins);
  reached = λ e. omega (arith, d.reached e, moved (lot Awaited e), moved (lot Taking e), moved (lot Fetched e), moved (left_at e), found_none (lot Awaited e) tt es ins, found_none (lot Taking e) tt es ins, found_none (lot Fetched e) tt es ins, found_none (left_at e) tt es ins);
  found = λ e. omega (arith, d.found e, moved (lot Found e), moved (collected e), found_count e es ins same, found_none (collected e) tt es ins);
  held = λ e. omega (arith, d.held e, moved (queue (λ qs. 1) e), moved (lot Putting e), moved (lot Taking e), found_none (queue (λ qs. 1) e) tt es ins, found_none (lot Putting e) tt es ins, found_none (lot Taking e) tt es ins);
  few = λ e. omega (arith, d.few e, moved (queue length e), moved (lot Ours e), moved (lot Putting e), found_none (queue length e) tt es ins, found_none (lot Ours e) tt es ins, found_none (lot Putting e) tt es ins, given_push net e journal (Start t cause ins));
}

-- DROP DRAWN, of a release that found these parts
pub drop_slots : (net : NetRows) (journal : List Entry) (edge : ℕ → ℕ) (T T' : SlotCoord → ℕ) (label : ℕ → List Part) (x : Entry) (t : ℕ) (cause : Cause) (es : List ℕ) (ps : List Part) → SlotPart net journal edge T label → length ps ≡ length es
    → DataRule net journal x → ((e : ℕ) → gives_edge e x ≡ false) → ((e : ℕ) (test : Part → Bool) → has_part net e test x ≡ false)
    → SlotMoves T (Duty (Collecting t cause es []) ∷ found_lots es ps) T' [] → SlotPart net (journal ++ x ∷ []) edge T' label
drop_slots net journal edge T T' label x t cause es ps d same rule gives_none finds_none moved = record {
  parts = data_alike net (journal ++ x ∷ []) edge _ _ _ _ _ _ _ _ (data_quiet net journal edge _ (λ e p. T' (parcel e p)) _ _ _ _ _ x d.parts rule gives_none finds_none (λ e p. omega (arith, moved (parcel e p))) (λ e. refl) (λ e. refl))
      (λ e p. refl) (λ e p. omega (arith, moved (queue (part_times p) e), found_none (queue (part_times p) e) tt es ps)) (λ e. omega (arith, moved (lot Fetched e), found_none (lot Fetched e) tt es ps)) (λ e. omega (arith, moved (lot Put e), found_none (lot Put e) tt es ps));
  owing = λ e. omega (arith, d.owing e, moved (lot Ours e), moved (lot Putting e), moved (lot Put e), moved (owed e), found_none (lot Ours e) tt es ps, found_none (lot Putting e) tt es ps, found_none (lot Put e) tt es ps, found_none (owed e) tt es ps);
  reached = λ e. omega (arith, d.reached e, moved (lot Awaited e), moved (lot Taking e), moved (lot Fetched e), moved (left_at e), found_none (lot Awaited e) tt es ps, found_none (lot Taking e) tt es ps, found_none (lot Fetched e) tt es ps, found_none (left_at e) tt es ps);
  found = λ e. omega (arith, d.found e, moved (lot Found e), moved (collected e), found_count e es ps same, found_none (collected e) tt es ps);
  held = λ e. omega (arith, d.held e, moved (queue (λ qs. 1) e), moved (lot Putting e), moved (lot Taking e), found_none (queue (λ qs. 1) e) tt es ps, found_none (lot Putting e) tt es ps, found_none (lot Taking e) tt es ps);
  few = λ e. omega (arith, d.few e, moved (queue length e), moved (lot Ours e), moved (lot Putting e), found_none (queue length e) tt es ps, found_none (lot Ours e) tt es ps, found_none (lot Putting e) tt es ps, given_push net e journal x);
}

-- FAULT DRAWN, or another entry that gives and finds nothing
pub quiet_slots : (net : NetRows) (journal : List Entry) (edge : ℕ → ℕ) (T T' : SlotCoord → ℕ) (label : ℕ → List Part) (x : Entry) → SlotPart net journal edge T label
    → DataRule net journal x → ((e : ℕ) → gives_edge e x ≡ false) → ((e : ℕ) (test : Part → Bool) → has_part net e test x ≡ false) → ((c : SlotCoord) → T' c ≡ T c) → SlotPart net (journal ++ x ∷ []) edge T' label
quiet_slots net journal edge T T' label x d rule gives_none finds_none same = record {
  parts = data_alike net (journal ++ x ∷ []) edge _ _ _ _ _ _ _ _ (data_quiet net journal edge _ (λ e p. T' (parcel e p)) _ _ _ _ _ x d.parts rule gives_none finds_none (λ e p. omega (arith, same (parcel e p))) (λ e. refl) (λ e. refl))
      (λ e p. refl) (λ e p. omega (arith, same (queue (part_times p) e))) (λ e. same (lot Fetched e)) (λ e. same (lot Put e));
  owing = λ e. omega (arith, d.owing e, same (lot Ours e), same (lot Putting e), same (lot Put e), same (owed e));
  reached = λ e. omega (arith, d.reached e, same (lot Awaited e), same (lot Taking e), same (lot Fetched e), same (left_at e));
  found = λ e. omega (arith, d.found e, same (lot Found e), same (collected e));
  held = λ e. omega (arith, d.held e, same (queue (λ qs. 1) e), same (lot Putting e), same (lot Taking e));
  few = λ e. omega (arith, d.few e, same (queue length e), same (lot Ours e), same (lot Putting e), given_push net e journal x);
}

-- END DRAWN, with a parcel for each edge that it gives
pub end_slots : (net : NetRows) (journal : List Entry) (edge : ℕ → ℕ) (T T' : SlotCoord → ℕ) (label : ℕ → List Part) (m : ℕ) (gives : List ℕ) (inner : Bool) → SlotPart net journal edge T label → SlotBounds net journal edge T → ((e : ℕ) → times e gives ≤ 1)
    → SlotMoves T [] T' (Duty (Owes gives) ∷ our_lots (length journal) gives) → SlotPart net (journal ++ End m gives inner ∷ []) edge T' label
end_slots net journal edge T T' label m gives inner d b once moved = let n = length journal in record {
  parts = data_alike net (journal ++ End m gives inner ∷ []) edge _ _ _ _ _ _ _ _
      (data_end net journal edge (λ e. T (owed e) + T (collected e)) _ (λ e p. T' (parcel e p)) _ _ _ m gives inner d.parts owns b.tokens once (λ e p. omega (arith, moved (parcel e p), our_parcels n e p gives)))
      (λ e p. refl) (λ e p. omega (arith, moved (queue (part_times p) e), our_none (queue (part_times p) e) tt n gives)) (λ e. omega (arith, moved (lot Fetched e), our_none (lot Fetched e) tt n gives)) (λ e. omega (arith, moved (lot Put e), our_none (lot Put e) tt n gives));
  owing = λ e. omega (arith, d.owing e, moved (lot Ours e), moved (lot Putting e), moved (lot Put e), moved (owed e), our_count n e gives, our_none (lot Putting e) tt n gives, our_none (lot Put e) tt n gives, our_none (owed e) tt n gives);
  reached = λ e. omega (arith, d.reached e, moved (lot Awaited e), moved (lot Taking e), moved (lot Fetched e), moved (left_at e), our_none (lot Awaited e) tt n gives, our_none (lot Taking e) tt n gives, our_none (lot Fetched e) tt n gives, our_none (left_at e) tt n gives);
  found = λ e. omega (arith, d.found e, moved (lot Found e), moved (collected e), our_none (lot Found e) tt n gives, our_none (collected e) tt n gives);
  held = λ e. omega (arith, d.held e, moved (queue (λ qs. 1) e), moved (lot Putting e), moved (lot Taking e), our_none (queue (λ qs. 1) e) tt n gives, our_none (lot Putting e) tt n gives, our_none (lot Taking e) tt n gives);
  few = λ e. omega (arith, d.few e, moved (queue length e), moved (lot Ours e), moved (lot Putting e), our_none (queue length e) tt n gives, our_count n e gives, our_none (lot Putting e) tt n gives, given_end net e m gives inner journal (once e));
}
  where
    owns : Owned (λ e. T (owed e) + T (collected e)) edge (λ e p. T (parcel e p)) (λ e. T (lot Fetched e)) (λ e. T (lot Put e))
    owns = record {
      owned = λ e p. omega (arith, b.each e p, d.owing e, d.found e);
      fetched = λ e. omega (arith, b.within e, d.reached e);
      owing = λ e. omega (arith, d.owing e);
    }

-- A release TAKEN UP, or its task's join word SET AGAIN
pub taken_up_slots : (net : NetRows) (journal : List Entry) (edge : ℕ → ℕ) (T T' : SlotCoord → ℕ) (label : ℕ → List Part) (t : ℕ) (cause : Cause) (es : List ℕ) → SlotPart net journal edge T label
    → SlotMoves T [] T' (Duty (Collecting t cause [] es) ∷ awaited_lots es) → SlotPart net journal edge T' label
taken_up_slots net journal edge T T' label t cause es d moved = record {
  parts = data_alike net journal edge _ _ _ _ _ _ _ _ d.parts (λ e p. omega (arith, moved (parcel e p), awaited_none (parcel e p) tt es))
      (λ e p. omega (arith, moved (queue (part_times p) e), awaited_none (queue (part_times p) e) tt es)) (λ e. omega (arith, moved (lot Fetched e), awaited_none (lot Fetched e) tt es)) (λ e. omega (arith, moved (lot Put e), awaited_none (lot Put e) tt es));
  owing = λ e. omega (arith, d.owing e, moved (lot Ours e), moved (lot Putting e), moved (lot Put e), moved (owed e), awaited_none (lot Ours e) tt es, awaited_none (lot Putting e) tt es, awaited_none (lot Put e) tt es, awaited_none (owed e) tt es);
  reached = λ e. omega (arith, d.reached e, moved (lot Awaited e), moved (lot Taking e), moved (lot Fetched e), moved (left_at e), awaited_count e es, awaited_none (lot Taking e) tt es, awaited_none (lot Fetched e) tt es, awaited_none (left_at e) tt es);
  found = λ e. omega (arith, d.found e, moved (lot Found e), moved (collected e), awaited_none (lot Found e) tt es, awaited_none (collected e) tt es);
  held = λ e. omega (arith, d.held e, moved (queue (λ qs. 1) e), moved (lot Putting e), moved (lot Taking e), awaited_none (queue (λ qs. 1) e) tt es, awaited_none (lot Putting e) tt es, awaited_none (lot Taking e) tt es);
  few = λ e. omega (arith, d.few e, moved (queue length e), moved (lot Ours e), moved (lot Putting e), awaited_none (queue length e) tt es, awaited_none (lot Ours e) tt es, awaited_none (lot Putting e) tt es);
}
