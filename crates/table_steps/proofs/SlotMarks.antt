-- A slot taken and given back, at the table.
use Rattle.std.proofs.Common.{◌≡◌, ◌≢◌, ◌⊎◌, inl, inr, ℕ, ◌<◌, true, false, cond, eqb, List, length, set, sym, refl, ap, ◌∙◌, subst, arith}
use Rattle.std.proofs.lemmas.Bool.Decides.{nat_tests}
use Rattle.std.proofs.lemmas.Bool.{cases_eq}
use mathlib.Core.Option.{Option, none, some}
use lib.ListN.{get_elem?}
use Rattle.atomic_table.proofs.Lists.{set_here, set_else}
use Rattle.journal_rules.specs.declared.entry.Part.{Part}
use Rattle.table_steps.specs.inside.SlotMarks.{HomeIs, Homes, label_in, label_of}
use Rattle.table_steps.proofs.Slots.{lay}

-- the labels after one slot is changed
pub label_set : {S : Type 0} (part : S → List Part) (homes : List (Option S)) (f : ℕ) (h : Option S) → f < length homes → (e : ℕ) → label_of part (set homes f h) e ≡ lay (label_of part homes) f (label_in part (some h)) e
label_set part homes f h below e = by_eq (cases_eq f e)
  where
    by_eq : (f ≡ e) ⊎ (f ≢ e) → label_of part (set homes f h) e ≡ lay (label_of part homes) f (label_in part (some h)) e
    by_eq (inl same) =
        let hit : eqb f e ≡ true = grind (arith, nat_tests) in
        ap (label_of part (set homes f h)) (sym same) ∙ ap (label_in part) (set_here homes f h below) ∙ sym (ap (λ b. cond b (label_in part (some h)) (label_of part homes e)) hit)
    by_eq (inr other) =
        let miss : eqb f e ≡ false = grind (arith, nat_tests) in
        ap (label_in part) (set_else homes f e h (λ z. other (sym z))) ∙ sym (ap (λ b. cond b (label_in part (some h)) (label_of part homes e)) miss)

-- the marks after one slot is changed
pub homes_set : {S : Type 0} (count : ℕ) (mark mark' : ℕ → ℕ) (homes : List (Option S)) (held held' : ℕ → ℕ) (f : ℕ) (h : Option S) → Homes count mark homes held → f < length homes → HomeIs (some h) (mark' f) (held' f)
    → ((e : ℕ) → e ≢ f → mark' e ≡ mark e) → ((e : ℕ) → e ≢ f → held' e ≡ held e) → Homes count mark' (set homes f h) held'
homes_set count mark mark' homes held held' f h all below here marks helds e in_range = by_eq (cases_eq f e)
  where
    by_eq : (f ≡ e) ⊎ (f ≢ e) → HomeIs (get_elem? (set homes f h) e) (mark' e) (held' e)
    by_eq (inl same) = subst (λ k. HomeIs (get_elem? (set homes f h) k) (mark' k) (held' k)) same (subst (λ o. HomeIs o (mark' f) (held' f)) (sym (set_here homes f h below)) here)
    by_eq (inr other) =
        let apart : e ≢ f = λ z. other (sym z) in
        subst (λ o. HomeIs o (mark' e) (held' e)) (sym (set_else homes f e h apart)) (subst (λ m. HomeIs (get_elem? homes e) m (held' e)) (sym (marks e apart)) (subst (λ k. HomeIs (get_elem? homes e) (mark e) k) (sym (helds e apart)) (all e in_range)))

-- One try for a slot, by a swap of its mark to 1: where the mark was clear, the slot is home and is taken.
pub slot_tried : {S : Type 0} (count : ℕ) (mark : ℕ → ℕ) (homes : List (Option S)) (held : ℕ → ℕ) (f : ℕ) → Homes count mark homes held → f < count
    → ((y : S) × (get_elem? homes f ≡ some (some y)) × (mark f ≡ 0) × (held f ≡ 0)) ⊎ ((mark f ≡ 1) × (held f ≡ 1))
slot_tried count mark homes held f all below = by_home (get_elem? homes f) refl (all f below)
  where
    by_home : (o : Option (Option _)) → get_elem? homes f ≡ o → HomeIs o (mark f) (held f) → ((y : _) × (get_elem? homes f ≡ some (some y)) × (mark f ≡ 0) × (held f ≡ 0)) ⊎ ((mark f ≡ 1) × (held f ≡ 1))
    by_home (some (some y)) is h = inl (y, is, h.0, h.1)
    by_home (some none) is h = inr h
    by_home none is h = absurd h
