-- A step of one seat on one word.
use Rattle.std.proofs.Common.{◌≡◌, ◌≢◌, ℕ, ◌+◌, ◌<◌, ◌≤◌, List, [], ◌++◌, length, set, refl, sym, ap, ◌∙◌, subst, arith, length-set}
use Rattle.std.specs.Prelude.{count_by}
use Rattle.std.proofs.lemmas.List.{append-nil}
use mathlib.Core.Option.{some}
use lib.ListN.{get_elem?}
use Rattle.atomic_table.specs.Table.{State, Me, Act, keeps, Valid, carried_after, stepped}
use Rattle.task_graph.specs.NetRows.{NetRows}
use Rattle.journal_rules.specs.declared.entry.Entry.{Entry}
use Rattle.journal_rules.specs.declared.entry.Part.{Part}
use Rattle.table_steps.specs.declared.view.SeatMark.TheVariants.{Live}
use Rattle.table_steps.specs.declared.view.Note.{Note}
use Rattle.table_steps.specs.inside.Accounts.{Coord, mark, resting, weigh, total, AllStand, Readings, reading, is_drop, Balanced, Moves, KeepsAccounts}
use Rattle.table_steps.specs.inside.Slots.{SlotCoord, slot_weigh, slot_total, SlotMoves, SlotPart, slots_in, HoldsAlike}
use Rattle.table_steps.specs.inside.SlotMarks.{label_of}
use Rattle.table_steps.specs.inside.Accounts.{marks_from}
use Rattle.table_steps.proofs.Homing.{slot_total_swap, homes_still}
use Rattle.table_steps.proofs.LotSteps.{slots_alike}
use Rattle.table_steps.proofs.SlotViews.{slots_same, holds_same}
use Rattle.table_steps.proofs.Totals.{total_swap}
use Rattle.table_steps.proofs.Views.{OwnView, views_after, quiet_rests, full_rests_too}

abbrev pub St : Type 0 → Type 0
St S = State S (List Note)

abbrev pub Seated : Type 0 → Type 0
Seated S = Me S (List Note)

-- a seat that is no rest
pub own_lone : {id : ℕ} (net : NetRows) (journal : List Entry) (T : Coord → ℕ) (old new rest : List Note) → AllStand net journal new → 1 ≤ weigh (mark Live) (old ++ rest) → 1 ≤ weigh (mark Live) (new ++ rest) → weigh resting (new ++ rest) ≡ 0
    → OwnView net journal T id old new rest
own_lone net journal T old new rest stand before after lone = record {
  lives = before;
  stand = stand;
  covered = λ none. absurd (omega (arith, none, after));
  told = λ far none. absurd (omega (arith, none, after));
  alone = λ more. absurd (more lone);
  quiet = λ more. absurd (more (omega (arith, lone, quiet_rests (new ++ rest))));
  full = λ s more. absurd (more (omega (arith, lone, full_rests_too s (new ++ rest))));
}

-- the rule after one step that takes these notes for those
pub after_step : {S : Type 0} {part : S → List Part} (net : NetRows) (limit : ℕ) (s : St S) (h : KeepsAccounts part net limit s) (id i k : ℕ) (carried : List (ℕ × S)) (old new rest : List Note) (journal : List Entry) (counted : ℕ → ℕ) (w : Readings)
    → get_elem? s.views id ≡ some (old ++ rest) → HoldsAlike old new → ((e : ℕ) → e < length net.edges → i ≢ marks_from net + e) → ((v : List Note) → AllStand net h.journal v → AllStand net journal v) → OwnView net journal (λ c. total c s.views) id old new rest
    → total (mark Live) (set s.views id (new ++ rest)) ≤ 1152921504606846976 → count_by is_drop journal ≤ 1152921504606846976 → reading net (set s.words i k) ≡ w
    → (SlotMoves (λ c. slot_total c s.views) old (λ c. slot_total c (set s.views id (new ++ rest))) new → SlotPart net journal w.edge (λ c. slot_total c (set s.views id (new ++ rest))) (label_of part s.homes))
    → (Moves (λ c. total c s.views) old (λ c. total c (set s.views id (new ++ rest))) new → Balanced net limit w counted journal (λ c. total c (set s.views id (new ++ rest))))
    → KeepsAccounts part net limit (stepped s i k id carried (new ++ rest) keeps)
after_step {S} {part} net limit s h id i k carried old new rest journal counted w at same apart stays own few few_drops reads slots kept = record {
  fits = h.fits;
  size = length-set s.words i k ∙ h.size;
  journal = journal;
  counted = counted;
  balanced = subst (λ v. Balanced net limit v counted journal (λ c. total c (set s.views id (new ++ rest)))) (sym reads) (kept (λ c. total_swap c s.views id old new rest at));
  few = few;
  few_drops = few_drops;
  views = views_after net h.journal journal s.views id old new rest h.views at stays own;
  homes = homes_still net s.words i k s.homes s.views id old new rest h.homes at same apart;
  slots = subst (λ (v : Readings). SlotPart net journal v.edge (λ c. slot_total c (set s.views id (new ++ rest))) (label_of part s.homes)) (sym reads) (slots (λ c. slot_total_swap c s.views id old new rest at));
}

-- of a seat that exchanges all its notes
pub after_all : {S : Type 0} {part : S → List Part} (net : NetRows) (limit : ℕ) (s : St S) (h : KeepsAccounts part net limit s) (id i k : ℕ) (carried : List (ℕ × S)) (v v' : List Note) (journal : List Entry) (counted : ℕ → ℕ) (w : Readings)
    → get_elem? s.views id ≡ some v → HoldsAlike v v' → ((e : ℕ) → e < length net.edges → i ≢ marks_from net + e) → ((u : List Note) → AllStand net h.journal u → AllStand net journal u) → OwnView net journal (λ c. total c s.views) id v v' []
    → total (mark Live) (set s.views id v') ≤ 1152921504606846976 → count_by is_drop journal ≤ 1152921504606846976 → reading net (set s.words i k) ≡ w
    → (SlotMoves (λ c. slot_total c s.views) v (λ c. slot_total c (set s.views id v')) v' → SlotPart net journal w.edge (λ c. slot_total c (set s.views id v')) (label_of part s.homes))
    → (Moves (λ c. total c s.views) v (λ c. total c (set s.views id v')) v' → Balanced net limit w counted journal (λ c. total c (set s.views id v')))
    → KeepsAccounts part net limit (stepped s i k id carried v' keeps)
after_all {S} {part} net limit s h id i k carried v v' journal counted w at same apart stays own few few_drops reads slots kept =
    subst (λ u. KeepsAccounts part net limit (stepped s i k id carried u keeps)) (append-nil v')
    (after_step net limit s h id i k carried v v' [] journal counted w (at ∙ ap some (sym (append-nil v))) same apart stays own
    (subst (λ u. total (mark Live) (set s.views id u) ≤ 1152921504606846976) (sym (append-nil v')) few) few_drops reads
    (λ moved. subst (λ u. SlotPart net journal w.edge (λ c. slot_total c (set s.views id u)) (label_of part s.homes)) (sym (append-nil v')) (slots (subst (λ u. SlotMoves (λ c. slot_total c s.views) v (λ c. slot_total c (set s.views id u)) v') (append-nil v') moved)))
    (λ moved. subst (λ u. Balanced net limit w counted journal (λ c. total c (set s.views id u))) (sym (append-nil v')) (kept (subst (λ u. Moves (λ c. total c s.views) v (λ c. total c (set s.views id u)) v') (append-nil v') moved))))

-- one that draws nothing, and changes no token, parcel or lot
pub still_slots : {S : Type 0} {part : S → List Part} (net : NetRows) (limit : ℕ) (s : St S) (h : KeepsAccounts part net limit s) (edge : ℕ → ℕ) (T : SlotCoord → ℕ) (old new : List Note) → ((c : SlotCoord) → slot_weigh c new ≡ slot_weigh c old) → edge ≡ (reading net s.words).edge
    → SlotMoves (λ c. slot_total c s.views) old T new → SlotPart net h.journal edge T (label_of part s.homes)
still_slots {S} {part} net limit s h edge T old new same is moved = subst (λ (f : ℕ → ℕ). SlotPart net h.journal f T (label_of part s.homes)) (sym is) (slots_alike net h.journal _ _ _ (label_of part s.homes) h.slots (λ c. omega (arith, moved c, same c)))

-- and adds no turn
pub still_step : {S : Type 0} {part : S → List Part} (net : NetRows) (limit : ℕ) (s : St S) (h : KeepsAccounts part net limit s) (id i k : ℕ) (carried : List (ℕ × S)) (old new rest : List Note) (w : Readings)
    → get_elem? s.views id ≡ some (old ++ rest) → slots_in new ≡ slots_in old → ((e : ℕ) → e < length net.edges → i ≢ marks_from net + e) → OwnView net h.journal (λ c. total c s.views) id old new rest → weigh (mark Live) new ≤ weigh (mark Live) old → reading net (set s.words i k) ≡ w → w.edge ≡ (reading net s.words).edge
    → (Moves (λ c. total c s.views) old (λ c. total c (set s.views id (new ++ rest))) new → Balanced net limit w h.counted h.journal (λ c. total c (set s.views id (new ++ rest))))
    → KeepsAccounts part net limit (stepped s i k id carried (new ++ rest) keeps)
still_step net limit s h id i k carried old new rest w at same apart own fewer reads edges kept =
    after_step net limit s h id i k carried old new rest h.journal h.counted w at (holds_same old new same) apart (λ v stand. stand) own (omega (arith, h.few, fewer, total_swap (mark Live) s.views id old new rest at)) h.few_drops reads
    (still_slots net limit s h w.edge _ old new (slots_same old new same) edges) kept

-- what a step asks for is one view, no act, and the rule
pub done : {S : Type 0} {part : S → List Part} (net : NetRows) (limit : ℕ) (s : St S) (id i k : ℕ) (me : Seated S) (w w' : List Note) → w ≡ w' → KeepsAccounts part net limit (stepped s i k id me.1 w keeps)
    → (u : List Note) × (a : Act _) × Valid s.homes me.1 a × KeepsAccounts part net limit (stepped s i k id me.1 u a) × ((u ≡ w') × (carried_after me.1 a ≡ me.1))
done net limit s id i k me w w' is kept = (w, keeps, tt, kept, (is, refl))
