-- What the accounts of edges and of duties say of parcels.
use Rattle.std.proofs.Common.{◌≡◌, ◌≢◌, ◌⊎◌, inl, inr, ℕ, zero, suc, ◌+◌, ◌≤◌, Bool, true, false, eqb, List, [], ◌∷◌, refl, sym, ap, ◌∙◌, arith}
use Rattle.std.proofs.lemmas.Bool.Decides.{nat_tests}
use Rattle.std.proofs.lemmas.Bool.{cases_eq, false≢true}
use mathlib.Core.Option.{some}
use lib.ListN.{get_elem?}
use Rattle.task_graph.specs.NetRows.{NetRows}
use Rattle.task_graph.specs.Net.{is_weak}
use Rattle.journal_rules.specs.declared.entry.Cause.TheVariants.{Source, Strong, Weak}
use Rattle.journal_rules.specs.declared.entry.Entry.{Entry}
use Rattle.journal_rules.specs.declared.entry.Part.{Part}
use Rattle.table_steps.specs.Giving.{one_if, times}
use Rattle.table_steps.specs.declared.view.TurnDuty.{TurnDuty}
use Rattle.table_steps.specs.declared.view.TurnDuty.TheVariants.{Told, Fresh, Collecting, Ticket, Open, Owes, Counting}
use Rattle.table_steps.specs.declared.view.Note.{Note}
use Rattle.table_steps.specs.declared.view.Note.TheVariants.{Duty, Sems, Has, Unfit, Lies, Queued}
use Rattle.table_steps.specs.inside.Duties.{token, awaits, weakly, duty_weight, any}
use Rattle.table_steps.specs.inside.Accounts.{duty, weigh, total, Stands, AllStand, reading, KeepsAccounts}
use Rattle.table_steps.specs.inside.Slots.{owed, collected, left_at, duty_slots, slot_weigh, slot_total, SlotBounds}
use Rattle.table_steps.proofs.Counting.{times_append, times_strong_in, is_strong_into}
use Rattle.table_steps.proofs.CountDuties.{into_strong}
use Rattle.table_steps.proofs.Stepping.{St}
use Rattle.table_steps.proofs.Lots.{tokens_of, parcels_bound_all}

-- what is still to be collected of a strong edge is awaited
left_strong : (net : NetRows) (journal : List Entry) (e : ℕ) (x : TurnDuty) → is_weak net e ≡ false → Stands net journal (Duty x) → duty_slots (left_at e) x ≤ duty_weight (awaits e) x
left_strong net journal e (Told n y) strong stand = omega arith
left_strong net journal e (Fresh t cause) strong stand = omega arith
left_strong net journal e (Collecting t Source taken left) strong stand = omega (arith, times_append e taken left, ap (times e) stand.1)
left_strong net journal e (Collecting t Strong taken left) strong stand = omega arith
left_strong net journal e (Collecting t (Weak f) taken left) strong stand = by_eq (cases_eq f e)
  where
    by_eq : (f ≡ e) ⊎ (f ≢ e) → times e left ≤ 0
    by_eq (inl same) = absurd (false≢true (sym strong ∙ sym (ap (is_weak net) same) ∙ stand.0.fits.0))
    by_eq (inr other) = let miss : eqb f e ≡ false = grind (arith, nat_tests) in omega (arith, times_append e taken left, ap (times e) stand.1, ap one_if miss)
left_strong net journal e Ticket strong stand = omega arith
left_strong net journal e (Open n t) strong stand = omega arith
left_strong net journal e (Owes gives) strong stand = omega arith
left_strong net journal e (Counting f) strong stand = omega arith

-- and of a weak one is a release by it
left_weak : (net : NetRows) (journal : List Entry) (e : ℕ) (x : TurnDuty) → is_weak net e ≡ true → Stands net journal (Duty x) → duty_slots (left_at e) x ≤ duty_weight (weakly e) x
left_weak net journal e (Told n y) weak stand = omega arith
left_weak net journal e (Fresh t cause) weak stand = omega arith
left_weak net journal e (Collecting t Source taken left) weak stand = omega (arith, times_append e taken left, ap (times e) stand.1)
left_weak net journal e (Collecting t Strong taken left) weak stand = by_into (is_strong_into net t e) refl
  where
    by_into : (b : Bool) → is_strong_into net t e ≡ b → times e left ≤ 0
    by_into true is = absurd (false≢true (sym (into_strong net t e is) ∙ weak))
    by_into false is = omega (arith, times_append e taken left, ap (times e) stand.1, times_strong_in net t e, ap one_if is)
left_weak net journal e (Collecting t (Weak f) taken left) weak stand = omega arith
left_weak net journal e Ticket weak stand = omega arith
left_weak net journal e (Open n t) weak stand = omega arith
left_weak net journal e (Owes gives) weak stand = omega arith
left_weak net journal e (Counting f) weak stand = omega arith

view_strong : (net : NetRows) (journal : List Entry) (e : ℕ) (v : List Note) → is_weak net e ≡ false → AllStand net journal v → slot_weigh (left_at e) v ≤ weigh (duty (awaits e)) v
view_strong net journal e [] strong stand = omega arith
view_strong net journal e (Duty x ∷ xs) strong stand = omega (arith, left_strong net journal e x strong stand.0, view_strong net journal e xs strong stand.1)
view_strong net journal e (Sems k l ∷ xs) strong stand = omega (arith, view_strong net journal e xs strong stand.1)
view_strong net journal e (Has m ∷ xs) strong stand = omega (arith, view_strong net journal e xs strong stand.1)
view_strong net journal e (Unfit s n t ∷ xs) strong stand = omega (arith, view_strong net journal e xs strong stand.1)
view_strong net journal e (Lies k f p ∷ xs) strong stand = omega (arith, view_strong net journal e xs strong stand.1)
view_strong net journal e (Queued q qs ∷ xs) strong stand = omega (arith, view_strong net journal e xs strong stand.1)

view_weak : (net : NetRows) (journal : List Entry) (e : ℕ) (v : List Note) → is_weak net e ≡ true → AllStand net journal v → slot_weigh (left_at e) v ≤ weigh (duty (weakly e)) v
view_weak net journal e [] weak stand = omega arith
view_weak net journal e (Duty x ∷ xs) weak stand = omega (arith, left_weak net journal e x weak stand.0, view_weak net journal e xs weak stand.1)
view_weak net journal e (Sems k l ∷ xs) weak stand = omega (arith, view_weak net journal e xs weak stand.1)
view_weak net journal e (Has m ∷ xs) weak stand = omega (arith, view_weak net journal e xs weak stand.1)
view_weak net journal e (Unfit s n t ∷ xs) weak stand = omega (arith, view_weak net journal e xs weak stand.1)
view_weak net journal e (Lies k f p ∷ xs) weak stand = omega (arith, view_weak net journal e xs weak stand.1)
view_weak net journal e (Queued q qs ∷ xs) weak stand = omega (arith, view_weak net journal e xs weak stand.1)

-- sums over all views
all_tokens : (e : ℕ) (vs : List (List Note)) → total (duty (token e)) vs ≡ slot_total (owed e) vs + slot_total (collected e) vs
all_tokens e [] = refl
all_tokens e (v ∷ vs) = omega (arith, tokens_of e v, all_tokens e vs)

abbrev EachStands : NetRows → List Entry → List (List Note) → Type 0
EachStands net journal vs = (id : ℕ) (v : List Note) → get_elem? vs id ≡ some v → AllStand net journal v

all_strong : (net : NetRows) (journal : List Entry) (e : ℕ) (vs : List (List Note)) → is_weak net e ≡ false → EachStands net journal vs → slot_total (left_at e) vs ≤ total (duty (awaits e)) vs
all_strong net journal e [] strong stand = omega arith
all_strong net journal e (v ∷ vs) strong stand = omega (arith, view_strong net journal e v strong (stand 0 v refl), all_strong net journal e vs strong (λ id w at. stand (suc id) w at))

all_weak : (net : NetRows) (journal : List Entry) (e : ℕ) (vs : List (List Note)) → is_weak net e ≡ true → EachStands net journal vs → slot_total (left_at e) vs ≤ total (duty (weakly e)) vs
all_weak net journal e [] weak stand = omega arith
all_weak net journal e (v ∷ vs) weak stand = omega (arith, view_weak net journal e v weak (stand 0 v refl), all_weak net journal e vs weak (λ id w at. stand (suc id) w at))

any_below : (n : ℕ) → any n ≤ n
any_below zero = omega arith
any_below (suc n) = omega arith

-- The bounds on which the account of slots relies.
pub slot_bounds : {S : Type 0} {part : S → List Part} (net : NetRows) (limit : ℕ) (s : St S) (h : KeepsAccounts part net limit s) → SlotBounds net h.journal ((reading net s.words).edge) (λ c. slot_total c s.views)
slot_bounds net limit s h = record {
  tokens = λ e. omega (arith, h.balanced.by_edges e, all_tokens e s.views);
  within = λ e. by_kind e (is_weak net e) refl;
  each = λ e p. parcels_bound_all e p s.views;
}
  where
    by_kind : (e : ℕ) (b : Bool) → is_weak net e ≡ b → slot_total (left_at e) s.views ≤ (reading net s.words).edge e
    by_kind e true is = omega (arith, all_weak net h.journal e s.views is (λ id v at. (h.views id v at).stand), h.balanced.by_duties.weaks e is)
    by_kind e false is = omega (arith, all_strong net h.journal e s.views is (λ id v at. (h.views id v at).stand), h.balanced.by_duties.states e is, any_below ((reading net s.words).edge e))
