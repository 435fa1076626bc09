-- What a turn's seat knows after a step on its units.
use Rattle.std.proofs.Common.{◌≡◌, ℕ, true, false, List, [], ◌∷◌, ◌++◌, Option, Some, None, sym, refl, ap, ◌∙◌, subst}
use Rattle.std.specs.Prelude.{nat_lt}
use Rattle.task_graph.specs.NetRows.{NetRows}
use Rattle.journal_rules.specs.declared.entry.Cause.{Cause}
use Rattle.journal_rules.specs.declared.entry.DropWhy.{DropWhy}
use Rattle.journal_rules.specs.declared.entry.DropWhy.TheVariants.{Limit, Stuck, Halted as AfterFault}
use Rattle.journal_rules.specs.SemaphoreRule.{max_of}
use Rattle.table_steps.specs.Holding.{without}
use Rattle.table_steps.specs.declared.view.TurnDuty.TheVariants.{Collecting}
use Rattle.table_steps.specs.declared.view.Note.{Note}
use Rattle.journal_rules.specs.declared.entry.Part.{Part}
use Rattle.table_steps.specs.inside.Slots.{found_lots}
use Rattle.join_tables.specs.inside.Seated.{turn_view, taken_in, refusal_of, held_of}
use Rattle.table_steps.specs.inside.UnitKinds.{after_unit, took_unit, undone, put_back}

-- what a view of a turn says, and that of the turn with other units
pub record Reads (t : ℕ) (cause : Cause) (taken : List ℕ) (parts : List Part) (r : Option DropWhy) (h : List ℕ) (v : List Note) : Type 0 where
  pub is : v ≡ turn_view t cause (taken_in v) parts (refusal_of v) (held_of v)
  pub takes : taken_in v ≡ taken
  pub refused : refusal_of v ≡ r
  pub held : held_of v ≡ h

-- the reasons for which a turn is refused
abbrev pub Refuses : Option DropWhy → Type 0
Refuses (Some (Stuck s)) = ⊥
Refuses _ = Unit {0}

pub reads : (t : ℕ) (cause : Cause) (taken : List ℕ) (parts : List Part) (r : Option DropWhy) (h : List ℕ) → Refuses r → Reads t cause taken parts r h (turn_view t cause taken parts r h)
reads t cause taken parts None h fits = record { is = refl; takes = refl; refused = refl; held = refl }
reads t cause taken parts (Some Limit) h fits = record { is = refl; takes = refl; refused = refl; held = refl }
reads t cause taken parts (Some AfterFault) h fits = record { is = refl; takes = refl; refused = refl; held = refl }
reads t cause taken parts (Some (Stuck s)) h fits = absurd fits

-- a view is of no other reason
pub refuses : (t : ℕ) (cause : Cause) (taken : List ℕ) (parts : List Part) (r : Option DropWhy) (h : List ℕ) → refusal_of (turn_view t cause taken parts r h) ≡ r → Refuses r
refuses t cause taken parts None h is = tt
refuses t cause taken parts (Some Limit) h is = tt
refuses t cause taken parts (Some AfterFault) h is = tt
refuses t cause taken parts (Some (Stuck s)) h is = absurd (cc)

-- a unit back
put_view : (t : ℕ) (cause : Cause) (taken : List ℕ) (parts : List Part) (r : Option DropWhy) (h : List ℕ) (a : ℕ) → Refuses r → put_back a (turn_view t cause taken parts r h) ≡ turn_view t cause taken parts r (without a h)
put_view t cause taken parts None h a fits = refl
put_view t cause taken parts (Some Limit) h a fits = refl
put_view t cause taken parts (Some AfterFault) h a fits = refl
put_view t cause taken parts (Some (Stuck s)) h a fits = absurd fits

pub put_reads : (t : ℕ) (cause : Cause) (parts : List Part) (a : ℕ) (v u : List Note) → v ≡ turn_view t cause (taken_in v) parts (refusal_of v) (held_of v) → u ≡ put_back a v → Reads t cause (taken_in v) parts (refusal_of v) (without a (held_of v)) u
put_reads t cause parts a v u is put =
    let taken = taken_in v in let r = refusal_of v in let h = held_of v in
    let fits : Refuses r = refuses t cause taken parts r h (ap refusal_of (sym is)) in
    subst (λ w. Reads t cause taken parts r (without a h) w) (sym (put ∙ ap (put_back a) is ∙ put_view t cause taken parts r h a fits)) (reads t cause taken parts r (without a h) fits)

-- a unit taken
got_view : (net : NetRows) (t : ℕ) (cause : Cause) (taken : List ℕ) (parts : List Part) (h : List ℕ) (a n : ℕ) → nat_lt n (max_of net a) ≡ true → took_unit net a n (turn_view t cause taken parts None h) ≡ turn_view t cause taken parts None (a ∷ h)
got_view net t cause taken parts h a n there = ap (λ q. after_unit q a (Collecting t cause taken []) h ++ found_lots taken parts) there

pub got_reads : (net : NetRows) (t : ℕ) (cause : Cause) (parts : List Part) (a n : ℕ) (v u : List Note) → v ≡ turn_view t cause (taken_in v) parts (refusal_of v) (held_of v) → refusal_of v ≡ None → nat_lt n (max_of net a) ≡ true → u ≡ took_unit net a n v → Reads t cause (taken_in v) parts None (a ∷ held_of v) u
got_reads net t cause parts a n v u is none there took =
    let plain : v ≡ turn_view t cause (taken_in v) parts None (held_of v) = is ∙ ap (λ r. turn_view t cause (taken_in v) parts r (held_of v)) none in
    subst (λ w. Reads t cause (taken_in v) parts None (a ∷ held_of v) w) (sym (took ∙ ap (took_unit net a n) plain ∙ got_view net t cause (taken_in v) parts (held_of v) a n there)) (reads t cause (taken_in v) parts None (a ∷ held_of v) tt)

-- a take that found none, and undone
undo_view : (net : NetRows) (t : ℕ) (cause : Cause) (taken : List ℕ) (parts : List Part) (h : List ℕ) (a n : ℕ) → nat_lt n (max_of net a) ≡ false → undone (took_unit net a n (turn_view t cause taken parts None h)) ≡ turn_view t cause taken parts None h
undo_view net t cause taken parts h a n full = ap (λ q. undone (after_unit q a (Collecting t cause taken []) h ++ found_lots taken parts)) full

pub undo_same : (net : NetRows) (t : ℕ) (cause : Cause) (parts : List Part) (a n : ℕ) (v : List Note) → v ≡ turn_view t cause (taken_in v) parts (refusal_of v) (held_of v) → refusal_of v ≡ None → nat_lt n (max_of net a) ≡ false → undone (took_unit net a n v) ≡ v
undo_same net t cause parts a n v is none full =
    let plain : v ≡ turn_view t cause (taken_in v) parts None (held_of v) = is ∙ ap (λ r. turn_view t cause (taken_in v) parts r (held_of v)) none in
    ap (λ w. undone (took_unit net a n w)) plain ∙ undo_view net t cause (taken_in v) parts (held_of v) a n full ∙ sym plain
