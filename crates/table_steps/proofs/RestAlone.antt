-- What a seat knows that has all live turns.
use Rattle.std.proofs.Common.{◌≡◌, ◌≢◌, ◌⊎◌, inl, inr, ℕ, ◌+◌, ◌<◌, List, [], length, set, sym, refl, ap, ◌∙◌, arith}
use Rattle.std.specs.Prelude.{slice_index}
use Rattle.std.proofs.lemmas.Bool.{cases_eq}
use mathlib.Core.Option.{some, some-injective}
use lib.ListN.{get_elem?}
use Rattle.atomic_table.proofs.Lists.{set_else}
use Rattle.task_graph.specs.NetRows.{NetRows}
use Rattle.journal_rules.specs.declared.entry.Entry.{Entry}
use Rattle.journal_rules.specs.Counts.{NoneOpen}
use Rattle.journal_rules.specs.SemaphoreRule.{back, taken}
use Rattle.journal_rules.proofs.Reaching.{each_below}
use Rattle.journal_rules.specs.declared.entry.Part.{Part}
use Rattle.table_steps.specs.declared.view.TurnDuty.{TurnDuty}
use Rattle.table_steps.specs.declared.view.TurnDuty.TheVariants.{Told, Fresh, Collecting, Ticket, Open, Owes, Counting}
use Rattle.table_steps.specs.inside.Duties.{runs, is_run}
use Rattle.table_steps.specs.Giving.{times}
use Rattle.table_steps.specs.declared.view.SemaphoreRole.{SemaphoreRole}
use Rattle.table_steps.specs.declared.view.SemaphoreRole.TheVariants.{Held, Undo, Owed, Both, Credit, Credited, Claim, Granted, Refusing, Denied, Full}
use Rattle.table_steps.specs.declared.view.SeatMark.TheVariants.{Live, New, Over, ToMark, Halted, Alone, Quiet, Sticking, Asked}
use Rattle.table_steps.specs.declared.view.Note.{Note}
use Rattle.table_steps.specs.declared.view.Note.TheVariants.{Duty, Sems, Has, Unfit, Lies, Queued}
use Rattle.table_steps.specs.inside.Accounts.{Coord, duty, sem, mark, busy, resting, weight, weigh, total, JournalPart, KeepsAccounts}
use Rattle.table_steps.specs.inside.RestKinds.{HasNoUnit}
use Rattle.table_steps.proofs.Totals.{total_set}
use Rattle.table_steps.proofs.Views.{Views, two_views, each_none, get_set, times_short, zero_notes}
use Rattle.table_steps.proofs.Journals.{none_of}
use Rattle.table_steps.proofs.RestDuties.{closed_at}
use Rattle.table_steps.proofs.Stepping.{St}
use Rattle.table_steps.proofs.UnitReads.{unit_at}

-- a seat that has all live turns has all that only a live turn has
pub has_all : (net : NetRows) (journal : List Entry) (c : Coord) (views : List (List Note)) (id : ℕ) (v : List Note) → ((x : Note) → weight busy x ≡ 0 → weight c x ≡ 0) → Views net journal views → get_elem? views id ≡ some v
    → total (mark Live) views ≡ weigh (mark Live) v → total c views ≡ weigh c v
has_all net journal c views id v bound parts at all = omega (arith, total_set c views id v [] at, each_none c (set views id []) (λ other w at_w. by_eq other w at_w (cases_eq other id)))
  where
    by_eq : (other : ℕ) (w : List Note) → get_elem? (set views id []) other ≡ some w → (other ≡ id) ⊎ (other ≢ id) → weigh c w ≡ 0
    by_eq other w at_w (inl same) = let is : [] ≡ w = some-injective [] w (sym (get_set views id [] v at) ∙ sym (ap (get_elem? (set views id [])) same) ∙ at_w) in ap (weigh c) (sym is)
    by_eq other w at_w (inr apart) =
        let there : get_elem? views other ≡ some w = sym (set_else views id other [] apart) ∙ at_w in
        zero_notes c bound w ((parts other w there).covered (omega (arith, all, two_views (mark Live) views id other v w at there apart)))

-- STARTS THAT RUN
duty_bound : (x : TurnDuty) → weight busy (Duty x) ≡ 0 → (m t : ℕ) → weight (duty (runs m t)) (Duty x) ≡ 0
duty_bound (Told n y) h m t = refl
duty_bound (Fresh u cause) h m t = refl
duty_bound (Collecting u cause taken left) h m t = refl
duty_bound Ticket h m t = refl
duty_bound (Open n u) h m t = absurd (omega arith)
duty_bound (Owes gives) h m t = refl
duty_bound (Counting e) h m t = refl

runs_bound : (m t : ℕ) (x : Note) → weight busy x ≡ 0 → weight (duty (runs m t)) x ≡ 0
runs_bound m t (Duty x) h = duty_bound x h m t
runs_bound m t (Sems k l) h = refl
runs_bound m t (Has k) h = refl
runs_bound m t (Unfit s n u) h = refl
runs_bound m t (Lies k e p) h = refl
runs_bound m t (Queued q qs) h = refl

pub none_open : (net : NetRows) (limit n : ℕ) (journal : List Entry) (views : List (List Note)) (id : ℕ) (v : List Note) → JournalPart net limit n journal (λ c. total c views) → Views net journal views → get_elem? views id ≡ some v
    → total (mark Live) views ≡ weigh (mark Live) v → ((m t : ℕ) → weigh (duty (runs m t)) v ≡ 0) → NoneOpen journal
none_open net limit n journal views id v j parts at all none =
    each_below _ (length journal) (λ m below. closed_at journal m (λ t. none_of (is_run journal m t) (omega (arith, j.opens m t, has_all net journal (duty (runs m t)) views id v (runs_bound m t) parts at all, none m t))))

-- FAULTS
pub to_mark_bound : (x : Note) → weight busy x ≡ 0 → weight (mark ToMark) x ≡ 0
to_mark_bound (Duty i) z = refl
to_mark_bound (Sems k l) z = refl
to_mark_bound (Has Live) z = refl
to_mark_bound (Has New) z = refl
to_mark_bound (Has Over) z = refl
to_mark_bound (Has ToMark) z = absurd (omega arith)
to_mark_bound (Has Halted) z = refl
to_mark_bound (Has Alone) z = refl
to_mark_bound (Has Quiet) z = refl
to_mark_bound (Has Sticking) z = refl
to_mark_bound (Has Asked) z = refl
to_mark_bound (Unfit n m t) z = refl
to_mark_bound (Lies k e p) z = refl
to_mark_bound (Queued q qs) z = refl

-- UNITS
short : (a : ℕ) (l : List ℕ) → length l ≡ 0 → times a l ≡ 0
short a l none = omega (arith, none, times_short a l)

held_bound : (a : ℕ) (x : Note) → weight busy x ≡ 0 → weight (sem Held a) x + weight (sem Owed a) x + weight (sem Undo a) x ≡ 0
held_bound a (Duty i) z = refl
held_bound a (Sems Held l) z = omega (arith, short a l z)
held_bound a (Sems Undo l) z = omega (arith, short a l z)
held_bound a (Sems Owed l) z = omega (arith, short a l z)
held_bound a (Sems Both l) z = refl
held_bound a (Sems Credit l) z = refl
held_bound a (Sems Credited l) z = refl
held_bound a (Sems Claim l) z = refl
held_bound a (Sems Granted l) z = refl
held_bound a (Sems Refusing l) z = refl
held_bound a (Sems Denied l) z = refl
held_bound a (Sems Full l) z = refl
held_bound a (Has m) z = refl
held_bound a (Unfit n m t) z = refl
held_bound a (Lies k e p) z = refl
held_bound a (Queued q qs) z = refl

-- what a unit word says while a rest is alone
pub units_alone : {S : Type 0} {part : S → List Part} (net : NetRows) (limit : ℕ) (s : St S) (h : KeepsAccounts part net limit s) (id a : ℕ) (v : List Note) → a < length net.sems → get_elem? s.views id ≡ some v → weigh resting v ≢ 0 → HasNoUnit a v
    → slice_index s.words (40 + a) + back net a h.journal ≡ taken net a h.journal
units_alone net limit s h id a v below at rested none =
    let all = (h.views id v at).alone rested in
    let b : (k : SemaphoreRole) → ((x : Note) → weight busy x ≡ 0 → weight (sem k a) x ≡ 0) → total (sem k a) s.views ≡ weigh (sem k a) v = λ k bound. has_all net h.journal (sem k a) s.views id v bound h.views at all in
    omega (
      arith,
      (h.balanced.by_units a below).tells,
      unit_at net s.words a below,
      none.held,
      none.owed,
      none.undo,
      b Held (λ x z. omega (arith, held_bound a x z)),
      b Owed (λ x z. omega (arith, held_bound a x z)),
      b Undo (λ x z. omega (arith, held_bound a x z)),
    )
