-- Where no turn is live, the journal is complete.
use Rattle.std.proofs.Common.{◌≡◌, ◌≢◌, ◌⊎◌, inl, inr, ℕ, ◌<◌, ◌≤◌, true, cond, List, [], ◌∷◌, length, map, sym, refl, ap, ◌∙◌, arith}
use Rattle.std.specs.Prelude.{slice_get}
use Rattle.std.specs.Option.{option_map_or}
use Rattle.std.specs.List.{AllByRecursion}
use Rattle.task_graph.specs.NetRows.{NetRows}
use Rattle.task_graph.specs.Net.{strong_in}
use Rattle.task_graph.specs.declared.net.EdgeRow.{EdgeRow}
use Rattle.journal_rules.specs.declared.entry.Entry.{Entry}
use Rattle.journal_rules.specs.Counts.{given, used, used_weak}
use Rattle.journal_rules.specs.Calm.{used_at}
use Rattle.journal_rules.specs.Complete.{Complete, least}
use Rattle.journal_rules.proofs.Reaching.{each_below}
use Rattle.journal_rules.specs.declared.entry.Part.{Part}
use Rattle.table_steps.specs.declared.view.TurnDuty.{TurnDuty}
use Rattle.table_steps.specs.declared.view.TurnDuty.TheVariants.{Told, Fresh, Collecting, Ticket, Open, Owes, Counting}
use Rattle.table_steps.specs.inside.Duties.{DutyCoord, place, runs, running, tickets, token, source, weakly, awaits, unset, duty_weight, is_run}
use Rattle.table_steps.specs.Giving.{one_if}
use Rattle.table_steps.proofs.Counting.{is_one, is_strong_into, times_strong_in, used_at_strong}
use Rattle.table_steps.proofs.CountDuties.{into_strong}
use Rattle.table_steps.proofs.ResetDuties.{all_into}
use Rattle.table_steps.proofs.RestDuties.{AtRest, closed_at, least_is, sum_gap, nil_pos, any_zero}
use Rattle.table_steps.specs.declared.view.SeatMark.TheVariants.{Live}
use Rattle.table_steps.specs.declared.view.Note.{Note}
use Rattle.table_steps.specs.declared.view.Note.TheVariants.{Duty, Sems, Has, Unfit, Lies, Queued}
use Rattle.table_steps.specs.inside.Accounts.{Coord, duty, mark, busy, telling, weight, weigh, total, Readings, Balanced, KeepsAccounts}
use Rattle.table_steps.proofs.Journals.{none_of}
use Rattle.std.specs.Prelude.{nat_lt, slice_index}
use Rattle.std.proofs.Common.{set}
use Rattle.std.proofs.lemmas.Bool.Decides.{nat_tests}
use Rattle.std.proofs.lemmas.Bool.{cases_eq}
use mathlib.Core.Option.{some, some-injective}
use lib.ListN.{get_elem?}
use Rattle.atomic_table.proofs.Lists.{set_else}
use Rattle.table_steps.proofs.Totals.{total_set}
use Rattle.table_steps.proofs.Views.{get_set, at_most, each_none, zero_notes}
use Rattle.table_steps.proofs.Stepping.{St}

-- nothing is left to do
pub complete_at_rest : (net : NetRows) (limit : ℕ) (w : Readings) (counted : ℕ → ℕ) (journal : List Entry) (T : Coord → ℕ) → Balanced net limit w counted journal T → AtRest (λ c. T (duty c)) → T (duty tickets) ≡ 0 → Complete net limit journal
complete_at_rest net limit w counted journal T b r no_ticket = record {
  none_open = each_below _ (length journal) (λ m below. closed_at journal m (λ t. none_of (is_run journal m t) (omega (arith, b.by_journal.opens m t, r.no_run m t))));
  sources = each_below _ (length net.tasks) (λ t below is. omega (arith, b.by_duties.sources t is below, r.no_source t));
  weak = each_below _ (length net.edges) (λ e below is. let same : used_at net e journal ≡ used_weak e journal = ap (λ w. cond w (used_weak e journal) (option_map_or (λ (q : EdgeRow). used q.to journal) (slice_get net.edges e) 0)) is in
      omega (arith, b.by_edges e, b.by_duties.weaks e is, r.no_weak e, r.no_token e));
  strong = each_below _ (length net.tasks) (λ t below ins. strong_at t ins);
  limited = λ found. omega (arith, no_ticket, b.by_admissions.room, b.by_admissions.full (λ none. found (omega (arith, none))));
}
  where
    all_more : (t : ℕ) (es : List ℕ) → AllByRecursion (λ e. is_strong_into net t e ≡ true) es → AllByRecursion (λ e. used t journal ≤ given net e journal) es
    all_more t [] all = tt
    all_more t (e ∷ es) all = (omega (arith, b.by_edges e, used_at_strong net e t journal all.0), all_more t es all.1)

    strong_at : (t : ℕ) → strong_in net t ≢ [] → used t journal ≡ least (map (λ e. given net e journal) (strong_in net t))
    strong_at t ins =
        let above : 1 ≤ w.join t = nil_pos (w.join t) (sym (b.by_duties.unsets t ins) ∙ r.no_release t) in
        let gap = sum_gap counted (strong_in net t) (omega (arith, b.by_duties.joins t)) in
        let into = is_one (is_strong_into net t gap.at) (omega (arith, times_strong_in net t gap.at, gap.there)) in
        let empty = any_zero (w.edge gap.at) (omega (arith, b.by_duties.states gap.at (into_strong net t gap.at into), gap.clear, r.no_await gap.at)) in
        least_is (λ e. given net e journal) (used t journal) gap.at (strong_in net t) (all_more t (strong_in net t) (all_into net t))
        (omega (arith, b.by_edges gap.at, used_at_strong net gap.at t journal into, empty, r.no_token gap.at)) gap.there

-- where a seat has nothing to do, it counts only what it drew
duty_none : (c : DutyCoord) (x : TurnDuty) → ((m : ℕ) → c ≢ place m) → weight busy (Duty x) ≡ 0 → duty_weight c x ≡ 0
duty_none (place m) (Told n y) apart z = absurd (apart m refl)
duty_none (runs m t) (Told n y) apart z = refl
duty_none running (Told n y) apart z = refl
duty_none tickets (Told n y) apart z = refl
duty_none (token e) (Told n y) apart z = refl
duty_none (source t) (Told n y) apart z = refl
duty_none (weakly e) (Told n y) apart z = refl
duty_none (awaits e) (Told n y) apart z = refl
duty_none (unset t) (Told n y) apart z = refl
duty_none c (Fresh t cause) apart z = absurd (omega arith)
duty_none c (Collecting t cause taken left) apart z = absurd (omega arith)
duty_none c Ticket apart z = absurd (omega arith)
duty_none c (Open n t) apart z = absurd (omega arith)
duty_none c (Owes gives) apart z = absurd (omega arith)
duty_none c (Counting e) apart z = absurd (omega arith)

note_none : (c : DutyCoord) → ((m : ℕ) → c ≢ place m) → (x : Note) → weight busy x ≡ 0 → weight (duty c) x ≡ 0
note_none c apart (Duty x) z = duty_none c x apart z
note_none c apart (Sems k l) z = refl
note_none c apart (Has m) z = refl
note_none c apart (Unfit s n t) z = refl
note_none c apart (Lies k e p) z = refl
note_none c apart (Queued q qs) z = refl

-- All: the step that takes off the last live turn leaves a complete journal
pub all_complete : {S : Type 0} {part : S → List Part} (net : NetRows) (limit : ℕ) (s : St S) (h : KeepsAccounts part net limit s) → total (mark Live) s.views ≡ 0 → Complete net limit h.journal
all_complete net limit s h none = complete_at_rest net limit _ h.counted h.journal (λ c. total c s.views) h.balanced
    (record {
      no_run = λ m t. clear (runs m t) (λ k z. cc);
      no_source = λ t. clear (source t) (λ k z. cc);
      no_token = λ e. clear (token e) (λ k z. cc);
      no_weak = λ e. clear (weakly e) (λ k z. cc);
      no_await = λ e. clear (awaits e) (λ k z. cc);
      no_release = λ t. clear (unset t) (λ k z. cc);
    })
    (clear tickets (λ k z. cc))
  where
    clear : (c : DutyCoord) → ((m : ℕ) → c ≢ place m) → total (duty c) s.views ≡ 0
    clear c apart = each_none (duty c) s.views (λ id v at. zero_notes (duty c) (note_none c apart) v ((h.views id v at).covered (omega (arith, none, at_most (mark Live) s.views id v at))))

-- and the first seat drew all of it
tells_bound : (m : ℕ) (x : Note) → weight telling x ≡ 0 → weight (duty (place m)) x ≡ 0
tells_bound m (Duty (Told n y)) z = absurd (omega arith)
tells_bound m (Duty (Fresh t cause)) z = refl
tells_bound m (Duty (Collecting t cause taken left)) z = refl
tells_bound m (Duty Ticket) z = refl
tells_bound m (Duty (Open n t)) z = refl
tells_bound m (Duty (Owes gives)) z = refl
tells_bound m (Duty (Counting e)) z = refl
tells_bound m (Sems k l) z = refl
tells_bound m (Has q) z = refl
tells_bound m (Unfit s n t) z = refl
tells_bound m (Lies k e p) z = refl
tells_bound m (Queued q qs) z = refl

tells_none : (m : ℕ) (v : List Note) → weigh telling v ≡ 0 → weigh (duty (place m)) v ≡ 0
tells_none m [] z = refl
tells_none m (x ∷ xs) z = omega (arith, tells_bound m x (omega arith), tells_none m xs (omega arith))

pub all_told : {S : Type 0} {part : S → List Part} (net : NetRows) (limit : ℕ) (s : St S) (h : KeepsAccounts part net limit s) (v : List Note) → get_elem? s.views 0 ≡ some v → total (mark Live) s.views ≡ 0 → (m : ℕ) → m < length h.journal → weigh (duty (place m)) v ≡ 1
all_told net limit s h v at none m below =
    let is : nat_lt m (slice_index s.words 8) ≡ true = let c = h.balanced.by_journal.clock in grind (arith, nat_tests, c, below) in
    omega (arith, h.balanced.by_journal.places m, ap one_if is, total_set (duty (place m)) s.views 0 v [] at, each_none (duty (place m)) (set s.views 0 []) (λ id w at_w. others id w at_w (cases_eq id 0)))
  where
    others : (id : ℕ) (w : List Note) → get_elem? (set s.views 0 []) id ≡ some w → (id ≡ 0) ⊎ (id ≢ 0) → weigh (duty (place m)) w ≡ 0
    others id w at_w (inl first) = let is : [] ≡ w = some-injective [] w (sym (get_set s.views 0 [] v at) ∙ sym (ap (get_elem? (set s.views 0 [])) first) ∙ at_w) in ap (weigh (duty (place m))) (sym is)
    others id w at_w (inr far) =
        let there : get_elem? s.views id ≡ some w = sym (set_else s.views 0 id [] far) ∙ at_w in
        tells_none m w ((h.views id w there).told far (omega (arith, none, at_most (mark Live) s.views id w there)))
