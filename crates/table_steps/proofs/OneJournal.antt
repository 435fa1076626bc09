-- The entries that the seats have are those of one journal.
use Rattle.std.proofs.Common.{◌≡◌, ℕ, suc, ◌+◌, Bool, true, cond, List, [], ◌∷◌, ◌++◌, map, refl, ap, ◌∙◌, arith}
use Rattle.std.specs.Prelude.{◌==◌, nat_lt, count_by, flat_map}
use Rattle.std.specs.List.{AllByRecursion}
use Rattle.std.proofs.lemmas.Bool.Decides.{nat_tests}
use Rattle.std.proofs.lemmas.List.Sums.{sum_by-append}
use mathlib.Core.Option.{some}
use lib.ListN.{get_elem?}
use Rattle.atomic_table.specs.Table.{State}
use Rattle.atomic_table.proofs.Lists.{at_map}
use Rattle.task_graph.specs.NetRows.{NetRows}
use Rattle.journal_rules.specs.declared.entry.Entry.{Entry}
use Rattle.journal_rules.specs.declared.entry.Part.{Part}
use Rattle.join_words.specs.declared.ins.Given.{Given}
use Rattle.table_steps.specs.Giving.{one_if}
use Rattle.table_steps.specs.OneJournal.{told_by, entries_in, HasEntry, AreInOneJournal, AreOneJournal, drawn_count, seats_entries}
use Rattle.table_steps.specs.declared.view.TurnDuty.TheVariants.{Told, Fresh, Collecting, Ticket, Open, Owes, Counting}
use Rattle.table_steps.specs.declared.view.Note.{Note}
use Rattle.table_steps.specs.declared.view.Note.TheVariants.{Duty, Sems, Has, Unfit, Lies, Queued}
use Rattle.table_steps.specs.declared.view.SeatView.{SeatView}
use Rattle.table_steps.specs.inside.Duties.{place}
use Rattle.table_steps.specs.inside.Accounts.{duty, weight, weigh, total, Stands, AllStand, KeepsAccounts}
use Rattle.table_steps.specs.inside.ValueAccounts.{KeepsTable}
use Rattle.table_steps.proofs.Journals.{count_cons}
use Rattle.table_steps.proofs.Stepping.{St}

-- EACH AT ITS INDEX
both_there : (journal : List Entry) (xs ys : List (ℕ × Entry)) → AllByRecursion (HasEntry journal) xs → AllByRecursion (HasEntry journal) ys → AllByRecursion (HasEntry journal) (xs ++ ys)
both_there journal [] ys front back = back
both_there journal (x ∷ xs) ys front back = (front.0, both_there journal xs ys front.1 back)

told_there : (net : NetRows) (journal : List Entry) (x : Note) → Stands net journal x → AllByRecursion (HasEntry journal) (told_by x)
told_there net journal (Duty (Told n x)) stands = (stands, tt)
told_there net journal (Duty (Fresh t cause)) stands = tt
told_there net journal (Duty (Collecting t cause taken left)) stands = tt
told_there net journal (Duty Ticket) stands = tt
told_there net journal (Duty (Open n t)) stands = tt
told_there net journal (Duty (Owes gives)) stands = tt
told_there net journal (Duty (Counting e)) stands = tt
told_there net journal (Sems k l) stands = tt
told_there net journal (Has k) stands = tt
told_there net journal (Unfit s n t) stands = tt
told_there net journal (Lies k e p) stands = tt
told_there net journal (Queued q qs) stands = tt

entries_there : (net : NetRows) (journal : List Entry) (v : List Note) → AllStand net journal v → AllByRecursion (HasEntry journal) (entries_in v)
entries_there net journal [] stand = tt
entries_there net journal (x ∷ xs) stand = both_there journal (told_by x) (entries_in xs) (told_there net journal x stand.0) (entries_there net journal xs stand.1)

-- those of one seat
pub in_journal : {S : Type 0} {part : S → List Part} (net : NetRows) (limit : ℕ) (s : St S) (h : KeepsAccounts part net limit s) (id : ℕ) (v : List Note) → get_elem? s.views id ≡ some v → AreInOneJournal net limit (entries_in v)
in_journal net limit s h id v at = record { journal = h.journal; legal = h.balanced.by_journal.legal; meets = h.slots.parts.meets; stand = entries_there net h.journal v (h.views id v at).stand }

-- EACH ONCE
abbrev is_at : ℕ → ℕ × Entry → Bool
is_at m e = e.0 == m

count_both : (m : ℕ) (xs ys : List (ℕ × Entry)) → count_by (is_at m) (xs ++ ys) ≡ count_by (is_at m) xs + count_by (is_at m) ys
count_both m xs ys = sum_by-append (λ e. cond (is_at m e) 1 0) xs ys

told_count : (m : ℕ) (x : Note) → count_by (is_at m) (told_by x) ≡ weight (duty (place m)) x
told_count m (Duty (Told n x)) = omega (arith, count_cons (is_at m) (n, x) [])
told_count m (Duty (Fresh t cause)) = refl
told_count m (Duty (Collecting t cause taken left)) = refl
told_count m (Duty Ticket) = refl
told_count m (Duty (Open n t)) = refl
told_count m (Duty (Owes gives)) = refl
told_count m (Duty (Counting e)) = refl
told_count m (Sems k l) = refl
told_count m (Has k) = refl
told_count m (Unfit s n t) = refl
told_count m (Lies k e p) = refl
told_count m (Queued q qs) = refl

seat_count : (m : ℕ) (v : List Note) → count_by (is_at m) (entries_in v) ≡ weigh (duty (place m)) v
seat_count m [] = refl
seat_count m (x ∷ xs) = count_both m (told_by x) (entries_in xs) ∙ (λ i. told_count m x i + seat_count m xs i)

module _ {V : Type 0} where
  seats_count : (m : ℕ) (views : List (SeatView V)) → count_by (is_at m) (flat_map (λ (v : SeatView V). entries_in v.notes) views) ≡ total (duty (place m)) (map (λ (v : SeatView V). v.notes) views)
  seats_count m [] = refl
  seats_count m (v ∷ vs) = count_both m (entries_in v.notes) (flat_map (λ (u : SeatView V). entries_in u.notes) vs) ∙ (λ i. seat_count m v.notes i + seats_count m vs i)

  seats_there : (journal : List Entry) (views : List (SeatView V)) → ((id : ℕ) (v : SeatView V) → get_elem? views id ≡ some v → AllByRecursion (HasEntry journal) (entries_in v.notes))
      → AllByRecursion (HasEntry journal) (flat_map (λ (v : SeatView V). entries_in v.notes) views)
  seats_there journal [] each = tt
  seats_there journal (v ∷ vs) each = both_there journal (entries_in v.notes) (flat_map (λ (u : SeatView V). entries_in u.notes) vs) (each 0 v refl) (seats_there journal vs (λ id w at. each (suc id) w at))

  -- those of all seats
  pub entries_are_one : (net : NetRows) (limit : ℕ) (s : State (List (Given V)) (SeatView V)) → KeepsTable net limit s → AreOneJournal net limit (drawn_count s) (seats_entries s)
  entries_are_one net limit s h = let a = h.accounts in let j = a.balanced.by_journal in record {
    within = record {
      journal = a.journal;
      legal = j.legal;
      meets = a.slots.parts.meets;
      stand = seats_there a.journal s.views (λ id v at. entries_there net a.journal v.notes (a.views id v.notes (at_map (λ (u : SeatView V). u.notes) s.views id v at)).stand);
    };
    size = j.clock;
    once = λ m below. let is : nat_lt m (drawn_count s) ≡ true = grind (arith, nat_tests, below) in seats_count m s.views ∙ j.places m ∙ ap one_if is;
  }
