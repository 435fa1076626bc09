-- The accounts hold when a table begins.
use Rattle.std.proofs.Common.{◌≡◌, ◌≢◌, ℕ, zero, suc, ◌+◌, ◌<◌, ◌≤◌, List, [], ◌∷◌, ◌++◌, length, refl, sym, ap, subst, arith}
use Rattle.std.specs.Prelude.{nat_lt, false}
use Rattle.std.proofs.lemmas.Bool.Decides.{nat_tests}
use Rattle.task_graph.specs.NetRows.{NetRows}
use Rattle.task_graph.specs.Net.{in_edges, strong_in}
use Rattle.journal_rules.specs.declared.entry.Cause.TheVariants.{Source, Strong, Weak}
use Rattle.journal_rules.specs.Counts.{first_tokens}
use Rattle.table_steps.specs.Releases.{MayBeReleased}
use Rattle.table_steps.specs.declared.view.TurnDuty.{TurnDuty}
use Rattle.table_steps.specs.declared.view.TurnDuty.TheVariants.{Told, Fresh, Collecting, Ticket, Open, Owes, Counting}
use Rattle.table_steps.specs.inside.Duties.{DutyCoord, duty_weigh, EdgePart, DutyPart, place, runs, running, tickets}
use Rattle.table_steps.specs.Giving.{one_if}
use Rattle.table_steps.specs.inside.Opening.{count_without_token, is_empty, source_duties, full_duties, first_duties}
use Rattle.table_steps.proofs.OpeningDuties.{begins}
use Rattle.table_steps.specs.declared.view.SemaphoreRole.{SemaphoreRole}
use Rattle.table_steps.specs.declared.view.SemaphoreRole.TheVariants.{Held, Undo, Owed, Both, Credit, Credited, Claim, Granted, Refusing, Denied, Full}
use Rattle.table_steps.specs.declared.view.SeatMark.TheVariants.{Live, New, Over, ToMark, Quiet}
use Rattle.table_steps.specs.inside.Accounts.{Coord, duty, sem, mark, busy, resting, turning, owing, weigh, AllStand, Readings, Balanced, HaltPart, FitsPlan, ViewPart, first_notes}
use Rattle.table_steps.specs.Credits.{first_credit}
use Rattle.journal_rules.specs.declared.entry.Part.{Part}
use Rattle.journal_rules.specs.declared.entry.Part.TheVariants.{From, First}
use Rattle.table_steps.specs.declared.view.Lot.TheVariants.{Ours, Putting, Put, Awaited, Taking, Fetched, Found}
use Rattle.table_steps.specs.inside.Opening.{parts_of_tokens, first_queue}
use Rattle.table_steps.specs.inside.Parcels.{part_times}
use Rattle.table_steps.specs.inside.Slots.{SlotCoord, parcel, lot, queue, owed, collected, left_at, lying, SlotPart}
use Rattle.table_steps.proofs.DataParts.{part_apart, first_once}

-- first releases, each of the net
abbrev pub AreFirst : NetRows → List TurnDuty → Type 0
AreFirst net [] = Unit {0}
AreFirst net (Fresh t cause ∷ xs) = MayBeReleased net t cause × AreFirst net xs
AreFirst net _ = ⊥

both_first : (net : NetRows) (xs ys : List TurnDuty) → AreFirst net xs → AreFirst net ys → AreFirst net (xs ++ ys)
both_first net [] ys a b = b
both_first net (Fresh t cause ∷ xs) ys a b = (a.0, both_first net xs ys a.1 b)
both_first net (Told n y ∷ xs) ys a b = absurd a
both_first net (Collecting t c k l ∷ xs) ys a b = absurd a
both_first net (Ticket ∷ xs) ys a b = absurd a
both_first net (Open n t ∷ xs) ys a b = absurd a
both_first net (Owes g ∷ xs) ys a b = absurd a
both_first net (Counting e ∷ xs) ys a b = absurd a

pub are_first : (net : NetRows) (t n : ℕ) → t + n ≤ length net.tasks → AreFirst net (first_duties net t n)
are_first net t zero below = tt
are_first net t (suc n) below =
    both_first net (source_duties t (is_empty (in_edges net t)) ++ full_duties t (strong_in net t) (count_without_token net (strong_in net t))) (first_duties net (suc t) n)
    (both_first net (source_duties t (is_empty (in_edges net t))) (full_duties t (strong_in net t) (count_without_token net (strong_in net t))) (of_source (in_edges net t) refl) (of_full (strong_in net t) refl (count_without_token net (strong_in net t))))
    (are_first net (suc t) n (omega arith))
  where
    of_source : (es : List ℕ) → in_edges net t ≡ es → AreFirst net (source_duties t (is_empty es))
    of_source [] is = (record { in_tasks = omega arith; in_range = tt; fits = is }, tt)
    of_source (e ∷ es) is = tt

    of_full : (es : List ℕ) → strong_in net t ≡ es → (k : ℕ) → AreFirst net (full_duties t es k)
    of_full [] is k = tt
    of_full (e ∷ es) is zero = (record { in_tasks = omega arith; in_range = tt; fits = λ none. absurd (cc) }, tt)
    of_full (e ∷ es) is (suc k) = tt

duty_same : (c : DutyCoord) (xs : List TurnDuty) → weigh (duty c) (first_notes xs) ≡ duty_weigh c xs
duty_same c [] = refl
duty_same c (x ∷ xs) = omega (arith, duty_same c xs)

no_sem : (k : SemaphoreRole) (s : ℕ) (xs : List TurnDuty) → weigh (sem k s) (first_notes xs) ≡ 0
no_sem k s [] = refl
no_sem k s (x ∷ xs) = omega (arith, no_sem k s xs)

no_rest : (xs : List TurnDuty) → weigh resting (first_notes xs) ≡ 0
no_rest [] = refl
no_rest (x ∷ xs) = omega (arith, no_rest xs)

record Marks (net : NetRows) (xs : List TurnDuty) : Type 0 where
  pub live : weigh (mark Live) (first_notes xs) ≡ length xs
  pub new : weigh (mark New) (first_notes xs) ≡ 0
  pub over : weigh (mark Over) (first_notes xs) ≡ 0
  pub to_mark : weigh (mark ToMark) (first_notes xs) ≡ 0
  pub quiet : weigh (mark Quiet) (first_notes xs) ≡ 0
  pub turning_is : weigh turning (first_notes xs) ≡ length xs
  pub owing_is : weigh owing (first_notes xs) ≡ 0
  pub stand : AllStand net [] (first_notes xs)

marks_of : (net : NetRows) (xs : List TurnDuty) → AreFirst net xs → Marks net xs
marks_of net [] a = record { live = refl; new = refl; over = refl; to_mark = refl; quiet = refl; turning_is = refl; owing_is = refl; stand = tt }
marks_of net (Fresh t cause ∷ xs) a = let m = marks_of net xs a.1 in record {
  live = omega (arith, m.live);
  new = omega (arith, m.new);
  over = omega (arith, m.over);
  to_mark = omega (arith, m.to_mark);
  quiet = omega (arith, m.quiet);
  turning_is = omega (arith, m.turning_is);
  owing_is = omega (arith, m.owing_is);
  stand = (a.0, (tt, m.stand));
}
marks_of net (Told n y ∷ xs) a = absurd a
marks_of net (Collecting t c k l ∷ xs) a = absurd a
marks_of net (Ticket ∷ xs) a = absurd a
marks_of net (Open n t ∷ xs) a = absurd a
marks_of net (Owes g ∷ xs) a = absurd a
marks_of net (Counting e ∷ xs) a = absurd a

pub opening_balanced : (net : NetRows) (limit : ℕ) (w : Readings) → FitsPlan net limit → w.clock ≡ 0 → w.live ≡ length (first_duties net 0 (length net.tasks)) → w.admitted ≡ 0 → w.halt ≡ 0 → ((s : ℕ) → s < length net.sems → w.unit s ≡ 0) → ((s : ℕ) → s < length net.sems → w.credit s ≡ first_credit)
    → ((e : ℕ) → w.edge e ≡ first_tokens net e) → ((t : ℕ) → w.join t ≡ count_without_token net (strong_in net t)) → Balanced net limit w (first_tokens net) [] (λ c. weigh c (first_notes (first_duties net 0 (length net.tasks))) + 0)
opening_balanced net limit w fits clock live admitted halt units credits edges joins =
    let xs = first_duties net 0 (length net.tasks) in
    let m = marks_of net xs (are_first net 0 (length net.tasks) (omega arith)) in
    let b = begins net w.edge w.join fits.rows edges joins in
    let same : ◌≡◌ {A = DutyCoord → ℕ} (λ c. duty_weigh c xs) (λ c. weigh (duty c) (first_notes xs) + 0) = λ i c. plus_none c i in record {
      by_journal = record {
        clock = clock;
        legal = tt;
        places = λ k. let no : nat_lt k w.clock ≡ false = grind (arith, nat_tests, clock) in omega (arith, b.no_place k, duty_same (place k) xs, ap one_if no);
        opens = λ k t. omega (arith, b.no_run k t, duty_same (runs k t) xs);
        size = omega (arith, b.none_running, duty_same running xs);
        unclosed = λ k past. refl;
      };
      by_edges = subst (λ (f : DutyCoord → ℕ). EdgePart net w.edge [] f) same b.by_edges;
      by_duties = subst (λ (f : DutyCoord → ℕ). DutyPart net w.edge w.join (first_tokens net) [] f) same b.by_duties;
      by_admissions = record { drawn = omega (arith, admitted, m.over, tickets_none xs (are_first net 0 (length net.tasks) (omega arith))); room = omega (arith, tickets_none xs (are_first net 0 (length net.tasks) (omega arith))); full = λ more. absurd (more (omega (arith, m.over))) };
      by_live = omega (arith, live, m.live);
      by_turns = record { turns = omega (arith, m.live, m.new, m.turning_is); ended = omega (arith, m.owing_is) };
      by_units = λ s below. record { tells = omega (arith, units s below, no_sem Held s xs, no_sem Owed s xs, no_sem Undo s xs); within = omega (arith, no_sem Held s xs, no_sem Owed s xs) };
      by_credits = λ s below. record {
        tells = omega (arith, credits s below, no_sem Granted s xs, no_sem Refusing s xs, no_sem Both s xs, no_sem Credit s xs);
        backed = omega (arith, no_sem Granted s xs, no_sem Both s xs, no_sem Credit s xs);
        claims = omega (arith, no_sem Both s xs, no_sem Claim s xs, no_sem Granted s xs, no_sem Refusing s xs, no_sem Denied s xs);
        takers = omega (arith, no_sem Credit s xs, no_sem Credited s xs);
      };
      by_halt = subst (λ k. HaltPart k [] (λ c. weigh c (first_notes xs) + 0)) (sym halt) (omega (arith, m.to_mark));
      by_stuck = λ more. absurd (more refl);
    }
  where
    plus_none : (c : DutyCoord) → duty_weigh c (first_duties net 0 (length net.tasks)) ≡ weigh (duty c) (first_notes (first_duties net 0 (length net.tasks))) + 0
    plus_none c = omega (arith, duty_same c (first_duties net 0 (length net.tasks)))

    tickets_none : (xs : List TurnDuty) → AreFirst net xs → weigh (duty tickets) (first_notes xs) ≡ 0
    tickets_none [] a = refl
    tickets_none (Fresh t Source ∷ xs) a = omega (arith, tickets_none xs a.1)
    tickets_none (Fresh t Strong ∷ xs) a = omega (arith, tickets_none xs a.1)
    tickets_none (Fresh t (Weak e) ∷ xs) a = omega (arith, tickets_none xs a.1)
    tickets_none (Told n y ∷ xs) a = absurd a
    tickets_none (Collecting t c k l ∷ xs) a = absurd a
    tickets_none (Ticket ∷ xs) a = absurd a
    tickets_none (Open n t ∷ xs) a = absurd a
    tickets_none (Owes g ∷ xs) a = absurd a
    tickets_none (Counting e ∷ xs) a = absurd a

-- and the first seat is as the rule says
pub opening_view : (net : NetRows) (T : Coord → ℕ) → ViewPart net [] T 0 (first_notes (first_duties net 0 (length net.tasks)))
opening_view net T = let xs = first_duties net 0 (length net.tasks) in let m = marks_of net xs (are_first net 0 (length net.tasks) (omega arith)) in record {
  stand = m.stand;
  covered = λ none. empty_busy xs (omega (arith, none, m.live));
  told = λ far none. absurd (far refl);
  alone = λ more. absurd (more (no_rest xs));
  quiet = λ more. absurd (more m.quiet);
  full = λ s more. absurd (more (no_sem Full s xs));
}
  where
    empty_busy : (xs : List TurnDuty) → length xs ≡ 0 → weigh busy (first_notes xs) ≡ 0
    empty_busy [] h = refl
    empty_busy (x ∷ xs) h = absurd (omega arith)

-- In each slot lies the token with which its edge begins, or nothing.
pub opening_slots : (net : NetRows) (edge : ℕ → ℕ) (T : SlotCoord → ℕ) (label : ℕ → List Part) → ((c : SlotCoord) → T c ≡ 0) → ((e : ℕ) → edge e ≡ first_tokens net e) → ((e : ℕ) → label e ≡ first_queue net e) → SlotPart net [] edge T label
opening_slots net edge T label none edges labels = record {
  parts = record {
    meets = tt;
    froms = λ e n. omega (arith, none (parcel e (From n)), lie e (From n), not_from (first_tokens net e) n);
    firsts = λ e. omega (arith, none (parcel e First), lie e First, are_first_tokens e);
    stale = λ e calm p other. omega (arith, none (parcel e p), lie e p, first_alone (first_tokens net e) p other);
    due = λ e calm. omega (arith, none (lot Fetched e), none (lot Put e), edges e, lie e First, are_first_tokens e);
  };
  owing = λ e. omega (arith, none (lot Ours e), none (lot Putting e), none (lot Put e), none (owed e));
  reached = λ e. omega (arith, none (lot Awaited e), none (lot Taking e), none (lot Fetched e), none (left_at e));
  found = λ e. omega (arith, none (lot Found e), none (collected e));
  held = λ e. omega (arith, none (queue (λ qs. 1) e), none (lot Putting e), none (lot Taking e));
  few = λ e. omega (arith, none (queue length e), none (lot Ours e), none (lot Putting e), ap length (labels e), as_many (first_tokens net e) (first_once net e));
}
  where
    lie : (e : ℕ) (p : Part) → lying T label e p ≡ part_times p (first_queue net e)
    lie e p = omega (arith, none (queue (part_times p) e), ap (part_times p) (labels e))

    not_from : (k n : ℕ) → part_times (From n) (parts_of_tokens k) ≡ 0
    not_from zero n = refl
    not_from (suc k) n = refl

    first_alone : (k : ℕ) (p : Part) → p ≢ First → part_times p (parts_of_tokens k) ≡ 0
    first_alone zero p other = refl
    first_alone (suc k) p other = omega (arith, ap one_if (part_apart First p (λ is. other (sym is))))

    as_many : (k : ℕ) → k ≤ 1 → length (parts_of_tokens k) ≡ k
    as_many zero few = refl
    as_many (suc zero) few = refl
    as_many (suc (suc k)) few = absurd (omega arith)

    by_tokens : (k : ℕ) → k ≤ 1 → part_times First (parts_of_tokens k) ≡ k
    by_tokens zero few = refl
    by_tokens (suc zero) few = refl
    by_tokens (suc (suc k)) few = absurd (omega arith)

    are_first_tokens : (e : ℕ) → part_times First (first_queue net e) ≡ first_tokens net e
    are_first_tokens e = by_tokens (first_tokens net e) (first_once net e)
