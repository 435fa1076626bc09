-- A Start drawn keeps the accounts.
use Rattle.std.proofs.Common.{◌≡◌, ℕ, zero, suc, ◌+◌, ◌<◌, ◌≤◌, Bool, true, false, not, ◌&&◌, cond, eqb, List, [], ◌∷◌, ◌++◌, length, refl, sym, ap, ◌∙◌, subst, arith, get_or}
use Rattle.std.specs.Prelude.{slice_get, count_by}
use Rattle.std.specs.Option.{option_map_or}
use Rattle.std.proofs.lemmas.List.{length_push}
use Rattle.std.proofs.lemmas.List.Elements.{recursion_from_All}
use Rattle.task_graph.specs.NetRows.{NetRows}
use Rattle.task_graph.specs.Net.{strong_in}
use Rattle.task_graph.specs.declared.net.EdgeRow.{EdgeRow}
use Rattle.journal_rules.specs.declared.entry.Cause.{Cause}
use Rattle.journal_rules.specs.declared.entry.Cause.TheVariants.{Source, Strong, Weak}
use Rattle.journal_rules.specs.declared.entry.Entry.{Entry}
use Rattle.journal_rules.specs.declared.entry.Entry.TheVariants.{Start}
use Rattle.journal_rules.specs.declared.entry.Part.{Part}
use Rattle.journal_rules.specs.Counts.{given, used, used_weak, closes, is_start, is_fault, started}
use Rattle.journal_rules.specs.Calm.{used_at}
use Rattle.journal_rules.specs.DataRule.{edges_of}
use Rattle.journal_rules.specs.ReleaseRule.{IsReleased}
use Rattle.journal_rules.specs.HaltLimitStuckRule.{is_stuck}
use Rattle.journal_rules.specs.SemaphoreRule.{takes, puts}
use Rattle.journal_rules.specs.Complete.{is_limited}
use Rattle.journal_rules.specs.ShapeLegal.{MayFollow}
use Rattle.journal_rules.proofs.Snoc.{count_by_push, EachAfter-push}
use Rattle.journal_rules.proofs.Tallying.{count_by_push_no, count_by_push_yes}
use Rattle.table_steps.specs.Releases.{MayBeReleased}
use Rattle.table_steps.specs.declared.view.TurnDuty.TheVariants.{Told, Collecting, Ticket, Open}
use Rattle.table_steps.specs.inside.Duties.{DutyCoord, place, runs, running, tickets, token, source, is_run, EdgePart, DutyPart, DutyMoves}
use Rattle.table_steps.specs.Giving.{one_if, times}
use Rattle.table_steps.proofs.Counting.{times_at, times_strong_in, is_strong_into, used_at_strong, is_one, run_start}
use Rattle.table_steps.proofs.StartDuties.{one_self, below_more, start_edges, start_duties}
use Rattle.table_steps.specs.declared.view.SemaphoreRole.TheVariants.{Held, Undo, Owed, Both, Credit, Credited, Claim, Granted, Refusing, Denied}
use Rattle.table_steps.specs.declared.view.SeatMark.TheVariants.{Live, New, Over, ToMark}
use Rattle.table_steps.specs.declared.view.Note.TheVariants.{Duty}
use Rattle.table_steps.specs.inside.Accounts.{Coord, duty, sem, mark, turning, owing, weigh, is_last, HaltPart, Readings, Balanced, with_clock, is_drop, starts_of, only_takes, only_puts, takes_and_puts}
use Rattle.table_steps.proofs.Journals.{back_push, closed_still}
use Rattle.table_steps.proofs.Units.{Units}
use Rattle.table_steps.proofs.Credits.{Credits}
use Rattle.table_steps.proofs.Within.{all_within}

-- what a step moves that draws a Start: a release and a ticket are used, and units held are out
pub record StartMoves (net : NetRows) (n : ℕ) (x : Entry) (t : ℕ) (cause : Cause) (T T' : Coord → ℕ) : Type 0 where
  pub duties : (c : DutyCoord) → T' (duty c) + weigh (duty c) (Duty (Collecting t cause (edges_of net t cause) []) ∷ Duty Ticket ∷ []) ≡ T (duty c) + weigh (duty c) (Duty (Open n t) ∷ Duty (Told n x) ∷ [])
  pub held : (s : ℕ) → T' (sem Held s) + one_if (takes net s t) ≡ T (sem Held s)
  pub undo : (s : ℕ) → T' (sem Undo s) ≡ T (sem Undo s)
  pub owed : (s : ℕ) → T' (sem Owed s) ≡ T (sem Owed s)
  pub both : (s : ℕ) → T' (sem Both s) ≡ T (sem Both s) + one_if (takes_and_puts net s t)
  pub credit : (s : ℕ) → T' (sem Credit s) ≡ T (sem Credit s) + one_if (only_takes net s t)
  pub credited : (s : ℕ) → T' (sem Credited s) ≡ T (sem Credited s)
  pub claim : (s : ℕ) → T' (sem Claim s) ≡ T (sem Claim s) + one_if (only_puts net s t)
  pub granted : (s : ℕ) → T' (sem Granted s) ≡ T (sem Granted s)
  pub refusing : (s : ℕ) → T' (sem Refusing s) ≡ T (sem Refusing s)
  pub denied : (s : ℕ) → T' (sem Denied s) ≡ T (sem Denied s)
  pub live : T' (mark Live) ≡ T (mark Live)
  pub new : T' (mark New) ≡ T (mark New)
  pub over : T' (mark Over) ≡ T (mark Over)
  pub to_mark : T' (mark ToMark) ≡ T (mark ToMark)
  pub turning_is : T' turning ≡ T turning
  pub owing_is : T' owing ≡ T owing

taken_is : (p q : Bool) → one_if p ≡ one_if (p && q) + one_if (p && not q)
taken_is true true = refl
taken_is true false = refl
taken_is false q = refl

put_is : (p q : Bool) → one_if q ≡ one_if (p && q) + one_if (q && not p)
put_is true true = refl
put_is true false = refl
put_is false true = refl
put_is false false = refl

units_start : (net : NetRows) (unit : ℕ → ℕ) (n : ℕ) (journal : List Entry) (T T' : Coord → ℕ) (t : ℕ) (cause : Cause) (ins : List Part) → ((m : ℕ) → length journal ≤ m → count_by (closes m) journal ≡ 0) → Units net unit journal T
    → StartMoves net n (Start t cause ins) t cause T T' → Units net unit (journal ++ Start t cause ins ∷ []) T'
units_start net unit n journal T T' t cause ins unclosed u moved s below = let x = Start t cause ins in
    let more = count_by_push (λ y. option_map_or (takes net s) (started y) false) journal x in record {
      tells = omega (arith, (u s below).tells, more, back_push net s journal x unclosed, moved.held s, moved.owed s, moved.undo s);
      within = omega (arith, (u s below).within, more, back_push net s journal x unclosed, moved.held s, moved.owed s);
    }

credits_start : (net : NetRows) (word : ℕ → ℕ) (n : ℕ) (journal : List Entry) (T T' : Coord → ℕ) (t : ℕ) (cause : Cause) (ins : List Part) → ((m : ℕ) → length journal ≤ m → count_by (closes m) journal ≡ 0) → Credits net word journal T
    → StartMoves net n (Start t cause ins) t cause T T' → Credits net word (journal ++ Start t cause ins ∷ []) T'
credits_start net word n journal T T' t cause ins unclosed k moved s below = let x = Start t cause ins in
    let more : (test : ℕ → Bool) → starts_of test (journal ++ x ∷ []) ≡ starts_of test journal + one_if (test t) = λ test. count_by_push (λ y. option_map_or test (started y) false) journal x in
    let back_is = back_push net s journal x unclosed in
    let t_is = taken_is (takes net s t) (puts net s t) in record {
      tells = omega (arith, (k s below).tells, more (takes net s), back_is, t_is, moved.granted s, moved.refusing s, moved.both s, moved.credit s);
      backed = omega (arith, (k s below).backed, more (takes net s), back_is, t_is, moved.granted s, moved.both s, moved.credit s);
      claims = omega (arith, (k s below).claims, more (puts net s), back_is, put_is (takes net s t) (puts net s t), moved.both s, moved.claim s, moved.granted s, moved.refusing s, moved.denied s);
      takers = omega (arith, (k s below).takers, more (only_takes net s), closed_still net s journal x (λ m. refl) unclosed, moved.credit s, moved.credited s);
    }

-- what the seat holds is a release that may be used
pub released : (net : NetRows) (edge join counted : ℕ → ℕ) (journal : List Entry) (T : DutyCoord → ℕ) (t : ℕ) (cause : Cause) → EdgePart net edge journal T → DutyPart net edge join counted journal T → MayBeReleased net t cause
    → ((e : ℕ) → times e (edges_of net t cause) ≤ T (token e)) → (cause ≡ Source → 1 ≤ T (source t)) → IsReleased net journal t cause
released net edge join counted journal T t Source b d may has own = (may.fits, omega (arith, d.sources t may.fits may.in_tasks, own refl))
released net edge join counted journal T t Strong b d may has own = (may.fits, recursion_from_All _ (strong_in net t) each)
  where
    each : (k z : ℕ) → k < length (strong_in net t) → used t journal + 1 ≤ given net (get_or (strong_in net t) k z) journal
    each k z below =
        let e = get_or (strong_in net t) k z in
        let same : used_at net e journal ≡ used t journal = used_at_strong net e t journal (is_one (is_strong_into net t e) (omega (arith, times_strong_in net t e, times_at (strong_in net t) k z below))) in
        omega (arith, b e, has e, times_at (strong_in net t) k z below)
released net edge join counted journal T t (Weak e) b d may has own =
    let same : used_at net e journal ≡ used_weak e journal = ap (λ w. cond w (used_weak e journal) (option_map_or (λ (r : EdgeRow). used r.to journal) (slice_get net.edges e) 0)) may.fits.0 in
    (may.fits.0, may.fits.1, omega (arith, b e, has e, one_self e))

pub start_kept : (net : NetRows) (limit : ℕ) (w : Readings) (counted : ℕ → ℕ) (journal : List Entry) (T T' : Coord → ℕ) (t : ℕ) (cause : Cause) (ins : List Part)
    → Balanced net limit w counted journal T → MayBeReleased net t cause → count_by is_stuck journal ≡ 0
    → StartMoves net w.clock (Start t cause ins) t cause T T' → Balanced net limit (with_clock w (suc w.clock)) counted (journal ++ Start t cause ins ∷ []) T'
start_kept net limit w counted journal T T' t cause ins b may none_stuck moved =
    let x = Start t cause ins in let j = b.by_journal in
    let duties_moved : DutyMoves (λ c. T (duty c)) (Collecting t cause (edges_of net t cause) [] ∷ Ticket ∷ []) (λ c. T' (duty c)) (Open w.clock t ∷ Told w.clock x ∷ []) = λ c. omega (arith, moved.duties c) in
    let units = units_start net w.unit w.clock journal T T' t cause ins j.unclosed b.by_units moved in
    let credits = credits_start net w.credit w.clock journal T T' t cause ins j.unclosed b.by_credits moved in
    let started_more = count_by_push_yes is_start journal x refl in
    let unlimited = count_by_push_no is_limited journal x refl in
    record {
      by_journal = record {
        clock = omega (arith, j.clock, length_push journal x);
        legal = EachAfter-push (MayFollow net limit) journal x j.legal (record {
          in_range = (may.in_tasks, may.in_range);
          release = released net w.edge w.join counted journal (λ c. T (duty c)) t cause b.by_edges b.by_duties may (λ e. omega (arith, moved.duties (token e))) (λ is. at_source cause is (moved.duties (source t)));
          closing = tt;
          choice = tt;
          semaphore = record { within = all_within net w.unit w.credit (journal ++ x ∷ []) T' units credits; over = tt };
          halt_limit_stuck = record { dropped = omega (arith, b.by_admissions.room, moved.duties tickets); after_stuck = λ _. none_stuck };
        });
        places = λ m. omega (arith, j.places m, moved.duties (place m), below_more w.clock m);
        opens = λ m s. omega (arith, j.opens m s, moved.duties (runs m s), subst (λ k. one_if (is_run (journal ++ x ∷ []) m s) ≡ one_if (is_run journal m s) + one_if (eqb k m && eqb t s)) (sym j.clock) (run_start journal t cause ins m s j.unclosed));
        size = omega (arith, j.size, moved.duties running, length_push journal x, started_more, count_by_push_no is_drop journal x refl);
        unclosed = λ m past. count_by_push_no (closes m) journal x refl ∙ j.unclosed m (omega (arith, length_push journal x));
      };
      by_edges = start_edges net w.clock w.edge journal _ _ t cause ins b.by_edges may duties_moved;
      by_duties = start_duties net w.clock w.edge w.join counted journal _ _ t cause ins b.by_duties duties_moved;
      by_admissions = record {
        drawn = omega (arith, b.by_admissions.drawn, started_more, unlimited, moved.duties tickets, moved.over);
        room = omega (arith, b.by_admissions.room, started_more, moved.duties tickets);
        full = λ some. omega (arith, started_more, moved.duties tickets, b.by_admissions.full (λ none. some (omega (arith, none, unlimited, moved.over))));
      };
      by_live = omega (arith, b.by_live, moved.live);
      by_turns = record { turns = omega (arith, b.by_turns.turns, moved.live, moved.new, moved.turning_is); ended = omega (arith, b.by_turns.ended, moved.owing_is, count_by_push_no is_last journal x refl) };
      by_units = units;
      by_credits = credits;
      by_halt = halt_same w.halt b.by_halt;
      by_stuck = λ some. absurd (some (count_by_push_no is_stuck journal x refl ∙ none_stuck));
    }
  where
    at_source : (c : Cause) → c ≡ Source → T' (duty (source t)) + weigh (duty (source t)) (Duty (Collecting t c (edges_of net t c) []) ∷ Duty Ticket ∷ []) ≡ T (duty (source t)) + weigh (duty (source t)) (Duty (Open w.clock t) ∷ Duty (Told w.clock (Start t c ins)) ∷ []) → 1 ≤ T (duty (source t))
    at_source Source is moved_there = omega (arith, moved_there, one_self t)
    at_source Strong is moved_there = absurd (cc)
    at_source (Weak e) is moved_there = absurd (cc)

    halt_same : (h : ℕ) → HaltPart h journal T → HaltPart h (journal ++ Start t cause ins ∷ []) T'
    halt_same zero is = omega (arith, is, count_by_push_no is_fault journal (Start t cause ins) refl, moved.to_mark)
    halt_same (suc h) is = omega (arith, is, count_by_push_no is_fault journal (Start t cause ins) refl)
