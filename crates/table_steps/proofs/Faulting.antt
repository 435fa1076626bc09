-- A Fault drawn keeps the accounts.
use Rattle.std.proofs.Common.{◌≡◌, ℕ, zero, suc, ◌+◌, ◌<◌, ◌≤◌, Bool, true, false, ◌&&◌, eqb, List, [], ◌∷◌, ◌++◌, length, refl, ap, ◌∙◌, arith}
use Rattle.std.specs.Prelude.{count_by}
use Rattle.std.specs.Option.{option_map_or}
use Rattle.std.proofs.lemmas.Bool.Decides.{nat_tests}
use Rattle.std.proofs.lemmas.Bool.{and_parts}
use Rattle.std.proofs.lemmas.List.{length_push}
use Rattle.std.specs.Prelude.{is_some, ◌==◌}
use Rattle.task_graph.specs.NetRows.{NetRows}
use Rattle.journal_rules.specs.declared.entry.Entry.{Entry}
use Rattle.journal_rules.specs.declared.entry.Entry.TheVariants.{Fault}
use Rattle.journal_rules.specs.declared.entry.Why.{Why}
use Rattle.journal_rules.specs.Counts.{closes, is_start, is_fault, is_open, start_at, started, uses, uses_any, is_source, is_strong, is_weak_at}
use Rattle.journal_rules.specs.Calm.{used_at}
use Rattle.journal_rules.specs.HaltLimitStuckRule.{is_stuck}
use Rattle.journal_rules.specs.SemaphoreRule.{takes, puts, OverReleaseRule}
use Rattle.journal_rules.specs.Complete.{is_limited}
use Rattle.journal_rules.specs.ShapeLegal.{MayFollow, WhyInRange}
use Rattle.journal_rules.proofs.Snoc.{count_by_push, EachAfter-push}
use Rattle.journal_rules.proofs.Tallying.{count_by_push_no, count_by_push_yes, given_push}
use Rattle.table_steps.specs.declared.view.TurnDuty.TheVariants.{Told, Open, Owes}
use Rattle.table_steps.specs.inside.Duties.{DutyCoord, place, runs, running, tickets, token, source, weakly, awaits, unset, is_run}
use Rattle.table_steps.specs.Giving.{one_if}
use Rattle.table_steps.proofs.Counting.{is_one, used_at_more, more_source}
use Rattle.table_steps.proofs.StartDuties.{below_more}
use Rattle.table_steps.proofs.EndDuties.{Runs, runs_of}
use Rattle.table_steps.specs.declared.view.SemaphoreRole.TheVariants.{Held, Undo, Owed, Both, Credit, Credited, Claim, Granted, Refusing, Denied}
use Rattle.table_steps.specs.declared.view.SeatMark.TheVariants.{Live, New, Over, ToMark}
use Rattle.table_steps.specs.declared.view.Note.TheVariants.{Duty}
use Rattle.table_steps.specs.inside.Accounts.{Coord, duty, sem, mark, turning, owing, weigh, is_last, HaltPart, Readings, Balanced, with_clock, only_takes, is_drop, starts_of}
use Rattle.table_steps.proofs.Journals.{back_push, closed_more, run_close}
use Rattle.table_steps.proofs.Units.{Units}
use Rattle.table_steps.proofs.Credits.{Credits}
use Rattle.table_steps.proofs.Within.{all_within}

-- an open start isn't closed
pub not_closed : (journal : List Entry) (m : ℕ) → is_open journal m ≡ true → count_by (closes m) journal ≡ 0
not_closed journal m h = zero_is (count_by (closes m) journal) (and_parts (is_some (start_at journal m)) (count_by (closes m) journal == 0) h).1
  where
    zero_is : (k : ℕ) → eqb k 0 ≡ true → k ≡ 0
    zero_is k h = grind (arith, nat_tests)

-- what a step moves that draws a Fault: a start is closed, the mark is to be set, and its credits are counted no more
pub record FaultMoves (net : NetRows) (n : ℕ) (x : Entry) (m t : ℕ) (T T' : Coord → ℕ) : Type 0 where
  pub duties : (c : DutyCoord) → T' (duty c) + weigh (duty c) (Duty (Open m t) ∷ []) ≡ T (duty c) + weigh (duty c) (Duty (Owes []) ∷ Duty (Told n x) ∷ [])
  pub held : (s : ℕ) → T' (sem Held s) ≡ T (sem Held s)
  pub undo : (s : ℕ) → T' (sem Undo s) ≡ T (sem Undo s)
  pub owed : (s : ℕ) → T' (sem Owed s) ≡ T (sem Owed s)
  pub both : (s : ℕ) → T' (sem Both s) ≡ T (sem Both s)
  pub credit : (s : ℕ) → T' (sem Credit s) ≡ T (sem Credit s)
  pub credited : (s : ℕ) → s < length net.sems → T' (sem Credited s) + one_if (only_takes net s t) ≡ T (sem Credited s)
  pub claim : (s : ℕ) → T' (sem Claim s) ≡ T (sem Claim s)
  pub granted : (s : ℕ) → T' (sem Granted s) ≡ T (sem Granted s)
  pub refusing : (s : ℕ) → T' (sem Refusing s) ≡ T (sem Refusing s)
  pub denied : (s : ℕ) → T' (sem Denied s) ≡ T (sem Denied s)
  pub live : T' (mark Live) ≡ T (mark Live)
  pub new : T' (mark New) ≡ T (mark New)
  pub over : T' (mark Over) ≡ T (mark Over)
  pub to_mark : T' (mark ToMark) ≡ T (mark ToMark) + 1
  pub turning_is : T' turning ≡ T turning
  pub owing_is : T' owing ≡ T owing + 1

units_fault : (net : NetRows) (unit : ℕ → ℕ) (n : ℕ) (journal : List Entry) (T T' : Coord → ℕ) (m t : ℕ) (why : Why) → ((k : ℕ) → length journal ≤ k → count_by (closes k) journal ≡ 0) → Units net unit journal T
    → FaultMoves net n (Fault m why) m t T T' → Units net unit (journal ++ Fault m why ∷ []) T'
units_fault net unit n journal T T' m t why unclosed u moved s below = let x = Fault m why in
    let more = count_by_push (λ y. option_map_or (takes net s) (started y) false) journal x in let back_is = back_push net s journal x unclosed in record {
      tells = omega (arith, (u s below).tells, more, back_is, moved.held s, moved.owed s, moved.undo s);
      within = omega (arith, (u s below).within, more, back_is, moved.held s, moved.owed s);
    }

credits_fault : (net : NetRows) (word : ℕ → ℕ) (n : ℕ) (journal : List Entry) (T T' : Coord → ℕ) (m t : ℕ) (why : Why) → ((k : ℕ) → length journal ≤ k → count_by (closes k) journal ≡ 0) → Runs journal m t → Credits net word journal T
    → FaultMoves net n (Fault m why) m t T T' → Credits net word (journal ++ Fault m why ∷ []) T'
credits_fault net word n journal T T' m t why unclosed r k moved s below = let x = Fault m why in
    let more : (test : ℕ → Bool) → starts_of test (journal ++ x ∷ []) ≡ starts_of test journal + 0 = λ test. count_by_push (λ y. option_map_or test (started y) false) journal x in
    let back_is = back_push net s journal x unclosed in
    let closed = closed_more net s journal x m t (λ q. refl) refl r.there (not_closed journal m r.opened) in record {
      tells = omega (arith, (k s below).tells, more (takes net s), back_is, moved.granted s, moved.refusing s, moved.both s, moved.credit s);
      backed = omega (arith, (k s below).backed, more (takes net s), back_is, moved.granted s, moved.both s, moved.credit s);
      claims = omega (arith, (k s below).claims, more (puts net s), back_is, moved.both s, moved.claim s, moved.granted s, moved.refusing s, moved.denied s);
      takers = omega (arith, (k s below).takers, more (only_takes net s), closed, moved.credit s, moved.credited s below);
    }

used_at_fault : (net : NetRows) (e start : ℕ) (why : Why) (journal : List Entry) → used_at net e (journal ++ Fault start why ∷ []) ≡ used_at net e journal
used_at_fault net e start why journal = let x = Fault start why in
    used_at_more net e journal (journal ++ x ∷ []) 0 (λ _. 0) (count_by_push (uses_any (is_weak_at e)) journal x) (λ u. count_by_push (uses is_strong u) journal x) ∙ ap (λ n. used_at net e journal + n) (more_source net e) ∙ omega arith

pub fault_kept : (net : NetRows) (limit : ℕ) (w : Readings) (counted : ℕ → ℕ) (journal : List Entry) (T T' : Coord → ℕ) (m t : ℕ) (why : Why)
    → Balanced net limit w counted journal T → WhyInRange net why → OverReleaseRule net journal m why → count_by is_stuck journal ≡ 0
    → FaultMoves net w.clock (Fault m why) m t T T' → Balanced net limit (with_clock w (suc w.clock)) counted (journal ++ Fault m why ∷ []) T'
fault_kept net limit w counted journal T T' m t why b in_range over none_stuck moved =
    let x = Fault m why in let j = b.by_journal in let d = b.by_duties in
    let r = runs_now in
    let units = units_fault net w.unit w.clock journal T T' m t why j.unclosed b.by_units moved in
    let credits = credits_fault net w.credit w.clock journal T T' m t why j.unclosed r b.by_credits moved in
    let started_more = count_by_push_no is_start journal x refl in
    let unlimited = count_by_push_no is_limited journal x refl in
    record {
      by_journal = record {
        clock = omega (arith, j.clock, length_push journal x);
        legal = EachAfter-push (MayFollow net limit) journal x j.legal (record {
          in_range = in_range;
          release = tt;
          closing = r.opened;
          choice = tt;
          semaphore = record { within = all_within net w.unit w.credit (journal ++ x ∷ []) T' units credits; over = over };
          halt_limit_stuck = record { dropped = tt; after_stuck = λ _. none_stuck };
        });
        places = λ k. omega (arith, j.places k, moved.duties (place k), below_more w.clock k);
        opens = λ k s. omega (arith, j.opens k s, moved.duties (runs k s), run_close journal x m t k s (λ q. refl) refl r.below r.opened r.there);
        size = omega (arith, j.size, moved.duties running, length_push journal x, started_more, count_by_push_no is_drop journal x refl);
        unclosed = λ k past. let miss : eqb m k ≡ false = grind (arith, nat_tests, length_push journal x, r.below) in count_by_push_no (closes k) journal x miss ∙ j.unclosed k (omega (arith, length_push journal x));
      };
      by_edges = λ e. omega (arith, b.by_edges e, moved.duties (token e), given_push net e journal x, used_at_fault net e m why journal);
      by_duties = record {
        sources = λ s is below. omega (arith, d.sources s is below, moved.duties (source s), count_by_push (uses is_source s) journal x);
        weaks = λ e weak. omega (arith, d.weaks e weak, moved.duties (weakly e));
        states = λ e strong. omega (arith, d.states e strong, moved.duties (awaits e));
        bits = d.bits;
        joins = d.joins;
        unsets = λ s some. omega (arith, d.unsets s some, moved.duties (unset s));
      };
      by_admissions = record {
        drawn = omega (arith, b.by_admissions.drawn, started_more, unlimited, moved.duties tickets, moved.over);
        room = omega (arith, b.by_admissions.room, started_more, moved.duties tickets);
        full = λ some. omega (arith, started_more, moved.duties tickets, b.by_admissions.full (λ none. some (omega (arith, none, unlimited, moved.over))));
      };
      by_live = omega (arith, b.by_live, moved.live);
      by_turns = record { turns = omega (arith, b.by_turns.turns, moved.live, moved.new, moved.turning_is); ended = omega (arith, b.by_turns.ended, moved.owing_is, count_by_push_yes is_last journal x refl) };
      by_units = units;
      by_credits = credits;
      by_halt = halt_more w.halt b.by_halt;
      by_stuck = λ some. absurd (some (count_by_push_no is_stuck journal x refl ∙ none_stuck));
    }
  where
    runs_now : Runs journal m t
    runs_now =
        let hit : eqb m m ≡ true = grind (arith, nat_tests) in let hit_t : eqb t t ≡ true = grind (arith, nat_tests) in
        let self : one_if (eqb m m && eqb t t) ≡ 1 = rw (hit, hit_t) refl in
        runs_of journal m t (is_one (is_run journal m t) (omega (arith, b.by_journal.opens m t, moved.duties (runs m t), self)))

    halt_more : (h : ℕ) → HaltPart h journal T → HaltPart h (journal ++ Fault m why ∷ []) T'
    halt_more zero is = omega (arith, is, count_by_push_yes is_fault journal (Fault m why) refl, moved.to_mark)
    halt_more (suc h) is = omega (arith, is, count_by_push_yes is_fault journal (Fault m why) refl)
