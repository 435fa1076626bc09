-- A Drop drawn keeps the accounts.
use Rattle.std.proofs.Common.{◌≡◌, ◌≢◌, ◌⊎◌, inl, inr, ℕ, zero, suc, ◌+◌, ◌<◌, ◌≤◌, Bool, false, ◌&&◌, eqb, List, [], ◌∷◌, ◌++◌, length, None, refl, sym, ap, ◌∙◌, arith}
use Rattle.std.specs.Prelude.{count_by, is_some, ◌==◌}
use Rattle.std.specs.Option.{option_map_or}
use Rattle.std.proofs.lemmas.Bool.{cases_eq, cases_lt}
use Rattle.std.proofs.lemmas.List.{length_push}
use Rattle.task_graph.specs.NetRows.{NetRows}
use Rattle.journal_rules.specs.declared.entry.Cause.{Cause}
use Rattle.journal_rules.specs.declared.entry.Cause.TheVariants.{Source, Strong, Weak}
use Rattle.journal_rules.specs.declared.entry.DropWhy.{DropWhy}
use Rattle.journal_rules.specs.declared.entry.DropWhy.TheVariants.{Halted, Limit}
use Rattle.journal_rules.specs.declared.entry.Entry.{Entry}
use Rattle.journal_rules.specs.declared.entry.Entry.TheVariants.{Drop}
use Rattle.journal_rules.specs.Counts.{used, closes, is_start, is_fault, faults, is_open, start_at, started, uses, uses_any, is_source, is_strong, is_weak_at}
use Rattle.journal_rules.specs.Calm.{used_at}
use Rattle.journal_rules.specs.DataRule.{edges_of}
use Rattle.journal_rules.specs.HaltLimitStuckRule.{is_stuck, is_stuck_why, DropRule}
use Rattle.journal_rules.specs.SemaphoreRule.{takes, puts}
use Rattle.journal_rules.specs.Complete.{is_limited}
use Rattle.journal_rules.specs.ShapeLegal.{MayFollow, DropWhyInRange}
use Rattle.journal_rules.proofs.Snoc.{count_by_push, EachAfter-push, start_at_push_below, start_at_push_last, is_open_push_below}
use Rattle.journal_rules.proofs.Tallying.{count_by_push_no, count_by_push_yes, given_push, and_true, and_false}
use Rattle.table_steps.specs.Releases.{CanRelease, MayBeReleased}
use Rattle.table_steps.specs.declared.view.TurnDuty.TheVariants.{Told, Collecting, Owes}
use Rattle.table_steps.specs.inside.Duties.{DutyCoord, place, runs, running, tickets, token, source, weakly, awaits, unset, held_weight, is_run}
use Rattle.table_steps.specs.Giving.{one_if, times}
use Rattle.table_steps.proofs.Counting.{times_strong_in, used_at_more, more_source, more_strong, more_weak, run_past, CauseFits}
use Rattle.table_steps.proofs.StartDuties.{one_self, below_more}
use Rattle.table_steps.specs.declared.view.SemaphoreRole.{SemaphoreRole}
use Rattle.table_steps.specs.declared.view.SemaphoreRole.TheVariants.{Held, Undo, Owed, Both, Credit, Credited, Claim, Granted, Refusing, Denied}
use Rattle.table_steps.specs.declared.view.SeatMark.TheVariants.{Live, New, Over, ToMark}
use Rattle.table_steps.specs.declared.view.Note.TheVariants.{Duty}
use Rattle.table_steps.specs.inside.Accounts.{Coord, duty, sem, mark, turning, owing, weigh, is_last, AdmissionPart, HaltPart, StuckPart, Readings, Balanced, with_clock, only_takes, is_drop, starts_of}
use Rattle.table_steps.proofs.Journals.{back_push, closed_still}
use Rattle.table_steps.proofs.Units.{Units}
use Rattle.table_steps.proofs.Credits.{Credits}
use Rattle.table_steps.proofs.Starting.{released}
use Rattle.table_steps.proofs.Within.{all_within}

used_at_drop : (net : NetRows) (e t : ℕ) (cause : Cause) (why : DropWhy) (journal : List Entry) → CauseFits net t cause
    → used_at net e (journal ++ Drop t cause why ∷ []) ≡ used_at net e journal + times e (edges_of net t cause)
used_at_drop net e t Source why journal fits = let x = Drop t Source why in
    used_at_more net e journal (journal ++ x ∷ []) 0 (λ _. 0) (count_by_push (uses_any (is_weak_at e)) journal x) (λ u. count_by_push (uses is_strong u) journal x ∙ ap (λ b. used u journal + one_if b) (and_false (eqb t u)))
    ∙ ap (λ n. used_at net e journal + n) (more_source net e)
used_at_drop net e t Strong why journal fits = let x = Drop t Strong why in
    used_at_more net e journal (journal ++ x ∷ []) 0 (λ u. one_if (eqb t u)) (count_by_push (uses_any (is_weak_at e)) journal x) (λ u. count_by_push (uses is_strong u) journal x ∙ ap (λ b. used u journal + one_if b) (and_true (eqb t u)))
    ∙ ap (λ n. used_at net e journal + n) (more_strong net t e ∙ sym (times_strong_in net t e))
used_at_drop net e t (Weak f) why journal fits = let x = Drop t (Weak f) why in
    used_at_more net e journal (journal ++ x ∷ []) (one_if (eqb f e)) (λ _. 0) (count_by_push (uses_any (is_weak_at e)) journal x) (λ u. count_by_push (uses is_strong u) journal x ∙ ap (λ b. used u journal + one_if b) (and_false (eqb t u)))
    ∙ ap (λ n. used_at net e journal + n) (more_weak net f e fits) ∙ omega arith

-- the Starts that run, after an entry that neither starts nor closes
pub run_same : (journal : List Entry) (x : Entry) (m s : ℕ) → ((k : ℕ) → closes k x ≡ false) → started x ≡ None → is_run (journal ++ x ∷ []) m s ≡ is_run journal m s
run_same journal x m s none start_none = by_place (cases_lt m (length journal))
  where
    by_place : (m < length journal) ⊎ (length journal ≤ m) → is_run (journal ++ x ∷ []) m s ≡ is_run journal m s
    by_place (inl before) =
        let still : is_open (journal ++ x ∷ []) m ≡ is_open journal m = is_open_push_below journal x m before ∙ rw (none m) (and_true (is_open journal m)) in
        rw (still, start_at_push_below journal x m before) refl
    by_place (inr after) = past (cases_eq (length journal) m) ∙ sym (run_past journal m s after)
      where
        past : (length journal ≡ m) ⊎ (length journal ≢ m) → is_run (journal ++ x ∷ []) m s ≡ false
        past (inl same) =
            let none_there : start_at (journal ++ x ∷ []) m ≡ None = ap (start_at (journal ++ x ∷ [])) (sym same) ∙ start_at_push_last journal x ∙ start_none in
            ap (λ o. (is_some o && (count_by (closes m) (journal ++ x ∷ []) == 0)) && option_map_or (λ u. u == s) o false) none_there
        past (inr other) = run_past (journal ++ x ∷ []) m s (omega (arith, length_push journal x))

-- what a release with all its tokens counts
held_source : (s t : ℕ) (cause : Cause) (taken : List ℕ) → held_weight (source s) t cause taken [] ≡ one_if (eqb t s && is_source cause)
held_source s t Source taken = sym (ap one_if (and_true (eqb t s)))
held_source s t Strong taken = sym (ap one_if (and_false (eqb t s)))
held_source s t (Weak f) taken = sym (ap one_if (and_false (eqb t s)))

held_weakly : (e t : ℕ) (cause : Cause) (taken : List ℕ) → held_weight (weakly e) t cause taken [] ≡ 0
held_weakly e t Source taken = refl
held_weakly e t Strong taken = refl
held_weakly e t (Weak f) taken = refl

held_awaits : (e t : ℕ) (cause : Cause) (taken : List ℕ) → held_weight (awaits e) t cause taken [] ≡ 0
held_awaits e t Source taken = refl
held_awaits e t Strong taken = refl
held_awaits e t (Weak f) taken = refl

fits_of : (net : NetRows) (t : ℕ) (c : Cause) → CanRelease net t c → CauseFits net t c
fits_of net t Source fits = tt
fits_of net t Strong fits = tt
fits_of net t (Weak f) fits = fits.0

pub no_ticket : (t : ℕ) (cause : Cause) (taken : List ℕ) → held_weight tickets t cause taken [] ≡ 0
no_ticket t Source taken = refl
no_ticket t Strong taken = refl
no_ticket t (Weak f) taken = refl

-- what a step moves that draws a Drop: a release is used, and no unit or live turn
pub record DropMoves (net : NetRows) (n : ℕ) (x : Entry) (t : ℕ) (cause : Cause) (T T' : Coord → ℕ) : Type 0 where
  pub duties : (c : DutyCoord) → T' (duty c) + weigh (duty c) (Duty (Collecting t cause (edges_of net t cause) []) ∷ []) ≡ T (duty c) + weigh (duty c) (Duty (Owes []) ∷ Duty (Told n x) ∷ [])
  pub sems : (k : SemaphoreRole) (s : ℕ) → T' (sem k s) ≡ T (sem k s)
  pub live : T' (mark Live) ≡ T (mark Live)
  pub to_mark : T' (mark ToMark) ≡ T (mark ToMark)
  pub new : T' (mark New) ≡ T (mark New)
  pub turning_is : T' turning ≡ T turning
  pub owing_is : T' owing ≡ T owing + 1

-- a Drop drawn, with what its reason needs
pub drop_kept : (net : NetRows) (limit : ℕ) (w : Readings) (counted : ℕ → ℕ) (journal : List Entry) (T T' : Coord → ℕ) (t : ℕ) (cause : Cause) (why : DropWhy)
    → Balanced net limit w counted journal T → MayBeReleased net t cause → DropWhyInRange net why → DropRule net journal t why → (is_stuck_why why ≡ false → count_by is_stuck journal ≡ 0)
    → DropMoves net w.clock (Drop t cause why) t cause T T' → AdmissionPart limit w.admitted (journal ++ Drop t cause why ∷ []) T' → StuckPart (journal ++ Drop t cause why ∷ []) T'
    → Balanced net limit (with_clock w (suc w.clock)) counted (journal ++ Drop t cause why ∷ []) T'
drop_kept net limit w counted journal T T' t cause why b may in_range rule none_stuck moved admissions stuck =
    let x = Drop t cause why in let j = b.by_journal in let d = b.by_duties in
    let back_is : (s : ℕ) → _ = λ s. back_push net s journal x j.unclosed in
    let more : (test : ℕ → Bool) → starts_of test (journal ++ x ∷ []) ≡ starts_of test journal + 0 = λ test. count_by_push (λ y. option_map_or test (started y) false) journal x in
    let units : Units net w.unit (journal ++ x ∷ []) T' = λ s below. let u = b.by_units s below in record {
      tells = omega (arith, u.tells, more (takes net s), back_is s, moved.sems Held s, moved.sems Owed s, moved.sems Undo s);
      within = omega (arith, u.within, more (takes net s), back_is s, moved.sems Held s, moved.sems Owed s);
    } in
    let credits : Credits net w.credit (journal ++ x ∷ []) T' = λ s below. let k = b.by_credits s below in record {
      tells = omega (arith, k.tells, more (takes net s), back_is s, moved.sems Granted s, moved.sems Refusing s, moved.sems Both s, moved.sems Credit s);
      backed = omega (arith, k.backed, more (takes net s), back_is s, moved.sems Granted s, moved.sems Both s, moved.sems Credit s);
      claims = omega (arith, k.claims, more (puts net s), back_is s, moved.sems Both s, moved.sems Claim s, moved.sems Granted s, moved.sems Refusing s, moved.sems Denied s);
      takers = omega (arith, k.takers, more (only_takes net s), closed_still net s journal x (λ m. refl) j.unclosed, moved.sems Credit s, moved.sems Credited s);
    } in
    record {
      by_journal = record {
        clock = omega (arith, j.clock, length_push journal x);
        legal = EachAfter-push (MayFollow net limit) journal x j.legal (record {
          in_range = (may.in_tasks, may.in_range, in_range);
          release = released net w.edge w.join counted journal (λ c. T (duty c)) t cause b.by_edges d may (λ e. omega (arith, moved.duties (token e))) (λ is. omega (arith, moved.duties (source t), held_source t t cause (edges_of net t cause), at_source cause is));
          closing = tt;
          choice = tt;
          semaphore = record { within = all_within net w.unit w.credit (journal ++ x ∷ []) T' units credits; over = tt };
          halt_limit_stuck = record { dropped = rule; after_stuck = none_stuck };
        });
        places = λ k. omega (arith, j.places k, moved.duties (place k), below_more w.clock k);
        opens = λ k s. omega (arith, j.opens k s, moved.duties (runs k s), ap one_if (run_same journal x k s (λ q. refl) refl));
        size = omega (arith, j.size, moved.duties running, length_push journal x, count_by_push_no is_start journal x refl, count_by_push_yes is_drop journal x refl);
        unclosed = λ k past. count_by_push_no (closes k) journal x refl ∙ j.unclosed k (omega (arith, length_push journal x));
      };
      by_edges = λ e. omega (arith, b.by_edges e, moved.duties (token e), given_push net e journal x, used_at_drop net e t cause why journal (fits_of net t cause may.fits));
      by_duties = record {
        sources = λ s is below. omega (arith, d.sources s is below, moved.duties (source s), held_source s t cause (edges_of net t cause), count_by_push (uses is_source s) journal x);
        weaks = λ e weak. omega (arith, d.weaks e weak, moved.duties (weakly e), held_weakly e t cause (edges_of net t cause));
        states = λ e strong. omega (arith, d.states e strong, moved.duties (awaits e), held_awaits e t cause (edges_of net t cause));
        bits = d.bits;
        joins = d.joins;
        unsets = λ s some. omega (arith, d.unsets s some, moved.duties (unset s));
      };
      by_admissions = admissions;
      by_live = omega (arith, b.by_live, moved.live);
      by_turns = record { turns = omega (arith, b.by_turns.turns, moved.live, moved.new, moved.turning_is); ended = omega (arith, b.by_turns.ended, moved.owing_is, count_by_push_yes is_last journal x refl) };
      by_units = units;
      by_credits = credits;
      by_halt = halt_same w.halt b.by_halt;
      by_stuck = stuck;
    }
  where
    at_source : (c : Cause) → c ≡ Source → one_if (eqb t t && is_source c) ≡ 1
    at_source Source is = ap one_if (and_true (eqb t t)) ∙ one_self t
    at_source Strong is = absurd (cc)
    at_source (Weak e) is = absurd (cc)

    halt_same : (h : ℕ) → HaltPart h journal T → HaltPart h (journal ++ Drop t cause why ∷ []) T'
    halt_same zero is = omega (arith, is, count_by_push_no is_fault journal (Drop t cause why) refl, moved.to_mark)
    halt_same (suc h) is = omega (arith, is, count_by_push_no is_fault journal (Drop t cause why) refl)

-- a Drop at the limit
pub limit_kept : (net : NetRows) (limit : ℕ) (w : Readings) (counted : ℕ → ℕ) (journal : List Entry) (T T' : Coord → ℕ) (t : ℕ) (cause : Cause) → Balanced net limit w counted journal T → MayBeReleased net t cause → count_by is_stuck journal ≡ 0
    → DropMoves net w.clock (Drop t cause Limit) t cause T T' → T' (mark Over) + 1 ≡ T (mark Over) → Balanced net limit (with_clock w (suc w.clock)) counted (journal ++ Drop t cause Limit ∷ []) T'
limit_kept net limit w counted journal T T' t cause b may none_stuck moved over_is = let x = Drop t cause Limit in let a = b.by_admissions in
    let limited_more = count_by_push_yes is_limited journal x refl in let starts_same = count_by_push_no is_start journal x refl in
    drop_kept net limit w counted journal T T' t cause Limit b may tt tt (λ _. none_stuck) moved
    (record {
      drawn = omega (arith, a.drawn, starts_same, limited_more, no_ticket t cause (edges_of net t cause), moved.duties tickets, over_is);
      room = omega (arith, a.room, starts_same, no_ticket t cause (edges_of net t cause), moved.duties tickets);
      full = λ _. omega (arith, starts_same, no_ticket t cause (edges_of net t cause), moved.duties tickets, a.full (λ none. omega (arith, none, over_is)));
    })
    (λ some. absurd (some (count_by_push_no is_stuck journal x refl ∙ none_stuck)))

-- one after a Fault
pub halted_kept : (net : NetRows) (limit : ℕ) (w : Readings) (counted : ℕ → ℕ) (journal : List Entry) (T T' : Coord → ℕ) (t : ℕ) (cause : Cause) → Balanced net limit w counted journal T → MayBeReleased net t cause → count_by is_stuck journal ≡ 0 → 1 ≤ faults journal
    → DropMoves net w.clock (Drop t cause Halted) t cause T T' → T' (mark Over) ≡ T (mark Over) → Balanced net limit (with_clock w (suc w.clock)) counted (journal ++ Drop t cause Halted ∷ []) T'
halted_kept net limit w counted journal T T' t cause b may none_stuck faulted moved over_is = let x = Drop t cause Halted in let a = b.by_admissions in
    let limited_same = count_by_push_no is_limited journal x refl in let starts_same = count_by_push_no is_start journal x refl in
    drop_kept net limit w counted journal T T' t cause Halted b may tt faulted (λ _. none_stuck) moved
    (record {
      drawn = omega (arith, a.drawn, starts_same, limited_same, no_ticket t cause (edges_of net t cause), moved.duties tickets, over_is);
      room = omega (arith, a.room, starts_same, no_ticket t cause (edges_of net t cause), moved.duties tickets);
      full = λ some. omega (arith, starts_same, no_ticket t cause (edges_of net t cause), moved.duties tickets, a.full (λ none. some (omega (arith, none, limited_same, over_is))));
    })
    (λ some. absurd (some (count_by_push_no is_stuck journal x refl ∙ none_stuck)))
