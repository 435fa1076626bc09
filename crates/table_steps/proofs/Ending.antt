-- An End drawn keeps the accounts.
use Rattle.std.proofs.Common.{◌≡◌, ℕ, zero, suc, ◌+◌, ◌≤◌, Bool, true, false, ◌&&◌, eqb, List, [], ◌∷◌, ◌++◌, length, refl, sym, ap, ◌∙◌, subst, arith}
use Rattle.std.specs.Prelude.{slice_get, count_by}
use Rattle.std.specs.Option.{option_map_or}
use Rattle.std.proofs.lemmas.List.{length_push}
use Rattle.task_graph.specs.NetRows.{NetRows}
use Rattle.journal_rules.specs.declared.entry.Entry.{Entry}
use Rattle.journal_rules.specs.declared.entry.Entry.TheVariants.{End}
use Rattle.journal_rules.specs.Counts.{closes, is_start, is_fault, started}
use Rattle.journal_rules.specs.HaltLimitStuckRule.{is_stuck}
use Rattle.journal_rules.specs.SemaphoreRule.{takes, puts, gives_back}
use Rattle.journal_rules.specs.Complete.{is_limited}
use Rattle.journal_rules.specs.ShapeLegal.{MayFollow}
use Rattle.journal_rules.proofs.Snoc.{count_by_push, EachAfter-push, start_at_push_below}
use Rattle.journal_rules.proofs.Tallying.{count_by_push_no, count_by_push_yes}
use Rattle.table_steps.specs.declared.view.TurnDuty.TheVariants.{Told, Open, Owes}
use Rattle.table_steps.specs.inside.Duties.{DutyCoord, place, runs, running, tickets, is_run, DutyMoves}
use Rattle.table_steps.specs.Giving.{one_if, MayEndGiving}
use Rattle.table_steps.proofs.Counting.{is_one}
use Rattle.table_steps.proofs.StartDuties.{below_more}
use Rattle.table_steps.proofs.EndDuties.{Runs, runs_of, end_edges, end_duties}
use Rattle.table_steps.specs.declared.view.SemaphoreRole.TheVariants.{Held, Undo, Owed, Both, Credit, Credited, Claim, Granted, Refusing, Denied}
use Rattle.table_steps.specs.declared.view.SeatMark.TheVariants.{Live, New, Over, ToMark}
use Rattle.table_steps.specs.declared.view.Note.TheVariants.{Duty}
use Rattle.table_steps.specs.inside.Accounts.{Coord, duty, sem, mark, turning, owing, weigh, is_last, HaltPart, Readings, Balanced, with_clock, is_drop, only_takes, starts_of}
use Rattle.table_steps.proofs.Journals.{back_push, closed_more, run_close}
use Rattle.table_steps.proofs.Units.{Units}
use Rattle.table_steps.proofs.Credits.{Credits}
use Rattle.table_steps.proofs.Within.{all_within}
use Rattle.table_steps.proofs.Faulting.{not_closed}
use Rattle.std.specs.Prelude.{IsSomeAnd}
use Rattle.std.proofs.lemmas.Bool.Decides.{nat_tests}
use Rattle.journal_rules.specs.ChoiceRule.{GivesFit, InnerFits}
use Rattle.task_graph.specs.Net.{out_edges}
use Rattle.task_graph.specs.declared.net.TaskRow.{TaskRow}

-- what a step moves that draws an End: a start is closed, its edges are owed, and so are the units that its task puts
pub record EndMoves (net : NetRows) (n : ℕ) (x : Entry) (m t : ℕ) (gives : List ℕ) (T T' : Coord → ℕ) : Type 0 where
  pub duties : (c : DutyCoord) → T' (duty c) + weigh (duty c) (Duty (Open m t) ∷ []) ≡ T (duty c) + weigh (duty c) (Duty (Owes gives) ∷ Duty (Told n x) ∷ [])
  pub held : (s : ℕ) → T' (sem Held s) ≡ T (sem Held s)
  pub undo : (s : ℕ) → T' (sem Undo s) ≡ T (sem Undo s)
  pub owed : (s : ℕ) → T' (sem Owed s) ≡ T (sem Owed s) + one_if (puts net s t)
  -- a claim that is granted, or a unit that was taken and is put
  pub paid : (s : ℕ) → T' (sem Both s) + T' (sem Granted s) + one_if (puts net s t) ≡ T (sem Both s) + T (sem Granted s)
  pub credit : (s : ℕ) → T' (sem Credit s) ≡ T (sem Credit s)
  pub credited : (s : ℕ) → T' (sem Credited s) + one_if (only_takes net s t) ≡ T (sem Credited s)
  pub claim : (s : ℕ) → T' (sem Claim s) ≡ T (sem Claim s)
  pub refusing : (s : ℕ) → T' (sem Refusing s) ≡ T (sem Refusing s)
  pub denied : (s : ℕ) → T' (sem Denied s) ≡ T (sem Denied s)
  pub live : T' (mark Live) ≡ T (mark Live)
  pub new : T' (mark New) ≡ T (mark New)
  pub over : T' (mark Over) ≡ T (mark Over)
  pub to_mark : T' (mark ToMark) ≡ T (mark ToMark)
  pub turning_is : T' turning ≡ T turning
  pub owing_is : T' owing ≡ T owing + 1

gives_back_is : (net : NetRows) (s : ℕ) (journal : List Entry) (m t : ℕ) (gives : List ℕ) (inner : Bool) → Runs journal m t → gives_back net s (journal ++ End m gives inner ∷ []) (End m gives inner) ≡ puts net s t
gives_back_is net s journal m t gives inner r = ap (λ o. option_map_or (puts net s) o false) (start_at_push_below journal (End m gives inner) m r.below ∙ r.there)

units_end : (net : NetRows) (unit : ℕ → ℕ) (n : ℕ) (journal : List Entry) (T T' : Coord → ℕ) (m t : ℕ) (gives : List ℕ) (inner : Bool) → ((k : ℕ) → length journal ≤ k → count_by (closes k) journal ≡ 0) → Runs journal m t → Units net unit journal T
    → EndMoves net n (End m gives inner) m t gives T T' → Units net unit (journal ++ End m gives inner ∷ []) T'
units_end net unit n journal T T' m t gives inner unclosed r u moved s below = let x = End m gives inner in
    let more = count_by_push (λ y. option_map_or (takes net s) (started y) false) journal x in
    let back_is = back_push net s journal x unclosed in let gives_is = ap one_if (gives_back_is net s journal m t gives inner r) in record {
      tells = omega (arith, (u s below).tells, more, back_is, gives_is, moved.held s, moved.owed s, moved.undo s);
      within = omega (arith, (u s below).within, more, back_is, gives_is, moved.held s, moved.owed s);
    }

credits_end : (net : NetRows) (word : ℕ → ℕ) (n : ℕ) (journal : List Entry) (T T' : Coord → ℕ) (m t : ℕ) (gives : List ℕ) (inner : Bool) → ((k : ℕ) → length journal ≤ k → count_by (closes k) journal ≡ 0) → Runs journal m t → Credits net word journal T
    → EndMoves net n (End m gives inner) m t gives T T' → Credits net word (journal ++ End m gives inner ∷ []) T'
credits_end net word n journal T T' m t gives inner unclosed r k moved s below = let x = End m gives inner in
    let more : (test : ℕ → Bool) → starts_of test (journal ++ x ∷ []) ≡ starts_of test journal + 0 = λ test. count_by_push (λ y. option_map_or test (started y) false) journal x in
    let back_is = back_push net s journal x unclosed in let gives_is = ap one_if (gives_back_is net s journal m t gives inner r) in
    let closed = closed_more net s journal x m t (λ q. refl) refl r.there (not_closed journal m r.opened) in record {
      tells = omega (arith, (k s below).tells, more (takes net s), back_is, gives_is, moved.paid s, moved.refusing s, moved.credit s);
      backed = omega (arith, (k s below).backed, more (takes net s), back_is, gives_is, moved.paid s, moved.credit s);
      claims = omega (arith, (k s below).claims, more (puts net s), back_is, gives_is, moved.paid s, moved.claim s, moved.refusing s, moved.denied s);
      takers = omega (arith, (k s below).takers, more (only_takes net s), closed, moved.credit s, moved.credited s);
    }

pub end_kept : (net : NetRows) (limit : ℕ) (w : Readings) (counted : ℕ → ℕ) (journal : List Entry) (T T' : Coord → ℕ) (m t : ℕ) (gives : List ℕ) (inner : Bool)
    → Balanced net limit w counted journal T → MayEndGiving net t gives inner → count_by is_stuck journal ≡ 0
    → EndMoves net w.clock (End m gives inner) m t gives T T' → Balanced net limit (with_clock w (suc w.clock)) counted (journal ++ End m gives inner ∷ []) T'
end_kept net limit w counted journal T T' m t gives inner b may none_stuck moved =
    let x = End m gives inner in let j = b.by_journal in
    let r = runs_now in
    let duties_moved : DutyMoves (λ c. T (duty c)) (Open m t ∷ []) (λ c. T' (duty c)) (Owes gives ∷ Told w.clock x ∷ []) = λ c. omega (arith, moved.duties c) in
    let units = units_end net w.unit w.clock journal T T' m t gives inner j.unclosed r b.by_units moved in
    let credits = credits_end net w.credit w.clock journal T T' m t gives inner j.unclosed r b.by_credits moved in
    let started_more = count_by_push_no is_start journal x refl in
    let unlimited = count_by_push_no is_limited journal x refl in
    record {
      by_journal = record {
        clock = omega (arith, j.clock, length_push journal x);
        legal = EachAfter-push (MayFollow net limit) journal x j.legal (record {
          in_range = may.in_range;
          release = tt;
          closing = r.opened;
          choice = subst (λ o. IsSomeAnd o (λ s. IsSomeAnd (slice_get net.tasks s) (λ (row : TaskRow). GivesFit row.shape (out_edges net s) gives × InnerFits row.shape inner))) (sym r.there) may.fits;
          semaphore = record { within = all_within net w.unit w.credit (journal ++ x ∷ []) T' units credits; over = tt };
          halt_limit_stuck = record { dropped = tt; after_stuck = λ _. none_stuck };
        });
        places = λ k. omega (arith, j.places k, moved.duties (place k), below_more w.clock k);
        opens = λ k s. omega (arith, j.opens k s, moved.duties (runs k s), run_close journal x m t k s (λ q. refl) refl r.below r.opened r.there);
        size = omega (arith, j.size, moved.duties running, length_push journal x, started_more, count_by_push_no is_drop journal x refl);
        unclosed = λ k past. let miss : eqb m k ≡ false = grind (arith, nat_tests, length_push journal x, r.below) in count_by_push_no (closes k) journal x miss ∙ j.unclosed k (omega (arith, length_push journal x));
      };
      by_edges = end_edges net w.clock w.edge journal _ _ m t gives inner b.by_edges may duties_moved;
      by_duties = end_duties net w.clock w.edge w.join counted journal _ _ m t gives inner b.by_duties duties_moved;
      by_admissions = record {
        drawn = omega (arith, b.by_admissions.drawn, started_more, unlimited, moved.duties tickets, moved.over);
        room = omega (arith, b.by_admissions.room, started_more, moved.duties tickets);
        full = λ some. omega (arith, started_more, moved.duties tickets, b.by_admissions.full (λ none. some (omega (arith, none, unlimited, moved.over))));
      };
      by_live = omega (arith, b.by_live, moved.live);
      by_turns = record { turns = omega (arith, b.by_turns.turns, moved.live, moved.new, moved.turning_is); ended = omega (arith, b.by_turns.ended, moved.owing_is, count_by_push_yes is_last journal x refl) };
      by_units = units;
      by_credits = credits;
      by_halt = halt_same w.halt b.by_halt;
      by_stuck = λ some. absurd (some (count_by_push_no is_stuck journal x refl ∙ none_stuck));
    }
  where
    runs_now : Runs journal m t
    runs_now =
        let hit : eqb m m ≡ true = grind (arith, nat_tests) in let hit_t : eqb t t ≡ true = grind (arith, nat_tests) in
        let self : one_if (eqb m m && eqb t t) ≡ 1 = rw (hit, hit_t) refl in
        runs_of journal m t (is_one (is_run journal m t) (omega (arith, b.by_journal.opens m t, moved.duties (runs m t), self)))

    halt_same : (h : ℕ) → HaltPart h journal T → HaltPart h (journal ++ End m gives inner ∷ []) T'
    halt_same zero is = omega (arith, is, count_by_push_no is_fault journal (End m gives inner) refl, moved.to_mark)
    halt_same (suc h) is = omega (arith, is, count_by_push_no is_fault journal (End m gives inner) refl)
