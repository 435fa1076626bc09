-- Admissions drawn, turns added and taken off, and the halt mark keep the accounts.
use Rattle.std.proofs.Common.{◌≡◌, ◌≢◌, ◌⊎◌, inl, inr, ℕ, suc, ◌+◌, ◌<◌, ◌≤◌, List, [], ◌∷◌, refl, sym, ◌∙◌, arith}
use Rattle.std.specs.Prelude.{count_by}
use Rattle.std.proofs.lemmas.Bool.{cases_eq}
use Rattle.task_graph.specs.NetRows.{NetRows}
use Rattle.journal_rules.specs.declared.entry.Entry.{Entry}
use Rattle.journal_rules.specs.Counts.{starts}
use Rattle.journal_rules.specs.Complete.{is_limited}
use Rattle.table_steps.specs.declared.view.TurnDuty.TheVariants.{Ticket, Owes}
use Rattle.table_steps.specs.inside.Duties.{DutyCoord, place, runs, running, tickets, token, source, weakly, awaits, unset, duty_weight, DutyPart}
use Rattle.table_steps.specs.declared.view.SemaphoreRole.{SemaphoreRole}
use Rattle.table_steps.specs.declared.view.SemaphoreRole.TheVariants.{Held, Undo, Owed, Both, Credit, Credited, Claim, Granted, Refusing, Denied, Full}
use Rattle.table_steps.specs.declared.view.SeatMark.TheVariants.{Live, New, Over, ToMark, Halted, Alone, Quiet, Sticking, Asked}
use Rattle.table_steps.specs.declared.view.Note.{Note}
use Rattle.table_steps.specs.declared.view.Note.TheVariants.{Duty, Sems, Has, Unfit, Lies, Queued}
use Rattle.table_steps.specs.inside.Accounts.{Coord, duty, sem, mark, turning, owing, telling, busy, resting, weight, weigh, TurnPart, JournalPart, LivePart, Readings, Balanced, Moves, with_admitted, with_live}
use Rattle.table_steps.proofs.Still.{journal_still, edges_still, duties_still, admission_still, turns_still, unit_still, credit_still, halt_still, stuck_still}
use Rattle.table_steps.proofs.Units.{Units}
use Rattle.table_steps.proofs.Credits.{Credits}

-- a step on no semaphore
pub units_alike : (net : NetRows) (unit : ℕ → ℕ) (journal : List Entry) (T T' : Coord → ℕ) → ((k : SemaphoreRole) (s : ℕ) → T' (sem k s) ≡ T (sem k s)) → Units net unit journal T → Units net unit journal T'
units_alike net unit journal T T' same u s below = unit_still net (unit s) s journal T T' (same Held s) (same Owed s) (same Undo s) (u s below)

pub credits_alike : (net : NetRows) (word : ℕ → ℕ) (journal : List Entry) (T T' : Coord → ℕ) → ((k : SemaphoreRole) (s : ℕ) → T' (sem k s) ≡ T (sem k s)) → Credits net word journal T → Credits net word journal T'
credits_alike net word journal T T' same k s below = credit_still net (word s) s journal T T' (same Both s) (same Credit s) (same Credited s) (same Claim s) (same Granted s) (same Refusing s) (same Denied s) (k s below)

-- An admission drawn.
admit_journal : (net : NetRows) (limit n : ℕ) (journal : List Entry) (T T' : Coord → ℕ) → JournalPart net limit n journal T → Moves T [] T' (Duty Ticket ∷ []) → JournalPart net limit n journal T'
admit_journal net limit n journal T T' j moved = record {
  clock = j.clock;
  legal = j.legal;
  places = λ m. omega (arith, j.places m, moved (duty (place m)));
  opens = λ m t. omega (arith, j.opens m t, moved (duty (runs m t)));
  size = omega (arith, j.size, moved (duty running));
  unclosed = j.unclosed;
}

admit_duties : (net : NetRows) (edge join counted : ℕ → ℕ) (journal : List Entry) (T T' : Coord → ℕ) → DutyPart net edge join counted journal (λ c. T (duty c)) → Moves T [] T' (Duty Ticket ∷ []) → DutyPart net edge join counted journal (λ c. T' (duty c))
admit_duties net edge join counted journal T T' d moved = record {
  sources = λ s is below. omega (arith, d.sources s is below, moved (duty (source s)));
  weaks = λ e weak. omega (arith, d.weaks e weak, moved (duty (weakly e)));
  states = λ e strong. omega (arith, d.states e strong, moved (duty (awaits e)));
  bits = d.bits;
  joins = d.joins;
  unsets = λ s some. omega (arith, d.unsets s some, moved (duty (unset s)));
}

pub admit_kept : (net : NetRows) (limit : ℕ) (w : Readings) (counted : ℕ → ℕ) (journal : List Entry) (T T' : Coord → ℕ) → Balanced net limit w counted journal T → w.admitted < limit
    → Moves T [] T' (Duty Ticket ∷ []) → Balanced net limit (with_admitted w (suc w.admitted)) counted journal T'
admit_kept net limit w counted journal T T' b found moved = let a = b.by_admissions in record {
  by_journal = admit_journal net limit w.clock journal T T' b.by_journal moved;
  by_edges = λ e. omega (arith, b.by_edges e, moved (duty (token e)));
  by_duties = admit_duties net w.edge w.join counted journal T T' b.by_duties moved;
  by_admissions = record {
    drawn = omega (arith, a.drawn, moved (duty tickets), moved (mark Over));
    room = omega (arith, a.drawn, found, moved (duty tickets));
    full = λ some. omega (arith, moved (duty tickets), a.full (λ none. some (omega (arith, none, moved (mark Over)))));
  };
  by_live = omega (arith, b.by_live, moved (mark Live));
  by_turns = turns_still journal T T' (omega (arith, moved (mark Live))) (omega (arith, moved (mark New))) (omega (arith, moved turning)) (omega (arith, moved owing)) b.by_turns;
  by_units = units_alike net w.unit journal T T' (λ k s. omega (arith, moved (sem k s))) b.by_units;
  by_credits = credits_alike net w.credit journal T T' (λ k s. omega (arith, moved (sem k s))) b.by_credits;
  by_halt = halt_still w.halt journal T T' (omega (arith, moved (mark ToMark))) b.by_halt;
  by_stuck = stuck_still journal T T' (omega (arith, moved (mark Sticking))) b.by_stuck;
}

-- a step on marks alone leaves these as they are
pub record MarksAlone (T T' : Coord → ℕ) : Type 0 where
  pub duties : (c : DutyCoord) → T' (duty c) ≡ T (duty c)
  pub sems : (k : SemaphoreRole) (s : ℕ) → T' (sem k s) ≡ T (sem k s)
  pub sticking : T' (mark Sticking) ≡ T (mark Sticking)

pub over_kept : (net : NetRows) (limit : ℕ) (w : Readings) (counted : ℕ → ℕ) (journal : List Entry) (T T' : Coord → ℕ) → Balanced net limit w counted journal T → limit ≤ w.admitted
    → Moves T (Has Live ∷ []) T' (Has Over ∷ []) → Balanced net limit (with_admitted w (suc w.admitted)) counted journal T'
over_kept net limit w counted journal T T' b found moved = let a = b.by_admissions in let same : (c : DutyCoord) → T' (duty c) ≡ T (duty c) = λ c. omega (arith, moved (duty c)) in record {
  by_journal = journal_still net limit w.clock journal T T' same b.by_journal;
  by_edges = edges_still net w.edge journal T T' same b.by_edges;
  by_duties = duties_still net w.edge w.join counted journal T T' same b.by_duties;
  by_admissions = record {
    drawn = omega (arith, a.drawn, moved (duty tickets), moved (mark Over));
    room = omega (arith, a.room, moved (duty tickets));
    full = λ _. by_none (cases_eq (T (mark Over) + count_by is_limited journal) 0);
  };
  by_live = omega (arith, b.by_live, moved (mark Live));
  by_turns = turns_still journal T T' (omega (arith, moved (mark Live))) (omega (arith, moved (mark New))) (omega (arith, moved turning)) (omega (arith, moved owing)) b.by_turns;
  by_units = units_alike net w.unit journal T T' (λ k s. omega (arith, moved (sem k s))) b.by_units;
  by_credits = credits_alike net w.credit journal T T' (λ k s. omega (arith, moved (sem k s))) b.by_credits;
  by_halt = halt_still w.halt journal T T' (omega (arith, moved (mark ToMark))) b.by_halt;
  by_stuck = stuck_still journal T T' (omega (arith, moved (mark Sticking))) b.by_stuck;
}
  where
    by_none : (T (mark Over) + count_by is_limited journal ≡ 0) ⊎ (T (mark Over) + count_by is_limited journal ≢ 0) → limit ≤ starts journal + T' (duty tickets)
    by_none (inl none) = omega (arith, none, found, b.by_admissions.drawn, moved (duty tickets))
    by_none (inr some) = omega (arith, b.by_admissions.full some, moved (duty tickets))

-- A turn added, and one taken off.
pub live_kept : (net : NetRows) (limit : ℕ) (w : Readings) (counted : ℕ → ℕ) (journal : List Entry) (T T' : Coord → ℕ) (live' : ℕ) → Balanced net limit w counted journal T → MarksAlone T T' → T' (mark Over) ≡ T (mark Over) → T' (mark ToMark) ≡ T (mark ToMark)
    → LivePart live' T' → TurnPart journal T' → Balanced net limit (with_live w live') counted journal T'
live_kept net limit w counted journal T T' live' b alone over_is to_mark_is live turns = record {
  by_journal = journal_still net limit w.clock journal T T' alone.duties b.by_journal;
  by_edges = edges_still net w.edge journal T T' alone.duties b.by_edges;
  by_duties = duties_still net w.edge w.join counted journal T T' alone.duties b.by_duties;
  by_admissions = admission_still limit w.admitted journal T T' (alone.duties tickets) over_is b.by_admissions;
  by_live = live;
  by_turns = turns;
  by_units = units_alike net w.unit journal T T' alone.sems b.by_units;
  by_credits = credits_alike net w.credit journal T T' alone.sems b.by_credits;
  by_halt = halt_still w.halt journal T T' to_mark_is b.by_halt;
  by_stuck = stuck_still journal T T' alone.sticking b.by_stuck;
}

pub added_kept : (net : NetRows) (limit : ℕ) (w : Readings) (counted : ℕ → ℕ) (journal : List Entry) (T T' : Coord → ℕ) → Balanced net limit w counted journal T → Moves T (Has New ∷ []) T' (Has Live ∷ []) → Balanced net limit (with_live w (suc w.live)) counted journal T'
added_kept net limit w counted journal T T' b moved =
    live_kept net limit w counted journal T T' _ b (record { duties = λ c. omega (arith, moved (duty c)); sems = λ k s. omega (arith, moved (sem k s)); sticking = omega (arith, moved (mark Sticking)) })
    (omega (arith, moved (mark Over))) (omega (arith, moved (mark ToMark))) (omega (arith, b.by_live, moved (mark Live)))
    (record { turns = omega (arith, b.by_turns.turns, moved (mark Live), moved (mark New), moved turning); ended = omega (arith, b.by_turns.ended, moved owing) })

-- what owes nothing counts nothing
pub owes_none : (c : DutyCoord) → duty_weight c (Owes []) ≡ 0
owes_none (place m) = refl
owes_none (runs m t) = refl
owes_none running = refl
owes_none tickets = refl
owes_none (token e) = refl
owes_none (source s) = refl
owes_none (weakly e) = refl
owes_none (awaits e) = refl
owes_none (unset t) = refl

pub off_kept : (net : NetRows) (limit : ℕ) (w : Readings) (counted : ℕ → ℕ) (journal : List Entry) (T T' : Coord → ℕ) (live' : ℕ) → Balanced net limit w counted journal T → live' + 1 ≡ w.live
    → Moves T (Duty (Owes []) ∷ Has Live ∷ []) T' [] → Balanced net limit (with_live w live') counted journal T'
off_kept net limit w counted journal T T' live' b less moved =
    live_kept net limit w counted journal T T' live' b (record { duties = λ c. omega (arith, moved (duty c), owes_none c); sems = λ k s. omega (arith, moved (sem k s)); sticking = omega (arith, moved (mark Sticking)) })
    (omega (arith, moved (mark Over))) (omega (arith, moved (mark ToMark))) (omega (arith, b.by_live, less, moved (mark Live)))
    (record { turns = omega (arith, b.by_turns.turns, moved (mark Live), moved (mark New), moved turning); ended = omega (arith, b.by_turns.ended, moved owing) })

-- what is known of a rest, and may be forgotten
abbrev pub RestMarks : List Note → Type 0
RestMarks [] = Unit {0}
RestMarks (Has Alone ∷ xs) = RestMarks xs
RestMarks (Has Quiet ∷ xs) = RestMarks xs
RestMarks (Has Halted ∷ xs) = RestMarks xs
RestMarks (Sems Full l ∷ xs) = RestMarks xs
RestMarks _ = ⊥

-- what the accounts count
abbrev pub Accounted : Coord → Type 0
Accounted (duty c) = Unit {0}
Accounted (sem Full s) = ⊥
Accounted (sem k s) = Unit {0}
Accounted (mark Live) = Unit {0}
Accounted (mark New) = Unit {0}
Accounted (mark Over) = Unit {0}
Accounted (mark ToMark) = Unit {0}
Accounted (mark Sticking) = Unit {0}
Accounted turning = Unit {0}
Accounted owing = Unit {0}
Accounted _ = ⊥

pub alike_kept : (net : NetRows) (limit : ℕ) (w : Readings) (counted : ℕ → ℕ) (journal : List Entry) (T T' : Coord → ℕ) → Balanced net limit w counted journal T → ((c : Coord) → Accounted c → T' c ≡ T c) → Balanced net limit w counted journal T'
alike_kept net limit w counted journal T T' b same = let duties : (c : DutyCoord) → T' (duty c) ≡ T (duty c) = λ c. same (duty c) tt in record {
  by_journal = journal_still net limit w.clock journal T T' duties b.by_journal;
  by_edges = edges_still net w.edge journal T T' duties b.by_edges;
  by_duties = duties_still net w.edge w.join counted journal T T' duties b.by_duties;
  by_admissions = admission_still limit w.admitted journal T T' (duties tickets) (same (mark Over) tt) b.by_admissions;
  by_live = b.by_live ∙ sym (same (mark Live) tt);
  by_turns = turns_still journal T T' (same (mark Live) tt) (same (mark New) tt) (same turning tt) (same owing tt) b.by_turns;
  by_units = λ s below. unit_still net (w.unit s) s journal T T' (same (sem Held s) tt) (same (sem Owed s) tt) (same (sem Undo s) tt) (b.by_units s below);
  by_credits = λ s below. credit_still net (w.credit s) s journal T T' (same (sem Both s) tt) (same (sem Credit s) tt) (same (sem Credited s) tt) (same (sem Claim s) tt) (same (sem Granted s) tt) (same (sem Refusing s) tt) (same (sem Denied s) tt) (b.by_credits s below);
  by_halt = halt_still w.halt journal T T' (same (mark ToMark) tt) b.by_halt;
  by_stuck = stuck_still journal T T' (same (mark Sticking) tt) b.by_stuck;
}

one_none : (c : Coord) → Accounted c → (x : Note) → RestMarks (x ∷ []) → weight c x ≡ 0
one_none (duty c) a (Has Alone) h = refl
one_none (duty c) a (Has Quiet) h = refl
one_none (duty c) a (Has Halted) h = refl
one_none (duty c) a (Sems Full l) h = refl
one_none (sem Held s) a (Has Alone) h = refl
one_none (sem Held s) a (Has Quiet) h = refl
one_none (sem Held s) a (Has Halted) h = refl
one_none (sem Held s) a (Sems Full l) h = refl
one_none (sem Undo s) a (Has Alone) h = refl
one_none (sem Undo s) a (Has Quiet) h = refl
one_none (sem Undo s) a (Has Halted) h = refl
one_none (sem Undo s) a (Sems Full l) h = refl
one_none (sem Owed s) a (Has Alone) h = refl
one_none (sem Owed s) a (Has Quiet) h = refl
one_none (sem Owed s) a (Has Halted) h = refl
one_none (sem Owed s) a (Sems Full l) h = refl
one_none (sem Both s) a (Has Alone) h = refl
one_none (sem Both s) a (Has Quiet) h = refl
one_none (sem Both s) a (Has Halted) h = refl
one_none (sem Both s) a (Sems Full l) h = refl
one_none (sem Credit s) a (Has Alone) h = refl
one_none (sem Credit s) a (Has Quiet) h = refl
one_none (sem Credit s) a (Has Halted) h = refl
one_none (sem Credit s) a (Sems Full l) h = refl
one_none (sem Credited s) a (Has Alone) h = refl
one_none (sem Credited s) a (Has Quiet) h = refl
one_none (sem Credited s) a (Has Halted) h = refl
one_none (sem Credited s) a (Sems Full l) h = refl
one_none (sem Claim s) a (Has Alone) h = refl
one_none (sem Claim s) a (Has Quiet) h = refl
one_none (sem Claim s) a (Has Halted) h = refl
one_none (sem Claim s) a (Sems Full l) h = refl
one_none (sem Granted s) a (Has Alone) h = refl
one_none (sem Granted s) a (Has Quiet) h = refl
one_none (sem Granted s) a (Has Halted) h = refl
one_none (sem Granted s) a (Sems Full l) h = refl
one_none (sem Refusing s) a (Has Alone) h = refl
one_none (sem Refusing s) a (Has Quiet) h = refl
one_none (sem Refusing s) a (Has Halted) h = refl
one_none (sem Refusing s) a (Sems Full l) h = refl
one_none (sem Denied s) a (Has Alone) h = refl
one_none (sem Denied s) a (Has Quiet) h = refl
one_none (sem Denied s) a (Has Halted) h = refl
one_none (sem Denied s) a (Sems Full l) h = refl
one_none (mark Live) a (Has Alone) h = refl
one_none (mark Live) a (Has Quiet) h = refl
one_none (mark Live) a (Has Halted) h = refl
one_none (mark Live) a (Sems Full l) h = refl
one_none (mark New) a (Has Alone) h = refl
one_none (mark New) a (Has Quiet) h = refl
one_none (mark New) a (Has Halted) h = refl
one_none (mark New) a (Sems Full l) h = refl
one_none (mark Over) a (Has Alone) h = refl
one_none (mark Over) a (Has Quiet) h = refl
one_none (mark Over) a (Has Halted) h = refl
one_none (mark Over) a (Sems Full l) h = refl
one_none (mark ToMark) a (Has Alone) h = refl
one_none (mark ToMark) a (Has Quiet) h = refl
one_none (mark ToMark) a (Has Halted) h = refl
one_none (mark ToMark) a (Sems Full l) h = refl
one_none (mark Sticking) a (Has Alone) h = refl
one_none (mark Sticking) a (Has Quiet) h = refl
one_none (mark Sticking) a (Has Halted) h = refl
one_none (mark Sticking) a (Sems Full l) h = refl
one_none turning a (Has Alone) h = refl
one_none turning a (Has Quiet) h = refl
one_none turning a (Has Halted) h = refl
one_none turning a (Sems Full l) h = refl
one_none owing a (Has Alone) h = refl
one_none owing a (Has Quiet) h = refl
one_none owing a (Has Halted) h = refl
one_none owing a (Sems Full l) h = refl
one_none c a (Duty i) h = absurd h
one_none c a (Unfit z n t) h = absurd h
one_none c a (Lies k e p) h = absurd h
one_none c a (Queued q qs) h = absurd h
one_none c a (Has Live) h = absurd h
one_none c a (Has New) h = absurd h
one_none c a (Has Over) h = absurd h
one_none c a (Has ToMark) h = absurd h
one_none c a (Has Sticking) h = absurd h
one_none c a (Has Asked) h = absurd h
one_none c a (Sems Held l) h = absurd h
one_none c a (Sems Undo l) h = absurd h
one_none c a (Sems Owed l) h = absurd h
one_none c a (Sems Both l) h = absurd h
one_none c a (Sems Credit l) h = absurd h
one_none c a (Sems Credited l) h = absurd h
one_none c a (Sems Claim l) h = absurd h
one_none c a (Sems Granted l) h = absurd h
one_none c a (Sems Refusing l) h = absurd h
one_none c a (Sems Denied l) h = absurd h
one_none (sem Full s) a x h = absurd a
one_none (mark Alone) a x h = absurd a
one_none (mark Quiet) a x h = absurd a
one_none (mark Halted) a x h = absurd a
one_none (mark Asked) a x h = absurd a
one_none busy a x h = absurd a
one_none resting a x h = absurd a
one_none telling a x h = absurd a

pub rest_head : (x : Note) (xs : List Note) → RestMarks (x ∷ xs) → RestMarks (x ∷ []) × RestMarks xs
rest_head (Has Alone) xs h = (tt, h)
rest_head (Has Quiet) xs h = (tt, h)
rest_head (Has Halted) xs h = (tt, h)
rest_head (Sems Full l) xs h = (tt, h)
rest_head (Duty i) xs h = absurd h
rest_head (Unfit z n t) xs h = absurd h
rest_head (Lies k e p) xs h = absurd h
rest_head (Queued q qs) xs h = absurd h
rest_head (Has Live) xs h = absurd h
rest_head (Has New) xs h = absurd h
rest_head (Has Over) xs h = absurd h
rest_head (Has ToMark) xs h = absurd h
rest_head (Has Sticking) xs h = absurd h
rest_head (Has Asked) xs h = absurd h
rest_head (Sems Held l) xs h = absurd h
rest_head (Sems Undo l) xs h = absurd h
rest_head (Sems Owed l) xs h = absurd h
rest_head (Sems Both l) xs h = absurd h
rest_head (Sems Credit l) xs h = absurd h
rest_head (Sems Credited l) xs h = absurd h
rest_head (Sems Claim l) xs h = absurd h
rest_head (Sems Granted l) xs h = absurd h
rest_head (Sems Refusing l) xs h = absurd h
rest_head (Sems Denied l) xs h = absurd h

pub marks_none : (c : Coord) → Accounted c → (v : List Note) → RestMarks v → weigh c v ≡ 0
marks_none c a [] h = refl
marks_none c a (x ∷ xs) h = let parts = rest_head x xs h in omega (arith, one_none c a x parts.0, marks_none c a xs parts.1)
