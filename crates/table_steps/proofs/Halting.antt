-- The halt mark set, and a load of it, keep the accounts.
use Rattle.std.proofs.Common.{◌≡◌, ◌≢◌, ℕ, zero, suc, ◌≤◌, List, [], ◌∷◌, refl, arith}
use Rattle.task_graph.specs.NetRows.{NetRows}
use Rattle.journal_rules.specs.declared.entry.Entry.{Entry}
use Rattle.journal_rules.specs.Counts.{faults}
use Rattle.table_steps.specs.inside.Duties.{DutyCoord, tickets}
use Rattle.table_steps.specs.declared.view.SeatMark.TheVariants.{Live, New, Over, ToMark, Sticking}
use Rattle.table_steps.specs.declared.view.Note.TheVariants.{Has}
use Rattle.table_steps.specs.inside.Accounts.{Coord, duty, sem, mark, turning, owing, HaltPart, Readings, Balanced, Moves, with_halt}
use Rattle.table_steps.proofs.Still.{journal_still, edges_still, duties_still, admission_still, turns_still, stuck_still}
use Rattle.table_steps.proofs.Marking.{units_alike, credits_alike}

-- where a turn has still to set the mark, the journal has a Fault
pub fault_there : (h : ℕ) (journal : List Entry) (T : Coord → ℕ) → HaltPart h journal T → 1 ≤ T (mark ToMark) → 1 ≤ faults journal
fault_there zero journal T is some = omega (arith, is, some)
fault_there (suc h) journal T is some = is

halt_set : (h : ℕ) (journal : List Entry) (T : Coord → ℕ) → h ≢ 0 → 1 ≤ faults journal → HaltPart h journal T
halt_set zero journal T some is = absurd (some refl)
halt_set (suc h) journal T some is = is

-- the mark set
pub marked_kept : (net : NetRows) (limit : ℕ) (w : Readings) (counted : ℕ → ℕ) (journal : List Entry) (T T' : Coord → ℕ) (halt' : ℕ) → Balanced net limit w counted journal T → halt' ≢ 0 → Moves T (Has ToMark ∷ []) T' [] → Balanced net limit (with_halt w halt') counted journal T'
marked_kept net limit w counted journal T T' halt' b some moved = let same : (c : DutyCoord) → T' (duty c) ≡ T (duty c) = λ c. omega (arith, moved (duty c)) in record {
  by_journal = journal_still net limit w.clock journal T T' same b.by_journal;
  by_edges = edges_still net w.edge journal T T' same b.by_edges;
  by_duties = duties_still net w.edge w.join counted journal T T' same b.by_duties;
  by_admissions = admission_still limit w.admitted journal T T' (same tickets) (omega (arith, moved (mark Over))) b.by_admissions;
  by_live = omega (arith, b.by_live, moved (mark Live));
  by_turns = turns_still journal T T' (omega (arith, moved (mark Live))) (omega (arith, moved (mark New))) (omega (arith, moved turning)) (omega (arith, moved owing)) b.by_turns;
  by_units = units_alike net w.unit journal T T' (λ k s. omega (arith, moved (sem k s))) b.by_units;
  by_credits = credits_alike net w.credit journal T T' (λ k s. omega (arith, moved (sem k s))) b.by_credits;
  by_halt = halt_set halt' journal T' some (fault_there w.halt journal T b.by_halt (omega (arith, moved (mark ToMark))));
  by_stuck = stuck_still journal T T' (omega (arith, moved (mark Sticking))) b.by_stuck;
}

-- what a load of the mark says of the journal
pub halt_found : (h : ℕ) (journal : List Entry) (T : Coord → ℕ) → HaltPart h journal T → h ≢ 0 → 1 ≤ faults journal
halt_found zero journal T is some = absurd (some refl)
halt_found (suc h) journal T is some = is
