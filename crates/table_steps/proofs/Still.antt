-- Accounts of which a step changes no part.
use Rattle.std.proofs.Common.{◌≡◌, ℕ, zero, suc, List, sym, ◌∙◌, subst, arith}
use Rattle.task_graph.specs.NetRows.{NetRows}
use Rattle.journal_rules.specs.declared.entry.Entry.{Entry}
use Rattle.table_steps.specs.inside.Duties.{DutyCoord, place, runs, running, tickets, EdgePart, DutyPart}
use Rattle.table_steps.specs.declared.view.SemaphoreRole.TheVariants.{Held, Undo, Owed, Both, Credit, Credited, Claim, Granted, Refusing, Denied}
use Rattle.table_steps.specs.declared.view.SeatMark.TheVariants.{Live, New, Over, ToMark, Sticking}
use Rattle.table_steps.specs.inside.Accounts.{Coord, duty, sem, mark, turning, owing, TurnPart, JournalPart, AdmissionPart, UnitPart, CreditPart, HaltPart, StuckPart}

pub journal_still : (net : NetRows) (limit n : ℕ) (journal : List Entry) (T T' : Coord → ℕ) → ((c : DutyCoord) → T' (duty c) ≡ T (duty c)) → JournalPart net limit n journal T → JournalPart net limit n journal T'
journal_still net limit n journal T T' same j = record {
  clock = j.clock;
  legal = j.legal;
  places = λ m. same (place m) ∙ j.places m;
  opens = λ m t. same (runs m t) ∙ j.opens m t;
  size = omega (arith, j.size, same running);
  unclosed = j.unclosed;
}

pub edges_still : (net : NetRows) (edge : ℕ → ℕ) (journal : List Entry) (T T' : Coord → ℕ) → ((c : DutyCoord) → T' (duty c) ≡ T (duty c)) → EdgePart net edge journal (λ c. T (duty c)) → EdgePart net edge journal (λ c. T' (duty c))
edges_still net edge journal T T' same b = subst (λ (f : DutyCoord → ℕ). EdgePart net edge journal f) (λ i c. sym (same c) i) b

pub duties_still : (net : NetRows) (edge join counted : ℕ → ℕ) (journal : List Entry) (T T' : Coord → ℕ) → ((c : DutyCoord) → T' (duty c) ≡ T (duty c)) → DutyPart net edge join counted journal (λ c. T (duty c)) → DutyPart net edge join counted journal (λ c. T' (duty c))
duties_still net edge join counted journal T T' same b = subst (λ (f : DutyCoord → ℕ). DutyPart net edge join counted journal f) (λ i c. sym (same c) i) b

pub admission_still : (limit a : ℕ) (journal : List Entry) (T T' : Coord → ℕ) → T' (duty tickets) ≡ T (duty tickets) → T' (mark Over) ≡ T (mark Over) → AdmissionPart limit a journal T → AdmissionPart limit a journal T'
admission_still limit a journal T T' tickets_are over_is p = record {
  drawn = omega (arith, p.drawn, tickets_are, over_is);
  room = omega (arith, p.room, tickets_are);
  full = λ some. omega (arith, tickets_are, p.full (λ none. some (omega (arith, none, over_is))));
}

pub turns_still : (journal : List Entry) (T T' : Coord → ℕ) → T' (mark Live) ≡ T (mark Live) → T' (mark New) ≡ T (mark New) → T' turning ≡ T turning → T' owing ≡ T owing → TurnPart journal T → TurnPart journal T'
turns_still journal T T' a b c d p = record { turns = omega (arith, p.turns, a, b, c); ended = omega (arith, p.ended, d) }

pub unit_still : (net : NetRows) (word s : ℕ) (journal : List Entry) (T T' : Coord → ℕ) → T' (sem Held s) ≡ T (sem Held s) → T' (sem Owed s) ≡ T (sem Owed s) → T' (sem Undo s) ≡ T (sem Undo s)
    → UnitPart net word s journal T → UnitPart net word s journal T'
unit_still net word s journal T T' a b c u = record { tells = omega (arith, u.tells, a, b, c); within = omega (arith, u.within, a, b) }

pub credit_still : (net : NetRows) (word s : ℕ) (journal : List Entry) (T T' : Coord → ℕ) → T' (sem Both s) ≡ T (sem Both s) → T' (sem Credit s) ≡ T (sem Credit s) → T' (sem Credited s) ≡ T (sem Credited s) → T' (sem Claim s) ≡ T (sem Claim s)
    → T' (sem Granted s) ≡ T (sem Granted s) → T' (sem Refusing s) ≡ T (sem Refusing s) → T' (sem Denied s) ≡ T (sem Denied s) → CreditPart net word s journal T → CreditPart net word s journal T'
credit_still net word s journal T T' a b c d e f g k = record {
  tells = omega (arith, k.tells, a, b, e, f);
  backed = omega (arith, k.backed, a, b, e);
  claims = omega (arith, k.claims, a, d, e, f, g);
  takers = omega (arith, k.takers, b, c);
}

pub halt_still : (word : ℕ) (journal : List Entry) (T T' : Coord → ℕ) → T' (mark ToMark) ≡ T (mark ToMark) → HaltPart word journal T → HaltPart word journal T'
halt_still zero journal T T' same h = h ∙ sym same
halt_still (suc n) journal T T' same h = h

pub stuck_still : (journal : List Entry) (T T' : Coord → ℕ) → T' (mark Sticking) ≡ T (mark Sticking) → StuckPart journal T → StuckPart journal T'
stuck_still journal T T' same h some = omega (arith, same, h some)
