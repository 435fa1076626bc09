-- A Start or an End drawn from the clock keeps the accounts.
use Rattle.std.proofs.Common.{◌≡◌, ◌≢◌, ◌⊎◌, inl, inr, ℕ, suc, ◌+◌, ◌<◌, ◌≤◌, true, false, eqb, List, [], ◌∷◌, ◌++◌, ap, arith}
use Rattle.std.specs.Prelude.{nat_lt}
use Rattle.std.proofs.lemmas.Bool.Decides.{nat_tests}
use Rattle.std.proofs.lemmas.Bool.{cases_eq, cases_lt}
use Rattle.task_graph.specs.NetRows.{NetRows}
use Rattle.journal_rules.specs.declared.entry.Cause.{Cause}
use Rattle.journal_rules.specs.declared.entry.Cause.TheVariants.{Source, Strong, Weak}
use Rattle.journal_rules.specs.declared.entry.Entry.{Entry}
use Rattle.journal_rules.specs.declared.entry.Entry.TheVariants.{Start}
use Rattle.journal_rules.specs.declared.entry.Part.{Part}
use Rattle.journal_rules.specs.Counts.{uses, is_source}
use Rattle.journal_rules.specs.DataRule.{edges_of}
use Rattle.journal_rules.proofs.Snoc.{count_by_push}
use Rattle.journal_rules.proofs.Tallying.{and_true, and_false, given_push}
use Rattle.table_steps.specs.Releases.{CanRelease, MayBeReleased}
use Rattle.table_steps.specs.declared.view.TurnDuty.TheVariants.{Told, Collecting, Ticket, Open}
use Rattle.table_steps.specs.inside.Duties.{DutyCoord, token, source, weakly, awaits, unset, EdgePart, DutyPart, DutyMoves}
use Rattle.table_steps.specs.Giving.{one_if}
use Rattle.table_steps.proofs.Counting.{CauseFits, used_at_start}

pub one_self : (t : ℕ) → one_if (eqb t t) ≡ 1
one_self t = let hit : eqb t t ≡ true = grind (arith, nat_tests) in ap one_if hit

-- one number more is below
pub below_more : (n m : ℕ) → one_if (nat_lt m n) + one_if (eqb n m) ≡ one_if (nat_lt m (suc n))
below_more n m = by_place (cases_lt m n) (cases_eq n m)
  where
    by_place : (m < n) ⊎ (n ≤ m) → (n ≡ m) ⊎ (n ≢ m) → one_if (nat_lt m n) + one_if (eqb n m) ≡ one_if (nat_lt m (suc n))
    by_place (inl before) placed =
        let a : nat_lt m n ≡ true = grind (arith, nat_tests) in let b : eqb n m ≡ false = grind (arith, nat_tests) in let c : nat_lt m (suc n) ≡ true = grind (arith, nat_tests) in
        rw (a, b, c) (omega arith)
    by_place (inr after) (inl same) =
        let a : nat_lt m n ≡ false = grind (arith, nat_tests) in let b : eqb n m ≡ true = grind (arith, nat_tests) in let c : nat_lt m (suc n) ≡ true = grind (arith, nat_tests) in
        rw (a, b, c) (omega arith)
    by_place (inr after) (inr other) =
        let a : nat_lt m n ≡ false = grind (arith, nat_tests) in let b : eqb n m ≡ false = grind (arith, nat_tests) in let c : nat_lt m (suc n) ≡ false = grind (arith, nat_tests) in
        rw (a, b, c) (omega arith)

pub start_edges : (net : NetRows) (n : ℕ) (edge : ℕ → ℕ) (journal : List Entry) (T T' : DutyCoord → ℕ) (t : ℕ) (cause : Cause) (ins : List Part)
    → EdgePart net edge journal T → MayBeReleased net t cause
    → DutyMoves T (Collecting t cause (edges_of net t cause) [] ∷ Ticket ∷ []) T' (Open n t ∷ Told n (Start t cause ins) ∷ [])
    → EdgePart net edge (journal ++ Start t cause ins ∷ []) T'
start_edges net n edge journal T T' t cause ins b may moved e =
    omega (arith, b e, moved (token e), given_push net e journal (Start t cause ins), used_at_start net e t cause ins journal (fits_of cause may.fits))
  where
    fits_of : (c : Cause) → CanRelease net t c → CauseFits net t c
    fits_of Source fits = tt
    fits_of Strong fits = tt
    fits_of (Weak f) fits = fits.0

pub start_duties : (net : NetRows) (n : ℕ) (edge join counted : ℕ → ℕ) (journal : List Entry) (T T' : DutyCoord → ℕ) (t : ℕ) (cause : Cause) (ins : List Part)
    → DutyPart net edge join counted journal T
    → DutyMoves T (Collecting t cause (edges_of net t cause) [] ∷ Ticket ∷ []) T' (Open n t ∷ Told n (Start t cause ins) ∷ [])
    → DutyPart net edge join counted (journal ++ Start t cause ins ∷ []) T'
start_duties net n edge join counted journal T T' t Source ins d moved = record {
  sources = λ s is below. omega (arith, d.sources s is below, moved (source s), count_by_push (uses is_source s) journal (Start t Source ins), ap one_if (and_true (eqb t s)));
  weaks = λ e weak. omega (arith, d.weaks e weak, moved (weakly e));
  states = λ e strong. omega (arith, d.states e strong, moved (awaits e));
  bits = d.bits;
  joins = d.joins;
  unsets = λ s some. omega (arith, d.unsets s some, moved (unset s));
}
start_duties net n edge join counted journal T T' t Strong ins d moved = record {
  sources = λ s is below. omega (arith, d.sources s is below, moved (source s), count_by_push (uses is_source s) journal (Start t Strong ins), ap one_if (and_false (eqb t s)));
  weaks = λ e weak. omega (arith, d.weaks e weak, moved (weakly e));
  states = λ e strong. omega (arith, d.states e strong, moved (awaits e));
  bits = d.bits;
  joins = d.joins;
  unsets = λ s some. omega (arith, d.unsets s some, moved (unset s));
}
start_duties net n edge join counted journal T T' t (Weak f) ins d moved = record {
  sources = λ s is below. omega (arith, d.sources s is below, moved (source s), count_by_push (uses is_source s) journal (Start t (Weak f) ins), ap one_if (and_false (eqb t s)));
  weaks = λ e weak. omega (arith, d.weaks e weak, moved (weakly e));
  states = λ e strong. omega (arith, d.states e strong, moved (awaits e));
  bits = d.bits;
  joins = d.joins;
  unsets = λ s some. omega (arith, d.unsets s some, moved (unset s));
}
