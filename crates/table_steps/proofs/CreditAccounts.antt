-- Credits and claims keep the accounts; a claim is refused only where a unit would be given back that isn't out.
use Rattle.std.proofs.Common.{◌≡◌, ◌≢◌, ◌⊎◌, inl, inr, ℕ, ◌+◌, ◌<◌, ◌≤◌, Bool, true, false, not, ◌&&◌, eqb, List, [], ◌∷◌, length, take, Option, Some, None, refl, sym, ap, ◌∙◌, subst, arith}
use Rattle.std.specs.Prelude.{◌==◌}
use Rattle.std.specs.Option.{option_map_or}
use Rattle.std.proofs.lemmas.Bool.Decides.{nat_tests}
use Rattle.std.proofs.lemmas.Bool.{cases_eq, false≢true}
use Rattle.std.proofs.Math.Seq.{take-length}
use Rattle.task_graph.specs.NetRows.{NetRows}
use Rattle.journal_rules.specs.declared.entry.Entry.{Entry}
use Rattle.journal_rules.specs.Counts.{start_at, started}
use Rattle.journal_rules.specs.SemaphoreRule.{takes, puts, back, taken, closed_takers, other_putters, IsOverRelease}
use Rattle.table_steps.specs.inside.Duties.{DutyCoord, tickets, Raised}
use Rattle.table_steps.specs.Giving.{one_if}
use Rattle.table_steps.specs.declared.view.SemaphoreRole.TheVariants.{Held, Undo, Owed, Both, Credit, Credited, Claim, Granted, Refusing, Denied}
use Rattle.table_steps.specs.declared.view.SeatMark.TheVariants.{Live, New, Over, ToMark, Sticking}
use Rattle.table_steps.specs.declared.view.Note.TheVariants.{Sems}
use Rattle.table_steps.specs.inside.Accounts.{Coord, duty, sem, mark, turning, owing, CreditPart, Readings, Balanced, Moves, with_credit, only_puts, only_takes, starts_of}
use Rattle.table_steps.specs.Credits.{first_credit}
use Rattle.table_steps.proofs.Still.{journal_still, edges_still, duties_still, admission_still, turns_still, unit_still, halt_still, stuck_still}
use Rattle.table_steps.proofs.Journals.{count_cons, starts_from, from_cons, from_one, and_same, and_off, and_on}
use Rattle.table_steps.proofs.Credits.{Credits}
use Rattle.table_steps.proofs.UnitAccounts.{AreFewer}

from_plain : (test : ℕ → Bool) (n : ℕ) (xs : List Entry) → starts_from (λ k u. test u) n xs ≡ starts_of test xs
from_plain test n [] = refl
from_plain test n (x ∷ xs) = omega (arith, from_cons (λ k u. test u) n x xs, count_cons (λ entry. option_map_or test (started entry) false) x xs, from_plain test (n + 1) xs)

pub others_and_own : (net : NetRows) (s : ℕ) (journal : List Entry) (m t : ℕ) → start_at journal m ≡ Some t → other_putters net s m journal + one_if (only_puts net s t) ≡ starts_of (only_puts net s) journal
others_and_own net s journal m t there = omega (arith, from_one other plain 0 m m t journal (omega arith) same_else off there, from_plain (only_puts net s) 0 journal)
  where
    other : ℕ → ℕ → Bool
    other n u = puts net s u && not (takes net s u) && not (n == m)

    plain : ℕ → ℕ → Bool
    plain n u = only_puts net s u

    same_else : (k u : ℕ) → k ≢ m → plain k u ≡ other k u
    same_else k u apart =
        let miss : eqb k m ≡ false = grind (arith, nat_tests) in sym (and_same (puts net s u) (not (takes net s u)) _ true (ap not miss) ∙ and_on (puts net s u) (not (takes net s u)))

    off : other m t ≡ false
    off = let hit : eqb m m ≡ true = grind (arith, nat_tests) in and_same (puts net s t) (not (takes net s t)) _ false (ap not hit) ∙ and_off (puts net s t) (not (takes net s t))

pub parted : (net : NetRows) (s : ℕ) (journal : List Entry) → starts_of (takes net s) journal + starts_of (only_puts net s) journal ≡ starts_of (puts net s) journal + starts_of (only_takes net s) journal
parted net s [] = refl
parted net s (x ∷ xs) =
    omega (arith, parted net s xs, one (started x), cons (takes net s), cons (only_puts net s), cons (puts net s), cons (only_takes net s))
  where
    cons : (test : ℕ → Bool) → starts_of test (x ∷ xs) ≡ one_if (option_map_or test (started x) false) + starts_of test xs
    cons test = count_cons (λ entry. option_map_or test (started entry) false) x xs

    four : (a b : Bool) → one_if a + one_if (b && not a) ≡ one_if b + one_if (a && not b)
    four true true = refl
    four true false = refl
    four false true = refl
    four false false = refl

    one : (o : Option ℕ) → one_if (option_map_or (takes net s) o false) + one_if (option_map_or (only_puts net s) o false) ≡ one_if (option_map_or (puts net s) o false) + one_if (option_map_or (only_takes net s) o false)
    one None = refl
    one (Some u) = four (takes net s u) (puts net s u)

-- a credit added, of a unit that is taken and not put
pub credits_added : (net : NetRows) (credit credit' : ℕ → ℕ) (journal : List Entry) (T T' : Coord → ℕ) (a : ℕ) (l l' m : List ℕ) → Credits net credit journal T → Raised credit a credit' → AreFewer a l' l
    → Moves T (Sems Credit l ∷ Sems Credited m ∷ []) T' (Sems Credit l' ∷ Sems Credited (a ∷ m) ∷ []) → Credits net credit' journal T'
credits_added net credit credit' journal T T' a l l' m k raised fewer moved s below = record {
  tells = omega (arith, (k s below).tells, raised s, fewer s, moved (sem Granted s), moved (sem Refusing s), moved (sem Both s), moved (sem Credit s));
  backed = omega (arith, (k s below).backed, fewer s, moved (sem Granted s), moved (sem Both s), moved (sem Credit s));
  claims = omega (arith, (k s below).claims, moved (sem Both s), moved (sem Claim s), moved (sem Granted s), moved (sem Refusing s), moved (sem Denied s));
  takers = omega (arith, (k s below).takers, fewer s, moved (sem Credit s), moved (sem Credited s));
}

-- a claim granted
pub credits_granted : (net : NetRows) (credit credit' : ℕ → ℕ) (journal : List Entry) (T T' : Coord → ℕ) (a : ℕ) (l l' m : List ℕ) → Credits net credit journal T → Raised credit' a credit → AreFewer a l' l → first_credit < credit a
    → Moves T (Sems Claim l ∷ Sems Granted m ∷ []) T' (Sems Claim l' ∷ Sems Granted (a ∷ m) ∷ []) → Credits net credit' journal T'
credits_granted net credit credit' journal T T' a l l' m k lowered fewer found moved s below = record {
  tells = omega (arith, (k s below).tells, lowered s, moved (sem Granted s), moved (sem Refusing s), moved (sem Both s), moved (sem Credit s));
  backed = by_eq (cases_eq a s);
  claims = omega (arith, (k s below).claims, fewer s, moved (sem Both s), moved (sem Claim s), moved (sem Granted s), moved (sem Refusing s), moved (sem Denied s));
  takers = omega (arith, (k s below).takers, moved (sem Credit s), moved (sem Credited s));
}
  where
    by_eq : (a ≡ s) ⊎ (a ≢ s) → back net s journal + T' (sem Granted s) + T' (sem Both s) + T' (sem Credit s) ≤ taken net s journal
    by_eq (inl same) =
        let hit : eqb a s ≡ true = grind (arith, nat_tests) in
        omega (arith, (k s below).tells, found, ap credit same, ap one_if hit, moved (sem Granted s), moved (sem Both s), moved (sem Credit s))
    by_eq (inr other) =
        let miss : eqb a s ≡ false = grind (arith, nat_tests) in
        omega (arith, (k s below).backed, ap one_if miss, moved (sem Granted s), moved (sem Both s), moved (sem Credit s))

-- refused
pub credits_refused : (net : NetRows) (credit credit' : ℕ → ℕ) (journal : List Entry) (T T' : Coord → ℕ) (a : ℕ) (l l' : List ℕ) → Credits net credit journal T → Raised credit' a credit → AreFewer a l' l
    → Moves T (Sems Claim l ∷ []) T' (Sems Claim l' ∷ Sems Refusing (a ∷ []) ∷ []) → Credits net credit' journal T'
credits_refused net credit credit' journal T T' a l l' k lowered fewer moved s below = record {
  tells = omega (arith, (k s below).tells, lowered s, moved (sem Granted s), moved (sem Refusing s), moved (sem Both s), moved (sem Credit s));
  backed = omega (arith, (k s below).backed, moved (sem Granted s), moved (sem Both s), moved (sem Credit s));
  claims = omega (arith, (k s below).claims, fewer s, moved (sem Both s), moved (sem Claim s), moved (sem Granted s), moved (sem Refusing s), moved (sem Denied s));
  takers = omega (arith, (k s below).takers, moved (sem Credit s), moved (sem Credited s));
}

-- and undone
pub credits_undone : (net : NetRows) (credit credit' : ℕ → ℕ) (journal : List Entry) (T T' : Coord → ℕ) (a : ℕ) → Credits net credit journal T → Raised credit a credit'
    → Moves T (Sems Refusing (a ∷ []) ∷ []) T' (Sems Denied (a ∷ []) ∷ []) → Credits net credit' journal T'
credits_undone net credit credit' journal T T' a k raised moved s below = record {
  tells = omega (arith, (k s below).tells, raised s, moved (sem Granted s), moved (sem Refusing s), moved (sem Both s), moved (sem Credit s));
  backed = omega (arith, (k s below).backed, moved (sem Granted s), moved (sem Both s), moved (sem Credit s));
  claims = omega (arith, (k s below).claims, moved (sem Both s), moved (sem Claim s), moved (sem Granted s), moved (sem Refusing s), moved (sem Denied s));
  takers = omega (arith, (k s below).takers, moved (sem Credit s), moved (sem Credited s));
}

-- A claim that found no credit would give back a unit that isn't out.
own : (p q : Bool) → p ≡ true → one_if q + one_if (p && not q) ≡ 1
own true true h = refl
own true false h = refl
own false q h = absurd (false≢true h)

pub refused_unfit : (net : NetRows) (word : ℕ) (journal : List Entry) (T : Coord → ℕ) (a m t : ℕ) → CreditPart net word a journal T → word ≤ first_credit → 1 ≤ T (sem Claim a)
    → m < length journal → start_at journal m ≡ Some t → puts net a t ≡ true → IsOverRelease net journal a m t
refused_unfit net word journal T a m t k found claims_it below there puts_it =
    let whole : journal ≡ take (length journal) journal = sym (take-length journal) in
    let less : closed_takers net a journal + one_if (takes net a t) ≤ other_putters net a m journal =
    omega (arith, k.tells, k.claims, k.takers, found, claims_it, parted net a journal, others_and_own net a journal m t there, own (puts net a t) (takes net a t) puts_it) in
    (puts_it, (length journal, below, omega arith, subst (λ j. closed_takers net a j + one_if (takes net a t) ≤ other_putters net a m j) whole less))

-- a step on a credit word leaves the other accounts alone
pub record DutiesAlone (T T' : Coord → ℕ) : Type 0 where
  pub duties : (c : DutyCoord) → T' (duty c) ≡ T (duty c)
  pub live : T' (mark Live) ≡ T (mark Live)
  pub over : T' (mark Over) ≡ T (mark Over)
  pub to_mark : T' (mark ToMark) ≡ T (mark ToMark)
  pub sticking : T' (mark Sticking) ≡ T (mark Sticking)
  pub new : T' (mark New) ≡ T (mark New)
  pub turning_is : T' turning ≡ T turning
  pub owing_is : T' owing ≡ T owing

pub record HeldAlone (T T' : Coord → ℕ) : Type 0 where
  pub held : (s : ℕ) → T' (sem Held s) ≡ T (sem Held s)
  pub owed : (s : ℕ) → T' (sem Owed s) ≡ T (sem Owed s)
  pub undo : (s : ℕ) → T' (sem Undo s) ≡ T (sem Undo s)

pub credits_kept : (net : NetRows) (limit : ℕ) (w : Readings) (counted : ℕ → ℕ) (journal : List Entry) (T T' : Coord → ℕ) (credit' : ℕ → ℕ) → Balanced net limit w counted journal T → DutiesAlone T T' → HeldAlone T T' → Credits net credit' journal T'
    → Balanced net limit (with_credit w credit') counted journal T'
credits_kept net limit w counted journal T T' credit' b still alone credits = record {
  by_journal = journal_still net limit w.clock journal T T' still.duties b.by_journal;
  by_edges = edges_still net w.edge journal T T' still.duties b.by_edges;
  by_duties = duties_still net w.edge w.join counted journal T T' still.duties b.by_duties;
  by_admissions = admission_still limit w.admitted journal T T' (still.duties tickets) still.over b.by_admissions;
  by_live = b.by_live ∙ sym still.live;
  by_turns = turns_still journal T T' still.live still.new still.turning_is still.owing_is b.by_turns;
  by_units = λ s below. unit_still net (w.unit s) s journal T T' (alone.held s) (alone.owed s) (alone.undo s) (b.by_units s below);
  by_credits = credits;
  by_halt = halt_still w.halt journal T T' still.to_mark b.by_halt;
  by_stuck = stuck_still journal T T' still.sticking b.by_stuck;
}
