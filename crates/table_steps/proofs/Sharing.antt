-- How the units of a start are shared: those that its task puts, those to be credited, and those to be claimed.
use Rattle.std.proofs.Common.{◌≡◌, ◌≢◌, ◌⊎◌, inl, inr, ℕ, zero, suc, ◌+◌, ◌<◌, ◌≤◌, Bool, true, false, not, ◌&&◌, eqb, List, [], ◌∷◌, length, refl, sym, ap, ◌∙◌, arith}
use Rattle.std.specs.Prelude.{◌==◌}
use Rattle.std.proofs.lemmas.Bool.Decides.{nat_tests}
use Rattle.std.proofs.lemmas.Bool.{cases_eq, false≢true, and_parts}
use Rattle.task_graph.specs.NetRows.{NetRows}
use Rattle.task_graph.specs.Net.{IsNet}
use Rattle.journal_rules.specs.SemaphoreRule.{takes, puts}
use Rattle.journal_rules.proofs.TaskSemaphores.{puts_in_range}
use Rattle.table_steps.specs.Giving.{one_if, times}
use Rattle.table_steps.specs.Holding.{HoldsEachUnit, PutsBack, TakesAlone, PutsAlone, PutsAll}
use Rattle.table_steps.specs.inside.Accounts.{only_puts}
use Rattle.table_steps.specs.inside.Kinds.{add_if, among, numbers_below, own_units, credits_due, claims_due}

times_added : (b : Bool) (s z : ℕ) (l : List ℕ) → times z (add_if b s l) ≡ one_if (b && (s == z)) + times z l
times_added true s z l = refl
times_added false s z l = omega arith

-- of one number: it counts where it passes
one_hit : (test : ℕ → Bool) (s z : ℕ) → test z ≡ true → one_if (test s && (s == z)) ≡ one_if (s == z)
one_hit test s z hit = by_eq (cases_eq s z)
  where
    by_eq : (s ≡ z) ⊎ (s ≢ z) → one_if (test s && (s == z)) ≡ one_if (s == z)
    by_eq (inl same) = let passes : test s ≡ true = ap test same ∙ hit in rw passes refl
    by_eq (inr other) = let miss : eqb s z ≡ false = grind (arith, nat_tests) in rw miss (none (test s))
      where
        none : (b : Bool) → one_if (b && false) ≡ 0
        none true = refl
        none false = refl

one_miss : (test : ℕ → Bool) (s z : ℕ) → test z ≡ false → one_if (test s && (s == z)) ≡ 0
one_miss test s z hit = by_eq (cases_eq s z)
  where
    by_eq : (s ≡ z) ⊎ (s ≢ z) → one_if (test s && (s == z)) ≡ 0
    by_eq (inl same) = let fails : test s ≡ false = ap test same ∙ hit in rw fails refl
    by_eq (inr other) = let miss : eqb s z ≡ false = grind (arith, nat_tests) in rw miss (none (test s))
      where
        none : (b : Bool) → one_if (b && false) ≡ 0
        none true = refl
        none false = refl

among_hit : (test : ℕ → Bool) (z : ℕ) (l : List ℕ) → test z ≡ true → times z (among test l) ≡ times z l
among_hit test z [] hit = refl
among_hit test z (s ∷ l) hit = omega (arith, times_added (test s) s z (among test l), one_hit test s z hit, among_hit test z l hit)

among_miss : (test : ℕ → Bool) (z : ℕ) (l : List ℕ) → test z ≡ false → times z (among test l) ≡ 0
among_miss test z [] miss = refl
among_miss test z (s ∷ l) miss = omega (arith, times_added (test s) s z (among test l), one_miss test s z miss, among_miss test z l miss)

below_past : (test : ℕ → Bool) (z k : ℕ) → k ≤ z → times z (numbers_below test k) ≡ 0
below_past test z zero past = refl
below_past test z (suc k) past = let miss : eqb k z ≡ false = grind (arith, nat_tests) in
    omega (arith, times_added (test k) k z (numbers_below test k), ap (λ b. one_if (test k && b)) miss, none (test k), below_past test z k (omega (arith, past)))
  where
    none : (b : Bool) → one_if (b && false) ≡ 0
    none true = refl
    none false = refl

below_miss : (test : ℕ → Bool) (z k : ℕ) → test z ≡ false → times z (numbers_below test k) ≡ 0
below_miss test z zero miss = refl
below_miss test z (suc k) miss = omega (arith, times_added (test k) k z (numbers_below test k), one_miss test k z miss, below_miss test z k miss)

below_hit : (test : ℕ → Bool) (z k : ℕ) → z < k → test z ≡ true → times z (numbers_below test k) ≡ 1
below_hit test z zero lower hit = absurd (omega (arith, lower))
below_hit test z (suc k) lower hit = by_eq (cases_eq k z) (λ less. below_hit test z k less hit)
  where
    by_eq : (k ≡ z) ⊎ (k ≢ z) → (z < k → times z (numbers_below test k) ≡ 1) → times z (add_if (test k) k (numbers_below test k)) ≡ 1
    by_eq (inl same) deeper = let there : eqb k z ≡ true = grind (arith, nat_tests) in
        omega (arith, times_added (test k) k z (numbers_below test k), one_hit test k z hit, ap one_if there, below_past test z k (omega (arith, same)))
    by_eq (inr other) deeper = let miss : eqb k z ≡ false = grind (arith, nat_tests) in
        omega (arith, times_added (test k) k z (numbers_below test k), one_hit test k z hit, ap one_if miss, deeper (omega (arith, lower, other)))

-- those of the units held that the task puts
pub puts_back : (net : NetRows) (t : ℕ) (l : List ℕ) → HoldsEachUnit net t l → PutsBack net t (own_units net t l)
puts_back net t l holds s = by_put (puts net s t) refl
  where
    all : (b : Bool) → one_if b ≡ one_if (b && true)
    all true = refl
    all false = refl

    none : (b : Bool) → one_if (b && false) ≡ 0
    none true = refl
    none false = refl

    by_put : (p : Bool) → puts net s t ≡ p → times s (own_units net t l) ≡ one_if (takes net s t && puts net s t)
    by_put true is = among_hit (λ z. puts net z t) s l is ∙ holds s ∙ all (takes net s t) ∙ ap (λ b. one_if (takes net s t && b)) (sym is)
    by_put false is = among_miss (λ z. puts net z t) s l is ∙ sym (none (takes net s t)) ∙ ap (λ b. one_if (takes net s t && b)) (sym is)

-- and the others
pub takes_alone : (net : NetRows) (t : ℕ) (l : List ℕ) → HoldsEachUnit net t l → TakesAlone net t (credits_due net t l)
takes_alone net t l holds s = by_put (puts net s t) refl
  where
    all : (b : Bool) → one_if b ≡ one_if (b && true)
    all true = refl
    all false = refl

    none : (b : Bool) → one_if (b && false) ≡ 0
    none true = refl
    none false = refl

    by_put : (p : Bool) → puts net s t ≡ p → times s (credits_due net t l) ≡ one_if (takes net s t && not (puts net s t))
    by_put true is = among_miss (λ z. not (puts net z t)) s l (ap not is) ∙ sym (none (takes net s t)) ∙ ap (λ b. one_if (takes net s t && not b)) (sym is)
    by_put false is = among_hit (λ z. not (puts net z t)) s l (ap not is) ∙ holds s ∙ all (takes net s t) ∙ ap (λ b. one_if (takes net s t && not b)) (sym is)

-- what it puts besides
pub puts_alone : (net : NetRows) (t : ℕ) → IsNet net → PutsAlone net t (claims_due net t)
puts_alone net t rows s = by_put (only_puts net s t) refl
  where
    by_put : (p : Bool) → only_puts net s t ≡ p → times s (claims_due net t) ≡ one_if (puts net s t && not (takes net s t))
    by_put true is = below_hit (λ z. only_puts net z t) s (length net.sems) (puts_in_range net s t rows (and_parts (puts net s t) (not (takes net s t)) is).0) is ∙ ap one_if (sym is)
    by_put false is = below_miss (λ z. only_puts net z t) s (length net.sems) is ∙ ap one_if (sym is)

-- OF A TASK THAT PUTS JUST WHAT IT TAKES
-- each unit that it holds is one that it puts
held_put : (net : NetRows) (t s : ℕ) (l : List ℕ) → HoldsEachUnit net t l → PutsAll net t → 1 ≤ times s l → puts net s t ≡ true
held_put net t s l holds same there = same s ∙ is_one (takes net s t) (omega (arith, holds s, there))
  where
    is_one : (b : Bool) → 1 ≤ one_if b → b ≡ true
    is_one true h = refl
    is_one false h = absurd (omega (arith, h))

among_all : (test : ℕ → Bool) (l : List ℕ) → ((s : ℕ) → 1 ≤ times s l → test s ≡ true) → among test l ≡ l
among_all test [] all = refl
among_all test (s ∷ l) all =
    let here : test s ≡ true = all s (let hit : eqb s s ≡ true = grind (arith, nat_tests) in omega (arith, ap one_if hit)) in
    ap (λ b. add_if b s (among test l)) here ∙ ap (λ k. s ∷ k) (among_all test l (λ z there. all z (omega (arith, there))))

among_none : (test : ℕ → Bool) (l : List ℕ) → ((s : ℕ) → 1 ≤ times s l → test s ≡ false) → among test l ≡ []
among_none test [] none = refl
among_none test (s ∷ l) none =
    let here : test s ≡ false = none s (let hit : eqb s s ≡ true = grind (arith, nat_tests) in omega (arith, ap one_if hit)) in
    ap (λ b. add_if b s (among test l)) here ∙ among_none test l (λ z there. none z (omega (arith, there)))

below_none : (test : ℕ → Bool) (k : ℕ) → ((s : ℕ) → test s ≡ false) → numbers_below test k ≡ []
below_none test zero none = refl
below_none test (suc k) none = ap (λ b. add_if b k (numbers_below test k)) (none k) ∙ below_none test k none

pub puts_all : (net : NetRows) (t : ℕ) (l : List ℕ) → HoldsEachUnit net t l → PutsAll net t → own_units net t l ≡ l
puts_all net t l holds same = among_all (λ s. puts net s t) l (λ s there. held_put net t s l holds same there)

pub credits_none : (net : NetRows) (t : ℕ) (l : List ℕ) → HoldsEachUnit net t l → PutsAll net t → credits_due net t l ≡ []
credits_none net t l holds same = among_none (λ s. not (puts net s t)) l (λ s there. ap not (held_put net t s l holds same there))

pub claims_none : (net : NetRows) (t : ℕ) → PutsAll net t → claims_due net t ≡ []
claims_none net t same = below_none (λ s. only_puts net s t) (length net.sems) (λ s. none (puts net s t) (takes net s t) (same s))
  where
    none : (p q : Bool) → p ≡ q → (p && not q) ≡ false
    none true true is = refl
    none true false is = absurd (false≢true (sym is))
    none false q is = refl
