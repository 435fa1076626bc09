-- How far a start is with its units: first, after one semaphore more of its task's list, and at the list's end.
use Rattle.std.proofs.Common.{◌≡◌, ◌≢◌, ◌⊎◌, inl, inr, ℕ, zero, suc, ◌+◌, ◌<◌, ◌≤◌, Bool, true, false, not, ◌&&◌, ◌||◌, eqb, List, [], ◌∷◌, length, drop, Option, Some, None, refl, sym, ap, ◌∙◌, subst, arith, get_or}
use Rattle.std.specs.Prelude.{◌==◌, slice_get}
use Rattle.std.specs.Option.{option_map_or}
use Rattle.std.specs.List.{list_any, AllPairs}
use Rattle.std.specs.List.Sorted.{IsStrictlyIncreasing}
use Rattle.std.proofs.lemmas.Bool.{cases_eq}
use Rattle.std.proofs.lemmas.Bool.Decides.{nat_tests}
use Rattle.std.proofs.lemmas.List.{drop_more, drop_all}
use Rattle.std.proofs.lemmas.List.Kept.{AllPairs-from_increasing}
use Rattle.task_graph.specs.NetRows.{NetRows}
use Rattle.task_graph.specs.declared.net.TaskRow.{TaskRow}
use Rattle.journal_rules.specs.SemaphoreRule.{takes, puts}
use Rattle.table_steps.specs.Giving.{one_if, times}
use Rattle.table_steps.specs.Holding.{PutsEach, without}
use Rattle.table_steps.proofs.UnitAccounts.{without_fewer}
use Rattle.join_tables.specs.Claims.{BeginsUnits, ClaimsUnit, HasClaimed, credit_one, grant_one, with_units}
use Rattle.join_tables.specs.declared.turns.Claim.{Claim}
use Rattle.join_tables.specs.declared.turns.Claim.TheVariants.{Granted}
use Rattle.join_tables.specs.States.{RunningState, StartUnits, running_state}
use Rattle.semaphore_turns.specs.Semaphores.{taken_by, put_by}
use Rattle.semaphore_turns.specs.UnitClaims.{HasToClaim}
use Rattle.semaphore_turns.specs.inside.UnitCounts.{AreOneEach, ClaimsSoFar, CreditsSoFar, count_kept, put_alone, taken_alone}

-- a list in which nothing stands
pub none_stands : (l : List ℕ) → ((s : ℕ) → times s l ≡ 0) → l ≡ []
none_stands [] none = refl
none_stands (z ∷ zs) none = let hit : eqb z z ≡ true = grind (arith, nat_tests) in absurd (omega (arith, none z, ap one_if hit))

-- in a rising list each number stands once
abbrev Rises : List ℕ → Type 0
Rises xs = AllPairs (λ x y. x < y) xs

rises_tail : (x : ℕ) (xs : List ℕ) → Rises (x ∷ xs) → Rises xs
rises_tail x xs rises i j d before below = rises (suc i) (suc j) d (omega (arith, before)) (omega (arith, below))

absent_from : (x : ℕ) (xs : List ℕ) → ((k : ℕ) → k < length xs → x < get_or xs k 0) → list_any (λ y. y == x) xs ≡ false
absent_from x [] above = refl
absent_from x (y ∷ ys) above =
    let more : x < y = above 0 (omega arith) in
    let miss : eqb y x ≡ false = grind (arith, nat_tests, more) in
    rw miss (absent_from x ys (λ k below. above (suc k) (omega (arith, below))))

rises_head : (x : ℕ) (xs : List ℕ) → Rises (x ∷ xs) → list_any (λ y. y == x) xs ≡ false
rises_head x xs rises = absent_from x xs (λ k below. rises 0 (suc k) 0 (omega arith) (omega (arith, below)))

plain : (b k : Bool) → b ≡ false → one_if (b && k) ≡ 0
plain true k is = absurd (cc)
plain false k is = refl

kept_rises : (keep : ℕ → Bool) (s : ℕ) (xs : List ℕ) → Rises xs → count_kept keep s xs ≡ one_if (list_any (λ x. x == s) xs && keep s)
kept_rises keep s [] rises = refl
kept_rises keep s (x ∷ xs) rises = by_eq (cases_eq x s) (kept_rises keep s xs (rises_tail x xs rises))
  where
    by_eq : (x ≡ s) ⊎ (x ≢ s) → count_kept keep s xs ≡ one_if (list_any (λ y. y == s) xs && keep s) → one_if ((x == s) && keep x) + count_kept keep s xs ≡ one_if (((x == s) || list_any (λ y. y == s) xs) && keep s)
    by_eq (inl same) rest =
        let hit : eqb x s ≡ true = grind (arith, nat_tests) in
        let none : list_any (λ y. y == s) xs ≡ false = subst (λ z. list_any (λ y. y == z) xs ≡ false) same (rises_head x xs rises) in
        rw hit (omega (arith, rest, plain (list_any (λ y. y == s) xs) (keep s) none, ap (λ k. one_if (keep k)) same))
    by_eq (inr other) rest = let miss : eqb x s ≡ false = grind (arith, nat_tests) in rw miss (omega (arith, rest))

pub kept_once : (keep : ℕ → Bool) (s : ℕ) (xs : List ℕ) → IsStrictlyIncreasing xs → count_kept keep s xs ≡ one_if (list_any (λ x. x == s) xs && keep s)
kept_once keep s xs rising = kept_rises keep s xs (AllPairs-from_increasing xs rising)

and_true : (b : Bool) → b && true ≡ b
and_true true = refl
and_true false = refl

times_kept : (s : ℕ) (xs : List ℕ) → times s xs ≡ count_kept (λ _. true) s xs
times_kept s [] = refl
times_kept s (x ∷ xs) = omega (arith, ap one_if (and_true (x == s)), times_kept s xs)

pub times_once : (s : ℕ) (xs : List ℕ) → IsStrictlyIncreasing xs → times s xs ≡ one_if (list_any (λ x. x == s) xs)
times_once s xs rising = times_kept s xs ∙ kept_once (λ _. true) s xs rising ∙ ap one_if (and_true (list_any (λ x. x == s) xs))

-- whether a task takes or puts a semaphore, by its list
pub takes_is : (net : NetRows) (t s : ℕ) → list_any (λ x. x == s) (taken_by net t) ≡ takes net s t
takes_is net t s = by_row (slice_get net.tasks t)
  where
    by_row : (o : Option TaskRow) → list_any (λ x. x == s) (option_map_or (λ (row : TaskRow). row.takes) o []) ≡ option_map_or (λ (row : TaskRow). list_any (λ x. x == s) row.takes) o false
    by_row None = refl
    by_row (Some row) = refl

pub puts_is : (net : NetRows) (t s : ℕ) → list_any (λ x. x == s) (put_by net t) ≡ puts net s t
puts_is net t s = by_row (slice_get net.tasks t)
  where
    by_row : (o : Option TaskRow) → list_any (λ x. x == s) (option_map_or (λ (row : TaskRow). row.puts) o []) ≡ option_map_or (λ (row : TaskRow). list_any (λ x. x == s) row.puts) o false
    by_row None = refl
    by_row (Some row) = refl

-- what is in a list at a place is in the list
pub listed_at : (xs : List ℕ) (i d : ℕ) → i < length xs → list_any (λ x. x == get_or xs i d) xs ≡ true
listed_at [] i d below = absurd (omega (arith, below))
listed_at (x ∷ xs) zero d below = let hit : eqb x x ≡ true = grind (arith, nat_tests) in rw hit refl
listed_at (x ∷ xs) (suc i) d below = rw (listed_at xs i d (omega (arith, below))) (or_true (x == get_or xs i d))
  where
    or_true : (b : Bool) → b || true ≡ true
    or_true true = refl
    or_true false = refl

-- the next number of a list, counted
next_kept : (keep : ℕ → Bool) (s : ℕ) (xs : List ℕ) (i d : ℕ) → i < length xs → count_kept keep s (drop i xs) ≡ one_if ((get_or xs i d == s) && keep (get_or xs i d)) + count_kept keep s (drop (i + 1) xs)
next_kept keep s xs i d below = ap (count_kept keep s) (drop_more xs i d below)

skipped : (b k : Bool) → k ≡ false → one_if (b && k) ≡ 0
skipped true k is = ap one_if is
skipped false k is = refl

counted : (b k : Bool) → k ≡ true → one_if (b && k) ≡ one_if b
counted true k is = ap one_if is
counted false k is = refl

pub one_more : (s : ℕ) → one_if (s == s) ≡ 1
one_more s = let hit : eqb s s ≡ true = grind (arith, nat_tests) in ap one_if hit

module _ (net : NetRows) (t : ℕ) (rising : IsStrictlyIncreasing (taken_by net t)) where
  pub credits_begin : (u : StartUnits) → BeginsUnits net t u → CreditsSoFar net t 0 u
  credits_begin u begins = record {
    left = left;
    done = λ s. omega (arith, left s, ap (times s) begins.credited);
    back = begins.back;
    to_claim = begins.to_claim;
    refused = begins.refused;
  }
    where
      left : (s : ℕ) → times s u.to_credit ≡ count_kept (taken_alone net t) s (taken_by net t)
      left s = begins.to_credit s ∙ sym (kept_once (taken_alone net t) s (taken_by net t) rising ∙ ap (λ b. one_if (b && not (puts net s t))) (takes_is net t s))

  pub credits_end : (i : ℕ) (u : StartUnits) → length (taken_by net t) ≤ i → CreditsSoFar net t i u → HasToClaim net t u
  credits_end i u all so_far = record {
    credited = record {
      none_left = none_stands u.to_credit nothing;
      all = λ s. omega (arith, so_far.done s, nothing s) ∙ kept_once (taken_alone net t) s (taken_by net t) rising ∙ ap (λ b. one_if (b && not (puts net s t))) (takes_is net t s);
    };
    back = so_far.back;
    to_claim = so_far.to_claim;
    refused = so_far.refused;
  }
    where
      nothing : (s : ℕ) → times s u.to_credit ≡ 0
      nothing s = so_far.left s ∙ ap (count_kept (taken_alone net t) s) (drop_all i (taken_by net t) all)

-- of a semaphore that the task puts too, no unit is credited
pub credits_skip : (net : NetRows) (t i : ℕ) (u : StartUnits) → i < length (taken_by net t) → puts net (get_or (taken_by net t) i 0) t ≡ true → CreditsSoFar net t i u → CreditsSoFar net t (i + 1) u
credits_skip net t i u below put so_far = record {
  left = λ s. omega (arith, so_far.left s, next_kept (taken_alone net t) s (taken_by net t) i 0 below, skipped (get_or (taken_by net t) i 0 == s) (taken_alone net t (get_or (taken_by net t) i 0)) (ap not put));
  done = so_far.done;
  back = so_far.back;
  to_claim = so_far.to_claim;
  refused = so_far.refused;
}

pub credit_there : (net : NetRows) (t i : ℕ) (u : StartUnits) → i < length (taken_by net t) → puts net (get_or (taken_by net t) i 0) t ≡ false → CreditsSoFar net t i u → 1 ≤ times (get_or (taken_by net t) i 0) u.to_credit
credit_there net t i u below put so_far =
    let x = get_or (taken_by net t) i 0 in
    omega (arith, so_far.left x, next_kept (taken_alone net t) x (taken_by net t) i 0 below, counted (x == x) (taken_alone net t x) (ap not put), one_more x)

pub credits_more : (net : NetRows) (t i : ℕ) (u : StartUnits) → i < length (taken_by net t) → puts net (get_or (taken_by net t) i 0) t ≡ false → CreditsSoFar net t i u → CreditsSoFar net t (i + 1) (credit_one (get_or (taken_by net t) i 0) u)
credits_more net t i u below put so_far = record {
  left = λ s. omega (arith, so_far.left s, next_kept (taken_alone net t) s (taken_by net t) i 0 below, counted (x == s) (taken_alone net t x) (ap not put), fewer s);
  done = λ s. omega (arith, so_far.done s, fewer s);
  back = so_far.back;
  to_claim = so_far.to_claim;
  refused = so_far.refused;
}
  where
    x : ℕ
    x = get_or (taken_by net t) i 0

    fewer : (s : ℕ) → times s (without x u.to_credit) + one_if (x == s) ≡ times s u.to_credit
    fewer = without_fewer x u.to_credit (credit_there net t i u below put so_far)

both_or_alone : (a b : Bool) → one_if (a && b) + one_if (b && not a) ≡ one_if b
both_or_alone true true = refl
both_or_alone true false = refl
both_or_alone false true = refl
both_or_alone false false = refl

module _ (net : NetRows) (t : ℕ) (rising : IsStrictlyIncreasing (put_by net t)) where
  alone_is : (s : ℕ) → count_kept (put_alone net t) s (put_by net t) ≡ one_if (puts net s t && not (takes net s t))
  alone_is s = kept_once (put_alone net t) s (put_by net t) rising ∙ ap (λ b. one_if (b && not (takes net s t))) (puts_is net t s)

  pub claims_begin : (u : StartUnits) → HasToClaim net t u → ClaimsSoFar net t 0 u
  claims_begin u has = record {
    credited = has.credited;
    left = λ s. has.to_claim s ∙ sym (alone_is s);
    done = λ s. omega (arith, has.back s, has.to_claim s, alone_is s);
    refused = has.refused;
  }

  pub claims_end : (i : ℕ) (u : StartUnits) → length (put_by net t) ≤ i → ClaimsSoFar net t i u → HasClaimed net t u
  claims_end i u all so_far = record {
    none_left = none_stands u.to_claim nothing;
    not_refused = so_far.refused;
    all = λ s. omega (arith, so_far.done s, nothing s, alone_is s, both_or_alone (takes net s t) (puts net s t));
  }
    where
      nothing : (s : ℕ) → times s u.to_claim ≡ 0
      nothing s = so_far.left s ∙ ap (count_kept (put_alone net t) s) (drop_all i (put_by net t) all)

-- of a semaphore that the task takes too, no unit is claimed
pub claims_skip : (net : NetRows) (t i : ℕ) (u : StartUnits) → i < length (put_by net t) → takes net (get_or (put_by net t) i 0) t ≡ true → ClaimsSoFar net t i u → ClaimsSoFar net t (i + 1) u
claims_skip net t i u below take so_far = record {
  credited = so_far.credited;
  left = λ s. omega (arith, so_far.left s, next_kept (put_alone net t) s (put_by net t) i 0 below, skipped (get_or (put_by net t) i 0 == s) (put_alone net t (get_or (put_by net t) i 0)) (ap not take));
  done = so_far.done;
  refused = so_far.refused;
}

pub claim_there : (net : NetRows) (t i : ℕ) (u : StartUnits) → i < length (put_by net t) → takes net (get_or (put_by net t) i 0) t ≡ false → ClaimsSoFar net t i u → 1 ≤ times (get_or (put_by net t) i 0) u.to_claim
claim_there net t i u below take so_far =
    let x = get_or (put_by net t) i 0 in
    omega (arith, so_far.left x, next_kept (put_alone net t) x (put_by net t) i 0 below, counted (x == x) (put_alone net t x) (ap not take), one_more x)

pub claims_more : (net : NetRows) (t i : ℕ) (u : StartUnits) → i < length (put_by net t) → takes net (get_or (put_by net t) i 0) t ≡ false → ClaimsSoFar net t i u → ClaimsSoFar net t (i + 1) (grant_one (get_or (put_by net t) i 0) u)
claims_more net t i u below take so_far = record {
  credited = record { none_left = so_far.credited.none_left; all = so_far.credited.all };
  left = λ s. omega (arith, so_far.left s, next_kept (put_alone net t) s (put_by net t) i 0 below, counted (x == s) (put_alone net t x) (ap not take), fewer s);
  done = λ s. omega (arith, so_far.done s, fewer s);
  refused = so_far.refused;
}
  where
    x : ℕ
    x = get_or (put_by net t) i 0

    fewer : (s : ℕ) → times s (without x u.to_claim) + one_if (x == s) ≡ times s u.to_claim
    fewer = without_fewer x u.to_claim (claim_there net t i u below take so_far)

-- the units that an End owes are those of the task's list
pub returns_begin : (net : NetRows) (t : ℕ) (units : List ℕ) → IsStrictlyIncreasing (put_by net t) → PutsEach net t units → AreOneEach (put_by net t) units
returns_begin net t units rising each s = each s ∙ ap one_if (sym (puts_is net t s)) ∙ sym (times_once s (put_by net t) rising)

pub return_there : (sems units : List ℕ) (i : ℕ) → i < length sems → AreOneEach (drop i sems) units → 1 ≤ times (get_or sems i 0) units
return_there sems units i below each =
    let x = get_or sems i 0 in
    omega (arith, each x, ap (times x) (drop_more sems i 0 below), one_more x)

pub returns_more : (sems units : List ℕ) (i : ℕ) → i < length sems → AreOneEach (drop i sems) units → AreOneEach (drop (i + 1) sems) (without (get_or sems i 0) units)
returns_more sems units i below each s =
    omega (arith, each s, ap (times s) (drop_more sems i 0 below), without_fewer (get_or sems i 0) units (return_there sems units i below each) s)

pub returns_end : (sems units : List ℕ) (i : ℕ) → length sems ≤ i → AreOneEach (drop i sems) units → units ≡ []
returns_end sems units i all each = none_stands units (λ s. each s ∙ ap (times s) (drop_all i sems all))

-- The same of lists that a call gave.
module _ (net : NetRows) (t i : ℕ) (xs ys : List ℕ) (xs_is : xs ≡ taken_by net t) (ys_is : ys ≡ put_by net t) where
  put_is : (s : ℕ) (b : Bool) → list_any (λ y. y == s) ys ≡ b → puts net s t ≡ b
  put_is s b is = sym (puts_is net t s) ∙ ap (list_any (λ y. y == s)) (sym ys_is) ∙ is

  take_is : (s : ℕ) (b : Bool) → list_any (λ x. x == s) xs ≡ b → takes net s t ≡ b
  take_is s b is = sym (takes_is net t s) ∙ ap (list_any (λ x. x == s)) (sym xs_is) ∙ is

  pub credit_due : (u : StartUnits) → i < length xs → list_any (λ y. y == get_or xs i 0) ys ≡ false → CreditsSoFar net t i u → 1 ≤ times (get_or xs i 0) u.to_credit
  credit_due u = subst (λ l. i < length l → list_any (λ y. y == get_or l i 0) ys ≡ false → CreditsSoFar net t i u → 1 ≤ times (get_or l i 0) u.to_credit) (sym xs_is)
      (λ below other so_far. credit_there net t i u below (put_is (get_or (taken_by net t) i 0) false other) so_far)

  pub credited_more : (u : StartUnits) → i < length xs → list_any (λ y. y == get_or xs i 0) ys ≡ false → CreditsSoFar net t i u → CreditsSoFar net t (i + 1) (credit_one (get_or xs i 0) u)
  credited_more u = subst (λ l. i < length l → list_any (λ y. y == get_or l i 0) ys ≡ false → CreditsSoFar net t i u → CreditsSoFar net t (i + 1) (credit_one (get_or l i 0) u)) (sym xs_is)
      (λ below other so_far. credits_more net t i u below (put_is (get_or (taken_by net t) i 0) false other) so_far)

  pub credited_same : (u : StartUnits) → i < length xs → list_any (λ y. y == get_or xs i 0) ys ≡ true → CreditsSoFar net t i u → CreditsSoFar net t (i + 1) u
  credited_same u = subst (λ l. i < length l → list_any (λ y. y == get_or l i 0) ys ≡ true → CreditsSoFar net t i u → CreditsSoFar net t (i + 1) u) (sym xs_is)
      (λ below put so_far. credits_skip net t i u below (put_is (get_or (taken_by net t) i 0) true put) so_far)

  pub claim_due : (u : StartUnits) → i < length ys → list_any (λ x. x == get_or ys i 0) xs ≡ false → ClaimsSoFar net t i u → 1 ≤ times (get_or ys i 0) u.to_claim
  claim_due u = subst (λ l. i < length l → list_any (λ x. x == get_or l i 0) xs ≡ false → ClaimsSoFar net t i u → 1 ≤ times (get_or l i 0) u.to_claim) (sym ys_is)
      (λ below other so_far. claim_there net t i u below (take_is (get_or (put_by net t) i 0) false other) so_far)

  pub claim_put : i < length ys → puts net (get_or ys i 0) t ≡ true
  claim_put below = put_is (get_or ys i 0) true (listed_at ys i 0 below)

  pub claimed_more : (u : StartUnits) → i < length ys → list_any (λ x. x == get_or ys i 0) xs ≡ false → ClaimsSoFar net t i u → ClaimsSoFar net t (i + 1) (grant_one (get_or ys i 0) u)
  claimed_more u = subst (λ l. i < length l → list_any (λ x. x == get_or l i 0) xs ≡ false → ClaimsSoFar net t i u → ClaimsSoFar net t (i + 1) (grant_one (get_or l i 0) u)) (sym ys_is)
      (λ below other so_far. claims_more net t i u below (take_is (get_or (put_by net t) i 0) false other) so_far)

  pub claimed_same : (u : StartUnits) → i < length ys → list_any (λ x. x == get_or ys i 0) xs ≡ true → ClaimsSoFar net t i u → ClaimsSoFar net t (i + 1) u
  claimed_same u = subst (λ l. i < length l → list_any (λ x. x == get_or l i 0) xs ≡ true → ClaimsSoFar net t i u → ClaimsSoFar net t (i + 1) u) (sym ys_is)
      (λ below take so_far. claims_skip net t i u below (take_is (get_or (put_by net t) i 0) true take) so_far)

-- a start whose units changed twice
pub same_start : {V : Type 0} (a b c : RunningState V) (u : StartUnits) → b ≡ with_units a b.units b → c ≡ with_units b u c → c ≡ with_units a c.units c
same_start {V} a b c u before after =
    let units : c.units ≡ u = ap (λ (r : RunningState V). r.units) after in
    after ∙ (λ k. running_state (ap (λ (r : RunningState V). r.table) before k) (ap (λ (r : RunningState V). r.task) before k) (ap (λ (r : RunningState V). r.cause) before k) (ap (λ (r : RunningState V). r.place) before k) (ap (λ (r : RunningState V). r.ins) before k) (sym units k) c.found)

-- a claim that was granted
pub granted_as : {V : Type 0} (net : NetRows) (limit : ℕ) (r : RunningState V) (s : ℕ) (claim : Claim V) (q : RunningState V) → claim ≡ Granted q → ClaimsUnit net limit r s claim → q ≡ with_units r (grant_one s r.units) q
granted_as net limit r s claim q is claims = (subst (ClaimsUnit net limit r s) is claims).0
