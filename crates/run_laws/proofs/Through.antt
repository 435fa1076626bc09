-- The test that the values by one thread run through, and what it says.
use Rattle.std.proofs.Common.{◌≡◌, ℕ, zero, suc, ◌+◌, ◌<◌, ◌≤◌, Bool, true, false, not, ◌&&◌, ◌||◌, List, [], ◌∷◌, length, Option, Some, None, sym, refl, ap, ◌∙◌, arith}
use Rattle.std.specs.Prelude.{nat_le, is_none, slice_get}
use Rattle.std.specs.List.{list_any, range_with_len}
use Rattle.std.proofs.lemmas.Bool.Decides.{nat_tests}
use Rattle.std.proofs.lemmas.Bool.{false≢true}
use Rattle.std.proofs.lemmas.Option.{none-some}
use Rattle.task_graph.specs.NetRows.{NetRows}
use Rattle.run_laws.specs.Laws.{RunsThrough}
use Rattle.run_laws.specs.OneThreadValue.{OneAnswer}
use Rattle.run_laws.specs.Starts.{HasFault, rounds_in, tasks_started}
use Rattle.run_laws.specs.PlainJobs.{faults_somewhere, runs_through}

or_right : (a : Bool) → a || true ≡ true
or_right true = refl
or_right false = refl

-- an item that passes
pub any_at : {X : Type 0} (test : X → Bool) (xs : List X) (k : ℕ) (x : X) → slice_get xs k ≡ Some x → test x ≡ true → list_any test xs ≡ true
any_at test [] k x at hit = absurd (none-some x at)
any_at test (y ∷ ys) zero x at hit = let same : y ≡ x = cc in ap (λ z. test z || list_any test ys) same ∙ ap (λ b. b || list_any test ys) hit
any_at test (y ∷ ys) (suc k) x at hit = ap (λ b. test y || b) (any_at test ys k x at hit) ∙ or_right (test y)

pub record Passing {X : Type 0} (test : X → Bool) (xs : List X) : Type 0 where
  pub place : ℕ
  pub item : X
  pub at : slice_get xs place ≡ Some item
  pub hit : test item ≡ true

pub any_passes : {X : Type 0} (test : X → Bool) (xs : List X) → list_any test xs ≡ true → Passing test xs
any_passes test [] is = absurd (false≢true is)
any_passes test (y ∷ ys) is = by_head (test y) refl (any_passes test ys) is
  where
    by_head : (b : Bool) → test y ≡ b → (list_any test ys ≡ true → Passing test ys) → b || list_any test ys ≡ true → Passing test (y ∷ ys)
    by_head true hits rest is2 = record { place = 0; item = y; at = refl; hit = hits }
    by_head false hits rest is2 = let more = rest is2 in record { place = suc more.place; item = more.item; at = more.at; hit = more.hit }

-- a number of a range
any_range : (test : ℕ → Bool) (a n t : ℕ) → a ≤ t → t < a + n → test t ≡ true → list_any test (range_with_len a n) ≡ true
any_range test a zero t from below hit = absurd (omega arith)
any_range test a (suc n) t from below hit = by_place (nat_le t a) refl (λ past. any_range test (a + 1) n t past (omega arith) hit)
  where
    by_place : (b : Bool) → nat_le t a ≡ b → (a + 1 ≤ t → list_any test (range_with_len (a + 1) n) ≡ true) → test a || list_any test (range_with_len (a + 1) n) ≡ true
    by_place true is rest = let same : t ≡ a = grind (arith, nat_tests) in ap (λ b. b || list_any test (range_with_len (a + 1) n)) (ap test (sym same) ∙ hit)
    by_place false is rest = let past : a + 1 ≤ t = grind (arith, nat_tests) in ap (λ b. test a || b) (rest past) ∙ or_right (test a)

pub record InRange (test : ℕ → Bool) (a n : ℕ) : Type 0 where
  pub number : ℕ
  pub below : number < a + n
  pub hit : test number ≡ true

range_any : (test : ℕ → Bool) (a n : ℕ) → list_any test (range_with_len a n) ≡ true → InRange test a n
range_any test a zero is = absurd (false≢true is)
range_any test a (suc n) is = by_head (test a) refl (range_any test (a + 1) n) is
  where
    by_head : (b : Bool) → test a ≡ b → (list_any test (range_with_len (a + 1) n) ≡ true → InRange test (a + 1) n) → b || list_any test (range_with_len (a + 1) n) ≡ true → InRange test a (suc n)
    by_head true hits rest is2 = record { number = a; below = omega arith; hit = hits }
    by_head false hits rest is2 = let more = rest is2 in record { number = more.number; below = omega (arith, more.below); hit = more.hit }

module _ {V : Type 0} (net : NetRows) (one : OneAnswer V) (n : ℕ) where
  abbrev faults_at : ℕ → Bool
  faults_at t = list_any (λ round. is_none (one t round)) (rounds_in net one n t)

  fault_found : HasFault net one n → faults_somewhere net one n ≡ true
  fault_found f =
      any_range faults_at 0 (length net.tasks) f.task (omega arith) (omega (arith, f.in_net))
      (any_at (λ round. is_none (one f.task round)) (rounds_in net one n f.task) f.place f.round f.at_place (ap is_none f.faults))

  none_of : {A : Type 0} (o : Option A) → is_none o ≡ true → o ≡ None
  none_of None is = refl
  none_of (Some x) is = absurd (false≢true is)

  found_fault : faults_somewhere net one n ≡ true → HasFault net one n
  found_fault is =
      let task = range_any faults_at 0 (length net.tasks) is in
      let round = any_passes (λ round. is_none (one task.number round)) (rounds_in net one n task.number) task.hit in
      record { task = task.number; in_net = omega (arith, task.below); place = round.place; round = round.item; at_place = round.at; faults = none_of (one task.number round.item) round.hit }

module _ {V : Type 0} (net : NetRows) (limit : ℕ) (one : OneAnswer V) where
  pub through_test : RunsThrough net limit one → runs_through net limit one ≡ true
  through_test through = by_fault (faults_somewhere net one (length net.tasks)) refl
    where
      by_fault : (b : Bool) → faults_somewhere net one (length net.tasks) ≡ b → not b && nat_le (tasks_started net one (length net.tasks)) limit ≡ true
      by_fault true is = absurd (through.no_fault (found_fault net one (length net.tasks) is))
      by_fault false is = let few : tasks_started net one (length net.tasks) ≤ limit = through.few in grind (arith, nat_tests)

  pub test_through : runs_through net limit one ≡ true → RunsThrough net limit one
  test_through is = by_fault (faults_somewhere net one (length net.tasks)) refl is
    where
      by_fault : (b : Bool) → faults_somewhere net one (length net.tasks) ≡ b → not b && nat_le (tasks_started net one (length net.tasks)) limit ≡ true → RunsThrough net limit one
      by_fault true at test = absurd (false≢true test)
      by_fault false at test = record {
        no_fault = λ f. false≢true (sym at ∙ fault_found net one (length net.tasks) f);
        few = grind (arith, nat_tests);
      }
