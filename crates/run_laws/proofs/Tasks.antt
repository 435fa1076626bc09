-- Entries counted task by task.
use Rattle.std.proofs.Common.{◌≡◌, ◌≢◌, ◌⊎◌, inl, inr, ℕ, zero, suc, ◌+◌, ◌<◌, ◌≤◌, Bool, true, false, cond, eqb, List, [], ◌∷◌, ◌++◌, length, Option, Some, None, sym, refl, ap, ◌∙◌, arith}
use Rattle.std.specs.Prelude.{count_by, sum_by, is_some}
use Rattle.std.specs.List.{AllByRecursion, range_with_len}
use Rattle.std.proofs.lemmas.Bool.Decides.{nat_tests}
use Rattle.std.proofs.lemmas.Bool.{cases_eq, false≢true}
use Rattle.std.proofs.lemmas.List.Sums.{sum_by-cons}
use Rattle.task_graph.specs.NetRows.{NetRows}
use Rattle.journal_rules.specs.declared.entry.Entry.{Entry}
use Rattle.journal_rules.specs.declared.entry.Entry.TheVariants.{Start, End, Fault, Drop}
use Rattle.journal_rules.specs.Counts.{start_at, started, starts, is_start}
use Rattle.journal_rules.specs.ShapeLegal.{ShapeLegal, MayFollow}
use Rattle.journal_rules.specs.Entries.{EachAfterThese}
use Rattle.journal_rules.specs.OnceNets.{IsOnceNet}
use Rattle.journal_rules.proofs.Reaching.{open_stands}
use Rattle.run_laws.specs.Ends.{is_task}
use Rattle.run_laws.proofs.Along.{both, weaker, each_front, Told, told_before}
use Rattle.run_laws.proofs.Phases.{begins, ends_one, ends_few, and_left}
use Rattle.run_laws.proofs.Legally.{placed_along}
use Rattle.run_laws.proofs.Once.{steady_once, begun_once}
use Rattle.run_laws.proofs.Reaches.{is_end}

abbrev one_if : Bool → ℕ
one_if b = cond b 1 0

pub sum_plus : (f g : ℕ → ℕ) (xs : List ℕ) → sum_by (λ x. f x + g x) xs ≡ sum_by f xs + sum_by g xs
sum_plus f g [] = omega arith
sum_plus f g (x ∷ xs) = omega (arith, sum_by-cons (λ y. f y + g y) x xs, sum_by-cons f x xs, sum_by-cons g x xs, sum_plus f g xs)

pub sum_same : (f g : ℕ → ℕ) → ((x : ℕ) → f x ≡ g x) → (xs : List ℕ) → sum_by f xs ≡ sum_by g xs
sum_same f g same [] = refl
sum_same f g same (x ∷ xs) = omega (arith, sum_by-cons f x xs, sum_by-cons g x xs, same x, sum_same f g same xs)

pub sum_zero : (f : ℕ → ℕ) → ((x : ℕ) → f x ≡ 0) → (xs : List ℕ) → sum_by f xs ≡ 0
sum_zero f none [] = refl
sum_zero f none (x ∷ xs) = omega (arith, sum_by-cons f x xs, none x, sum_zero f none xs)

pub sum_less : (f g : ℕ → ℕ) → ((x : ℕ) → f x ≤ g x) → (xs : List ℕ) → sum_by f xs ≤ sum_by g xs
sum_less f g less [] = omega arith
sum_less f g less (x ∷ xs) = omega (arith, sum_by-cons f x xs, sum_by-cons g x xs, less x, sum_less f g less xs)

pub sum_ones : (a n : ℕ) → sum_by (λ x. 1) (range_with_len a n) ≡ n
sum_ones a zero = refl
sum_ones a (suc n) = omega (arith, sum_by-cons (λ (x : ℕ). 1) a (range_with_len (a + 1) n), sum_ones (a + 1) n)

-- one of the numbers is this one
pick_from : (t a n : ℕ) → a ≤ t → t < a + n → sum_by (λ s. one_if (eqb t s)) (range_with_len a n) ≡ 1
pick_from t a zero from below = absurd (omega arith)
pick_from t a (suc n) from below = by_head (cases_eq t a) (λ other. pick_from t (a + 1) n (omega (arith, other)) (omega arith))
  where
    none_past : (b k : ℕ) → t < b → sum_by (λ s. one_if (eqb t s)) (range_with_len b k) ≡ 0
    none_past b zero less = refl
    none_past b (suc k) less =
        let miss : eqb t b ≡ false = grind (arith, nat_tests) in
        let none : one_if (eqb t b) ≡ 0 = ap one_if miss in
        omega (arith, sum_by-cons (λ s. one_if (eqb t s)) b (range_with_len (b + 1) k), none, none_past (b + 1) k (omega arith))

    by_head : (t ≡ a) ⊎ (t ≢ a) → (t ≢ a → sum_by (λ s. one_if (eqb t s)) (range_with_len (a + 1) n) ≡ 1) → sum_by (λ s. one_if (eqb t s)) (range_with_len a (suc n)) ≡ 1
    by_head (inl same) rest =
        let hit : eqb t a ≡ true = grind (arith, nat_tests) in
        let one : one_if (eqb t a) ≡ 1 = ap one_if hit in
        omega (arith, sum_by-cons (λ s. one_if (eqb t s)) a (range_with_len (a + 1) n), one, none_past (a + 1) n (omega arith))
    by_head (inr other) rest =
        let miss : eqb t a ≡ false = grind (arith, nat_tests) in
        let none : one_if (eqb t a) ≡ 0 = ap one_if miss in
        omega (arith, sum_by-cons (λ s. one_if (eqb t s)) a (range_with_len (a + 1) n), none, rest other)

pub pick : (t n : ℕ) → t < n → sum_by (λ s. one_if (eqb t s)) (range_with_len 0 n) ≡ 1
pick t n below = pick_from t 0 n (omega arith) (omega arith)

-- a count is the sum of the tasks' counts
pub count_tasks : (p : Entry → Bool) (f : ℕ → Entry → Bool) (n : ℕ) (b : List Entry) → AllByRecursion (λ x. one_if (p x) ≡ sum_by (λ t. one_if (f t x)) (range_with_len 0 n)) b
    → count_by p b ≡ sum_by (λ t. count_by (f t) b) (range_with_len 0 n)
count_tasks p f n [] each = sym (sum_zero (λ t. 0) (λ t. refl) (range_with_len 0 n))
count_tasks p f n (x ∷ b) each =
    let split : sum_by (λ t. count_by (f t) (x ∷ b)) (range_with_len 0 n) ≡ sum_by (λ t. one_if (f t x) + count_by (f t) b) (range_with_len 0 n) =
    sum_same (λ t. count_by (f t) (x ∷ b)) (λ t. one_if (f t x) + count_by (f t) b) (λ t. sum_by-cons (λ y. one_if (f t y)) x b) (range_with_len 0 n) in
    omega (arith, sum_by-cons (λ y. one_if (p y)) x b, split, sum_plus (λ t. one_if (f t x)) (λ t. count_by (f t) b) (range_with_len 0 n), each.0, count_tasks p f n b each.1)

-- what each entry has after those before it, without these
pub each_entry : {X : Type 0} (P : X → Type 0) (b rest : List X) → EachAfterThese (λ c x. P x) b rest → AllByRecursion P rest
each_entry P b [] each = tt
each_entry P b (x ∷ rest) each = (each.0, each_entry P (b ++ x ∷ []) rest each.1)

-- the Starts, task by task
pub starts_tasks : (net : NetRows) (limit : ℕ) (h : List Entry) → ShapeLegal net limit h → starts h ≡ sum_by (λ t. count_by (begins t) h) (range_with_len 0 (length net.tasks))
starts_tasks net limit h shape =
    count_tasks is_start begins (length net.tasks) h
    (each_entry (λ x. one_if (is_start x) ≡ sum_by (λ t. one_if (begins t x)) (range_with_len 0 (length net.tasks))) [] h
    (weaker (MayFollow net limit) (λ b x. one_if (is_start x) ≡ sum_by (λ t. one_if (begins t x)) (range_with_len 0 (length net.tasks))) each [] h shape))
  where
    each : (b : List Entry) (x : Entry) → MayFollow net limit b x → one_if (is_start x) ≡ sum_by (λ t. one_if (begins t x)) (range_with_len 0 (length net.tasks))
    each b (Start task cause ins) may = sym (pick task (length net.tasks) may.in_range.0)
    each b (End start gives inner) may = sym (sum_zero (λ t. 0) (λ t. refl) (range_with_len 0 (length net.tasks)))
    each b (Fault start why) may = sym (sum_zero (λ t. 0) (λ t. refl) (range_with_len 0 (length net.tasks)))
    each b (Drop task cause why) may = sym (sum_zero (λ t. 0) (λ t. refl) (range_with_len 0 (length net.tasks)))

-- the Starts that stand are of tasks in range
abbrev pub InTasks : NetRows → List Entry → Type 0
InTasks net b = AllByRecursion (λ x. (t : ℕ) → started x ≡ Some t → t < length net.tasks) b

pub in_tasks : (net : NetRows) (limit : ℕ) (h : List Entry) → ShapeLegal net limit h → InTasks net h
in_tasks net limit h shape = each_entry (λ x. (t : ℕ) → started x ≡ Some t → t < length net.tasks) [] h (weaker (MayFollow net limit) (λ b x. (t : ℕ) → started x ≡ Some t → t < length net.tasks) each [] h shape)
  where
    each : (b : List Entry) (x : Entry) → MayFollow net limit b x → (t : ℕ) → started x ≡ Some t → t < length net.tasks
    each b (Start task cause ins) may = λ t is. let same : task ≡ t = cc in omega (arith, may.in_range.0)
    each b (End start gives inner) may = λ t is. absurd (cc)
    each b (Fault start why) may = λ t is. absurd (cc)
    each b (Drop task cause why) may = λ t is. absurd (cc)

pub start_in : (net : NetRows) (h : List Entry) (n t : ℕ) → InTasks net h → start_at h n ≡ Some t → t < length net.tasks
start_in net [] n t all is = absurd (cc)
start_in net (x ∷ h) zero t all is = all.0 t is
start_in net (x ∷ h) (suc n) t all is = start_in net h n t all.1 is

-- the Ends, task by task
pub ends_tasks : (net : NetRows) (limit : ℕ) (h : List Entry) → ShapeLegal net limit h → count_by is_end h ≡ sum_by (λ t. count_by (ends_one (start_at h) t) h) (range_with_len 0 (length net.tasks))
ends_tasks net limit h shape =
    count_tasks is_end (ends_one (start_at h)) (length net.tasks) h
    (each_entry (λ x. one_if (is_end x) ≡ sum_by (λ t. one_if (ends_one (start_at h) t x)) (range_with_len 0 (length net.tasks))) [] h
    (weaker (λ b x. Told (start_at h) (b ++ x ∷ []) × MayFollow net limit b x) (λ b x. one_if (is_end x) ≡ sum_by (λ t. one_if (ends_one (start_at h) t x)) (range_with_len 0 (length net.tasks))) each [] h
    (both _ _ [] h (each_front (Told (start_at h)) (told_before (start_at h)) [] h (λ n below. refl)) shape)))
  where
    none : 0 ≡ sum_by (λ (t : ℕ). 0) (range_with_len 0 (length net.tasks))
    none = sym (sum_zero (λ t. 0) (λ t. refl) (range_with_len 0 (length net.tasks)))

    by_task : (start : ℕ) (o : Option ℕ) → start_at h start ≡ o → is_some o ≡ true → 1 ≡ sum_by (λ t. one_if (is_task t o)) (range_with_len 0 (length net.tasks))
    by_task start None is some = absurd (false≢true some)
    by_task start (Some p) is some = sym (pick p (length net.tasks) (start_in net h start p (in_tasks net limit h shape) is))

    each : (b : List Entry) (x : Entry) → Told (start_at h) (b ++ x ∷ []) × MayFollow net limit b x → one_if (is_end x) ≡ sum_by (λ t. one_if (ends_one (start_at h) t x)) (range_with_len 0 (length net.tasks))
    each b (Start task cause ins) rule = none
    each b (Fault start why) rule = none
    each b (Drop task cause why) rule = none
    each b (End start gives inner) rule =
        by_task start (start_at h start) refl (ap is_some (told_before (start_at h) b (End start gives inner) rule.0 start (open_stands b start rule.1.closing)) ∙ and_left _ _ rule.1.closing)

-- in a net without weak edges and starting tokens there are no more Ends than tasks
pub ends_once : (net : NetRows) (limit : ℕ) (h : List Entry) → IsOnceNet net → ShapeLegal net limit h → count_by is_end h ≤ length net.tasks
ends_once net limit h plain shape =
    omega (arith, ends_tasks net limit h shape, sum_less (λ t. count_by (ends_one (start_at h) t) h) (λ t. 1) each (range_with_len 0 (length net.tasks)), sum_ones 0 (length net.tasks))
  where
    each : (t : ℕ) → count_by (ends_one (start_at h) t) h ≤ 1
    each t = omega (arith, ends_few (start_at h) t h ((placed_along net limit h shape (steady_once net limit h plain shape).single).1.phases t), begun_once net limit h plain shape t)
