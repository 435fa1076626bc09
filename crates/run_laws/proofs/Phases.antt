-- In a journal whose tasks start one at a time, each task is idle, or busy with one Start.
use Rattle.std.proofs.Common.{◌≡◌, ◌≢◌, ◌⊎◌, inl, inr, ℕ, ◌+◌, ◌<◌, ◌≤◌, Bool, true, false, not, ◌&&◌, cond, eqb, List, [], ◌∷◌, ◌++◌, length, Option, sym, refl, ap, ◌∙◌, subst, arith}
use Rattle.std.specs.Prelude.{count_by}
use Rattle.std.proofs.lemmas.Bool.Decides.{nat_tests}
use Rattle.std.proofs.lemmas.Bool.{cases_eq, cases_lt, false≢true}
use Rattle.std.proofs.lemmas.List.{length_push}
use Rattle.std.proofs.lemmas.List.Sums.{sum_by-cons}
use Rattle.journal_rules.specs.declared.entry.Entry.{Entry}
use Rattle.journal_rules.specs.declared.entry.Entry.TheVariants.{Start, End, Fault, Drop}
use Rattle.journal_rules.specs.declared.entry.Cause.{Cause}
use Rattle.journal_rules.specs.declared.entry.Part.{Part}
use Rattle.journal_rules.specs.Counts.{start_at, started, is_open, closes}
use Rattle.journal_rules.specs.ClosingRule.{ClosingRule}
use Rattle.journal_rules.proofs.Snoc.{count_by_push, start_at_push_below, start_at_push_last, is_open_push_below}
use Rattle.journal_rules.proofs.Tallying.{count_by_push_no, count_by_push_yes}
use Rattle.journal_rules.proofs.Reaching.{open_stands}
use Rattle.journal_rules.proofs.Reaching.{at_below, each_below}
use Rattle.run_laws.specs.Ends.{is_task}
use Rattle.run_laws.specs.Steady.{runs_at, stops, MayStart, StartRule}
use Rattle.run_laws.proofs.Along.{Told}

pub and_left : (a b : Bool) → a && b ≡ true → a ≡ true
and_left true b h = refl
and_left false b h = h

pub and_right : (a b : Bool) → a && b ≡ true → b ≡ true
and_right true b h = h
and_right false b h = absurd (false≢true h)

pub and_both : (a b : Bool) → a ≡ true → b ≡ true → a && b ≡ true
and_both true b h k = k
and_both false b h k = h

not_true : (b : Bool) → not b ≡ true → b ≡ false
not_true true h = absurd (false≢true h)
not_true false h = refl

abbrev one_if : Bool → ℕ
one_if b = cond b 1 0

-- whether an entry is a Start of the task
abbrev pub begins : ℕ → Entry → Bool
begins t x = is_task t (started x)

-- whether it is an End of a Start of the task
abbrev pub ends_one : (ℕ → Option ℕ) → ℕ → Entry → Bool
ends_one at t (Start task cause ins) = false
ends_one at t (End start gives inner) = is_task t (at start)
ends_one at t (Fault start why) = false
ends_one at t (Drop task cause why) = false

-- whether it is a Fault of a Start of the task
abbrev pub faults_one : (ℕ → Option ℕ) → ℕ → Entry → Bool
faults_one at t (Start task cause ins) = false
faults_one at t (End start gives inner) = false
faults_one at t (Fault start why) = is_task t (at start)
faults_one at t (Drop task cause why) = false

-- how many Starts of the task were closed
abbrev pub closed : (ℕ → Option ℕ) → ℕ → List Entry → ℕ
closed at t b = count_by (ends_one at t) b + count_by (faults_one at t) b

-- whether it stops the task
abbrev pub stops_one : (ℕ → Option ℕ) → ℕ → Entry → Bool
stops_one at t x = stops t (λ n. is_task t (at n)) x

-- no Start of the task is open
abbrev pub Rests : ℕ → List Entry → Type 0
Rests t b = (n : ℕ) → runs_at t b n ≡ true → ⊥

-- the one open Start of the task stands here
pub record RunsAt (t : ℕ) (b : List Entry) (n : ℕ) : Type 0 where
  pub below : n < length b
  pub runs : runs_at t b n ≡ true
  pub only : (m : ℕ) → runs_at t b m ≡ true → m ≡ n

pub data Phase (at : ℕ → Option ℕ) (t : ℕ) (b : List Entry) : Type 0 where
  idle : count_by (begins t) b ≡ closed at t b → Rests t b → Phase at t b
  busy : (n : ℕ) → count_by (begins t) b ≡ closed at t b + 1 → RunsAt t b n → Phase at t b

-- what Ends and Faults name stands before them
pub record Behind (b : List Entry) : Type 0 where
  pub unclosed : (n : ℕ) → length b ≤ n → count_by (closes n) b ≡ 0
  pub settled : (t : ℕ) (f g : ℕ → Bool) → ((n : ℕ) → n < length b → f n ≡ g n) → count_by (stops t f) b ≡ count_by (stops t g) b

-- an open Start after one entry more: it was open before, or is that entry
runs_before : (t : ℕ) (b : List Entry) (x : Entry) (n : ℕ) → n < length b → runs_at t (b ++ x ∷ []) n ≡ runs_at t b n && not (closes n x)
runs_before t b x n below =
    ap (λ o. is_task t o && is_open (b ++ x ∷ []) n) (start_at_push_below b x n below) ∙ ap (λ c. is_task t (start_at b n) && c) (is_open_push_below b x n below) ∙ sym (and_assoc (is_task t (start_at b n)) (is_open b n) (not (closes n x)))
  where
    and_assoc : (p q r : Bool) → (p && q) && r ≡ p && (q && r)
    and_assoc true q r = refl
    and_assoc false q r = refl

pub runs_last : (t : ℕ) (b : List Entry) (x : Entry) (n : ℕ) → length b ≤ n → runs_at t (b ++ x ∷ []) n ≡ true → (n ≡ length b) × (begins t x ≡ true)
runs_last t b x n past runs =
    let started_is : is_task t (start_at (b ++ x ∷ []) n) ≡ true = and_left _ _ runs in
    let stands : n < length (b ++ x ∷ []) = open_stands (b ++ x ∷ []) n (and_right (is_task t (start_at (b ++ x ∷ []) n)) _ runs) in
    let here : n ≡ length b = omega (arith, length_push b x) in
    (here, ap (is_task t) (sym (start_at_push_last b x)) ∙ subst (λ m. is_task t (start_at (b ++ x ∷ []) m) ≡ true) here started_is)

pub runs_was : (t : ℕ) (b : List Entry) (x : Entry) (n : ℕ) → n < length b → runs_at t (b ++ x ∷ []) n ≡ true → runs_at t b n ≡ true
runs_was t b x n below runs = and_left _ _ (sym (runs_before t b x n below) ∙ runs)

-- an entry that neither starts nor closes a Start of the task leaves it as it was
pub runs_old : (t : ℕ) (b : List Entry) (x : Entry) → begins t x ≡ false → (n : ℕ) → runs_at t (b ++ x ∷ []) n ≡ true → runs_at t b n ≡ true
runs_old t b x none n runs = by_place (cases_lt n (length b))
  where
    by_place : (n < length b) ⊎ (length b ≤ n) → runs_at t b n ≡ true
    by_place (inl below) = and_left _ _ (sym (runs_before t b x n below) ∙ runs)
    by_place (inr past) = absurd (false≢true (sym none ∙ (runs_last t b x n past runs).1))

carry : (at : ℕ → Option ℕ) (t : ℕ) (b : List Entry) (x : Entry) → begins t x ≡ false → ends_one at t x ≡ false → faults_one at t x ≡ false → ((n : ℕ) → runs_at t b n ≡ true → closes n x ≡ false) → Phase at t b → Phase at t (b ++ x ∷ [])
carry at t b x none no_end no_fault unclosed (idle same rests) =
    idle (omega (arith, count_by_push_no (begins t) b x none, same, count_by_push_no (ends_one at t) b x no_end, count_by_push_no (faults_one at t) b x no_fault)) (λ n runs. rests n (runs_old t b x none n runs))
carry at t b x none no_end no_fault unclosed (busy n one is) =
    busy n (omega (arith, count_by_push_no (begins t) b x none, one, count_by_push_no (ends_one at t) b x no_end, count_by_push_no (faults_one at t) b x no_fault))
    (record {
      below = omega (arith, length_push b x, is.below);
      runs = runs_before t b x n is.below ∙ and_both _ _ is.runs (ap not (unclosed n is.runs));
      only = λ m runs. is.only m (runs_old t b x none m runs);
    })

-- a Start of a task that may start
begin : (at : ℕ → Option ℕ) (t : ℕ) (cause : Cause) (ins : List Part) (b : List Entry) → Told at b → Behind b → MayStart t b → Phase at t b → Phase at t (b ++ Start t cause ins ∷ [])
begin at t cause ins b told behind may phase = by_phase phase
  where
    x : Entry
    x = Start t cause ins

    yes : begins t x ≡ true
    yes = grind (arith, nat_tests)

    rests : Rests t b
    rests n runs = absurd (false≢true (sym (at_below (λ m. runs_at t b m ≡ false) (length b) may.none_open n (open_stands b n (and_right (is_task t (start_at b n)) _ runs))) ∙ runs))

    only : (m : ℕ) → runs_at t (b ++ x ∷ []) m ≡ true → m ≡ length b
    only m runs = by_place (cases_lt m (length b))
      where
        by_place : (m < length b) ⊎ (length b ≤ m) → m ≡ length b
        by_place (inl below) = absurd (rests m (and_left _ _ (sym (runs_before t b x m below) ∙ runs)))
        by_place (inr past) = (runs_last t b x m past runs).0

    opened : runs_at t (b ++ x ∷ []) (length b) ≡ true
    opened = rw (start_at_push_last b x, count_by_push_no (closes (length b)) b x refl, behind.unclosed (length b) (omega arith)) (and_both _ _ yes refl)

    by_phase : Phase at t b → Phase at t (b ++ x ∷ [])
    by_phase (idle same r) =
        busy (length b) (omega (arith, count_by_push_yes (begins t) b x yes, same, count_by_push_no (ends_one at t) b x refl, count_by_push_no (faults_one at t) b x refl))
        (record { below = omega (arith, length_push b x); runs = opened; only = only })
    by_phase (busy n one is) = absurd (rests n is.runs)

-- an End or a Fault of the open Start
pub rests_closed : (t : ℕ) (b : List Entry) (x : Entry) (n : ℕ) → begins t x ≡ false → RunsAt t b n → closes n x ≡ true → Rests t (b ++ x ∷ [])
rests_closed t b x n none is closed m runs =
    let was : runs_at t b m ≡ true = runs_old t b x none m runs in
    let here : m ≡ n = is.only m was in
    let still : not (closes n x) ≡ true = and_right (runs_at t b n) _ (sym (runs_before t b x n is.below) ∙ subst (λ k. runs_at t (b ++ x ∷ []) k ≡ true) here runs) in
    false≢true (sym (not_true _ still) ∙ closed)

-- the step of one entry
pub phase_step : (at : ℕ → Option ℕ) (t : ℕ) (b : List Entry) (x : Entry) → Told at b → Behind b → ClosingRule b x → StartRule b x → Phase at t b → Phase at t (b ++ x ∷ [])
phase_step at t b (Start task cause ins) told behind closing may phase = by_task (cases_eq task t)
  where
    by_task : (task ≡ t) ⊎ (task ≢ t) → Phase at t (b ++ Start task cause ins ∷ [])
    by_task (inl same) = subst (λ s. Phase at t (b ++ Start s cause ins ∷ [])) (sym same) (begin at t cause ins b told behind (subst (λ s. MayStart s b) same may) phase)
    by_task (inr other) = carry at t b (Start task cause ins) (grind (arith, nat_tests)) refl refl (λ n runs. refl) phase
phase_step at t b (End start gives inner) told behind closing may phase = by_task (is_task t (start_at b start)) refl
  where
    x : Entry
    x = End start gives inner

    stands : start < length b
    stands = open_stands b start closing

    by_task : (own : Bool) → is_task t (start_at b start) ≡ own → Phase at t (b ++ x ∷ [])
    by_task true own = by_phase phase
      where
        runs : runs_at t b start ≡ true
        runs = and_both _ _ own closing

        by_phase : Phase at t b → Phase at t (b ++ x ∷ [])
        by_phase (idle same rests) = absurd (rests start runs)
        by_phase (busy n one is) =
            let here : start ≡ n = is.only start runs in
            let hit : eqb start n ≡ true = grind (arith, nat_tests) in
            let ended : ends_one at t x ≡ true = ap (is_task t) (told start stands) ∙ own in
            idle (omega (arith, count_by_push_no (begins t) b x refl, one, count_by_push_yes (ends_one at t) b x ended, count_by_push_no (faults_one at t) b x refl)) (rests_closed t b x n refl is hit)
    by_task false other = carry at t b x refl (ap (is_task t) (told start stands) ∙ other) refl unclosed phase
      where
        unclosed : (n : ℕ) → runs_at t b n ≡ true → eqb start n ≡ false
        unclosed n runs = by_place (cases_eq start n)
          where
            by_place : (start ≡ n) ⊎ (start ≢ n) → eqb start n ≡ false
            by_place (inl same) = absurd (false≢true (sym other ∙ subst (λ m. is_task t (start_at b m) ≡ true) (sym same) (and_left (is_task t (start_at b n)) _ runs)))
            by_place (inr differs) = grind (arith, nat_tests)
phase_step at t b (Fault start why) told behind closing may phase = by_task (is_task t (start_at b start)) refl
  where
    x : Entry
    x = Fault start why

    stands : start < length b
    stands = open_stands b start closing

    by_task : (own : Bool) → is_task t (start_at b start) ≡ own → Phase at t (b ++ x ∷ [])
    by_task true own = by_phase phase
      where
        runs : runs_at t b start ≡ true
        runs = and_both _ _ own closing

        by_phase : Phase at t b → Phase at t (b ++ x ∷ [])
        by_phase (idle same rests) = absurd (rests start runs)
        by_phase (busy n one is) =
            let here : start ≡ n = is.only start runs in
            let hit : eqb start n ≡ true = grind (arith, nat_tests) in
            let faulted : faults_one at t x ≡ true = ap (is_task t) (told start stands) ∙ own in
            idle (omega (arith, count_by_push_no (begins t) b x refl, one, count_by_push_no (ends_one at t) b x refl, count_by_push_yes (faults_one at t) b x faulted)) (rests_closed t b x n refl is hit)
    by_task false other = carry at t b x refl refl (ap (is_task t) (told start stands) ∙ other) unclosed phase
      where
        unclosed : (n : ℕ) → runs_at t b n ≡ true → eqb start n ≡ false
        unclosed n runs = by_place (cases_eq start n)
          where
            by_place : (start ≡ n) ⊎ (start ≢ n) → eqb start n ≡ false
            by_place (inl same) = absurd (false≢true (sym other ∙ subst (λ m. is_task t (start_at b m) ≡ true) (sym same) (and_left (is_task t (start_at b n)) _ runs)))
            by_place (inr differs) = grind (arith, nat_tests)
phase_step at t b (Drop task cause why) told behind closing may phase = carry at t b (Drop task cause why) refl refl refl (λ n runs. refl) phase

-- what stands behind, after one entry more
pub behind_step : (b : List Entry) (x : Entry) → ClosingRule b x → Behind b → Behind (b ++ x ∷ [])
behind_step b x closing behind = record {
  unclosed = λ n past. count_by_push (closes n) b x ∙ omega (arith, behind.unclosed n (omega (arith, length_push b x)), not_closed n (omega (arith, length_push b x)));
  settled = λ t f g same. count_by_push (stops t f) b x ∙ rw (behind.settled t f g (λ n below. same n (omega (arith, length_push b x))), stops_same t f g (λ n below. same n (omega (arith, length_push b x)))) (sym (count_by_push (stops t g) b x));
}
  where
    not_closed : (n : ℕ) → length b < n → one_if (closes n x) ≡ 0
    not_closed n past = by_entry x closing
      where
        by_entry : (y : Entry) → ClosingRule b y → one_if (closes n y) ≡ 0
        by_entry (Start task cause ins) c = refl
        by_entry (End start gives inner) c = let stands : start < length b = open_stands b start c in let miss : eqb start n ≡ false = grind (arith, nat_tests) in rw miss refl
        by_entry (Fault start why) c = let stands : start < length b = open_stands b start c in let miss : eqb start n ≡ false = grind (arith, nat_tests) in rw miss refl
        by_entry (Drop task cause why) c = refl

    stops_same : (t : ℕ) (f g : ℕ → Bool) → ((n : ℕ) → n < length b → f n ≡ g n) → stops t f x ≡ stops t g x
    stops_same t f g same = by_entry x closing
      where
        by_entry : (y : Entry) → ClosingRule b y → stops t f y ≡ stops t g y
        by_entry (Start task cause ins) c = refl
        by_entry (End start gives inner) c = refl
        by_entry (Fault start why) c = same start (open_stands b start c)
        by_entry (Drop task cause why) c = refl

-- a Fault of the task stops it
pub faults_stop : (at : ℕ → Option ℕ) (t : ℕ) (b : List Entry) → count_by (faults_one at t) b ≤ count_by (stops_one at t) b
faults_stop at t [] = omega arith
faults_stop at t (x ∷ b) = by_entry x (faults_stop at t b)
  where
    Less : List Entry → Type 0
    Less c = count_by (faults_one at t) c ≤ count_by (stops_one at t) c

    by_entry : (y : Entry) → Less b → Less (y ∷ b)
    by_entry y less = omega (arith, sum_by-cons (λ z. one_if (faults_one at t z)) y b, sum_by-cons (λ z. one_if (stops_one at t z)) y b, less, one_less y)
      where
        one_less : (z : Entry) → one_if (faults_one at t z) ≤ one_if (stops_one at t z)
        one_less (Start task cause ins) = omega arith
        one_less (End start gives inner) = omega arith
        one_less (Fault start why) = omega arith
        one_less (Drop task cause why) = omega arith

-- what closes a Start of the task, and no Start is closed twice
pub closed_few : (at : ℕ → Option ℕ) (t : ℕ) (b : List Entry) → Phase at t b → closed at t b ≤ count_by (begins t) b
closed_few at t b (idle same rests) = omega arith
closed_few at t b (busy n one is) = omega arith

-- no more Ends than Starts
pub ends_few : (at : ℕ → Option ℕ) (t : ℕ) (b : List Entry) → Phase at t b → count_by (ends_one at t) b ≤ count_by (begins t) b
ends_few at t b phase = omega (arith, closed_few at t b phase)

-- a task all of whose Starts are closed rests
pub rests_when : (at : ℕ → Option ℕ) (t : ℕ) (b : List Entry) → count_by (begins t) b ≤ closed at t b → Phase at t b → Rests t b
rests_when at t b all (idle same rests) = rests
rests_when at t b all (busy n one is) = absurd (omega arith)

-- a task that may start is idle, and each of its Starts has an End
pub idle_before : (at : ℕ → Option ℕ) (t : ℕ) (b : List Entry) → Told at b → Behind b → MayStart t b → Phase at t b → (count_by (begins t) b ≡ count_by (ends_one at t) b) × Rests t b
idle_before at t b told behind may phase = by_phase phase
  where
    rests : Rests t b
    rests n runs = absurd (false≢true (sym (at_below (λ m. runs_at t b m ≡ false) (length b) may.none_open n (open_stands b n (and_right (is_task t (start_at b n)) _ runs))) ∙ runs))

    none : count_by (stops_one at t) b ≡ 0
    none = behind.settled t (λ n. is_task t (at n)) (λ n. is_task t (start_at b n)) (λ n below. ap (is_task t) (told n below)) ∙ may.none_stopped

    by_phase : Phase at t b → (count_by (begins t) b ≡ count_by (ends_one at t) b) × Rests t b
    by_phase (idle same r) = (omega (arith, same, none, faults_stop at t b), r)
    by_phase (busy n one is) = absurd (rests n is.runs)

-- a task that rests and has no Drop or Fault may start
pub may_start : (at : ℕ → Option ℕ) (t : ℕ) (b : List Entry) → Told at b → Behind b → Rests t b → count_by (stops_one at t) b ≡ 0 → MayStart t b
may_start at t b told behind rests none = record {
  none_open = each_below (λ n. runs_at t b n ≡ false) (length b) (λ n below. by_test (runs_at t b n) (rests n));
  none_stopped = sym (behind.settled t (λ n. is_task t (at n)) (λ n. is_task t (start_at b n)) (λ n below. ap (is_task t) (told n below))) ∙ none;
}
  where
    by_test : (r : Bool) → (r ≡ true → ⊥) → r ≡ false
    by_test true never = absurd (never refl)
    by_test false never = refl

-- the task of an open Start is busy with it
pub busy_with : (at : ℕ → Option ℕ) (t : ℕ) (b : List Entry) (n : ℕ) → runs_at t b n ≡ true → Phase at t b → RunsAt t b n
busy_with at t b n runs (idle same rests) = absurd (rests n runs)
busy_with at t b n runs (busy m one is) = subst (λ k. RunsAt t b k) (sym (is.only n runs)) is
