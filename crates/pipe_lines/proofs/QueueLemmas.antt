-- The queue of tokens that waited and were freed.
use Rattle.std.proofs.Common.{◌≡◌, ◌≢◌, ◌⊎◌, inl, inr, ℕ, zero, suc, max, ◌+◌, ◌-◌, ◌<◌, ◌≤◌, Bool, true, false, not, ◌&&◌, ◌||◌, cond, eqb, ltb, List, [], ◌∷◌, ◌++◌, length, take, Some, None, sym, refl, ap, ◌∙◌, arith}
use Rattle.std.specs.Prelude.{filter, ◌==◌}
use Rattle.std.specs.List.{list_any, list_all, range_with_len}
use Rattle.std.proofs.lemmas.Bool.{cases_eq, cases_lt, false≢true, eq-eqb, ne_eqb, lt-ltb, ltb-true, and_parts, and_from, and_right, or_cases}
use Rattle.std.proofs.lemmas.List.{length_push}
use Rattle.std.proofs.lemmas.List.Folds.{list_any-append}
use Rattle.pipe_lines.specs.declared.deferral.DeferRow.{DeferRow}
use Rattle.pipe_lines.specs.PassOrder.{targets, has_passed, is_free, looked_at, freed_by, resumed, next_token}
use Rattle.pipe_lines.specs.inside.Waiting.{waits_for, waiters}
use Rattle.pipe_lines.specs.inside.Walks.{GoesBefore, InTurn, IsQueue, freed_after, is_waiting, last_after, passed_after}
use Rattle.pipe_lines.proofs.FindLemmas.{Finds, find_is, find_none, first_is, first_none}
use Rattle.pipe_lines.proofs.PassLemmas.{by_take, to_take, after_most, after_none, after_some, after_push_same, after_push_other, looked_push}
use Rattle.pipe_lines.proofs.StepLemmas.{IsNext, new_one}

-- ---- which numbers are in a list

mem_first : (k : ℕ) (ks : List ℕ) → has_passed (k ∷ ks) k ≡ true
mem_first k ks = ap (λ b. b || has_passed ks k) (eq-eqb k k refl)

mem_behind : (j k : ℕ) (ks : List ℕ) → has_passed ks j ≡ true → has_passed (k ∷ ks) j ≡ true
mem_behind j k ks is = or_second (eqb k j) (has_passed ks j) is
  where
    or_second : (b c : Bool) → c ≡ true → b || c ≡ true
    or_second true c is = refl
    or_second false c is = is

mem_push : (ks : List ℕ) (k j : ℕ) → has_passed (ks ++ k ∷ []) j ≡ (has_passed ks j || eqb k j)
mem_push ks k j = list_any-append (λ q. q == j) ks (k ∷ []) ∙ ap (λ b. has_passed ks j || b) (or_none (eqb k j))
  where
    or_none : (b : Bool) → b || false ≡ b
    or_none true = refl
    or_none false = refl

-- a number that was there is there still
mem_before : (ks : List ℕ) (k j : ℕ) → has_passed ks j ≡ true → has_passed (ks ++ k ∷ []) j ≡ true
mem_before ks k j is = mem_push ks k j ∙ ap (λ b. b || eqb k j) is

pub mem_unpushed : (ks : List ℕ) (k j : ℕ) → k ≢ j → has_passed (ks ++ k ∷ []) j ≡ has_passed ks j
mem_unpushed ks k j other = mem_push ks k j ∙ ap (λ b. has_passed ks j || b) (ne_eqb k j other) ∙ or_none (has_passed ks j)
  where
    or_none : (b : Bool) → b || false ≡ b
    or_none true = refl
    or_none false = refl

pub mem_pushed : (ks : List ℕ) (k : ℕ) → has_passed (ks ++ k ∷ []) k ≡ true
mem_pushed ks k = mem_push ks k k ∙ ap (λ b. has_passed ks k || b) (eq-eqb k k refl) ∙ or_true (has_passed ks k)
  where
    or_true : (b : Bool) → b || true ≡ true
    or_true true = refl
    or_true false = refl

pub mem_filter : (p : ℕ → Bool) (ks : List ℕ) (k : ℕ) → has_passed (filter p ks) k ≡ (has_passed ks k && p k)
mem_filter p [] k = refl
mem_filter p (x ∷ xs) k = by_test (p x) refl (cases_eq x k) (mem_filter p xs k)
  where
    by_test : (b : Bool) → p x ≡ b → (x ≡ k) ⊎ (x ≢ k) → has_passed (filter p xs) k ≡ (has_passed xs k && p k) → has_passed (cond b (x ∷ filter p xs) (filter p xs)) k ≡ ((eqb x k || has_passed xs k) && p k)
    by_test true is (inl same) more = ap (λ e. e || has_passed (filter p xs) k) (eq-eqb x k same) ∙ sym (ap (λ e. (e || has_passed xs k) && p k) (eq-eqb x k same) ∙ ap p (sym same) ∙ is)
    by_test false is (inl same) more = more ∙ and_right (has_passed xs k) (p k) (ap p (sym same) ∙ is) ∙ sym (ap (λ e. (e || has_passed xs k) && p k) (eq-eqb x k same) ∙ ap p (sym same) ∙ is)
    by_test true is (inr other) more = ap (λ e. e || has_passed (filter p xs) k) (ne_eqb x k other) ∙ more ∙ sym (ap (λ e. (e || has_passed xs k) && p k) (ne_eqb x k other))
    by_test false is (inr other) more = more ∙ sym (ap (λ e. (e || has_passed xs k) && p k) (ne_eqb x k other))

mem_range : (a n k : ℕ) → a ≤ k → k < a + n → has_passed (range_with_len a n) k ≡ true
mem_range a zero k from below = absurd (omega (arith, from, below))
mem_range a (suc n) k from below = by_place (cases_eq a k) (λ other. mem_range (a + 1) n k (omega (arith, from, other)) (omega (arith, below)))
  where
    by_place : (a ≡ k) ⊎ (a ≢ k) → (a ≢ k → has_passed (range_with_len (a + 1) n) k ≡ true) → eqb a k || has_passed (range_with_len (a + 1) n) k ≡ true
    by_place (inl same) more = ap (λ b. b || has_passed (range_with_len (a + 1) n) k) (eq-eqb a k same)
    by_place (inr other) more = mem_behind k a (range_with_len (a + 1) n) (more other)

range_from : (a n k : ℕ) → has_passed (range_with_len a n) k ≡ true → a ≤ k
range_from a zero k is = absurd (false≢true is)
range_from a (suc n) k is = by_place (cases_eq a k) is (range_from (a + 1) n k)
  where
    by_place : (a ≡ k) ⊎ (a ≢ k) → eqb a k || has_passed (range_with_len (a + 1) n) k ≡ true → (has_passed (range_with_len (a + 1) n) k ≡ true → a + 1 ≤ k) → a ≤ k
    by_place (inl same) h more = omega (arith, same)
    by_place (inr other) h more = omega (arith, more (sym (ap (λ b. b || has_passed (range_with_len (a + 1) n) k) (ne_eqb a k other)) ∙ h))

-- ---- rising numbers

abbrev Rising : List ℕ → Type 0
Rising [] = Unit {0}
Rising (k ∷ ks) = ((j : ℕ) → has_passed ks j ≡ true → k < j) × Rising ks

rising_range : (a n : ℕ) → Rising (range_with_len a n)
rising_range a zero = tt
rising_range a (suc n) = ((λ j is. omega (arith, range_from (a + 1) n j is)), rising_range (a + 1) n)

rising_filter : (p : ℕ → Bool) (ks : List ℕ) → Rising ks → Rising (filter p ks)
rising_filter p [] rising = tt
rising_filter p (k ∷ ks) rising = by_test (p k) (rising_filter p ks rising.1)
  where
    by_test : (b : Bool) → Rising (filter p ks) → Rising (cond b (k ∷ filter p ks) (filter p ks))
    by_test true more = ((λ j is. rising.0 j (and_parts (has_passed ks j) (p j) (sym (mem_filter p ks j) ∙ is)).0), more)
    by_test false more = more

rising_waiters : (rows : List DeferRow) (n t : ℕ) → Rising (waiters rows n t)
rising_waiters rows n t = rising_filter (λ k. waits_for rows k t) (range_with_len 0 n) (rising_range 0 n)

-- ---- what goes before what

in_turn_equal : (rows : List DeferRow) (passed : List ℕ) (n : ℕ) (ks : List ℕ) → Rising ks → ((k : ℕ) → has_passed ks k ≡ true → freed_after rows passed k ≡ n) → InTurn rows passed ks
in_turn_equal rows passed n [] rising same = tt
in_turn_equal rows passed n (k ∷ ks) rising same = (
  (λ j is. inr (same k (mem_first k ks) ∙ sym (same j (mem_behind j k ks is)), rising.0 j is)),
  in_turn_equal rows passed n ks rising.1 (λ j is. same j (mem_behind j k ks is)),
)

in_turn_append : (rows : List DeferRow) (passed js ks : List ℕ) → InTurn rows passed js → InTurn rows passed ks → ((j k : ℕ) → has_passed js j ≡ true → has_passed ks k ≡ true → GoesBefore rows passed j k) → InTurn rows passed (js ++ ks)
in_turn_append rows passed [] ks first second apart = second
in_turn_append rows passed (j ∷ js) ks first second apart = (
  (λ k is. by_side k (or_cases (has_passed js k) (has_passed ks k) (sym (list_any-append (λ q. q == k) js ks) ∙ is))),
  in_turn_append rows passed js ks first.1 second (λ i k in_first in_second. apart i k (mem_behind i j js in_first) in_second),
)
  where
    by_side : (k : ℕ) → (has_passed js k ≡ true) ⊎ (has_passed ks k ≡ true) → GoesBefore rows passed j k
    by_side k (inl is) = first.0 k is
    by_side k (inr is) = apart j k (mem_first j js) is

in_turn_kept : (rows : List DeferRow) (old new ks : List ℕ) → ((k : ℕ) → has_passed ks k ≡ true → freed_after rows new k ≡ freed_after rows old k) → InTurn rows old ks → InTurn rows new ks
in_turn_kept rows old new [] same turn = tt
in_turn_kept rows old new (k ∷ ks) same turn = (
  (λ j is. by_order j (same k (mem_first k ks)) (same j (mem_behind j k ks is)) (turn.0 j is)),
  in_turn_kept rows old new ks (λ j is. same j (mem_behind j k ks is)) turn.1,
)
  where
    by_order : (j : ℕ) → freed_after rows new k ≡ freed_after rows old k → freed_after rows new j ≡ freed_after rows old j → GoesBefore rows old k j → GoesBefore rows new k j
    by_order j one two (inl less) = inl (omega (arith, one, two, less))
    by_order j one two (inr tied) = inr (one ∙ tied.0 ∙ sym two, tied.1)

-- none goes before itself
not_itself : (rows : List DeferRow) (passed : List ℕ) (k : ℕ) → GoesBefore rows passed k k → ⊥
not_itself rows passed k (inl less) = omega (arith, less)
not_itself rows passed k (inr tied) = omega (arith, tied.1)

-- ---- after how many passes a token was freed

last_enough : (passed ks : List ℕ) (i : ℕ) → list_all (has_passed passed) ks ≡ true → last_after passed ks ≤ i → list_all (has_passed (take i passed)) ks ≡ true
last_enough passed [] i all within = refl
last_enough passed (k ∷ ks) i all within =
    let parts = and_parts (has_passed passed k) (list_all (has_passed passed) ks) all in
    and_from (has_passed (take i passed) k) (list_all (has_passed (take i passed)) ks)
    (to_take passed k i (after_some passed k parts.0) (omega (arith, within)))
    (last_enough passed ks i parts.1 (omega (arith, within)))

last_needed : (passed ks : List ℕ) (i : ℕ) → list_all (has_passed (take i passed)) ks ≡ true → last_after passed ks ≤ i
last_needed passed [] i all = omega arith
last_needed passed (k ∷ ks) i all =
    let parts = and_parts (has_passed (take i passed) k) (list_all (has_passed (take i passed)) ks) all in
    omega (arith, (by_take passed k i parts.0).1, last_needed passed ks i parts.1)

last_most : (passed ks : List ℕ) → last_after passed ks ≤ length passed
last_most passed [] = omega arith
last_most passed (k ∷ ks) = omega (arith, after_most passed k, last_most passed ks)

-- what has passed by a prefix has passed
whole : (passed : List ℕ) (k i : ℕ) → has_passed (take i passed) k ≡ true → has_passed passed k ≡ true
whole passed k i is = by_test (has_passed passed k) refl
  where
    by_test : (b : Bool) → has_passed passed k ≡ b → b ≡ true
    by_test true has = refl
    by_test false has = absurd (omega (arith, (by_take passed k i is).0, after_none passed k has))

all_more : (p q : ℕ → Bool) (ks : List ℕ) → ((k : ℕ) → p k ≡ true → q k ≡ true) → list_all p ks ≡ true → list_all q ks ≡ true
all_more p q [] more all = refl
all_more p q (k ∷ ks) more all =
    let parts = and_parts (p k) (list_all p ks) all in
    and_from (q k) (list_all q ks) (more k parts.0) (all_more p q ks more parts.1)

all_others : (p q : ℕ → Bool) (k : ℕ) (ts : List ℕ) → list_any (λ t. t == k) ts ≡ false → ((t : ℕ) → k ≢ t → p t ≡ true → q t ≡ true) → list_all p ts ≡ true → list_all q ts ≡ true
all_others p q k [] none more all = refl
all_others p q k (t ∷ ts) none more all = by_place (cases_eq t k) none (and_parts (p t) (list_all p ts) all) (all_others p q k ts)
  where
    by_place : (t ≡ k) ⊎ (t ≢ k) → eqb t k || list_any (λ s. s == k) ts ≡ false → (p t ≡ true) × (list_all p ts ≡ true)
        → (list_any (λ s. s == k) ts ≡ false → ((s : ℕ) → k ≢ s → p s ≡ true → q s ≡ true) → list_all p ts ≡ true → list_all q ts ≡ true) → q t && list_all q ts ≡ true
    by_place (inl same) h parts rest = absurd (false≢true (sym h ∙ ap (λ b. b || list_any (λ s. s == k) ts) (eq-eqb t k same)))
    by_place (inr other) h parts rest =
        and_from (q t) (list_all q ts) (more t (λ same. other (sym same)) parts.0) (rest (sym (ap (λ b. b || list_any (λ s. s == k) ts) (ne_eqb t k other)) ∙ h) more parts.1)

module _ (passed : List ℕ) (t : ℕ) (unpassed : has_passed passed t ≡ false) where
  -- a pass changes nothing for a token whose targets have all passed
  last_kept : (ks : List ℕ) → list_all (has_passed passed) ks ≡ true → last_after (passed ++ t ∷ []) ks ≡ last_after passed ks
  last_kept [] all = refl
  last_kept (k ∷ ks) all =
      ap (λ n. max n (last_after (passed ++ t ∷ []) ks)) (after_push_other passed t k (λ same. absurd (false≢true (sym unpassed ∙ ap (has_passed passed) same ∙ parts.0))))
      ∙ ap (max (passed_after passed k)) (last_kept ks parts.1)
    where
      parts : (has_passed passed k ≡ true) × (list_all (has_passed passed) ks ≡ true)
      parts = and_parts (has_passed passed k) (list_all (has_passed passed) ks) all

  last_has : (ks : List ℕ) → list_any (λ k. k == t) ks ≡ true → length passed + 1 ≤ last_after (passed ++ t ∷ []) ks
  last_has [] any = absurd (false≢true any)
  last_has (k ∷ ks) any = by_place (cases_eq k t) any (last_has ks)
    where
      by_place : (k ≡ t) ⊎ (k ≢ t) → eqb k t || list_any (λ j. j == t) ks ≡ true → (list_any (λ j. j == t) ks ≡ true → length passed + 1 ≤ last_after (passed ++ t ∷ []) ks)
          → length passed + 1 ≤ max (passed_after (passed ++ t ∷ []) k) (last_after (passed ++ t ∷ []) ks)
      by_place (inl same) h more = omega (arith, ap (passed_after (passed ++ t ∷ [])) same, after_push_same passed t (after_none passed t unpassed))
      by_place (inr other) h more = omega (arith, more (sym (ap (λ b. b || list_any (λ j. j == t) ks) (ne_eqb k t other)) ∙ h))

  -- it frees one that waits for the token
  last_new : (ks : List ℕ) → list_any (λ k. k == t) ks ≡ true → last_after (passed ++ t ∷ []) ks ≡ length passed + 1
  last_new ks any = omega (arith, last_has ks any, last_most (passed ++ t ∷ []) ks, length_push passed t)

-- ---- what waits

pub record Waits (rows : List DeferRow) (passed : List ℕ) (looked k : ℕ) : Type 0 where
  pub below : k < looked
  pub not_yet : has_passed passed k ≡ false
  pub free : is_free rows passed k ≡ true

waits_is : (rows : List DeferRow) (passed : List ℕ) (looked k : ℕ) → is_waiting rows passed looked k ≡ true → Waits rows passed looked k
waits_is rows passed looked k is = record { below = ltb-true k looked outer.0; not_yet = by_not (has_passed passed k) inner.0; free = inner.1 }
  where
    outer : (ltb k looked ≡ true) × (not (has_passed passed k) && is_free rows passed k ≡ true)
    outer = and_parts (ltb k looked) (not (has_passed passed k) && is_free rows passed k) is

    inner : (not (has_passed passed k) ≡ true) × (is_free rows passed k ≡ true)
    inner = and_parts (not (has_passed passed k)) (is_free rows passed k) outer.1

    by_not : (b : Bool) → not b ≡ true → b ≡ false
    by_not false h = refl
    by_not true h = absurd (false≢true h)

is_waits : (rows : List DeferRow) (passed : List ℕ) (looked k : ℕ) → Waits rows passed looked k → is_waiting rows passed looked k ≡ true
is_waits rows passed looked k waits =
    and_from (ltb k looked) (not (has_passed passed k) && is_free rows passed k) (lt-ltb k looked waits.below)
    (and_from (not (has_passed passed k)) (is_free rows passed k) (ap not waits.not_yet) waits.free)

-- ---- the first of the queue is the one that is resumed

module _ (rows : List DeferRow) (passed : List ℕ) where
  abbrev waits_by : ℕ → ℕ → Bool
  waits_by i k = not (has_passed passed k) && is_free rows (take i passed) k

  -- one that was free by some passes waits still
  waits_now : (i k : ℕ) → k < looked_at passed → waits_by i k ≡ true → Waits rows passed (looked_at passed) k
  waits_now i k below is =
      let parts = and_parts (not (has_passed passed k)) (is_free rows (take i passed) k) is in
      record { below = below; not_yet = by_not (has_passed passed k) parts.0; free = all_more (has_passed (take i passed)) (has_passed passed) (targets rows k) (λ j. whole passed j i) parts.1 }
    where
      by_not : (b : Bool) → not b ≡ true → b ≡ false
      by_not false h = refl
      by_not true h = absurd (false≢true h)

  pub none_resumed : IsQueue rows passed [] → resumed rows passed ≡ None
  none_resumed queue = first_none (freed_by rows passed) 0 (length passed + 1) (λ i from below. find_none (waits_by i) 0 (looked_at passed) (λ k low high. by_test i k (omega (arith, high)) (waits_by i k) refl))
    where
      by_test : (i k : ℕ) → k < looked_at passed → (b : Bool) → waits_by i k ≡ b → b ≡ false
      by_test i k below false is = refl
      by_test i k below true is = absurd (false≢true (queue.each k ∙ is_waits rows passed (looked_at passed) k (waits_now i k below is)))

  module _ (t : ℕ) (rest : List ℕ) (queue : IsQueue rows passed (t ∷ rest)) where
    abbrev turn : ℕ
    turn = freed_after rows passed t

    pub first_waits : Waits rows passed (looked_at passed) t
    first_waits = waits_is rows passed (looked_at passed) t (sym (queue.each t) ∙ mem_first t rest)

    not_before : (i k : ℕ) → k < looked_at passed → (i < turn) ⊎ ((i ≡ turn) × (k < t)) → (b : Bool) → waits_by i k ≡ b → b ≡ false
    not_before i k below before false is = refl
    not_before i k below before true is = absurd (by_place (cases_eq t k) before)
      where
        queued : has_passed (t ∷ rest) k ≡ true
        queued = queue.each k ∙ is_waits rows passed (looked_at passed) k (waits_now i k below is)

        needed : freed_after rows passed k ≤ i
        needed = last_needed passed (targets rows k) i (and_parts (not (has_passed passed k)) (is_free rows (take i passed) k) is).1

        by_order : GoesBefore rows passed t k → (i < turn) ⊎ ((i ≡ turn) × (k < t)) → ⊥
        by_order (inl less) (inl early) = omega (arith, needed, less, early)
        by_order (inl less) (inr tied) = omega (arith, needed, less, tied.0)
        by_order (inr equal) (inl early) = omega (arith, needed, equal.0, early)
        by_order (inr equal) (inr tied) = omega (arith, equal.1, tied.1)

        itself : t ≡ k → (i < turn) ⊎ ((i ≡ turn) × (k < t)) → ⊥
        itself same (inl early) = omega (arith, needed, ap (freed_after rows passed) same, early)
        itself same (inr tied) = omega (arith, same, tied.1)

        by_place : (t ≡ k) ⊎ (t ≢ k) → (i < turn) ⊎ ((i ≡ turn) × (k < t)) → ⊥
        by_place (inl same) early = itself same early
        by_place (inr other) early = by_order (queue.in_turn.0 k (sym (ap (λ b. b || has_passed rest k) (ne_eqb t k other)) ∙ queued)) early

    pub first_resumed : resumed rows passed ≡ Some t
    first_resumed =
        first_is (freed_by rows passed) 0 (length passed + 1) turn t (omega arith) (omega (arith, last_most passed (targets rows t)))
        (find_is (waits_by turn) 0 (looked_at passed) t (record {
          from = omega arith;
          below = omega (arith, first_waits.below);
          passes = and_from (not (has_passed passed t)) (is_free rows (take turn passed) t) (ap not first_waits.not_yet) (last_enough passed (targets rows t) turn first_waits.free (omega arith));
          least = λ k from less. not_before turn k (omega (arith, less, first_waits.below)) (inr (refl, less)) (waits_by turn k) refl;
        }))
        (λ i from less. find_none (waits_by i) 0 (looked_at passed) (λ k low high. not_before i k (omega (arith, high)) (inl less) (waits_by i k) refl))

-- ---- a pass

-- what is left of a queue when a token passes
pub record IsLeft (rows : List DeferRow) (passed : List ℕ) (t : ℕ) (rest : List ℕ) : Type 0 where
  pub each : (k : ℕ) → has_passed rest k ≡ (is_waiting rows passed (looked_at passed) k && not (eqb t k))
  pub in_turn : InTurn rows passed rest
  pub newly : (k : ℕ) → looked_at passed ≤ k → k < t → is_free rows passed k ≡ false

-- the first of a queue passes, or a new token where there is none
pub left_first : (rows : List DeferRow) (passed : List ℕ) (t : ℕ) (rest : List ℕ) → IsQueue rows passed (t ∷ rest) → IsLeft rows passed t rest
left_first rows passed t rest queue = record {
  each = λ k. by_place k (cases_eq t k);
  in_turn = queue.in_turn.1;
  newly = λ k from less. absurd (omega (arith, from, less, (first_waits rows passed t rest queue).below));
}
  where
    -- it is not in the rest
    none : (b : Bool) → has_passed rest t ≡ b → b ≡ false
    none false is = refl
    none true is = absurd (not_itself rows passed t (queue.in_turn.0 t is))

    and_none : (b : Bool) → b && false ≡ false
    and_none true = refl
    and_none false = refl

    and_all : (b : Bool) → b && true ≡ b
    and_all true = refl
    and_all false = refl

    by_place : (k : ℕ) → (t ≡ k) ⊎ (t ≢ k) → has_passed rest k ≡ (is_waiting rows passed (looked_at passed) k && not (eqb t k))
    by_place k (inl same) = ap (has_passed rest) (sym same) ∙ none (has_passed rest t) refl ∙ sym (ap (λ b. is_waiting rows passed (looked_at passed) k && not b) (eq-eqb t k same) ∙ and_none (is_waiting rows passed (looked_at passed) k))
    by_place k (inr other) =
        sym (ap (λ b. b || has_passed rest k) (ne_eqb t k other)) ∙ queue.each k
        ∙ sym (ap (λ b. is_waiting rows passed (looked_at passed) k && not b) (ne_eqb t k other) ∙ and_all (is_waiting rows passed (looked_at passed) k))

pub left_new : (rows : List DeferRow) (tokens : ℕ) (passed : List ℕ) (t : ℕ) → IsQueue rows passed [] → next_token tokens rows passed ≡ Some t → IsLeft rows passed t []
left_new rows tokens passed t queue is_next = record {
  each = λ k. sym (ap (λ b. b && not (eqb t k)) (sym (queue.each k)));
  in_turn = tt;
  newly = λ k from less. new.least k from less;
}
  where
    new : Finds (is_free rows passed) (looked_at passed) (tokens - looked_at passed) t
    new = new_one tokens rows passed t is_next (none_resumed rows passed queue)

module _ (rows : List DeferRow) (tokens : ℕ) (passed : List ℕ) (t : ℕ) (rest : List ℕ) (left : IsLeft rows passed t rest) (is_next : next_token tokens rows passed ≡ Some t) (next : IsNext tokens rows passed t is_next) where
  abbrev now : List ℕ
  now = passed ++ t ∷ []

  -- those that this pass frees
  abbrev news : List ℕ
  news = filter (is_waiting rows now (looked_at now)) (waiters rows tokens t)

  -- one that waits now waited, or was freed by this pass
  waited : (k : ℕ) → Waits rows now (looked_at now) k → waits_for rows k t ≡ false → Waits rows passed (looked_at passed) k
  waited k waits none = record { below = by_place (cases_lt k (looked_at passed)); not_yet = not_yet; free = free }
    where
      other : t ≢ k
      other same = absurd (false≢true (sym waits.not_yet ∙ ap (has_passed now) (sym same) ∙ mem_pushed passed t))

      not_yet : has_passed passed k ≡ false
      not_yet = sym (mem_unpushed passed t k other) ∙ waits.not_yet

      free : is_free rows passed k ≡ true
      free = all_others (has_passed now) (has_passed passed) t (targets rows k) none (λ j apart is. sym (mem_unpushed passed t j apart) ∙ is) waits.free

      by_place : (k < looked_at passed) ⊎ (looked_at passed ≤ k) → k < looked_at passed
      by_place (inl below) = below
      by_place (inr from) = absurd (false≢true (sym (left.newly k from (omega (arith, waits.below, looked_push passed t, from, other))) ∙ free))

  -- one that waited waits still, but for the token that passes
  waits_on : (k : ℕ) → Waits rows passed (looked_at passed) k → t ≢ k → Waits rows now (looked_at now) k
  waits_on k waits other = record {
    below = omega (arith, waits.below, looked_push passed t);
    not_yet = mem_unpushed passed t k other ∙ waits.not_yet;
    free = all_more (has_passed passed) (has_passed now) (targets rows k) (mem_before passed t) waits.free;
  }

  in_rest : (k : ℕ) → has_passed rest k ≡ true → Waits rows passed (looked_at passed) k × (t ≢ k)
  in_rest k is =
      let parts = and_parts (is_waiting rows passed (looked_at passed) k) (not (eqb t k)) (sym (left.each k) ∙ is) in
      (waits_is rows passed (looked_at passed) k parts.0, λ same. false≢true (sym (ap not (eq-eqb t k same)) ∙ parts.1))

  in_news : (k : ℕ) → has_passed news k ≡ true → Waits rows now (looked_at now) k × (waits_for rows k t ≡ true)
  in_news k is =
      let outer = and_parts (has_passed (waiters rows tokens t) k) (is_waiting rows now (looked_at now) k) (sym (mem_filter (is_waiting rows now (looked_at now)) (waiters rows tokens t) k) ∙ is) in
      let inner = and_parts (has_passed (range_with_len 0 tokens) k) (waits_for rows k t) (sym (mem_filter (λ j. waits_for rows j t) (range_with_len 0 tokens) k) ∙ outer.0) in
      (waits_is rows now (looked_at now) k outer.1, inner.1)

  to_news : (k : ℕ) → Waits rows now (looked_at now) k → waits_for rows k t ≡ true → has_passed news k ≡ true
  to_news k waits for_it =
      mem_filter (is_waiting rows now (looked_at now)) (waiters rows tokens t) k
      ∙ and_from (has_passed (waiters rows tokens t) k) (is_waiting rows now (looked_at now) k)
      (mem_filter (λ j. waits_for rows j t) (range_with_len 0 tokens) k ∙ and_from (has_passed (range_with_len 0 tokens) k) (waits_for rows k t) (mem_range 0 tokens k (omega arith) (omega (arith, waits.below, next.within))) for_it)
      (is_waits rows now (looked_at now) k waits)

  mem_both : (k : ℕ) → has_passed (rest ++ news) k ≡ (has_passed rest k || has_passed news k)
  mem_both k = list_any-append (λ q. q == k) rest news

  each : (k : ℕ) → has_passed (rest ++ news) k ≡ is_waiting rows now (looked_at now) k
  each k = mem_both k ∙ by_test (is_waiting rows now (looked_at now) k) refl (has_passed rest k) refl (has_passed news k) refl (waits_for rows k t) refl
    where
      by_test : (w : Bool) → is_waiting rows now (looked_at now) k ≡ w → (r : Bool) → has_passed rest k ≡ r → (n : Bool) → has_passed news k ≡ n → (f : Bool) → waits_for rows k t ≡ f → r || n ≡ w
      by_test true w true r n e f g = refl
      by_test true w false r true e f g = refl
      by_test true w false r false e true g = absurd (false≢true (sym e ∙ to_news k (waits_is rows now (looked_at now) k w) g))
      by_test true w false r false e false g =
          let before : Waits rows passed (looked_at passed) k = waited k (waits_is rows now (looked_at now) k w) g in
          absurd (false≢true (sym r ∙ left.each k ∙ and_from (is_waiting rows passed (looked_at passed) k) (not (eqb t k)) (is_waits rows passed (looked_at passed) k before) (ap not (ne_eqb t k (apart w)))))
        where
          apart : is_waiting rows now (looked_at now) k ≡ true → t ≢ k
          apart is same = absurd (false≢true (sym (waits_is rows now (looked_at now) k is).not_yet ∙ ap (has_passed now) (sym same) ∙ mem_pushed passed t))
      by_test false w true r n e f g = absurd (false≢true (sym w ∙ is_waits rows now (looked_at now) k (waits_on k (in_rest k r).0 (in_rest k r).1)))
      by_test false w false r true e f g = absurd (false≢true (sym w ∙ is_waits rows now (looked_at now) k (in_news k e).0))
      by_test false w false r false e f g = refl

  kept : (k : ℕ) → has_passed rest k ≡ true → freed_after rows now k ≡ freed_after rows passed k
  kept k is = last_kept passed t next.not_yet (targets rows k) (in_rest k is).0.free

  freed_now : (k : ℕ) → has_passed news k ≡ true → freed_after rows now k ≡ length passed + 1
  freed_now k is = last_new passed t next.not_yet (targets rows k) (in_news k is).1

  pub queue_after : IsQueue rows now (rest ++ news)
  queue_after = record {
    each = each;
    in_turn =
        in_turn_append rows now rest news (in_turn_kept rows passed now rest kept left.in_turn)
        (in_turn_equal rows now (length passed + 1) news (rising_filter (is_waiting rows now (looked_at now)) (waiters rows tokens t) (rising_waiters rows tokens t)) freed_now)
        (λ j k in_first in_second. inl (omega (arith, kept j in_first, freed_now k in_second, last_most passed (targets rows j))));
  }
