-- Counts of Starts by place and task, and what they say of units given back too often.
use Rattle.std.proofs.Common.{◌≡◌, ◌≢◌, ◌⊎◌, inl, inr, ℕ, zero, suc, ◌+◌, ◌<◌, ◌≤◌, Bool, true, false, not, ◌&&◌, cond, eqb, List, [], ◌∷◌, ◌++◌, length, take, Option, Some, None, sym, refl, ap, ◌∙◌, subst, arith}
use Rattle.std.specs.Prelude.{count_by, ◌==◌, slice_get}
use Rattle.std.specs.Option.{option_map_or, option_and_then}
use Rattle.std.specs.List.{enumerate_from}
use Rattle.std.proofs.lemmas.Bool.{cases_lt}
use Rattle.std.proofs.lemmas.Bool.Decides.{nat_tests}
use Rattle.std.proofs.lemmas.List.Sums.{sum_by-cons}
use Rattle.std.proofs.lemmas.List.{take_all, take-append-le, length_push}
use Rattle.task_graph.specs.NetRows.{NetRows}
use Rattle.journal_rules.specs.declared.entry.Entry.{Entry}
use Rattle.journal_rules.specs.Counts.{started, start_at, closes}
use Rattle.journal_rules.specs.SemaphoreRule.{takes, puts, starts_at, closed_takers, other_putters, IsOverRelease}
use Rattle.journal_rules.specs.inside.Over.{putters, IsOver, WasOver}
use Rattle.journal_rules.proofs.Snoc.{count_by_push}

-- whether the Start that an entry is passes, at a place
abbrev pub passes_at : (ℕ → ℕ → Bool) → ℕ → Entry → Bool
passes_at test n x = option_map_or (test n) (started x) false

abbrev one_if : Bool → ℕ
one_if b = cond b 1 0

abbrev pub starts_from : (ℕ → ℕ → Bool) → ℕ → List Entry → ℕ
starts_from test k xs = count_by (λ p. option_map_or (test p.0) (started p.1) false) (enumerate_from k xs)

starts_from_cons : (test : ℕ → ℕ → Bool) (k : ℕ) (x : Entry) (xs : List Entry) → starts_from test k (x ∷ xs) ≡ cond (passes_at test k x) 1 0 + starts_from test (k + 1) xs
starts_from_cons test k x xs = sum_by-cons (λ p. cond (option_map_or (test p.0) (started p.1) false) 1 0) (k, x) (enumerate_from (k + 1) xs)

-- one entry more
starts_from_push : (test : ℕ → ℕ → Bool) (k : ℕ) (xs : List Entry) (x : Entry) → starts_from test k (xs ++ x ∷ []) ≡ starts_from test k xs + cond (passes_at test (k + length xs) x) 1 0
starts_from_push test k [] x = starts_from_cons test k x [] ∙ ap (λ n. cond (passes_at test n x) 1 0 + 0) (let e : k ≡ k + 0 = omega arith in e) ∙ omega arith
starts_from_push test k (y ∷ ys) x =
    starts_from_cons test k y (ys ++ x ∷ [])
    ∙ ap (λ n. cond (passes_at test k y) 1 0 + n) (starts_from_push test (k + 1) ys x ∙ ap (λ n. starts_from test (k + 1) ys + cond (passes_at test n x) 1 0) (let e : k + 1 + length ys ≡ k + length (y ∷ ys) = omega arith in e))
    ∙ omega (arith, starts_from_cons test k y ys)

pub starts_at_push : (test : ℕ → ℕ → Bool) (h : List Entry) (x : Entry) → starts_at test (h ++ x ∷ []) ≡ starts_at test h + cond (passes_at test (length h) x) 1 0
starts_at_push test h x = starts_from_push test 0 h x ∙ ap (λ n. starts_at test h + cond (passes_at test n x) 1 0) (let e : 0 + length h ≡ length h = omega arith in e)

-- tests that agree at each Start count the same
starts_from_agree : (test other : ℕ → ℕ → Bool) (k : ℕ) (xs : List Entry) → ((i t : ℕ) → start_at xs i ≡ Some t → other (k + i) t ≡ test (k + i) t) → starts_from other k xs ≡ starts_from test k xs
starts_from_agree test other k [] agree = refl
starts_from_agree test other k (x ∷ xs) agree =
    starts_from_cons other k x xs
    ∙ omega (arith, ap one_if (head (started x) refl), starts_from_agree test other (k + 1) xs (λ i t is. subst (λ n. other n t ≡ test n t) (let e : k + suc i ≡ k + 1 + i = omega arith in e) (agree (suc i) t is)), starts_from_cons test k x xs)
  where
    head : (task : Option ℕ) → started x ≡ task → option_map_or (other k) task false ≡ option_map_or (test k) task false
    head None is = refl
    head (Some t) is = subst (λ n. other n t ≡ test n t) (let e : k + 0 ≡ k = omega arith in e) (agree zero t is)

pub starts_at_agree : (test other : ℕ → ℕ → Bool) (h : List Entry) → ((i t : ℕ) → start_at h i ≡ Some t → other i t ≡ test i t) → starts_at other h ≡ starts_at test h
starts_at_agree test other h agree = starts_from_agree test other 0 h (λ i t is. subst (λ n. other n t ≡ test n t) (let e : i ≡ 0 + i = omega arith in e) (agree i t is))

-- tests that agree at each Start but one, which fails the first, differ by that one
starts_from_differ : (test other : ℕ → ℕ → Bool) (k : ℕ) (xs : List Entry) (p q : ℕ) → start_at xs p ≡ Some q → ((i t : ℕ) → i ≢ p → start_at xs i ≡ Some t → other (k + i) t ≡ test (k + i) t)
    → test (k + p) q ≡ false → starts_from other k xs ≡ starts_from test k xs + cond (other (k + p) q) 1 0
starts_from_differ test other k [] p q is agree fails = absurd (cc)
starts_from_differ test other k (x ∷ xs) zero q is agree fails =
    let here : k + 0 ≡ k = omega arith in
    let was : passes_at test k x ≡ false = ap (λ o. option_map_or (test k) o false) is ∙ subst (λ n. test n q ≡ false) here fails in
    let now : passes_at other k x ≡ other (k + 0) q = ap (λ o. option_map_or (other k) o false) is ∙ ap (λ n. other n q) (sym here) in
    let rest = starts_from_agree test other (k + 1) xs (λ i t at. subst (λ n. other n t ≡ test n t) (let e : k + suc i ≡ k + 1 + i = omega arith in e) (agree (suc i) t (λ e. absurd (omega arith)) at)) in
    starts_from_cons other k x xs ∙ omega (arith, ap one_if was, ap one_if now, rest, starts_from_cons test k x xs)
starts_from_differ test other k (x ∷ xs) (suc p) q is agree fails =
    let there : k + suc p ≡ k + 1 + p = omega arith in
    let rest = starts_from_differ test other (k + 1) xs p q is (λ i t ne at. subst (λ n. other n t ≡ test n t) (let e : k + suc i ≡ k + 1 + i = omega arith in e) (agree (suc i) t (λ e. ne (omega arith)) at)) (subst (λ n. test n q ≡ false) there fails) in
    let same : one_if (other (k + 1 + p) q) ≡ one_if (other (k + suc p) q) = ap (λ n. one_if (other n q)) (sym there) in
    starts_from_cons other k x xs ∙ omega (arith, ap one_if (head (started x) refl), rest, same, starts_from_cons test k x xs)
  where
    head : (task : Option ℕ) → started x ≡ task → option_map_or (other k) task false ≡ option_map_or (test k) task false
    head None none = refl
    head (Some t) some = subst (λ n. other n t ≡ test n t) (let e : k + 0 ≡ k = omega arith in e) (agree zero t (λ e. absurd (omega arith)) some)

pub starts_at_differ : (test other : ℕ → ℕ → Bool) (h : List Entry) (p q : ℕ) → start_at h p ≡ Some q → ((i t : ℕ) → i ≢ p → start_at h i ≡ Some t → other i t ≡ test i t)
    → test p q ≡ false → starts_at other h ≡ starts_at test h + cond (other p q) 1 0
starts_at_differ test other h p q is agree fails =
    let here : p ≡ 0 + p = omega arith in
    starts_from_differ test other 0 h p q is (λ i t ne at. subst (λ n. other n t ≡ test n t) (let e : i ≡ 0 + i = omega arith in e) (agree i t ne at)) (subst (λ n. test n q ≡ false) here fails)
    ∙ ap (λ n. starts_at test h + cond (other n q) 1 0) (sym here)

three_no : (a b : Bool) → a && b && false ≡ false
three_no true true = refl
three_no true false = refl
three_no false b = refl

three_yes : (a b : Bool) → a && b && true ≡ a && b
three_yes true true = refl
three_yes true false = refl
three_yes false b = refl

-- the Start at a place is one of those that put a semaphore and don't take it, or it isn't
pub putters_others : (net : NetRows) (s p t : ℕ) (h : List Entry) → start_at h p ≡ Some t → putters net s h ≡ other_putters net s p h + cond (puts net s t && not (takes net s t)) 1 0
putters_others net s p t h is =
    let hit : eqb p p ≡ true = grind (arith, nat_tests) in
    starts_at_differ (λ n q. puts net s q && not (takes net s q) && not (n == p)) (λ n q. puts net s q && not (takes net s q)) h p t is
    (λ i q ne at. let miss : eqb i p ≡ false = grind (arith, nat_tests) in rw miss (sym (three_yes (puts net s q) (not (takes net s q)))))
    (rw hit (three_no (puts net s t) (not (takes net s t))))

-- at a prefix that has the start, its condition is that the prefix is over
pub over_at : (net : NetRows) (s p t : ℕ) (g : List Entry) → start_at g p ≡ Some t → puts net s t ≡ true
    → (IsOver net s g → closed_takers net s g + cond (takes net s t) 1 0 ≤ other_putters net s p g) × (closed_takers net s g + cond (takes net s t) 1 0 ≤ other_putters net s p g → IsOver net s g)
over_at net s p t g is putter = by_takes (takes net s t) (putters_others net s p t g is ∙ ap (λ b. other_putters net s p g + cond (b && not (takes net s t)) 1 0) putter)
  where
    by_takes : (b : Bool) → putters net s g ≡ other_putters net s p g + cond (not b) 1 0
        → (IsOver net s g → closed_takers net s g + cond b 1 0 ≤ other_putters net s p g) × (closed_takers net s g + cond b 1 0 ≤ other_putters net s p g → IsOver net s g)
    by_takes true e = (λ over. omega arith, λ over. omega arith)
    by_takes false e = (λ over. omega arith, λ over. omega arith)

-- an item of a prefix
pub slice_get_take : {X : Type 0} (xs : List X) (n i : ℕ) → i < n → slice_get (take n xs) i ≡ slice_get xs i
slice_get_take xs zero i below = absurd (omega arith)
slice_get_take [] (suc n) i below = refl
slice_get_take (x ∷ xs) (suc n) zero below = refl
slice_get_take (x ∷ xs) (suc n) (suc i) below = slice_get_take xs n i (omega arith)

pub start_at_take : (h : List Entry) (n p t : ℕ) → p < n → start_at h p ≡ Some t → start_at (take n h) p ≡ Some t
start_at_take h n p t below is = ap (λ o. option_and_then started o) (slice_get_take h n p below) ∙ is

-- The two numbers decide it: the start comes before the last prefix that is over, or the whole journal is over.
pub over_release_is : (net : NetRows) (s p t last : ℕ) (h : List Entry) → start_at h p ≡ Some t → p < length h → puts net s t ≡ true → WasOver net s h last
    → ((p < last) ⊎ IsOver net s h → IsOverRelease net h s p t) × (IsOverRelease net h s p t → (p < last) ⊎ IsOver net s h)
over_release_is net s p t last h is below putter was = (λ c. by_case c, λ over. back over)
  where
    at : (n : ℕ) → p < n → n ≤ length h → IsOver net s (take n h) → IsOverRelease net h s p t
    at n after within over = (putter, (n, after, within, (over_at net s p t (take n h) (start_at_take h n p t after is) putter).0 over))

    by_case : (p < last) ⊎ IsOver net s h → IsOverRelease net h s p t
    by_case (inl before) = at last before was.within (was.over (omega arith))
    by_case (inr now) = at (length h) below (omega arith) (subst (λ g. IsOver net s g) (sym (take_all (length h) h (omega arith))) now)

    back : IsOverRelease net h s p t → (p < last) ⊎ IsOver net s h
    back over = by_prefix over.1.0 over.1.1 (was.before over.1.0 over.1.2 ((over_at net s p t (take over.1.0 h) (start_at_take h over.1.0 p t over.1.1 is) putter).1 over.1.3))
      where
        by_prefix : (n : ℕ) → p < n → (n ≤ last) ⊎ IsOver net s h → (p < last) ⊎ IsOver net s h
        by_prefix n after (inl before) = inl (omega arith)
        by_prefix n after (inr now) = inr now

-- one entry more: a prefix that was over is one still
pub was_over_still : (net : NetRows) (s last : ℕ) (h : List Entry) (x : Entry) → WasOver net s h last → (IsOver net s h → IsOver net s (h ++ x ∷ [])) → WasOver net s (h ++ x ∷ []) last
was_over_still net s last h x was stays = record {
  within = omega (arith, was.within, length_push h x);
  before = λ n within over. by_length n over (cases_lt n (length h + 1)) within;
  over = λ some. subst (λ g. IsOver net s g) (sym (take-append-le last h (x ∷ []) was.within)) (was.over some);
}
  where
    by_old : (n : ℕ) → (n ≤ last) ⊎ IsOver net s h → (n ≤ last) ⊎ IsOver net s (h ++ x ∷ [])
    by_old n (inl before) = inl before
    by_old n (inr now) = inr (stays now)

    by_length : (n : ℕ) → IsOver net s (take n (h ++ x ∷ [])) → (n < length h + 1) ⊎ (length h + 1 ≤ n) → n ≤ length (h ++ x ∷ []) → (n ≤ last) ⊎ IsOver net s (h ++ x ∷ [])
    by_length n over (inl before) within =
        by_old n (was.before n (omega arith) (subst (λ g. IsOver net s g) (take-append-le n h (x ∷ []) (omega arith)) over))
    by_length n over (inr after) within = inr (subst (λ g. IsOver net s g) (take_all n (h ++ x ∷ []) (omega (arith, length_push h x))) over)

-- and where the journal was over before the entry
pub was_over_before : (net : NetRows) (s : ℕ) (h : List Entry) (x : Entry) → IsOver net s h → WasOver net s (h ++ x ∷ []) (length h)
was_over_before net s h x now = record {
  within = omega (arith, length_push h x);
  before = λ n within over. by_length n over (cases_lt n (length h + 1)) within;
  over = λ some. subst (λ g. IsOver net s g) (sym (take-append-le (length h) h (x ∷ []) (omega arith) ∙ take_all (length h) h (omega arith))) now;
}
  where
    by_length : (n : ℕ) → IsOver net s (take n (h ++ x ∷ [])) → (n < length h + 1) ⊎ (length h + 1 ≤ n) → n ≤ length (h ++ x ∷ []) → (n ≤ length h) ⊎ IsOver net s (h ++ x ∷ [])
    by_length n over (inl before) within = inl (omega arith)
    by_length n over (inr after) within = inr (subst (λ g. IsOver net s g) (take_all n (h ++ x ∷ []) (omega (arith, length_push h x))) over)

-- no prefix of the empty journal is over
pub was_over_never : (net : NetRows) (s : ℕ) → WasOver net s [] 0
was_over_never net s = record {
  within = omega arith;
  before = λ n within over. inl within;
  over = λ some. absurd (omega arith);
}

-- how many Starts put a semaphore and don't take it, after one entry more
pub putters_push : (net : NetRows) (s : ℕ) (h : List Entry) (x : Entry) → putters net s (h ++ x ∷ []) ≡ putters net s h + cond (option_map_or (λ t. puts net s t && not (takes net s t)) (started x) false) 1 0
putters_push net s h x = starts_at_push (λ n t. puts net s t && not (takes net s t)) h x

-- how many closed Starts take it and don't put it, after an entry that closes none
pub closed_takers_open : (net : NetRows) (s : ℕ) (h : List Entry) (x : Entry) → ((n : ℕ) → closes n x ≡ false) → count_by (closes (length h)) h ≡ 0 → closed_takers net s (h ++ x ∷ []) ≡ closed_takers net s h
closed_takers_open net s h x none unclosed =
    starts_at_push after h x
    ∙ omega (arith, starts_at_agree before after h (λ i t is. ap (λ k. takes net s t && not (puts net s t) && not (k == 0)) (same i)), ap one_if (last (started x)))
  where
    before : ℕ → ℕ → Bool
    before n t = takes net s t && not (puts net s t) && not (count_by (closes n) h == 0)

    after : ℕ → ℕ → Bool
    after n t = takes net s t && not (puts net s t) && not (count_by (closes n) (h ++ x ∷ []) == 0)

    same : (n : ℕ) → count_by (closes n) (h ++ x ∷ []) ≡ count_by (closes n) h
    same n = count_by_push (closes n) h x ∙ ap (λ b. count_by (closes n) h + cond b 1 0) (none n) ∙ omega arith

    last : (task : Option ℕ) → option_map_or (after (length h)) task false ≡ false
    last None = refl
    last (Some t) = ap (λ k. takes net s t && not (puts net s t) && not (k == 0)) (same (length h) ∙ unclosed) ∙ three_no (takes net s t) (not (puts net s t))

-- and after one that closes an open Start
pub closed_takers_closed : (net : NetRows) (s p q : ℕ) (h : List Entry) (x : Entry) → started x ≡ None → ((n : ℕ) → closes n x ≡ (p == n)) → start_at h p ≡ Some q → count_by (closes p) h ≡ 0
    → closed_takers net s (h ++ x ∷ []) ≡ closed_takers net s h + cond (takes net s q && not (puts net s q)) 1 0
closed_takers_closed net s p q h x no_start closes_it is unclosed =
    starts_at_push after h x
    ∙ omega (arith, starts_at_differ before after h p q is other here_before, ap one_if here_after, ap (λ o. one_if (option_map_or (after (length h)) o false)) no_start)
  where
    before : ℕ → ℕ → Bool
    before n t = takes net s t && not (puts net s t) && not (count_by (closes n) h == 0)

    after : ℕ → ℕ → Bool
    after n t = takes net s t && not (puts net s t) && not (count_by (closes n) (h ++ x ∷ []) == 0)

    other : (i t : ℕ) → i ≢ p → start_at h i ≡ Some t → after i t ≡ before i t
    other i t ne at =
        let miss : eqb p i ≡ false = grind (arith, nat_tests) in
        ap (λ k. takes net s t && not (puts net s t) && not (k == 0)) (count_by_push (closes i) h x ∙ ap (λ b. count_by (closes i) h + cond b 1 0) (closes_it i ∙ miss) ∙ omega arith)

    here_before : before p q ≡ false
    here_before = ap (λ k. takes net s q && not (puts net s q) && not (k == 0)) unclosed ∙ three_no (takes net s q) (not (puts net s q))

    here_after : after p q ≡ takes net s q && not (puts net s q)
    here_after =
        let hit : eqb p p ≡ true = grind (arith, nat_tests) in
        ap (λ k. takes net s q && not (puts net s q) && not (k == 0)) (count_by_push (closes p) h x ∙ ap (λ b. count_by (closes p) h + cond b 1 0) (closes_it p ∙ hit) ∙ ap (λ k. k + 1) unclosed)
        ∙ three_yes (takes net s q) (not (puts net s q))
