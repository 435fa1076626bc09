-- What a count, and a list of counts, is after one entry more.
use Rattle.std.proofs.Common.{◌≡◌, ◌≢◌, ◌⊎◌, inl, inr, ℕ, ◌+◌, ◌<◌, ◌≤◌, Bool, true, false, not, ◌&&◌, ◌||◌, cond, eqb, List, [], ◌∷◌, ◌++◌, length, sym, refl, ap, ◌∙◌, subst, arith, get_or, set, length-set, get_or-set_same, get_or-set_other}
use mir.Val.{bool_byte}
use Rattle.std.specs.Prelude.{count_by, ◌==◌, All, Some, slice_get, replicate}
use Rattle.std.specs.Option.{option_map_or}
use Rattle.std.specs.List.{list_any}
use Rattle.std.proofs.lemmas.Bool.Decides.{nat_tests}
use Rattle.std.proofs.lemmas.List.Sums.{sum_by-cons}
use Rattle.std.proofs.lemmas.Bool.{cases_eq, cases_lt}
use Rattle.std.proofs.lemmas.List.{get_or_append_left, get_or_push, get_or-replicate, length-replicate}
use Rattle.std.proofs.lemmas.Option.{slice_get-get_or}
use Rattle.task_graph.specs.NetRows.{NetRows}
use Rattle.task_graph.specs.Net.{strong_in, is_weak_row}
use Rattle.task_graph.specs.declared.net.EdgeRow.{EdgeRow}
use Rattle.journal_rules.specs.declared.entry.Entry.{Entry}
use Rattle.journal_rules.specs.Counts.{given, gives_edge, first_tokens}
use Rattle.journal_rules.specs.inside.Tells.{Tells}
use Rattle.journal_rules.proofs.Snoc.{count_by_push}
use Rattle.journal_rules.proofs.NetLemmas.{places_below}

-- the same list tells an equal function
pub tells_same : {X : Type 0} (f g : ℕ → X) (xs : List X) (n : ℕ) → Tells f xs n → ((k : ℕ) → g k ≡ f k) → Tells g xs n
tells_same f g xs n h same = record { len = h.len; each = λ k d below. h.each k d below ∙ sym (same k) }

-- a list with a zero for each row tells 0 at each
pub tells_zeros : {X : Type 0} (rows all : List X) (xs : List ℕ) → xs ≡ replicate (length rows) 0 → rows ≡ all → Tells (λ k. 0) xs (length all)
tells_zeros rows all xs zeros same = record {
  len = ap length zeros ∙ length-replicate (length rows) 0 ∙ ap length same;
  each = λ k d below. ap (λ ys. get_or ys k d) zeros ∙ get_or-replicate (length rows) k 0 d (subst (λ n. k < n) (sym (ap length same)) below);
}

-- a list with one count raised tells a function that is one higher there
pub tells_one_more : (f g : ℕ → ℕ) (xs : List ℕ) (n at : ℕ) → Tells f xs n → at < n → ((k : ℕ) → g k ≡ f k + cond (eqb at k) 1 0) → Tells g (set xs at (get_or xs at 0 + 1)) n
tells_one_more f g xs n at h in_range more =
    record { len = length-set xs at (get_or xs at 0 + 1) ∙ h.len; each = λ k d below. raised k d below (cases_eq at k) }
  where
    raised : (k d : ℕ) → k < n → (at ≡ k) ⊎ (at ≢ k) → get_or (set xs at (get_or xs at 0 + 1)) k d ≡ g k
    raised k d below (inl same) =
        let hit : eqb at at ≡ true = grind (arith, nat_tests) in
        subst (λ j. get_or (set xs at (get_or xs at 0 + 1)) j d ≡ g j) same
        (get_or-set_same xs at (get_or xs at 0 + 1) d (omega (arith, h.len)) ∙ ap (λ m. m + 1) (h.each at 0 in_range) ∙ sym (more at ∙ ap (λ b. f at + cond b 1 0) hit))
    raised k d below (inr other) =
        let miss : eqb at k ≡ false = grind (arith, nat_tests) in
        get_or-set_other xs at k (get_or xs at 0 + 1) d (λ e. other (sym e)) ∙ h.each k d below ∙ sym (more k ∙ ap (λ b. f k + cond b 1 0) miss ∙ omega arith)

-- a fact of each item by its place, with one item more
pub each_push : {X : Type 0} (P : ℕ → X → Type 0) (xs : List X) (x : X) (n : ℕ) → length xs ≡ n → ((k : ℕ) (d : X) → k < n → P k (get_or xs k d)) → P n x → (k : ℕ) (d : X) → k < n + 1 → P k (get_or (xs ++ x ∷ []) k d)
each_push P xs x n len each last k d below = by_case (cases_lt k n)
  where
    by_case : (k < n) ⊎ (n ≤ k) → P k (get_or (xs ++ x ∷ []) k d)
    by_case (inl before) = subst (λ y. P k y) (sym (get_or_append_left xs (x ∷ []) d k (omega arith))) (each k d before)
    by_case (inr after) =
        let here : n ≡ k = omega arith in
        subst (λ y. P k y) (sym (get_or_push xs x d k (omega arith))) (subst (λ j. P j x) here last)

-- the byte of an edge's `start` is the number of tokens with which it begins
pub first_tokens_at : (net : NetRows) (rows : List EdgeRow) (e : ℕ) (d : EdgeRow) → rows ≡ net.edges → e < length rows → bool_byte (get_or rows e d).start ≡ first_tokens net e
first_tokens_at net rows e d same below =
    let row : slice_get rows e ≡ Some (get_or rows e d) = slice_get-get_or rows e d below in
    byte (get_or rows e d).start ∙ sym (ap (λ o. option_map_or (λ (row : EdgeRow). cond row.start 1 0) o 0) (ap (λ (all : List EdgeRow). slice_get all e) (sym same) ∙ row))
  where
    byte : (b : Bool) → bool_byte b ≡ cond b 1 0
    byte true = refl
    byte false = refl

-- a test that no test passes with
pub and_false : (b : Bool) → b && false ≡ false
and_false true = refl
and_false false = refl

pub and_true : (b : Bool) → b && true ≡ b
and_true true = refl
and_true false = refl

-- a tally after one entry more
pub given_push : (net : NetRows) (e : ℕ) (journal : List Entry) (x : Entry) → given net e (journal ++ x ∷ []) ≡ given net e journal + cond (gives_edge e x) 1 0
given_push net e journal x = omega (arith, count_by_push (gives_edge e) journal x)

-- a count after an entry that doesn't count
pub count_by_push_no : {X : Type 0} (p : X → Bool) (xs : List X) (x : X) → p x ≡ false → count_by p (xs ++ x ∷ []) ≡ count_by p xs
count_by_push_no p xs x fails = count_by_push p xs x ∙ ap (λ b. count_by p xs + cond b 1 0) fails ∙ omega arith

-- and after one that does
pub count_by_push_yes : {X : Type 0} (p : X → Bool) (xs : List X) (x : X) → p x ≡ true → count_by p (xs ++ x ∷ []) ≡ count_by p xs + 1
count_by_push_yes p xs x passes = count_by_push p xs x ∙ ap (λ b. count_by p xs + cond b 1 0) passes

-- what passes at most once is counted once where something passes
pub count_once : {X : Type 0} (p : X → Bool) (xs : List X) → count_by p xs ≤ 1 → count_by p xs ≡ cond (list_any p xs) 1 0
count_once p [] once = refl
count_once p (x ∷ xs) once = by_head (p x) (count_by p xs) (list_any p xs) (sum_by-cons (λ y. cond (p y) 1 0) x xs) (λ h. count_once p xs h)
  where
    by_head : (b : Bool) (k : ℕ) (some : Bool) → count_by p (x ∷ xs) ≡ cond b 1 0 + k → (k ≤ 1 → k ≡ cond some 1 0) → count_by p (x ∷ xs) ≡ cond (b || some) 1 0
    by_head true k some is rest = omega arith
    by_head false k true is rest = omega arith
    by_head false k false is rest = omega arith

-- the strong in-edges of a task have places in a list as long as the net's edges
pub strong_in_tallied : {X : Type 0} (net : NetRows) (t : ℕ) (edges : List ℕ) (xs : List X) → edges ≡ strong_in net t → length xs ≡ length net.edges → All (λ e. e < length xs) edges
strong_in_tallied net t edges xs is len = subst (λ es. All (λ e. e < length xs) es) (sym is) (subst (λ n. All (λ e. e < n) (strong_in net t)) (sym len) (places_below (λ row. (row.to == t) && not (is_weak_row net row)) net.edges))
