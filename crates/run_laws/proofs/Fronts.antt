-- A larger n only makes the one-thread values longer.
use Rattle.std.proofs.Common.{◌≡◌, ℕ, zero, suc, ◌+◌, Bool, true, false, cond, List, [], ◌∷◌, ◌++◌, map, Option, Some, None, sym, refl, ap, ◌∙◌, subst, arith}
use Rattle.std.specs.Prelude.{slice_get, filter, ◌==◌}
use Rattle.std.specs.Option.{option_map}
use Rattle.std.specs.List.{AllZip, list_any}
use Rattle.std.proofs.lemmas.Option.{slice_get-map, same_Some}
use Rattle.task_graph.specs.NetRows.{NetRows}
use Rattle.task_graph.specs.Net.{strong_in}
use Rattle.join_words.specs.Ins.{InputValue, value}
use Rattle.run_laws.specs.Prefixes.{IsPrefixOf}
use Rattle.run_laws.specs.OneThreadValue.{TaskEnd, OneAnswer, tokens, begun, source_of, put_before, rounds_of, answers, one_thread_value}
use Rattle.run_laws.proofs.Agreement.{Answered, rounds_at, answers_at}
use Rattle.run_laws.proofs.Lists.{zip_weaken}

pub front_get : {X : Type 0} (xs ys : List X) → IsPrefixOf xs ys → (k : ℕ) (x : X) → slice_get xs k ≡ Some x → slice_get ys k ≡ Some x
front_get [] ys front k x at_k = absurd (cc)
front_get (z ∷ zs) [] front k x at_k = absurd front
front_get (z ∷ zs) (w ∷ ws) front zero x at_k = ap Some (sym front.0) ∙ at_k
front_get (z ∷ zs) (w ∷ ws) front (suc k) x at_k = front_get zs ws front.1 k x at_k

pub front_from : {X : Type 0} (xs ys : List X) → ((k : ℕ) (x : X) → slice_get xs k ≡ Some x → slice_get ys k ≡ Some x) → IsPrefixOf xs ys
front_from [] ys each = tt
front_from (x ∷ xs) [] each = let there = each 0 x refl in absurd (cc)
front_from (x ∷ xs) (y ∷ ys) each = (sym (same_Some _ _ (each 0 x refl)), front_from xs ys (λ k. each (suc k)))

pub front_through : {X : Type 0} (xs ys zs : List X) → IsPrefixOf xs ys → IsPrefixOf ys zs → IsPrefixOf xs zs
front_through xs ys zs one two = front_from xs zs (λ k x at_k. front_get ys zs two k x (front_get xs ys one k x at_k))

pub front_same : {X : Type 0} (xs ys : List X) → IsPrefixOf xs ys → IsPrefixOf ys xs → xs ≡ ys
front_same [] [] one two = refl
front_same [] (y ∷ ys) one two = absurd two
front_same (x ∷ xs) [] one two = absurd one
front_same (x ∷ xs) (y ∷ ys) one two = ap (λ z. z ∷ xs) one.0 ∙ ap (λ zs. y ∷ zs) (front_same xs ys one.1 two.1)

front_filter : {X : Type 0} (p : X → Bool) (xs ys : List X) → IsPrefixOf xs ys → IsPrefixOf (filter p xs) (filter p ys)
front_filter p [] ys front = tt
front_filter p (x ∷ xs) [] front = absurd front
front_filter p (x ∷ xs) (y ∷ ys) front = subst (λ z. IsPrefixOf (filter p (x ∷ xs)) (filter p (z ∷ ys))) front.0 (by_test (p x) (front_filter p xs ys front.1))
  where
    by_test : (b : Bool) → IsPrefixOf (filter p xs) (filter p ys) → IsPrefixOf (cond b (x ∷ filter p xs) (filter p xs)) (cond b (x ∷ filter p ys) (filter p ys))
    by_test true more = (refl, more)
    by_test false more = more

front_map : {X Y : Type 0} (f : X → Y) (xs ys : List X) → IsPrefixOf xs ys → IsPrefixOf (map f xs) (map f ys)
front_map f [] ys front = tt
front_map f (x ∷ xs) [] front = absurd front
front_map f (x ∷ xs) (y ∷ ys) front = (ap f front.0, front_map f xs ys front.1)

front_after : {X : Type 0} (zs xs ys : List X) → IsPrefixOf xs ys → IsPrefixOf (zs ++ xs) (zs ++ ys)
front_after [] xs ys front = front
front_after (z ∷ zs) xs ys front = (refl, front_after zs xs ys front)

pub front_tokens : {V : Type 0} (net : NetRows) (e : ℕ) (us ws : List (TaskEnd V)) → IsPrefixOf us ws → IsPrefixOf (tokens net e us) (tokens net e ws)
front_tokens {V} net e us ws front =
    front_after (begun net e) _ _ (front_map (λ (end : TaskEnd V). value end.value) _ _ (front_filter (λ (end : TaskEnd V). list_any (λ g. g == e) end.gives) us ws front))

-- a round is there where each list has its item
put_before_have : {X : Type 0} (xs : List X) (rs : List (List X)) (k : ℕ) (x : X) (r : List X) → slice_get xs k ≡ Some x → slice_get rs k ≡ Some r → slice_get (put_before xs rs) k ≡ Some (x ∷ r)
put_before_have [] rs k x r at_x at_r = absurd (cc)
put_before_have (y ∷ ys) [] k x r at_x at_r = absurd (cc)
put_before_have (y ∷ ys) (s ∷ rs) zero x r at_x at_r = ap (λ z. Some (z ∷ s)) (same_Some _ _ at_x) ∙ ap (λ z. Some (x ∷ z)) (same_Some _ _ at_r)
put_before_have (y ∷ ys) (s ∷ rs) (suc k) x r at_x at_r = put_before_have ys rs k x r at_x at_r

pub rounds_have : {X E : Type 0} (f : E → List X) (es : List E) (k : ℕ) (r : List X) → (es ≡ [] → k ≡ 0) → AllZip (λ e x. slice_get (f e) k ≡ Some x) es r → slice_get (rounds_of (map f es)) k ≡ Some r
rounds_have f [] k [] first all = ap (λ n. slice_get ([] ∷ []) n) (first refl)
rounds_have f [] k (x ∷ r) first all = absurd all
rounds_have f (e ∷ []) k [] first all = absurd all
rounds_have f (e ∷ []) k (x ∷ []) first all = slice_get-map (λ y. y ∷ []) (f e) k ∙ ap (option_map (λ y. y ∷ [])) all.0
rounds_have f (e ∷ []) k (x ∷ y ∷ r) first all = absurd all.1
rounds_have f (e ∷ d ∷ es) k [] first all = absurd all
rounds_have f (e ∷ d ∷ es) k (x ∷ r) first all = put_before_have (f e) (rounds_of (map f (d ∷ es))) k x r all.0 (rounds_have f (d ∷ es) k r (λ none. absurd (cc)) all.1)

zip_unmap : {X E : Type 0} (f : E → List X) (k : ℕ) (es : List E) (r : List X) → AllZip (λ xs x. slice_get xs k ≡ Some x) (map f es) r → AllZip (λ e x. slice_get (f e) k ≡ Some x) es r
zip_unmap f k [] [] all = tt
zip_unmap f k [] (x ∷ r) all = all
zip_unmap f k (e ∷ es) [] all = all
zip_unmap f k (e ∷ es) (x ∷ r) all = (all.0, zip_unmap f k es r all.1)

pub rounds_parts : {X E : Type 0} (f : E → List X) (es : List E) (k : ℕ) (r : List X) → slice_get (rounds_of (map f es)) k ≡ Some r → AllZip (λ e x. slice_get (f e) k ≡ Some x) es r
rounds_parts f es k r at_k = zip_unmap f k es r (rounds_at (map f es) k r at_k)

-- of no lists there is one round
pub only_round : {X E : Type 0} (f : E → List X) (es : List E) (k : ℕ) (r : List X) → slice_get (rounds_of (map f es)) k ≡ Some r → es ≡ [] → k ≡ 0
only_round f [] zero r at_k none = refl
only_round f [] (suc k) r at_k none = absurd (cc)
only_round f (e ∷ es) k r at_k none = absurd (cc)

-- answered items make a front of the answers
pub front_answered : {X Y : Type 0} (one : X → Option Y) (us : List Y) (xs : List X) → ((k : ℕ) (u : Y) → slice_get us k ≡ Some u → Answered one xs k u) → IsPrefixOf us (answers one xs)
front_answered one [] xs each = tt
front_answered one (u ∷ us) [] each = let there = (each 0 u refl).at_item in absurd (cc)
front_answered {X} {Y} one (u ∷ us) (x ∷ xs) each = subst (λ (o : Option Y). IsPrefixOf (u ∷ us) (elim o as (λ _. List Y) [ None ↦ [] | Some y ↦ y ∷ answers one xs ])) (sym first) (refl, front_answered one us xs later)
  where
    first : one x ≡ Some u
    first = ap one (same_Some _ _ (each 0 u refl).at_item) ∙ (each 0 u refl).is

    later : (k : ℕ) (w : Y) → slice_get us k ≡ Some w → Answered one xs k w
    later k w at_k = let a : Answered one (x ∷ xs) (suc k) w = each (suc k) w at_k in record { item = a.item; at_item = a.at_item; is = a.is }

-- what a task's list with n has, that with n + 1 has
pub values_more : {V : Type 0} (net : NetRows) (one : OneAnswer V) (n t : ℕ) → IsPrefixOf (one_thread_value net one n t) (one_thread_value net one (suc n) t)
values_more net one zero t = tt
values_more {V} net one (suc n) t = front_answered (one t) (one_thread_value net one (suc n) t) _ (each (values_more net one n))
  where
    before : ℕ → List (InputValue V)
    before e = tokens net e (one_thread_value net one n (source_of net e))

    now : ℕ → List (InputValue V)
    now e = tokens net e (one_thread_value net one (suc n) (source_of net e))

    each : ((p : ℕ) → IsPrefixOf (one_thread_value net one n p) (one_thread_value net one (suc n) p)) → (k : ℕ) (u : TaskEnd V) → slice_get (one_thread_value net one (suc n) t) k ≡ Some u → Answered (one t) (rounds_of (map now (strong_in net t))) k u
    each more k u at_u =
        let a : Answered (one t) (rounds_of (map before (strong_in net t))) k u = answers_at (one t) (rounds_of (map before (strong_in net t))) k u at_u in
        record {
          item = a.item;
          at_item = rounds_have now (strong_in net t) k a.item (only_round before (strong_in net t) k a.item a.at_item)
              (zip_weaken (λ e x. slice_get (before e) k ≡ Some x) (λ e x. slice_get (now e) k ≡ Some x) (λ e x at_e. front_get (before e) (now e) (front_tokens net e _ _ (more (source_of net e))) k x at_e) (strong_in net t) a.item
              (rounds_parts before (strong_in net t) k a.item a.at_item));
          is = a.is;
        }

pub values_later : {V : Type 0} (net : NetRows) (one : OneAnswer V) (n m t : ℕ) → IsPrefixOf (one_thread_value net one n t) (one_thread_value net one (m + n) t)
values_later net one n zero t = let same : n ≡ zero + n = omega arith in subst (λ k. IsPrefixOf (one_thread_value net one n t) (one_thread_value net one k t)) same (front_from _ _ (λ k x at_k. at_k))
values_later net one n (suc m) t =
    let same : suc (m + n) ≡ suc m + n = omega arith in
    subst (λ k. IsPrefixOf (one_thread_value net one n t) (one_thread_value net one k t)) same
    (front_through _ _ (one_thread_value net one (suc (m + n)) t) (values_later net one n m t) (values_more net one (m + n) t))
