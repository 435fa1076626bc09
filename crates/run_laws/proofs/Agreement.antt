-- The ends of a journal are those of the one-thread values, as far as both go.
use Rattle.std.proofs.Common.{◌≡◌, ℕ, zero, suc, Bool, true, false, cond, List, [], ◌∷◌, ◌++◌, map, Option, Some, None, sym, refl, ap, ◌∙◌, subst}
use Rattle.std.specs.Prelude.{slice_get, filter, ◌==◌}
use Rattle.std.specs.Option.{option_map}
use Rattle.std.specs.List.{AllZip, list_any}
use Rattle.std.proofs.lemmas.Option.{slice_get-map, same_Some}
use Rattle.task_graph.specs.NetRows.{NetRows}
use Rattle.task_graph.specs.Net.{strong_in}
use Rattle.journal_rules.specs.declared.entry.Entry.{Entry}
use Rattle.join_words.specs.Ins.{value}
use Rattle.run_frame.specs.declared.run.ValueRow.{ValueRow}
use Rattle.run_laws.specs.OneThreadValue.{TaskEnd, OneAnswer, tokens, begun, source_of, put_before, rounds_of, answers, one_thread_value}
use Rattle.run_laws.proofs.Steps.{starts_in, ends_in, tokens_in}
use Rattle.run_laws.proofs.Values.{Kept}

-- two lists are the same as far as both go
abbrev pub Agree : {X : Type 0} → List X → List X → Type 0
Agree [] ys = Unit {0}
Agree (x ∷ xs) [] = Unit {0}
Agree (x ∷ xs) (y ∷ ys) = (x ≡ y) × Agree xs ys

pub agree_from : {X : Type 0} (xs ys : List X) → ((k : ℕ) (x y : X) → slice_get xs k ≡ Some x → slice_get ys k ≡ Some y → x ≡ y) → Agree xs ys
agree_from [] ys each = tt
agree_from (x ∷ xs) [] each = tt
agree_from (x ∷ xs) (y ∷ ys) each = (each 0 x y refl refl, agree_from xs ys (λ k. each (suc k)))

pub agree_at : {X : Type 0} (xs ys : List X) → Agree xs ys → (k : ℕ) (x y : X) → slice_get xs k ≡ Some x → slice_get ys k ≡ Some y → x ≡ y
agree_at [] ys agree k x y at_x at_y = absurd (cc)
agree_at (z ∷ zs) [] agree k x y at_x at_y = absurd (cc)
agree_at (z ∷ zs) (w ∷ ws) agree zero x y at_x at_y = sym (same_Some _ _ at_x) ∙ agree.0 ∙ same_Some _ _ at_y
agree_at (z ∷ zs) (w ∷ ws) agree (suc k) x y at_x at_y = agree_at zs ws agree.1 k x y at_x at_y

agree_none : {X : Type 0} (xs : List X) → Agree xs []
agree_none [] = tt
agree_none (x ∷ xs) = tt

agree_filter : {X : Type 0} (p : X → Bool) (xs ys : List X) → Agree xs ys → Agree (filter p xs) (filter p ys)
agree_filter p [] ys agree = tt
agree_filter p (x ∷ xs) [] agree = agree_none (filter p (x ∷ xs))
agree_filter p (x ∷ xs) (y ∷ ys) agree = subst (λ z. Agree (filter p (x ∷ xs)) (filter p (z ∷ ys))) agree.0 (by_test (p x) (agree_filter p xs ys agree.1))
  where
    by_test : (b : Bool) → Agree (filter p xs) (filter p ys) → Agree (cond b (x ∷ filter p xs) (filter p xs)) (cond b (x ∷ filter p ys) (filter p ys))
    by_test true more = (refl, more)
    by_test false more = more

agree_map : {X Y : Type 0} (f : X → Y) (xs ys : List X) → Agree xs ys → Agree (map f xs) (map f ys)
agree_map f [] ys agree = tt
agree_map f (x ∷ xs) [] agree = tt
agree_map f (x ∷ xs) (y ∷ ys) agree = (ap f agree.0, agree_map f xs ys agree.1)

agree_after : {X : Type 0} (zs xs ys : List X) → Agree xs ys → Agree (zs ++ xs) (zs ++ ys)
agree_after [] xs ys agree = agree
agree_after (z ∷ zs) xs ys agree = (refl, agree_after zs xs ys agree)

agree_tokens : {V : Type 0} (net : NetRows) (e : ℕ) (us ws : List (TaskEnd V)) → Agree us ws → Agree (tokens net e us) (tokens net e ws)
agree_tokens {V} net e us ws agree =
    agree_after (begun net e) _ _ (agree_map (λ (end : TaskEnd V). value end.value) _ _ (agree_filter (λ (end : TaskEnd V). list_any (λ g. g == e) end.gives) us ws agree))

-- a round has an item of each list
pub record Split {X : Type 0} (xs : List X) (rounds_of : List (List X)) (k : ℕ) (round : List X) : Type 0 where
  pub item : X
  pub rest : List X
  pub is : round ≡ item ∷ rest
  pub at_item : slice_get xs k ≡ Some item
  pub at_rest : slice_get rounds_of k ≡ Some rest

pub put_before_at : {X : Type 0} (xs : List X) (rs : List (List X)) (k : ℕ) (r : List X) → slice_get (put_before xs rs) k ≡ Some r → Split xs rs k r
put_before_at [] rs k r at_k = absurd (cc)
put_before_at (x ∷ xs) [] k r at_k = absurd (cc)
put_before_at (x ∷ xs) (s ∷ rs) zero r at_k = record { item = x; rest = s; is = sym (same_Some _ _ at_k); at_item = refl; at_rest = refl }
put_before_at (x ∷ xs) (s ∷ rs) (suc k) r at_k =
    let split : Split xs rs k r = put_before_at xs rs k r at_k in
    record { item = split.item; rest = split.rest; is = split.is; at_item = split.at_item; at_rest = split.at_rest }

pub rounds_at : {X : Type 0} (lists : List (List X)) (k : ℕ) (r : List X) → slice_get (rounds_of lists) k ≡ Some r → AllZip (λ xs x. slice_get xs k ≡ Some x) lists r
rounds_at [] zero r at_k = subst (λ s. AllZip (λ xs x. slice_get xs 0 ≡ Some x) [] s) (same_Some [] r at_k) tt
rounds_at [] (suc k) r at_k = absurd (cc)
rounds_at {X} (xs ∷ []) k r at_k = by_item (slice_get xs k) refl
  where
    by_item : (o : Option X) → slice_get xs k ≡ o → AllZip (λ ys y. slice_get ys k ≡ Some y) (xs ∷ []) r
    by_item None is =
        let none : None ≡ Some r = ap (option_map (λ y. y ∷ [])) (sym is) ∙ sym (slice_get-map (λ y. y ∷ []) xs k) ∙ at_k in
        absurd (cc)
    by_item (Some x) is =
        let one : Some (x ∷ []) ≡ Some r = ap (option_map (λ y. y ∷ [])) (sym is) ∙ sym (slice_get-map (λ y. y ∷ []) xs k) ∙ at_k in
        subst (λ s. AllZip (λ ys y. slice_get ys k ≡ Some y) (xs ∷ []) s) (same_Some _ _ one) (is, tt)
rounds_at (xs ∷ ys ∷ rest) k r at_k =
    let split : Split xs (rounds_of (ys ∷ rest)) k r = put_before_at xs (rounds_of (ys ∷ rest)) k r at_k in
    subst (λ s. AllZip (λ zs z. slice_get zs k ≡ Some z) (xs ∷ ys ∷ rest) s) (sym split.is) (split.at_item, rounds_at (ys ∷ rest) k split.rest split.at_rest)

-- an answer is one on the item at its place
pub record Answered {X Y : Type 0} (one : X → Option Y) (xs : List X) (k : ℕ) (y : Y) : Type 0 where
  pub item : X
  pub at_item : slice_get xs k ≡ Some item
  pub is : one item ≡ Some y

pub answers_at : {X Y : Type 0} (one : X → Option Y) (xs : List X) (k : ℕ) (y : Y) → slice_get (answers one xs) k ≡ Some y → Answered one xs k y
answers_at one [] k y at_k = absurd (cc)
answers_at {X} {Y} one (x ∷ xs) k y at_k = by_answer (one x) refl k (λ j. answers_at one xs j y) at_k
  where
    by_answer : (o : Option Y) → one x ≡ o → (j : ℕ) → ((i : ℕ) → slice_get (answers one xs) i ≡ Some y → Answered one xs i y) → slice_get (elim o as (λ _. List Y) [ None ↦ [] | Some z ↦ z ∷ answers one xs ]) j ≡ Some y → Answered one (x ∷ xs) j y
    by_answer None is j more at_j = absurd (cc)
    by_answer (Some z) is zero more at_j = record { item = x; at_item = refl; is = is ∙ at_j }
    by_answer (Some z) is (suc j) more at_j =
        let rest : Answered one xs j y = more j at_j in
        record { item = rest.item; at_item = rest.at_item; is = rest.is }

-- two lists with the same items, edge by edge
pub same_items : {X E : Type 0} (f g : E → List X) (k : ℕ) (es : List E) (r s : List X) → ((e : E) → Agree (f e) (g e)) → AllZip (λ xs x. slice_get xs k ≡ Some x) (map f es) r → AllZip (λ e x. slice_get (g e) k ≡ Some x) es s → r ≡ s
same_items f g k [] [] [] agree a b = refl
same_items f g k [] [] (y ∷ s) agree a b = absurd b
same_items f g k [] (x ∷ r) s agree a b = absurd a
same_items f g k (e ∷ es) [] s agree a b = absurd a
same_items f g k (e ∷ es) (x ∷ r) [] agree a b = absurd b
same_items f g k (e ∷ es) (x ∷ r) (y ∷ s) agree a b = ap (λ z. z ∷ r) (agree_at (f e) (g e) (agree e) k x y a.0 b.0) ∙ ap (λ zs. y ∷ zs) (same_items f g k es r s agree a.1 b.1)

-- What a task ended with in the journal and its one-thread values are the same, as far as both go.
pub agrees : {V : Type 0} (net : NetRows) (one : OneAnswer V) (values : List (ValueRow V)) (at : ℕ → Option ℕ) (b : List Entry) → Kept net one values at b
    → ((t : ℕ) (k : ℕ) (u : TaskEnd V) → slice_get (ends_in values at t b) k ≡ Some u → Answered (one t) (starts_in values t b) k u)
    → (n t : ℕ) → Agree (one_thread_value net one n t) (ends_in values at t b)
agrees net one values at b kept started zero t = tt
agrees {V} net one values at b kept started (suc n) t = agree_from _ _ (each (agrees net one values at b kept started n))
  where
    each : ((p : ℕ) → Agree (one_thread_value net one n p) (ends_in values at p b)) → (k : ℕ) (u w : TaskEnd V) → slice_get (one_thread_value net one (suc n) t) k ≡ Some u → slice_get (ends_in values at t b) k ≡ Some w → u ≡ w
    each before k u w at_u at_w =
        let mine : Answered (one t) (rounds_of (map (λ e. tokens net e (one_thread_value net one n (source_of net e))) (strong_in net t))) k u = answers_at (one t) _ k u at_u in
        let told : Answered (one t) (starts_in values t b) k w = started t k w at_w in
        let same : mine.item ≡ told.item =
        same_items (λ e. tokens net e (one_thread_value net one n (source_of net e))) (λ e. tokens_in net values at e b) k (strong_in net t) mine.item told.item
        (λ e. agree_tokens net e _ _ (before (source_of net e)))
        (rounds_at _ k mine.item mine.at_item) (kept.finds t k told.item told.at_item) in
        same_Some _ _ (sym mine.is ∙ ap (one t) same ∙ told.is)
