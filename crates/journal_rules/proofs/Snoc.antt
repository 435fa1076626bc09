-- What each count and rule says of a journal with one more entry.
use Rattle.std.proofs.Common.{◌≡◌, ℕ, zero, suc, ◌+◌, ◌<◌, Bool, true, false, not, ◌&&◌, cond, eqb, List, [], ◌∷◌, ◌++◌, length, ltb, Option, Some, None, sym, refl, ap, ◌∙◌, subst, arith}
use Rattle.std.specs.Prelude.{count_by, slice_get, is_some, ◌==◌}
use Rattle.std.specs.Option.{option_and_then, option_or}
use Rattle.std.specs.List.{list_any}
use Rattle.std.proofs.lemmas.Bool.Decides.{nat_tests}
use Rattle.std.proofs.lemmas.List.{append-nil, append_assoc}
use Rattle.std.proofs.lemmas.List.Sums.{sum_by_push}
use Rattle.task_graph.specs.NetRows.{NetRows}
use Rattle.journal_rules.specs.declared.entry.Entry.{Entry}
use Rattle.journal_rules.specs.declared.entry.Entry.TheVariants.{Start, End, Fault, Drop}
use Rattle.journal_rules.specs.declared.entry.Part.{Part}
use Rattle.journal_rules.specs.declared.entry.Part.TheVariants.{From, First, Nothing}
use Rattle.journal_rules.specs.Entries.{EachAfter, EachAfterThese}
use Rattle.journal_rules.specs.Counts.{gives_edge, start_at, started, is_open, closes}
use Rattle.journal_rules.specs.Waiting.{waiting, waiting_after, first_waiting, uses_edge, left_over, last_place, last_place_from}
use Rattle.journal_rules.specs.DataRule.{last_from, last_part}

-- one item more in a count
pub count_by_push : {X : Type 0} (p : X → Bool) (xs : List X) (x : X) → count_by p (xs ++ x ∷ []) ≡ count_by p xs + cond (p x) 1 0
count_by_push p xs x = sum_by_push (λ y. cond (p y) 1 0) xs x

-- a rule of each item after those before it, with one item more
pub EachAfterThese-push : {X : Type 0} (Rule : List X → X → Type 0) (before xs : List X) (x : X) → EachAfterThese Rule before xs → Rule (before ++ xs) x → EachAfterThese Rule before (xs ++ x ∷ [])
EachAfterThese-push Rule before [] x each last = (subst (λ b. Rule b x) (append-nil before) last, tt)
EachAfterThese-push Rule before (y ∷ ys) x each last =
    (each.0, EachAfterThese-push Rule (before ++ y ∷ []) ys x each.1 (subst (λ b. Rule b x) (sym (append_assoc before (y ∷ []) ys)) last))

pub EachAfter-push : {X : Type 0} (Rule : List X → X → Type 0) (xs : List X) (x : X) → EachAfter Rule xs → Rule xs x → EachAfter Rule (xs ++ x ∷ [])
EachAfter-push Rule xs x each last = EachAfterThese-push Rule [] xs x each last

-- an item that stands already stays where it is
pub slice_get_push : {X : Type 0} (xs : List X) (x y : X) (n : ℕ) → slice_get xs n ≡ Some y → slice_get (xs ++ x ∷ []) n ≡ Some y
slice_get_push [] x y n h = absurd (cc)
slice_get_push (z ∷ zs) x y zero h = h
slice_get_push (z ∷ zs) x y (suc n) h = slice_get_push zs x y n h

pub slice_get_push_below : {X : Type 0} (xs : List X) (x : X) (n : ℕ) → n < length xs → slice_get (xs ++ x ∷ []) n ≡ slice_get xs n
slice_get_push_below [] x n h = absurd (omega arith)
slice_get_push_below (z ∷ zs) x zero h = refl
slice_get_push_below (z ∷ zs) x (suc n) h = slice_get_push_below zs x n (omega arith)

pub slice_get_push_last : {X : Type 0} (xs : List X) (x : X) → slice_get (xs ++ x ∷ []) (length xs) ≡ Some x
slice_get_push_last [] x = refl
slice_get_push_last (z ∷ zs) x = slice_get_push_last zs x

-- the last place of an entry that passes, after one entry more
last_place_from_push : (p : Entry → Bool) (n : ℕ) (xs : List Entry) (x : Entry) → last_place_from p n (xs ++ x ∷ []) ≡ cond (p x) (Some (n + length xs)) (last_place_from p n xs)
last_place_from_push p n [] x = ap (λ k. cond (p x) (Some k) None) (let e : n ≡ n + 0 = omega arith in e)
last_place_from_push p n (y ∷ ys) x = ap (λ o. option_or o (cond (p y) (Some n) None)) (last_place_from_push p (suc n) ys x) ∙ by_test (p x)
  where
    by_test : (b : Bool) → option_or (cond b (Some (suc n + length ys)) (last_place_from p (suc n) ys)) (cond (p y) (Some n) None)
        ≡ cond b (Some (n + length (y ∷ ys))) (option_or (last_place_from p (suc n) ys) (cond (p y) (Some n) None))
    by_test true = ap (λ k. Some k) (let e : suc n + length ys ≡ n + length (y ∷ ys) = omega arith in e)
    by_test false = refl

pub last_place_push : (p : Entry → Bool) (xs : List Entry) (x : Entry) → last_place p (xs ++ x ∷ []) ≡ cond (p x) (Some (length xs)) (last_place p xs)
last_place_push p xs x = last_place_from_push p 0 xs x ∙ ap (λ k. cond (p x) (Some k) (last_place p xs)) (let e : 0 + length xs ≡ length xs = omega arith in e)

-- it is below the length
last_place_from_below : (p : Entry → Bool) (n : ℕ) (xs : List Entry) (k : ℕ) → last_place_from p n xs ≡ Some k → k < n + length xs
last_place_from_below p n [] k is = absurd (cc)
last_place_from_below p n (y ∷ ys) k is = by_rest (last_place_from p (suc n) ys) (λ m rest. last_place_from_below p (suc n) ys m rest) (p y) is
  where
    by_rest : (o : Option ℕ) → ((m : ℕ) → o ≡ Some m → m < suc n + length ys) → (b : Bool) → option_or o (cond b (Some n) None) ≡ Some k → k < n + length (y ∷ ys)
    by_rest (Some m) rest b same = let e : m ≡ k = cc in omega (arith, rest m refl)
    by_rest None rest true same = let e : n ≡ k = cc in omega arith
    by_rest None rest false same = absurd (cc)

pub last_place_below : (p : Entry → Bool) (xs : List Entry) (k : ℕ) → last_place p xs ≡ Some k → k < length xs
last_place_below p xs k is = omega (arith, last_place_from_below p 0 xs k is)

-- what waits at an edge after one entry more
pub waiting_push : (net : NetRows) (e : ℕ) (xs : List Entry) (x : Entry) → waiting net e (xs ++ x ∷ []) ≡ waiting_after net e (length xs) (waiting net e xs) x
waiting_push net e xs x =
    ap (λ o. left_over o (last_place (uses_edge net e) (xs ++ x ∷ [])) (first_waiting net e)) (last_place_push (gives_edge e) xs x)
    ∙ ap (λ o. left_over (cond (gives_edge e x) (Some (length xs)) (last_place (gives_edge e) xs)) o (first_waiting net e)) (last_place_push (uses_edge net e) xs x)
    ∙ (by_tests (gives_edge e x) (uses_edge net e x) (not_both x) (last_place (gives_edge e) xs) (last_place (uses_edge net e) xs) (λ k is. last_place_below (gives_edge e) xs k is) (λ k is. last_place_below (uses_edge net e) xs k is))
  where
    not_both : (y : Entry) → gives_edge e y && uses_edge net e y ≡ false
    not_both (Start t cause ins) = refl
    not_both (End start gives inner) = and_none (list_any (λ g. g == e) gives)
      where
        and_none : (b : Bool) → b && false ≡ false
        and_none true = refl
        and_none false = refl
    not_both (Fault start why) = refl
    not_both (Drop t cause why) = refl

    by_tests : (g u : Bool) → g && u ≡ false → (gift used : Option ℕ) → ((k : ℕ) → gift ≡ Some k → k < length xs) → ((k : ℕ) → used ≡ Some k → k < length xs)
        → left_over (cond g (Some (length xs)) gift) (cond u (Some (length xs)) used) (first_waiting net e) ≡ cond g (From (length xs)) (cond u Nothing (left_over gift used (first_waiting net e)))
    by_tests true true both gift used gift_below used_below = absurd (cc)
    by_tests true false both gift None gift_below used_below = refl
    by_tests true false both gift (Some k) gift_below used_below =
        let before : ltb k (length xs) ≡ true = let b = used_below k refl in grind (arith, nat_tests) in rw before refl
    by_tests false true both None used gift_below used_below = refl
    by_tests false true both (Some k) used gift_below used_below =
        let after : ltb (length xs) k ≡ false = let b = gift_below k refl in grind (arith, nat_tests) in rw after refl
    by_tests false false both gift used gift_below used_below = refl

-- the last End that gave an edge, after one entry more
pub last_from_push : (e n : ℕ) (part : Part) (xs : List Entry) (x : Entry) → last_from e n part (xs ++ x ∷ []) ≡ cond (gives_edge e x) (From (n + length xs)) (last_from e n part xs)
last_from_push e n part [] x = ap (λ k. cond (gives_edge e x) (From k) part) (omega arith)
last_from_push e n part (y ∷ ys) x = last_from_push e (suc n) (cond (gives_edge e y) (From n) part) ys x ∙ ap (λ k. cond (gives_edge e x) (From k) (last_from e (suc n) (cond (gives_edge e y) (From n) part) ys)) (omega arith)

pub last_part_push : (e : ℕ) (xs : List Entry) (x : Entry) → last_part e (xs ++ x ∷ []) ≡ cond (gives_edge e x) (From (length xs)) (last_part e xs)
last_part_push e xs x = last_from_push e 0 First xs x ∙ ap (λ k. cond (gives_edge e x) (From k) (last_part e xs)) (omega arith)

-- the Start at a place that stands already
pub start_at_push_below : (xs : List Entry) (x : Entry) (n : ℕ) → n < length xs → start_at (xs ++ x ∷ []) n ≡ start_at xs n
start_at_push_below xs x n h = ap (λ o. option_and_then started o) (slice_get_push_below xs x n h)

pub start_at_push_last : (xs : List Entry) (x : Entry) → start_at (xs ++ x ∷ []) (length xs) ≡ started x
start_at_push_last xs x = ap (λ o. option_and_then started o) (slice_get_push_last xs x)

-- a count of none after one test more
none_more : (s : Bool) (k : ℕ) (b : Bool) → s && eqb (k + cond b 1 0) 0 ≡ s && eqb k 0 && not b
none_more false k b = refl
none_more true k true = grind (arith, nat_tests)
none_more true k false = grind (arith, nat_tests)

-- whether a Start that stands already is open after one entry more
pub is_open_push_below : (xs : List Entry) (x : Entry) (n : ℕ) → n < length xs → is_open (xs ++ x ∷ []) n ≡ is_open xs n && not (closes n x)
is_open_push_below xs x n h =
    rw (start_at_push_below xs x n h, count_by_push (closes n) xs x) (none_more (is_some (start_at xs n)) (count_by (closes n) xs) (closes n x))
