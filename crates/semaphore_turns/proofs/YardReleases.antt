-- Yards seen as their releases, and what is taken out of them and put back.
use Rattle.std.proofs.Common.{◌≡◌, ◌≢◌, ℕ, zero, suc, ◌+◌, ◌<◌, ◌≤◌, Bool, true, false, cond, Option, List, [], ◌∷◌, ◌++◌, length, take, drop, map, Some, None, append_assoc, append-nil, refl, sym, ap, ◌∙◌, subst, arith, get_or, set}
use Rattle.std.specs.Prelude.{◌==◌, slice_get, flat_map, reverse, All, Contains, IsPermutation}
use Rattle.std.specs.List.{AllByRecursion, list_any}
use Rattle.std.proofs.lemmas.List.{drop-map, map-set, map-append, length-set, get_or-set_same, set-set, set-get_or, reverse-append, take_more, take_all}
use Rattle.std.proofs.lemmas.List.Elements.{All-push}
use Rattle.std.proofs.lemmas.List.Sorted.{IsPermutation-refl, IsPermutation-sym, IsPermutation-cons, IsPermutation-trans, IsPermutation-append_right, IsPermutation-middle, IsPermutation-reverse}
use Rattle.std.proofs.lemmas.Option.{slice_get-get_or}
use Rattle.task_graph.specs.NetRows.{NetRows}
use Rattle.atomic_table.specs.Seated.{TableId}
use Rattle.join_tables.specs.States.{TableState, TurnState, FreshState, fresh_state}
use Rattle.join_tables.specs.declared.rests.Parked.{Parked}
use Rattle.join_tables.specs.RestStates.{RestState, parked_as}
use Rattle.semaphore_park.specs.Parking.{YardView, yard_view, parked_on, with_parked}
use Rattle.semaphore_turns.specs.Semaphores.{taken_by}
use Rattle.semaphore_turns.specs.WaitingTurns.{release_of}
use Rattle.semaphore_turns.specs.YardTurns.{Turns, Releases, releases_in, woken_on, left_after, woken_from, passed_over, WakesFirst, ParksLast}
use Rattle.join_tables.specs.declared.fates.Dropping.{Dropping}
use Rattle.join_tables.specs.declared.fates.Fate.{Fate}
use Rattle.join_tables.specs.declared.fates.Fate.TheVariants.{Ended, Faulted, Dropped, AllDropped}
use Rattle.journal_rules.specs.declared.entry.DropWhy.{DropWhy}
use Rattle.join_tables.specs.Rests.{DropsLast, IsOfDrops}
use Rattle.semaphore_turns.specs.Settlements.{dropped_release, DropsEach, GoesFirst}
use Rattle.semaphore_turns.specs.inside.RestTurns.{with_first, put_back, rest_release, DropsTurns}

pub length_released : (lists : List (List TurnState)) → length (map (map release_of) lists) ≡ length lists
length_released [] = refl
length_released (l ∷ lists) = ap suc (length_released lists)

-- the releases on a semaphore
pub releases_on : (yard : Turns) (sem : ℕ) → parked_on (releases_in yard) sem ≡ map release_of (parked_on yard sem)
releases_on yard sem = at yard.lists sem
  where
    at : (lists : List (List TurnState)) (i : ℕ) → get_or (map (map release_of) lists) i [] ≡ map release_of (get_or lists i [])
    at [] i = refl
    at (list ∷ lists) zero = refl
    at (list ∷ lists) (suc i) = at lists i

pub releases_with : (yard : Turns) (sem : ℕ) (turns : List TurnState) → releases_in (with_parked yard sem turns) ≡ with_parked (releases_in yard) sem (map release_of turns)
releases_with yard sem turns = ap (yard_view yard.home) (map-set (map release_of) yard.lists sem turns)

releases_woken : (yard : Turns) (sem : ℕ) → releases_in (woken_on yard sem) ≡ woken_on (releases_in yard) sem
releases_woken yard sem =
    releases_with yard sem (drop 1 (parked_on yard sem))
    ∙ ap (with_parked (releases_in yard) sem) (sym (drop-map release_of 1 (parked_on yard sem)) ∙ ap (drop 1) (sym (releases_on yard sem)))

releases_first : (yard : Turns) (sem : ℕ) (turn : TurnState) → releases_in (with_parked yard sem (turn ∷ parked_on yard sem)) ≡ with_first (releases_in yard) sem (release_of turn)
releases_first yard sem turn =
    releases_with yard sem (turn ∷ parked_on yard sem) ∙ ap (λ l. with_parked (releases_in yard) sem (release_of turn ∷ l)) (sym (releases_on yard sem))

-- what was woken first goes back to its place
opened : {X : Type 0} (xs : List X) (x : X) → slice_get xs 0 ≡ Some x → x ∷ drop 1 xs ≡ xs
opened [] x is = absurd (cc)
opened {X} (y ∷ ys) x is = let same : x ≡ y = cc in ap (λ (z : X). z ∷ ys) same

first_back : (yard : Releases) (sem : ℕ) (release : FreshState) → sem < length yard.lists → slice_get (parked_on yard sem) 0 ≡ Some release → with_first (woken_on yard sem) sem release ≡ yard
first_back yard sem release below first =
    let list = parked_on yard sem in
    ap (yard_view yard.home) (
    ap (λ l. set (set yard.lists sem (drop 1 list)) sem (release ∷ l)) (get_or-set_same yard.lists sem (drop 1 list) [] below)
    ∙ set-set yard.lists sem (drop 1 list) (release ∷ drop 1 list)
    ∙ ap (set yard.lists sem) (opened list release first)
    ∙ set-get_or yard.lists sem []
    )

first_released : (turns : List TurnState) (turn : TurnState) → slice_get turns 0 ≡ Some turn → slice_get (map release_of turns) 0 ≡ Some (release_of turn)
first_released [] turn is = absurd (cc)
first_released (t ∷ turns) turn is = let same : t ≡ turn = cc in ap (λ (s : TurnState). Some (release_of s)) same

-- turns that are put back, one more or none
put_more : (n : TableId) (turns : List Parked) (sems : List ℕ) (p : Parked) (s : ℕ) (yard : Releases) → length sems ≡ length turns → put_back n (turns ++ p ∷ []) (sems ++ s ∷ []) yard ≡ put_back n turns sems (with_first yard s (fresh_state n p.task p.cause))
put_more n [] [] p s yard same = refl
put_more n [] (z ∷ sems) p s yard same = absurd (omega (arith, same))
put_more n (q ∷ turns) [] p s yard same = absurd (omega (arith, same))
put_more n (q ∷ turns) (z ∷ sems) p s yard same = ap (λ y. with_first y z (fresh_state n q.task q.cause)) (put_more n turns sems p s yard (omega (arith, same)))

pub none_back : (n : TableId) (turns : List Parked) (yard : Releases) → put_back n turns [] yard ≡ yard
none_back n [] yard = refl
none_back n (q ∷ turns) yard = refl

-- a turn was woken into a rest
pub taken_back : (n : TableId) (turns turns' : List Parked) (sems sems' : List ℕ) (s : ℕ) (turn : TurnState) (yard yard' : Turns) → length sems ≡ length turns → turns' ≡ turns ++ parked_as turn.task turn.cause ∷ [] → sems' ≡ sems ++ s ∷ [] → s < length yard.lists → turn.table ≡ n
    → slice_get (parked_on yard s) 0 ≡ Some turn → yard' ≡ woken_on yard s → put_back n turns' sems' (releases_in yard') ≡ put_back n turns sems (releases_in yard)
taken_back n turns turns' sems sems' s turn yard yard' same turns_are sems_are below table first yard_is =
    (λ k. put_back n (turns_are k) (sems_are k) (releases_in (yard_is k)))
    ∙ put_more n turns sems (parked_as turn.task turn.cause) s (releases_in (woken_on yard s)) same
    ∙ ap (put_back n turns sems) (
    (λ k. with_first (releases_woken yard s k) s (fresh_state (sym table k) turn.task turn.cause))
    ∙ first_back (releases_in yard) s (release_of turn) (omega (arith, below, length_lists)) (ap (λ l. slice_get l 0) (releases_on yard s) ∙ first_released (parked_on yard s) turn first)
    )
  where
    length_lists : length (releases_in yard).lists ≡ length yard.lists
    length_lists = length_released yard.lists

-- a turn of a rest was parked again
pub parked_again : (n : TableId) (turns turns' : List Parked) (sems sems' : List ℕ) (s : ℕ) (turn : TurnState) (yard yard' : Turns) → length sems' ≡ length turns' → turns ≡ turns' ++ parked_as turn.task turn.cause ∷ [] → sems ≡ sems' ++ s ∷ [] → turn.table ≡ n
    → yard' ≡ with_parked yard s (turn ∷ parked_on yard s) → put_back n turns' sems' (releases_in yard') ≡ put_back n turns sems (releases_in yard)
parked_again n turns turns' sems sems' s turn yard yard' same turns_are sems_are table yard_is =
    ap (put_back n turns' sems') (ap releases_in yard_is ∙ releases_first yard s turn ∙ (λ k. with_first (releases_in yard) s (fresh_state (table k) turn.task turn.cause)))
    ∙ sym (put_more n turns' sems' (parked_as turn.task turn.cause) s (releases_in yard) same)
    ∙ sym (λ k. put_back n (turns_are k) (sems_are k) (releases_in yard))

-- one semaphore more on which a turn was woken
left_more : {T : Type 0} (yard : YardView T TableState) (sems : List ℕ) (s : ℕ) → left_after yard (sems ++ s ∷ []) ≡ woken_on (left_after yard sems) s
left_more yard [] s = refl
left_more yard (z ∷ sems) s = left_more (woken_on yard z) sems s

woken_more : {T : Type 0} (yard : YardView T TableState) (sems : List ℕ) (s : ℕ) → woken_from yard (sems ++ s ∷ []) ≡ woken_from yard sems ++ take 1 (parked_on (left_after yard sems) s)
woken_more yard [] s = append-nil (take 1 (parked_on yard s))
woken_more yard (z ∷ sems) s = ap (λ l. take 1 (parked_on yard z) ++ l) (woken_more (woken_on yard z) sems s) ∙ sym (append_assoc (take 1 (parked_on yard z)) (woken_from (woken_on yard z) sems) (take 1 (parked_on (left_after (woken_on yard z) sems) s)))

pub wakes_more : (sems : List ℕ) (i : ℕ) (old yard new : Turns) (before after after' : List FreshState) (woken : List TurnState) → i < length sems → WakesFirst (take i sems) old yard before after → new ≡ woken_on yard (get_or sems i 0) → woken ≡ take 1 (parked_on yard (get_or sems i 0))
    → after' ≡ after ++ map release_of woken → WakesFirst (take (i + 1) sems) old new before after'
wakes_more sems i old yard new before after after' woken below wakes new_is woken_is after_is =
    let s = get_or sems i 0 in
    let more = take_more sems i 0 below in
    record {
      yard = new_is ∙ ap (λ (y : Turns). woken_on y s) wakes.yard ∙ sym (left_more old (take i sems) s) ∙ ap (left_after old) (sym more);
      woken =
          after_is
          ∙ (λ k. wakes.woken k ++ map release_of (woken_is k))
          ∙ append_assoc before (map release_of (woken_from old (take i sems))) (map release_of (take 1 (parked_on yard s)))
          ∙ ap (λ l. before ++ l) (
          sym (map-append release_of (woken_from old (take i sems)) (take 1 (parked_on yard s)))
          ∙ ap (map release_of) (ap (λ (y : Turns). woken_from old (take i sems) ++ take 1 (parked_on y s)) wakes.yard ∙ sym (woken_more old (take i sems) s) ∙ ap (woken_from old) (sym more))
          );
    }

-- after these, those
left_append : {T : Type 0} (yard : YardView T TableState) (xs ys : List ℕ) → left_after yard (xs ++ ys) ≡ left_after (left_after yard xs) ys
left_append yard [] ys = refl
left_append yard (x ∷ xs) ys = left_append (woken_on yard x) xs ys

woken_append : {T : Type 0} (yard : YardView T TableState) (xs ys : List ℕ) → woken_from yard (xs ++ ys) ≡ woken_from yard xs ++ woken_from (left_after yard xs) ys
woken_append yard [] ys = refl
woken_append yard (x ∷ xs) ys = ap (λ l. take 1 (parked_on yard x) ++ l) (woken_append (woken_on yard x) xs ys) ∙ sym (append_assoc (take 1 (parked_on yard x)) (woken_from (woken_on yard x) xs) (woken_from (left_after (woken_on yard x) xs) ys))

pub wakes_both : (xs ys : List ℕ) (old mid new : Turns) (before between after : List FreshState) → WakesFirst xs old mid before between → WakesFirst ys mid new between after → WakesFirst (xs ++ ys) old new before after
wakes_both xs ys old mid new before between after one two = record {
  yard = two.yard ∙ ap (λ (y : Turns). left_after y ys) one.yard ∙ sym (left_append old xs ys);
  woken =
      two.woken
      ∙ (λ k. one.woken k ++ map release_of (woken_from (one.yard k) ys))
      ∙ append_assoc before (map release_of (woken_from old xs)) (map release_of (woken_from (left_after old xs) ys))
      ∙ ap (λ l. before ++ l) (sym (map-append release_of (woken_from old xs) (woken_from (left_after old xs) ys)) ∙ ap (map release_of) (sym (woken_append old xs ys)));
}

-- what is woken first is what is woken at most
pub first_of : {X : Type 0} (xs : List X) (x : X) → slice_get xs 0 ≡ Some x → take 1 xs ≡ x ∷ []
first_of [] x is = absurd (cc)
first_of {X} (y ∷ ys) x is = let same : y ≡ x = cc in ap (λ (z : X). z ∷ []) same

pub none_first : {X : Type 0} (xs : List X) → slice_get xs 0 ≡ None → take 1 xs ≡ []
none_first [] is = refl
none_first (x ∷ xs) is = absurd (cc)

abbrev pub flat : List (List FreshState) → List FreshState
flat lists = flat_map (λ list. list) lists

flat_first : (lists : List (List FreshState)) (s : ℕ) (release : FreshState) → s < length lists → IsPermutation (release ∷ flat lists) (flat (set lists s (release ∷ get_or lists s [])))
flat_first [] s release below = absurd (omega (arith, below))
flat_first (l ∷ lists) zero release below = IsPermutation-refl (release ∷ l ++ flat lists)
flat_first (l ∷ lists) (suc s) release below =
    IsPermutation-trans (release ∷ (l ++ flat lists)) (l ++ (release ∷ flat lists)) (l ++ flat (set lists s (release ∷ get_or lists s [])))
    (IsPermutation-sym (l ++ release ∷ flat lists) (release ∷ (l ++ flat lists)) (IsPermutation-middle l release (flat lists)))
    (IsPermutation-append_right l (release ∷ flat lists) (flat (set lists s (release ∷ get_or lists s []))) (flat_first lists s release (omega (arith, below))))

put_length : (n : TableId) (turns : List Parked) (sems : List ℕ) (yard : Releases) → length (put_back n turns sems yard).lists ≡ length yard.lists
put_length n [] [] yard = refl
put_length n [] (s ∷ sems) yard = refl
put_length n (p ∷ turns) [] yard = refl
put_length n (p ∷ turns) (s ∷ sems) yard = let back = put_back n turns sems yard in length-set back.lists s (rest_release n p ∷ parked_on back s) ∙ put_length n turns sems yard

flat_empty : (lists : List (List FreshState)) → All (λ list. list ≡ []) lists → flat lists ≡ []
flat_empty [] all = refl
flat_empty (l ∷ lists) all = (λ k. (all 0 [] (omega arith)) k ++ flat lists) ∙ flat_empty lists (λ i d below. all (suc i) d (omega (arith, below)))

-- all that is put back into a yard without any is what was put back
pub all_back : (n : TableId) (turns : List Parked) (sems : List ℕ) (yard : Releases) → length sems ≡ length turns → AllByRecursion (λ s. s < length yard.lists) sems → All (λ list. list ≡ []) yard.lists → IsPermutation (flat (put_back n turns sems yard).lists) (map (rest_release n) turns)
all_back n [] [] yard same below none = subst (λ l. IsPermutation l []) (sym (flat_empty yard.lists none)) (IsPermutation-refl [])
all_back n [] (s ∷ sems) yard same below none = absurd (omega (arith, same))
all_back n (p ∷ turns) [] yard same below none = absurd (omega (arith, same))
all_back n (p ∷ turns) (s ∷ sems) yard same below none =
    let back = put_back n turns sems yard in
    let release = rest_release n p in
    IsPermutation-trans (flat (set back.lists s (release ∷ parked_on back s))) (release ∷ flat back.lists) (release ∷ map (rest_release n) turns)
    (IsPermutation-sym (release ∷ flat back.lists) (flat (set back.lists s (release ∷ parked_on back s))) (flat_first back.lists s release (omega (arith, below.0, put_length n turns sems yard))))
    (IsPermutation-cons release (flat back.lists) (map (rest_release n) turns) (all_back n turns sems yard (omega (arith, same)) below.1 none))

-- a semaphore on which something was put back has something
kept_first : {X : Type 0} (lists : List (List X)) (s sem : ℕ) (x : X) → get_or lists sem [] ≢ [] → get_or (set lists s (x ∷ get_or lists s [])) sem [] ≢ []
kept_first [] s sem x some none = some none
kept_first (l ∷ lists) zero zero x some none = absurd (cc)
kept_first (l ∷ lists) zero (suc m) x some none = some none
kept_first (l ∷ lists) (suc s) zero x some none = some none
kept_first (l ∷ lists) (suc s) (suc m) x some none = kept_first lists s m x some none

first_there : {X : Type 0} (lists : List (List X)) (s sem : ℕ) (x : X) → s < length lists → s ≡ sem → get_or (set lists s (x ∷ get_or lists s [])) sem [] ≢ []
first_there {X} lists s sem x below same none =
    let some : x ∷ get_or lists s [] ≡ [] = sym (get_or-set_same lists s (x ∷ get_or lists s []) [] below) ∙ (λ k. get_or (set lists s (x ∷ get_or lists s [])) (same k) []) ∙ none in
    absurd (cc)

some_at : (n : TableId) (turns : List Parked) (sems : List ℕ) (yard : Releases) (k sem : ℕ) → length sems ≡ length turns → AllByRecursion (λ s. s < length yard.lists) sems → k < length sems → get_or sems k sem ≡ sem → parked_on (put_back n turns sems yard) sem ≢ []
some_at n turns [] yard k sem same below within is none = omega (arith, within)
some_at n [] (s ∷ sems) yard k sem same below within is none = omega (arith, same)
some_at n (p ∷ turns) (s ∷ sems) yard zero sem same below within is none =
    let back = put_back n turns sems yard in
    first_there back.lists s sem (rest_release n p) (omega (arith, below.0, put_length n turns sems yard)) is none
some_at n (p ∷ turns) (s ∷ sems) yard (suc k) sem same below within is none =
    let back = put_back n turns sems yard in
    kept_first back.lists s sem (rest_release n p) (some_at n turns sems yard k sem (omega (arith, same)) below.1 (omega (arith, within)) is) none

pub some_back : (n : TableId) (turns : List Parked) (sems : List ℕ) (yard : Releases) (sem : ℕ) → length sems ≡ length turns → AllByRecursion (λ s. s < length yard.lists) sems → Contains sems sem → parked_on (put_back n turns sems yard) sem ≢ []
some_back n turns sems yard sem same below has = some_at n turns sems yard has.0 sem same below has.1 has.2

-- one turn more of a rest is dropped
pub drops_more : (n : TableId) (turns left : List Parked) (last : Parked) (dropped dropped' : List Dropping) (drop_of : Dropping) (all : List FreshState) → turns ≡ left ++ last ∷ [] → dropped' ≡ dropped ++ drop_of ∷ [] → dropped_release n drop_of ≡ rest_release n last
    → map (dropped_release n) dropped ++ reverse (map (rest_release n) turns) ≡ all → map (dropped_release n) dropped' ++ reverse (map (rest_release n) left) ≡ all
drops_more n turns left last dropped dropped' drop_of all turns_are dropped_are same is =
    ap (λ l. map (dropped_release n) l ++ reverse (map (rest_release n) left)) dropped_are
    ∙ ap (λ l. l ++ reverse (map (rest_release n) left)) (map-append (dropped_release n) dropped (drop_of ∷ []))
    ∙ append_assoc (map (dropped_release n) dropped) (dropped_release n drop_of ∷ []) (reverse (map (rest_release n) left))
    ∙ ap (λ l. map (dropped_release n) dropped ++ l) (
    (λ k. same k ∷ reverse (map (rest_release n) left))
    ∙ sym (reverse-append (map (rest_release n) left) (rest_release n last ∷ []))
    ∙ ap reverse (sym (map-append (rest_release n) left (last ∷ [])))
    ∙ ap (λ l. reverse (map (rest_release n) l)) (sym turns_are)
    )
    ∙ is

pub last_drops : {V : Type 0} (n : TableId) (rest : RestState) (why : DropWhy) (fate : Fate V) (all : List FreshState) → map (dropped_release n) rest.dropped ++ reverse (map (rest_release n) rest.turns) ≡ all → IsOfDrops fate (λ drops. DropsLast rest why [] drops) → IsOfDrops fate (λ drops. map (dropped_release n) drops ≡ all)
last_drops n rest why (Ended e) all is last = absurd last
last_drops n rest why (Faulted f) all is last = absurd last
last_drops n rest why (Dropped d) all is last = absurd last
last_drops n rest why (AllDropped drops) all is last = sym (append-nil (map (dropped_release n) drops.items)) ∙ drops_more n rest.turns [] last.last rest.dropped drops.items _ all last.turns_are last.dropped_are refl is

-- all that was parked is dropped
pub drops_each : (n : TableId) (turns : List Parked) (sems : List ℕ) (yard : Releases) (drops : List Dropping) → length sems ≡ length turns → AllByRecursion (λ s. s < length yard.lists) sems → All (λ list. list ≡ []) yard.lists → map (dropped_release n) drops ≡ reverse (map (rest_release n) turns)
    → DropsEach n (put_back n turns sems yard) drops
drops_each n turns sems yard drops same below none are =
    let whole = map (rest_release n) turns in
    subst (λ l. IsPermutation (flat (put_back n turns sems yard).lists) l) (sym are)
    (IsPermutation-trans (flat (put_back n turns sems yard).lists) whole (reverse whole) (all_back n turns sems yard same below none) (IsPermutation-reverse whole))

-- one semaphore more on which nothing is parked
pub empty_list : {X : Type 0} (xs : List X) → length xs ≡ 0 → xs ≡ []
empty_list [] none = refl
empty_list (x ∷ xs) none = absurd (omega (arith, none))

pub none_more : (yard : Turns) (i : ℕ) → i < length yard.lists → All (λ list. list ≡ []) (take i (releases_in yard).lists) → length (parked_on yard i) ≡ 0 → All (λ list. list ≡ []) (take (i + 1) (releases_in yard).lists)
none_more yard i below none nothing =
    let lists = (releases_in yard).lists in
    let here : parked_on (releases_in yard) i ≡ [] = releases_on yard i ∙ ap (map release_of) (empty_list (parked_on yard i) nothing) in
    subst (All (λ (list : List FreshState). list ≡ [])) (sym (take_more lists i [] (omega (arith, below, length_released yard.lists)))) (All-push (λ (list : List FreshState). list ≡ []) (take i lists) (parked_on (releases_in yard) i) none here)

pub none_at_all : (yard : Turns) (n : ℕ) → length yard.lists ≤ n → All (λ list. list ≡ []) (take n (releases_in yard).lists) → All (λ list. list ≡ []) (releases_in yard).lists
none_at_all yard n all none = subst (All (λ (list : List FreshState). list ≡ [])) (take_all n (releases_in yard).lists (omega (arith, all, length_released yard.lists))) none

pub drops_all : {V : Type 0} (n : TableId) (turns turns' : List Parked) (sems : List ℕ) (yard : Releases) (fate : Fate V) → length sems ≡ length turns → AllByRecursion (λ s. s < length yard.lists) sems → All (λ list. list ≡ []) yard.lists → turns' ≡ turns → DropsTurns n turns' fate
    → IsOfDrops fate (DropsEach n (put_back n turns sems yard))
drops_all n turns turns' sems yard (Ended e) same below none turns_are drops = absurd drops
drops_all n turns turns' sems yard (Faulted f) same below none turns_are drops = absurd drops
drops_all n turns turns' sems yard (Dropped d) same below none turns_are drops = absurd drops
drops_all n turns turns' sems yard (AllDropped all) same below none turns_are drops = drops_each n turns sems yard all.items same below none (drops ∙ ap (λ ts. reverse (map (rest_release n) ts)) turns_are)

-- the first that is parked goes on
pub goes_first : (old : Releases) (yard left : Turns) (sem : ℕ) (turn : TurnState) (release : FreshState) → releases_in yard ≡ old → slice_get (parked_on yard sem) 0 ≡ Some turn → left ≡ woken_on yard sem → release ≡ release_of turn → GoesFirst old (releases_in left) release
goes_first old yard left sem turn release yard_is first left_is release_is = record {
  sem = sem;
  first = ap (λ (y : Releases). slice_get (parked_on y sem) 0) (sym yard_is) ∙ ap (λ l. slice_get l 0) (releases_on yard sem) ∙ first_released (parked_on yard sem) turn first ∙ ap Some (sym release_is);
  others = ap releases_in left_is ∙ releases_woken yard sem ∙ ap (λ (y : Releases). woken_on y sem) yard_is;
}

pub nothing_back : (n : TableId) (turns : List Parked) (sems : List ℕ) (yard : Releases) → length turns ≡ 0 → put_back n turns sems yard ≡ yard
nothing_back n [] [] yard none = refl
nothing_back n [] (s ∷ sems) yard none = refl
nothing_back n (p ∷ turns) sems yard none = absurd (omega (arith, none))

-- at most one wake is passed on
pub passed_few : (sems : List ℕ) (woken_for : Option ℕ) → length (passed_over sems woken_for) ≤ 1
passed_few sems None = omega arith
passed_few sems (Some sem) = by_test (list_any (λ s. s == sem) sems)
  where
    by_test : (b : Bool) → length (cond b (sem ∷ []) []) ≤ 1
    by_test true = omega arith
    by_test false = omega arith

pub passed_some : (sems : List ℕ) (woken_for : Option ℕ) (sem : ℕ) (b : Bool) → woken_for ≡ Some sem → list_any (λ s. s == sem) sems ≡ b → passed_over sems woken_for ≡ cond b (sem ∷ []) []
passed_some sems woken_for sem b is test = ap (passed_over sems) is ∙ ap (λ t. cond t (sem ∷ []) []) test

-- a turn was parked, and others were woken
pub parks_last : (net : NetRows) (task : ℕ) (woken_for : Option ℕ) (turn parked item : TurnState) (xs : List ℕ) (place : ℕ) (old yard mid new : Turns) (before between after : List FreshState) → xs ≡ taken_by net task → place < length xs → item ≡ turn → parked ≡ turn
    → yard ≡ with_parked old (get_or xs place 0) (parked_on old (get_or xs place 0) ++ item ∷ []) → WakesFirst (take place xs) yard mid before between → WakesFirst (passed_over (drop (place + 1) xs) woken_for) mid new between after → ParksLast net task woken_for parked old new before after
parks_last net task woken_for turn parked item xs place old yard mid new before between after list below item_is parked_is yard_is one two =
    let sem = get_or xs place 0 in
    let whole = yard_is ∙ ap (λ (t : TurnState). with_parked old sem (parked_on old sem ++ t ∷ [])) (item_is ∙ sym parked_is) in
    record {
      place = place;
      sem = sem;
      sem_is = ap (λ l. slice_get l place) (sym list) ∙ slice_get-get_or xs place 0 below;
      wakes = subst (λ l. WakesFirst (take place l ++ passed_over (drop (place + 1) l) woken_for) (with_parked old sem (parked_on old sem ++ parked ∷ [])) new before after) list
          (wakes_both (take place xs) (passed_over (drop (place + 1) xs) woken_for) (with_parked old sem (parked_on old sem ++ parked ∷ [])) mid new before between after (subst (λ (y : Turns). WakesFirst (take place xs) y mid before between) whole one) two);
    }
