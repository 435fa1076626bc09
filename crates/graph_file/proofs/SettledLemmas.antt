-- Lists of semaphores by rising number.
use Rattle.std.proofs.Common.{◌≡◌, ◌==◌, ℕ, suc, ◌<◌, ◌+◌, Bool, true, false, ◌&&◌, ◌||◌, nat_lt, List, [], ◌∷◌, length, get_or, filter, find, cond, count_by, None, nat_le, ◌≢◌, All, AllPairs, refl, sym, ap, ◌∙◌, arith}
use Rattle.std.specs.List.{list_any, range_with_len}
use Rattle.std.proofs.lemmas.Bool.{eq-eqb}
use Rattle.std.proofs.lemmas.Bool.Decides.{nat_tests}
use Rattle.std.proofs.lemmas.List.Elements.{filter_agree}
use Rattle.std.proofs.lemmas.List.Folds.{list_any_at}
use Rattle.std.proofs.lemmas.List.Kept.{AllPairs-from_increasing}
use Rattle.std.proofs.lemmas.List.Sums.{sum_by-cons}
use Rattle.task_graph.specs.NetBuilder.{first_unknown, least_repeated, rising}
use Rattle.task_graph.specs.Net.{AreSemaphoresOf}
use Rattle.task_graph.specs.declared.net.Shape.TheVariants.{Plain}
use Rattle.task_graph.proofs.SemaphoreLemmas.{settled-fits}
use Rattle.graph_file.specs.inside.Drafts.{AreIds, with_sems}

-- ---- a list that was put in order once

any_step : (same named rest qs : Bool) (kept : Bool) → (same ≡ true → named ≡ qs) → kept ≡ (rest && qs) → cond named (same || kept) kept ≡ ((same || rest) && qs)
any_step true true rest qs kept agree is = cc (agree refl)
any_step true false true qs kept agree is = cc (agree refl, is)
any_step true false false qs kept agree is = cc (agree refl, is)
any_step false true rest qs kept agree is = is
any_step false false rest qs kept agree is = is

any_cond : (named : Bool) (x s : ℕ) (kept : List ℕ) → list_any (λ id. id == s) (cond named (x ∷ kept) kept) ≡ cond named ((x == s) || list_any (λ id. id == s) kept) (list_any (λ id. id == s) kept)
any_cond true x s kept = refl
any_cond false x s kept = refl

same_number : (q : ℕ → Bool) (x s : ℕ) → (x == s) ≡ true → q x ≡ q s
same_number q x s is = ap q (let same : x ≡ s = grind (arith, nat_tests, is) in same)

-- a number stands among those that pass where it stands there and passes
any_filter : (q : ℕ → Bool) (s : ℕ) (xs : List ℕ) → list_any (λ id. id == s) (filter q xs) ≡ (list_any (λ id. id == s) xs && q s)
any_filter q s [] = refl
any_filter q s (x ∷ xs) =
    any_cond (q x) x s (filter q xs) ∙ any_step (x == s) (q x) (list_any (λ id. id == s) xs) (q s) (list_any (λ id. id == s) (filter q xs)) (same_number q x s) (any_filter q s xs)

filter_in : (q : ℕ → Bool) (all xs : List ℕ) → ((k d : ℕ) → k < length xs → list_any (λ id. id == get_or xs k d) all ≡ true) → filter (λ s. list_any (λ id. id == s) all && q s) xs ≡ filter q xs
filter_in q all [] among = refl
filter_in q all (x ∷ xs) among = rw (among 0 x (omega arith), filter_in q all xs (λ k d within. among (suc k) d (omega (arith, within)))) refl

-- a list in order stays as it is
pub rising-again : (count : ℕ) (ids : List ℕ) → rising count (rising count ids) ≡ rising count ids
rising-again count ids =
    let named : ℕ → Bool = λ s. list_any (λ id. id == s) ids in
    let all = range_with_len 0 count in
    filter_agree (λ s. list_any (λ id. id == s) (filter named all)) (λ s. list_any (λ id. id == s) all && named s) (λ s. any_filter named s all) all
    ∙ filter_in named all all (λ k d within. list_any_at (λ id. id == get_or all k d) all k d within (eq-eqb (get_or all k d) (get_or all k d) refl))

-- ---- it names semaphores, none twice

rising-are : (sems : List ℕ) (ids : List ℕ) → AreSemaphoresOf (with_sems sems) (rising (length sems) ids)
rising-are sems ids = (settled-fits (with_sems sems) (record { shape = Plain; takes = ids; puts = [] })).takes

pub rising-ids : (sems : List ℕ) (ids : List ℕ) → AreIds (length sems) (rising (length sems) ids)
rising-ids sems ids =
    let are = rising-are sems ids in
    record { in_range = are.in_range; differ = λ i j d less within same. let more = AllPairs-from_increasing (rising (length sems) ids) are.rising i j d less within in absurd (omega (arith, more, same)) }

-- ---- what a builder refuses

-- no number of the list is past the semaphores
pub none-unknown : (count : ℕ) (ids : List ℕ) → All (λ s. s < count) ids → first_unknown count ids ≡ None
none-unknown count [] within = refl
none-unknown count (x ∷ ids) within =
    let here : x < count = within 0 0 (omega arith) in
    rw (let fails : nat_le count x ≡ false = grind (arith, nat_tests, here) in fails) (none-unknown count ids (λ k d less. within (suc k) d (omega (arith, less))))

count_none : (s : ℕ) (ids : List ℕ) → ((k d : ℕ) → k < length ids → get_or ids k d ≡ s → ⊥) → count_by (λ id. id == s) ids ≡ 0
count_none s [] other = refl
count_none s (x ∷ ids) other =
    let here : x ≡ s → ⊥ = other 0 0 (omega arith) in
    rw (let fails : (x == s) ≡ false = grind (arith, nat_tests, here) in fails) (count_none s ids (λ k d less. other (suc k) d (omega (arith, less))))

count_step : (s x : ℕ) (ids : List ℕ) (here : Bool) → (x == s) ≡ here → (here ≡ true → count_by (λ id. id == s) ids ≡ 0) → count_by (λ id. id == s) ids < 2 → count_by (λ id. id == s) (x ∷ ids) < 2
count_step s x ids true is none few =
    let one_more : count_by (λ id. id == s) (x ∷ ids) ≡ cond (x == s) 1 0 + count_by (λ id. id == s) ids = sum_by-cons (λ id. cond (id == s) 1 0) x ids in
    let one : ◌≡◌ {A = ℕ} (cond (x == s) 1 0) 1 = rw is refl in
    omega (arith, one_more, one, none refl)
count_step s x ids false is none few =
    let one_more : count_by (λ id. id == s) (x ∷ ids) ≡ cond (x == s) 1 0 + count_by (λ id. id == s) ids = sum_by-cons (λ id. cond (id == s) 1 0) x ids in
    let none_more : ◌≡◌ {A = ℕ} (cond (x == s) 1 0) 0 = rw is refl in
    omega (arith, one_more, none_more, few)

-- a number stands at most once among numbers that differ
count-once : (s : ℕ) (ids : List ℕ) → AllPairs (λ a b. a ≢ b) ids → count_by (λ id. id == s) ids < 2
count-once s [] differ = omega arith
count-once s (x ∷ ids) differ =
    count_step s x ids (x == s) refl
    (λ is. count_none s ids (λ k d less at. differ 0 (suc k) d (omega arith) (omega (arith, less)) ((let same : x ≡ s = grind (arith, nat_tests, is) in same) ∙ sym at)))
    (count-once s ids (λ i j d less within. differ (suc i) (suc j) d (omega (arith, less)) (omega (arith, within))))

find-none : {X : Type 0} (p : X → Bool) (xs : List X) → ((x : X) → p x ≡ false) → find p xs ≡ None
find-none p [] none = refl
find-none p (x ∷ xs) none = rw none (find-none p xs none)

pub none-twice : (count : ℕ) (ids : List ℕ) → AllPairs (λ a b. a ≢ b) ids → least_repeated count ids ≡ None
none-twice count ids differ = find-none (λ s. nat_lt 1 (count_by (λ id. id == s) ids)) (range_with_len 0 count) (λ s. let few = count-once s ids differ in grind (arith, nat_tests, few))
