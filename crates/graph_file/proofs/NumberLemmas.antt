-- The numbers of names.
use Rattle.std.proofs.Common.{◌≡◌, ◌≢◌, ℕ, zero, suc, ◌<◌, List, [], ◌∷◌, map, length, get_or, true, Option, Some, None, ok_or, option_map, is_some, position, Bor, All, AllPairs, refl, sym, ap, subst, ◌∙◌, bytes_eq, arith}
use Rattle.std.proofs.lemmas.Cmp.{nat_list_eq_equiv}
use Rattle.std.proofs.lemmas.List.{get_or_default, get_or-map, length-map}
use Rattle.std.proofs.lemmas.List.Quantifiers.{position-Some}
use Rattle.std.proofs.lemmas.Map.Views.{list_any-from_Contains}
use Rattle.std.proofs.lemmas.Option.{option_and_then_some}
use Rattle.std.proofs.lemmas.Slice.Eq.{bytes_eq-Decides}
use Rattle.std.specs.HashMap.{HashMap}
use Rattle.graph_plans.specs.PlanRows.{AllDiffer}
use Rattle.graph_drafts.specs.declared.refusals.GraphError.{GraphError}
use Rattle.graph_drafts.specs.Contents.{each}
use Rattle.graph_drafts.specs.FileText.{DraftRows, TaskText}
use Rattle.graph_file.specs.PlanText.{names_of_modules, numbers_in, task_names}
use Rattle.graph_drafts.specs.declared.draft.Draft.{Draft}
use Rattle.graph_drafts.specs.declared.draft.FileDraft.{FileDraft}
use Rattle.graph_drafts.specs.declared.draft.FileTask.{FileTask}
use Rattle.graph_drafts.specs.Steps.{walk}
use Rattle.graph_file.specs.inside.Drafts.{AreIds}
use Rattle.graph_file.specs.inside.Lookups.{HasPlaces, place_in}
use Rattle.graph_drafts.specs.inside.Reading.{draft_rows, file_rows, task_text}
use Rattle.graph_file.specs.inside.Reader.{put_place}
use Rattle.graph_drafts.proofs.BindLemmas.{each_rest}
use Rattle.graph_drafts.proofs.EachLemmas.{walk-put_same}
use Rattle.graph_file.proofs.NameLemmas.{some_place}

each-same : {A B : Type 0} (f g : A → Option B) (xs : List A) → ((x : A) → f x ≡ g x) → each f xs ≡ each g xs
each-same f g [] same = refl
each-same f g (x ∷ xs) same = rw (same x, each-same f g xs same) refl

-- what a map finds of names
pub numbers_found : {S : Type 0} (places : HashMap (Bor (List ℕ)) ℕ S) (all : List (List ℕ)) (e : GraphError) (names : List (List ℕ)) → HasPlaces places all
    → walk (put_place places e) [] names ≡ numbers_in all e names
numbers_found places all e names has = walk-put_same (place_in places) e names ∙ ap (λ o. ok_or o e) (each-same (place_in places) (λ name. position (bytes_eq name) all) names has)

named-same : (tasks : List FileTask) → map (λ (task : FileTask). task.names.name.now) tasks ≡ map (λ (task : TaskText). task.names.name) (map task_text tasks)
named-same [] = refl
named-same (task ∷ tasks) = ap (λ names. task.names.name.now ∷ names) (named-same tasks)

-- the names of the tasks that the code has
pub names-drafted : (draft : Draft) (tasks : List FileTask) → tasks ≡ draft.tasks.items → map (λ (task : FileTask). task.names.name.now) tasks ≡ task_names (draft_rows draft)
names-drafted draft tasks same = ap (map (λ (task : FileTask). task.names.name.now)) same ∙ named-same draft.tasks.items

graphs-same : (drafts : List Draft) → map (λ (draft : Draft). draft.name.now) drafts ≡ map (λ (draft : DraftRows). draft.name) (map draft_rows drafts)
graphs-same [] = refl
graphs-same (draft ∷ drafts) = ap (λ names. draft.name.now ∷ names) (graphs-same drafts)

-- the names of the modules that the code has
pub names-filed : (file : FileDraft) (drafts : List Draft) → drafts ≡ file.modules.items → map (λ (draft : Draft). draft.name.now) drafts ≡ names_of_modules (file_rows file)
names-filed file drafts same = ap (map (λ (draft : Draft). draft.name.now)) same ∙ graphs-same file.modules.items

-- ---- the number of each name

abbrev pub place : List (List ℕ) → List ℕ → Option ℕ
place all name = position (bytes_eq name) all

-- the name of a number
abbrev pub called : List (List ℕ) → ℕ → List ℕ
called all number = get_or all number []

at_step : {A B : Type 0} (f : A → Option B) (x : A) (xs : List A) (y : B) (ys : List B) (d : A) (e : B) → f x ≡ Some y → ((j : ℕ) → j < length ys → f (get_or xs j d) ≡ Some (get_or ys j e))
    → (k : ℕ) → k < suc (length ys) → f (get_or (x ∷ xs) k d) ≡ Some (get_or (y ∷ ys) k e)
at_step f x xs y ys d e here there zero less = here
at_step f x xs y ys d e here there (suc k) less = there k (omega (arith, less))

pub each-at : {A B : Type 0} (f : A → Option B) (xs : List A) (ys : List B) → each f xs ≡ Some ys → (k : ℕ) (d : A) (e : B) → k < length ys → f (get_or xs k d) ≡ Some (get_or ys k e)
each-at f [] ys is k d e within = let none : [] ≡ ys = cc in absurd (omega (arith, within, ap length none))
each-at f (x ∷ xs) ys is k d e within =
    option_and_then_some (λ y. option_map (λ rest. y ∷ rest) (each f xs)) (f x) ys is (λ y here rest.
    let others = each_rest (each f xs) y ys rest in
    subst (λ zs. k < length zs → f (get_or (x ∷ xs) k d) ≡ Some (get_or zs k e)) others.2
    (at_step f x xs y others.0 d e here (λ j less. each-at f xs others.0 others.1 j d e less) k) within)

pub place-is : (all : List (List ℕ)) (name : List ℕ) (k : ℕ) → place all name ≡ Some k → (k < length all) × (called all k ≡ name)
place-is all name k is =
    let at = position-Some (bytes_eq name) all k [] is in
    (at.0, sym ((bytes_eq-Decides name (get_or all k [])).0 at.1))

-- the numbers are those of names
pub numbers-within : (all names : List (List ℕ)) (numbers : List ℕ) → each (place all) names ≡ Some numbers → All (λ k. k < length all) numbers
numbers-within all names numbers is k d within = (place-is all (get_or names k []) (get_or numbers k d) (each-at (place all) names numbers is k [] d within)).0

-- and their names are these
pub called-numbers : (all names : List (List ℕ)) (numbers : List ℕ) → each (place all) names ≡ Some numbers → map (called all) numbers ≡ names
called-numbers all [] numbers is = let none : [] ≡ numbers = cc in ap (map (called all)) (sym none)
called-numbers all (name ∷ names) numbers is =
    option_and_then_some (λ y. option_map (λ rest. y ∷ rest) (each (place all) names)) (place all name) numbers is (λ y here rest.
    let others = each_rest (each (place all) names) y numbers rest in
    rw (← others.2, (place-is all name y here).1, called-numbers all names others.0 others.1) refl)

-- names that differ have numbers that do
pub numbers-differ : (all names : List (List ℕ)) (numbers : List ℕ) → each (place all) names ≡ Some numbers → AllDiffer names → AllPairs (λ a b. a ≢ b) numbers
numbers-differ all names numbers is differ i j d less within same =
    let first = place-is all (get_or names i []) (get_or numbers i d) (each-at (place all) names numbers is i [] d (omega (arith, less, within))) in
    let second = place-is all (get_or names j []) (get_or numbers j d) (each-at (place all) names numbers is j [] d within) in
    let count : length numbers ≡ length names = sym (length-map numbers (called all)) ∙ ap length (called-numbers all names numbers is) in
    differ i j [] less (omega (arith, within, count)) (sym first.1 ∙ ap (called all) same ∙ second.1)

pub AreIds-of : (all names : List (List ℕ)) (numbers : List ℕ) → each (place all) names ≡ Some numbers → AllDiffer names → AreIds (length all) numbers
AreIds-of all names numbers is differ = record { in_range = numbers-within all names numbers is; differ = numbers-differ all names numbers is differ }

-- ---- the other way round

same-place : (all : List (List ℕ)) (k : ℕ) (found : Option ℕ) → AllDiffer all → k < length all → is_some found ≡ true → ((j : ℕ) → found ≡ Some j → (j < length all) × (called all j ≡ called all k)) → found ≡ Some k
same-place all k None differ within some at = absurd (cc)
same-place all k (Some j) differ within some at =
    let here = at j refl in
    let not_less : ¬ (j < k) = λ less. differ j k [] less within here.1 in
    let not_more : ¬ (k < j) = λ more. differ k j [] more here.0 (sym here.1) in
    ap Some (let same : j ≡ k = omega (arith, not_less, not_more) in same)

place-called : (all : List (List ℕ)) (k : ℕ) → AllDiffer all → k < length all → place all (called all k) ≡ Some k
place-called all k differ within =
    let name = called all k in
    same-place all k (place all name) differ within (some_place (bytes_eq name) all ∙ list_any-from_Contains nat_list_eq_equiv name all (k, within, get_or_default all k name [] within)) (λ j found. place-is all name j found)

-- numbers are those of their names, where no two names are the same
pub numbers-called : (all : List (List ℕ)) (numbers : List ℕ) → AllDiffer all → All (λ k. k < length all) numbers → each (place all) (map (called all) numbers) ≡ Some numbers
numbers-called all [] differ within = refl
numbers-called all (k ∷ numbers) differ within =
    rw (place-called all k differ (within 0 0 (omega arith)), numbers-called all numbers differ (λ i d less. within (suc i) d (omega (arith, less)))) refl

-- numbers that differ have names that do
pub called-differ : (all : List (List ℕ)) (numbers : List ℕ) → AllDiffer all → AreIds (length all) numbers → AllDiffer (map (called all) numbers)
called-differ all numbers differ ids i j d less within same =
    let count : length (map (called all) numbers) ≡ length numbers = length-map numbers (called all) in
    let j_within : j < length numbers = omega (arith, within, count) in
    let i_within : i < length numbers = omega (arith, less, j_within) in
    let at_i : get_or (map (called all) numbers) i d ≡ called all (get_or numbers i 0) = get_or-map (called all) numbers i 0 d i_within in
    let at_j : get_or (map (called all) numbers) j d ≡ called all (get_or numbers j 0) = get_or-map (called all) numbers j 0 d j_within in
    let here = place-called all (get_or numbers i 0) differ (ids.in_range i 0 i_within) in
    let there = place-called all (get_or numbers j 0) differ (ids.in_range j 0 j_within) in
    let both : Some (get_or numbers i 0) ≡ Some (get_or numbers j 0) = sym here ∙ ap (place all) (sym at_i ∙ same ∙ at_j) ∙ there in
    ids.differ i j 0 less j_within (cc)
