-- The modules that tasks run, and chains of them.
use Rattle.std.proofs.Common.{◌≡◌, ℕ, suc, ◌+◌, ◌<◌, List, [], ◌∷◌, ◌++◌, map, length, take, get_or, Bool, true, false, not, All, Ok, Err, refl, sym, ap, subst, ◌∙◌, arith}
use Rattle.std.proofs.lemmas.List.{get_or-map, length-map, map-append, take_more}
use Rattle.std.proofs.lemmas.List.Elements.{All-cons, All-head, All-nil, All-tail}
use Rattle.std.specs.List.{list_any}
use Rattle.graph_plans.specs.ModuleUses.{has_chain}
use Rattle.graph_drafts.specs.declared.draft.Draft.{Draft}
use Rattle.graph_drafts.specs.declared.draft.FileDraft.{FileDraft}
use Rattle.graph_drafts.specs.declared.draft.FileTask.{FileTask}
use Rattle.graph_file.specs.declared.numbers.TaskNumbers.{TaskNumbers}
use Rattle.graph_drafts.specs.declared.refusals.GraphError.{GraphError}
use Rattle.graph_drafts.specs.OpRows.{FileOpRow, reads, runs, does}
use Rattle.graph_drafts.specs.Steps.{passed}
use Rattle.graph_drafts.specs.FileText.{DraftRows, FileRows, TaskText}
use Rattle.graph_file.specs.PlanText.{FileNumbers, file_numbers, file_uses, names_of_modules, nests_too_deep, number_among, runs_one_of, used_before, used_by_tasks}
use Rattle.graph_drafts.specs.inside.Reading.{draft_rows, file_rows, task_text}
use Rattle.graph_file.specs.inside.UseNets.{AreUses}
use Rattle.graph_file.proofs.PlanLemmas.{AreGraphNumbers, AreNumbered, IsNumberedFile-of, numbered-draft}
use Rattle.graph_file.proofs.TextLemmas.{number-within}

-- ---- one task after another

before-append : (modules : List (List ℕ)) (xs ys : List ℕ) (op : FileOpRow) → used_before modules (xs ++ ys) op ≡ used_before modules xs op ++ ys
before-append modules xs ys (reads text) = refl
before-append modules xs ys (runs name) = refl
before-append modules xs ys (does op) = refl

-- the modules of one task more
used-snoc : (modules : List (List ℕ)) (tasks : List TaskText) (task : TaskText) → used_by_tasks modules (tasks ++ task ∷ []) ≡ used_by_tasks modules tasks ++ used_before modules [] task.op
used-snoc modules [] task = refl
used-snoc modules (first ∷ tasks) task =
    ap (λ ms. used_before modules ms first.op) (used-snoc modules tasks task) ∙ before-append modules (used_by_tasks modules tasks) (used_before modules [] task.op) first.op

pub used-more : (modules : List (List ℕ)) (tasks : List FileTask) (i : ℕ) (task : FileTask) (old new : List ℕ) → i < length tasks → task ≡ get_or tasks i task
    → old ≡ used_by_tasks modules (map task_text (take i tasks)) → new ≡ old ++ used_before modules [] (task_text task).op → new ≡ used_by_tasks modules (map task_text (take (i + 1) tasks))
used-more modules tasks i task old new within is so_far added =
    let longer : take (i + 1) tasks ≡ take i tasks ++ task ∷ [] = take_more tasks i task within ∙ rw (← is) refl in
    added ∙ rw (so_far) (sym (ap (λ ts. used_by_tasks modules (map task_text ts)) longer ∙ ap (used_by_tasks modules) (map-snoc (take i tasks) task) ∙ used-snoc modules (map task_text (take i tasks)) (task_text task)))
  where
    map-snoc : (tasks : List FileTask) (task : FileTask) → map task_text (tasks ++ task ∷ []) ≡ map task_text tasks ++ task_text task ∷ []
    map-snoc [] task = refl
    map-snoc (first ∷ tasks) task = ap (λ ts. task_text first ∷ ts) (map-snoc tasks task)

-- ---- every use is of a module

op-within : (modules : List (List ℕ)) (op : FileOpRow) (ms : List ℕ) → runs_one_of modules op ≡ true → All (λ m. m < length modules) ms → All (λ m. m < length modules) (used_before modules ms op)
op-within modules (reads text) ms runs_one all = all
op-within modules (runs name) ms runs_one all = All-cons (λ m. m < length modules) (number_among modules name) ms (number-within modules name runs_one) all
op-within modules (does op) ms runs_one all = all

pub uses-within : (modules : List (List ℕ)) (draft : DraftRows) (tasks : List TaskText) (numbers : List TaskNumbers) → AreNumbered modules draft tasks numbers → All (λ m. m < length modules) (used_by_tasks modules tasks)
uses-within modules draft [] numbers all = All-nil (λ m. m < length modules)
uses-within modules draft (task ∷ tasks) [] all = absurd all
uses-within modules draft (task ∷ tasks) (n ∷ numbers) all = op-within modules task.op (used_by_tasks modules tasks) all.0.runs_one (uses-within modules draft tasks numbers all.1)

graphs-within : (modules : List (List ℕ)) (drafts : List DraftRows) (numbers : List (List TaskNumbers)) → AreGraphNumbers modules drafts numbers
    → All (All (λ m. m < length modules)) (map (λ (draft : DraftRows). used_by_tasks modules draft.tasks) drafts)
graphs-within modules [] numbers all = All-nil (All (λ m. m < length modules))
graphs-within modules (draft ∷ drafts) [] all = absurd all
graphs-within modules (draft ∷ drafts) (n ∷ numbers) all =
    All-cons (All (λ m. m < length modules)) (used_by_tasks modules draft.tasks) (map (λ (d : DraftRows). used_by_tasks modules d.tasks) drafts)
    (uses-within modules draft draft.tasks n (numbered-draft modules draft n all.0)) (graphs-within modules drafts numbers all.1)

uses-count : (file : FileRows) → length (names_of_modules file) ≡ length (file_uses file)
uses-count file = length-map file.modules (λ (draft : DraftRows). draft.name) ∙ sym (length-map file.modules (λ (draft : DraftRows). used_by_tasks (names_of_modules file) draft.tasks))

-- the uses of a file whose tasks name only what is there
pub AreUses-of : (file : FileRows) (numbers : FileNumbers) → file_numbers file ≡ Ok numbers → AreUses (file_uses file)
AreUses-of file numbers is =
    subst (λ (n : ℕ). All (All (λ m. m < n)) (file_uses file)) (uses-count file) (graphs-within (names_of_modules file) file.modules numbers.modules (IsNumberedFile-of file numbers is).modules)

-- the same of the top graph
pub top-used : (file : FileRows) (numbers : FileNumbers) → file_numbers file ≡ Ok numbers → All (λ m. m < length (file_uses file)) (used_by_tasks (names_of_modules file) file.top.tasks)
top-used file numbers is =
    subst (λ (n : ℕ). All (λ m. m < n) (used_by_tasks (names_of_modules file) file.top.tasks)) (uses-count file)
    (uses-within (names_of_modules file) file.top file.top.tasks numbers.top (numbered-draft (names_of_modules file) file.top numbers.top (IsNumberedFile-of file numbers is).top))

-- ---- chains

-- a table that says of each module whether a chain begins with it
any-table : (n : ℕ) (uses : List (List ℕ)) (ms : List ℕ) → All (λ m. m < length uses) ms
    → list_any (λ m. get_or (map (has_chain n uses) uses) m false) ms ≡ list_any (λ m. has_chain n uses (get_or uses m [])) ms
any-table n uses [] within = refl
any-table n uses (m ∷ ms) within =
    rw (get_or-map (has_chain n uses) uses m [] false (within 0 0 (omega arith)), any-table n uses ms (All-tail (λ k. k < length uses) m ms within)) refl

-- of the tasks of the top graph
pub chain-found : (n : ℕ) (uses : List (List ℕ)) (begins : List Bool) (ms : List ℕ) → begins ≡ map (has_chain n uses) uses → All (λ m. m < length uses) ms → list_any (λ m. get_or begins m false) ms ≡ has_chain (n + 1) uses ms
chain-found n uses begins ms is within = let number : n + 1 ≡ suc n = omega arith in rw (is, number) (any-table n uses ms within)

tables-more : (n : ℕ) (uses some : List (List ℕ)) → All (All (λ m. m < length uses)) some → map (list_any (λ m. get_or (map (has_chain n uses) uses) m false)) some ≡ map (has_chain (suc n) uses) some
tables-more n uses [] within = refl
tables-more n uses (ms ∷ some) within =
    rw (any-table n uses ms (All-head (All (λ m. m < length uses)) ms some within), tables-more n uses some (All-tail (All (λ m. m < length uses)) ms some within)) refl

-- chains of one module more
pub chains-more : (n : ℕ) (uses : List (List ℕ)) (old new : List Bool) → AreUses uses → old ≡ map (has_chain n uses) uses → new ≡ map (list_any (λ m. get_or old m false)) uses → new ≡ map (has_chain (n + 1) uses) uses
chains-more n uses old new within so_far made = let number : n + 1 ≡ suc n = omega arith in made ∙ rw (so_far, number) (tables-more n uses uses within)

-- each table has an entry for each module
pub table-length : (n : ℕ) (uses : List (List ℕ)) (table : List Bool) → table ≡ map (has_chain n uses) uses → length table ≡ length uses
table-length n uses table is = ap length is ∙ length-map uses (has_chain n uses)

-- one item more of a list that f was put to
pub mapped-more : {X Y : Type 0} (f : X → Y) (xs : List X) (i : ℕ) (x : X) (old new : List Y) (y : Y) → i < length xs → x ≡ get_or xs i x → y ≡ f x → new ≡ old ++ y ∷ [] → old ≡ map f (take i xs) → new ≡ map f (take (i + 1) xs)
mapped-more f xs i x old new y within is made added so_far =
    let longer : take (i + 1) xs ≡ take i xs ++ x ∷ [] = take_more xs i x within ∙ rw (← is) refl in
    added ∙ rw (so_far, made, longer) (sym (map-append f (take i xs) (x ∷ [])))

-- the uses of the modules that the code has
pub uses-shown : (names : List (List ℕ)) (file : FileDraft) (drafts : List Draft) → drafts ≡ file.modules.items → names ≡ names_of_modules (file_rows file)
    → map (λ (draft : Draft). used_by_tasks names (draft_rows draft).tasks) drafts ≡ file_uses (file_rows file)
uses-shown names file drafts same named =
    ap (map (λ (draft : Draft). used_by_tasks names (draft_rows draft).tasks)) same ∙ shown names file.modules.items
    ∙ ap (λ ns. map (λ (draft : DraftRows). used_by_tasks ns draft.tasks) (map draft_rows file.modules.items)) named
  where
    shown : (names : List (List ℕ)) (drafts : List Draft) → map (λ (draft : Draft). used_by_tasks names (draft_rows draft).tasks) drafts ≡ map (λ (draft : DraftRows). used_by_tasks names draft.tasks) (map draft_rows drafts)
    shown names [] = refl
    shown names (draft ∷ drafts) = ap (λ us. used_by_tasks names (draft_rows draft).tasks ∷ us) (shown names drafts)

-- ---- how deep modules nest

-- what the code found of chains from the top graph
pub depth-found : (file : FileRows) (has : Bool) (uses : List (List ℕ)) (used : List ℕ) → has ≡ has_chain 9 uses used → uses ≡ file_uses file → used ≡ used_by_tasks (names_of_modules file) file.top.tasks → has ≡ nests_too_deep file
depth-found file has uses used found same same_used = found ∙ ap (λ us. has_chain 9 us used) same ∙ ap (has_chain 9 (file_uses file)) same_used

pub depth-passed : (file : FileRows) (has : Bool) (e : GraphError) → has ≡ nests_too_deep file → has ≡ false → passed (not (nests_too_deep file)) e ≡ Ok tt
depth-passed file has e found is = ap (λ deep. passed (not deep) e) (sym found ∙ is)

pub depth-refused : (file : FileRows) (has : Bool) (e : GraphError) → has ≡ nests_too_deep file → has ≡ true → passed (not (nests_too_deep file)) e ≡ Err e
depth-refused file has e found is = ap (λ deep. passed (not deep) e) (sym found ∙ is)

-- what the tasks of the top graph run, as the code has it
pub used-shown : (names : List (List ℕ)) (file : FileDraft) (tasks : List FileTask) → tasks ≡ file.top.tasks.items → names ≡ names_of_modules (file_rows file)
    → used_by_tasks names (map task_text tasks) ≡ used_by_tasks (names_of_modules (file_rows file)) (file_rows file).top.tasks
used-shown names file tasks same named = ap (λ ts. used_by_tasks names (map task_text ts)) same ∙ ap (λ ns. used_by_tasks ns (map task_text file.top.tasks.items)) named
