-- The texts that a file mentions, and the numbers of names.
use Rattle.std.proofs.Common.{◌≡◌, ℕ, ◌<◌, ◌≤◌, List, [], ◌∷◌, ◌++◌, length, get_or, Bool, true, false, ◌||◌, cond, is_some, unwrap_or, position, Option, Some, None, refl, sym, ap, subst, ◌∙◌, append_assoc, bytes_eq, arith}
use Rattle.std.proofs.lemmas.List.{append-nil}
use Rattle.std.proofs.lemmas.List.Folds.{list_any-append}
use Rattle.std.proofs.lemmas.Cmp.{nat_list_eq_equiv}
use Rattle.std.specs.Bool.{⊤}
use Rattle.std.specs.List.{list_any}
use Rattle.graph_drafts.specs.Fields.{u32_of}
use Rattle.graph_drafts.specs.OpRows.{FileOpRow, reads, runs, does}
use Rattle.graph_drafts.specs.FileText.{DraftRows, FileRows, TaskText}
use Rattle.graph_file.specs.PlanText.{file_texts, mentioned, mentioned_by_graphs, mentioned_by_tasks, number_among}
use Rattle.graph_file.proofs.NameLemmas.{some_place}
use Rattle.graph_file.proofs.NumberLemmas.{place, place-is}

-- ---- the number of a name that is there

number_step : (names : List (List ℕ)) (name : List ℕ) (found : Option ℕ) → place names name ≡ found → is_some found ≡ true → length names ≤ 1024
    → (u32_of (unwrap_or found (length names)) < length names) × (get_or names (u32_of (unwrap_or found (length names))) [] ≡ name) × (u32_of (unwrap_or found (length names)) ≡ unwrap_or found (length names))
number_step names name None found known few = cc
number_step names name (Some k) found known few =
    let at = place-is names name k found in
    let small : u32_of k ≡ k = omega (arith, at.0, few) in
    (omega (arith, small, at.0), rw small at.1, small)

-- it is a number of a name, and its name is this one
pub number-known : (names : List (List ℕ)) (name : List ℕ) → is_some (position (bytes_eq name) names) ≡ true → length names ≤ 1024
    → (u32_of (number_among names name) < length names) × (get_or names (u32_of (number_among names name)) [] ≡ name) × (u32_of (number_among names name) ≡ number_among names name)
number-known names name known few = number_step names name (place names name) refl known few

-- ---- texts that are mentioned

-- the text that an operation reads is among these
abbrev pub Knows : List (List ℕ) → FileOpRow → Type 0
Knows texts (reads text) = is_some (position (bytes_eq text) texts) ≡ true
Knows texts (runs name) = ⊤
Knows texts (does op) = ⊤

abbrev pub AllKnow : List (List ℕ) → List TaskText → Type 0
AllKnow texts [] = ⊤
AllKnow texts (task ∷ tasks) = Knows texts task.op × AllKnow texts tasks

abbrev pub AllKnowIn : List (List ℕ) → List DraftRows → Type 0
AllKnowIn texts [] = ⊤
AllKnowIn texts (draft ∷ drafts) = AllKnow texts draft.tasks × AllKnowIn texts drafts

-- the longer list begins with the other
abbrev pub Extends : List (List ℕ) → List (List ℕ) → Type 0
Extends longer texts = (more : List (List ℕ)) × (longer ≡ texts ++ more)

extends-again : (longest longer texts : List (List ℕ)) → Extends longest longer → Extends longer texts → Extends longest texts
extends-again longest longer texts first then_ = (then_.0 ++ first.0, first.1 ∙ ap (λ ts. ts ++ first.0) then_.1 ∙ append_assoc texts then_.0 first.0)

extends-step : (known : Bool) (texts : List (List ℕ)) (text : List ℕ) → Extends (cond known texts (texts ++ text ∷ [])) texts
extends-step true texts text = ([], sym (append-nil texts))
extends-step false texts text = (text ∷ [], refl)

extends-mentioned : (texts : List (List ℕ)) (op : FileOpRow) → Extends (mentioned texts op) texts
extends-mentioned texts (reads text) = extends-step (is_some (position (bytes_eq text) texts)) texts text
extends-mentioned texts (runs name) = ([], sym (append-nil texts))
extends-mentioned texts (does op) = ([], sym (append-nil texts))

extends-tasks : (texts : List (List ℕ)) (tasks : List TaskText) → Extends (mentioned_by_tasks texts tasks) texts
extends-tasks texts [] = ([], sym (append-nil texts))
extends-tasks texts (task ∷ tasks) = extends-again (mentioned_by_tasks texts (task ∷ tasks)) (mentioned texts task.op) texts (extends-tasks (mentioned texts task.op) tasks) (extends-mentioned texts task.op)

extends-graphs : (texts : List (List ℕ)) (drafts : List DraftRows) → Extends (mentioned_by_graphs texts drafts) texts
extends-graphs texts [] = ([], sym (append-nil texts))
extends-graphs texts (draft ∷ drafts) = extends-again (mentioned_by_graphs texts (draft ∷ drafts)) (mentioned_by_tasks texts draft.tasks) texts (extends-graphs (mentioned_by_tasks texts draft.tasks) drafts) (extends-tasks texts draft.tasks)

or-left : (a b : Bool) → a ≡ true → (a || b) ≡ true
or-left true b is = refl
or-left false b is = cc

or-right : (a b : Bool) → b ≡ true → (a || b) ≡ true
or-right true b is = refl
or-right false b is = is

among-left : (names more : List (List ℕ)) (name : List ℕ) → is_some (position (bytes_eq name) names) ≡ true → is_some (position (bytes_eq name) (names ++ more)) ≡ true
among-left names more name known =
    some_place (bytes_eq name) (names ++ more) ∙ list_any-append (bytes_eq name) names more ∙ or-left (list_any (bytes_eq name) names) (list_any (bytes_eq name) more) (sym (some_place (bytes_eq name) names) ∙ known)

among-last : (names : List (List ℕ)) (name : List ℕ) → is_some (position (bytes_eq name) (names ++ name ∷ [])) ≡ true
among-last names name =
    some_place (bytes_eq name) (names ++ name ∷ []) ∙ list_any-append (bytes_eq name) names (name ∷ []) ∙ or-right (list_any (bytes_eq name) names) (list_any (bytes_eq name) (name ∷ [])) (or-left (bytes_eq name name) false (nat_list_eq_equiv.refl name))

knows-longer : (longer texts : List (List ℕ)) (op : FileOpRow) → Extends longer texts → Knows texts op → Knows longer op
knows-longer longer texts (reads text) extends known = subst (λ ts. is_some (position (bytes_eq text) ts) ≡ true) (sym extends.1) (among-left texts extends.0 text known)
knows-longer longer texts (runs name) extends known = tt
knows-longer longer texts (does op) extends known = tt

knows_step : (here : Bool) (texts : List (List ℕ)) (text : List ℕ) → is_some (position (bytes_eq text) texts) ≡ here → is_some (position (bytes_eq text) (cond here texts (texts ++ text ∷ []))) ≡ true
knows_step true texts text is = is
knows_step false texts text is = among-last texts text

knows-mentioned : (texts : List (List ℕ)) (op : FileOpRow) → Knows (mentioned texts op) op
knows-mentioned texts (reads text) = knows_step (is_some (position (bytes_eq text) texts)) texts text refl
knows-mentioned texts (runs name) = tt
knows-mentioned texts (does op) = tt

pub tasks-know : (all texts : List (List ℕ)) (tasks : List TaskText) → Extends all (mentioned_by_tasks texts tasks) → AllKnow all tasks
tasks-know all texts [] extends = tt
tasks-know all texts (task ∷ tasks) extends = (
  knows-longer all (mentioned texts task.op) task.op (extends-again all (mentioned_by_tasks texts (task ∷ tasks)) (mentioned texts task.op) extends (extends-tasks (mentioned texts task.op) tasks)) (knows-mentioned texts task.op),
  tasks-know all (mentioned texts task.op) tasks extends,
)

all-know : (all texts : List (List ℕ)) (drafts : List DraftRows) → Extends all (mentioned_by_graphs texts drafts) → AllKnowIn all drafts
all-know all texts [] extends = tt
all-know all texts (draft ∷ drafts) extends = (
  tasks-know all texts draft.tasks (extends-again all (mentioned_by_graphs texts (draft ∷ drafts)) (mentioned_by_tasks texts draft.tasks) extends (extends-graphs (mentioned_by_tasks texts draft.tasks) drafts)),
  all-know all (mentioned_by_tasks texts draft.tasks) drafts extends,
)

-- the texts of a file have each that its tasks read
pub graphs-know : (file : FileRows) → AllKnowIn (file_texts file) (file.top ∷ file.modules)
graphs-know file = all-know (file_texts file) [] (file.top ∷ file.modules) ([], sym (append-nil (file_texts file)))

within_step : (names : List (List ℕ)) (name : List ℕ) (found : Option ℕ) → place names name ≡ found → is_some found ≡ true → unwrap_or found (length names) < length names
within_step names name None found known = cc
within_step names name (Some k) found known = (place-is names name k found).0

-- the number of a name that is there
pub number-within : (names : List (List ℕ)) (name : List ℕ) → is_some (position (bytes_eq name) names) ≡ true → number_among names name < length names
number-within names name known = within_step names name (place names name) refl known
