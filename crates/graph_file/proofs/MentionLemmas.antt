-- The texts that are mentioned, while a loop goes over tasks or graphs.
use Rattle.std.proofs.Common.{◌≡◌, ℕ, ◌+◌, ◌<◌, ◌≤◌, List, map, length, drop, get_or, refl, sym, ◌∙◌}
use Rattle.std.proofs.lemmas.List.{drop_all}
use Rattle.graph_drafts.specs.declared.draft.Draft.{Draft}
use Rattle.graph_drafts.specs.declared.draft.FileTask.{FileTask}
use Rattle.graph_file.specs.PlanText.{mentioned, mentioned_by_graphs, mentioned_by_tasks}
use Rattle.graph_drafts.specs.inside.Reading.{draft_rows, file_op_row, task_text}
use Rattle.graph_drafts.proofs.WalkLemmas.{next_of}

-- the tasks from place i on are still to be looked at
abbrev pub TasksLeft : List (List ℕ) → List FileTask → ℕ → List (List ℕ) → Type 0
TasksLeft start tasks i now = mentioned_by_tasks start (map task_text tasks) ≡ mentioned_by_tasks now (map task_text (drop i tasks))

pub TasksLeft-more : (start now next : List (List ℕ)) (tasks : List FileTask) (i : ℕ) (task : FileTask) → i < length tasks → task ≡ get_or tasks i task → next ≡ mentioned now (file_op_row task.op)
    → TasksLeft start tasks i now → TasksLeft start tasks (i + 1) next
TasksLeft-more start now next tasks i task within is added so_far = so_far ∙ rw (next_of task_text tasks i task within is, added) refl

pub TasksLeft-end : (start now : List (List ℕ)) (tasks : List FileTask) (i : ℕ) → length tasks ≤ i → TasksLeft start tasks i now → now ≡ mentioned_by_tasks start (map task_text tasks)
TasksLeft-end start now tasks i past so_far = sym (so_far ∙ rw (drop_all i tasks past) refl)

-- the same of graphs
abbrev pub GraphsLeft : List (List ℕ) → List Draft → ℕ → List (List ℕ) → Type 0
GraphsLeft start drafts i now = mentioned_by_graphs start (map draft_rows drafts) ≡ mentioned_by_graphs now (map draft_rows (drop i drafts))

pub GraphsLeft-more : (start now next : List (List ℕ)) (drafts : List Draft) (i : ℕ) (draft : Draft) → i < length drafts → draft ≡ get_or drafts i draft → next ≡ mentioned_by_tasks now (draft_rows draft).tasks
    → GraphsLeft start drafts i now → GraphsLeft start drafts (i + 1) next
GraphsLeft-more start now next drafts i draft within is added so_far = so_far ∙ rw (next_of draft_rows drafts i draft within is, added) refl

pub GraphsLeft-end : (start now : List (List ℕ)) (drafts : List Draft) (i : ℕ) → length drafts ≤ i → GraphsLeft start drafts i now → now ≡ mentioned_by_graphs start (map draft_rows drafts)
GraphsLeft-end start now drafts i past so_far = sym (so_far ∙ rw (drop_all i drafts past) refl)
