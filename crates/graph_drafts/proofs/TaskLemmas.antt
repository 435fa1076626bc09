-- A task, by the steps in which it is read.
use Rattle.std.proofs.Common.{◌≡◌, List, [], ◌∷◌, length, Result, Ok, Err, codes, refl, ap, ◌∙◌}
use Rattle.serde_json.specs.Data.{Data}
use Rattle.graph_drafts.specs.declared.refusals.GraphError.{GraphError}
use Rattle.graph_drafts.specs.Contents.{name_of, name_list_of}
use Rattle.graph_drafts.specs.Fields.{allowed, needed, task_spot}
use Rattle.graph_drafts.specs.OpRows.{op_in, op_rows}
use Rattle.graph_drafts.specs.FileText.{DraftRows, add_task, puts_field, takes_field}
use Rattle.graph_drafts.specs.Steps.{◌>>=◌, walk}
use Rattle.graph_drafts.specs.inside.Reader.{add_task_steps}

same_rest : {A B : Type 0} (r : Result A GraphError) (f g : A → Result B GraphError) → ((x : A) → f x ≡ g x) → (r >>= f) ≡ (r >>= g)
same_rest (Ok x) f g same = same x
same_rest (Err e) f g same = refl

-- three steps as one
as_one : {A B C D E : Type 0} (a : Result A GraphError) (b : Result B GraphError) (c : Result C GraphError) (f : A → B → C → D) (k : D → Result E GraphError)
    → ((a >>= λ x. b >>= λ y. c >>= λ z. Ok (f x y z)) >>= k) ≡ (a >>= λ x. b >>= λ y. c >>= λ z. k (f x y z))
as_one (Ok x) (Ok y) (Ok z) f k = refl
as_one (Ok x) (Ok y) (Err e) f k = refl
as_one (Ok x) (Err e) c f k = refl
as_one (Err e) b c f k = refl

add_task-steps : (draft : DraftRows) (d : Data) → add_task_steps draft d ≡ add_task draft d
add_task-steps draft d =
    let spot = task_spot draft.scope (length draft.tasks) in
    same_rest (needed name_of spot (codes "name") d) _ _ (λ name.
    same_rest (op_in op_rows spot d) _ _ (λ found.
    as_one (allowed [] name_list_of spot (codes "to") d) (allowed [] name_list_of spot (takes_field draft.version) d) (allowed [] name_list_of spot (puts_field draft.version) d)
    (λ to takes puts. record { name = name; to = to; takes = takes; puts = puts }) _))

pub walk_steps : (draft : DraftRows) (ds : List Data) → walk add_task_steps draft ds ≡ walk add_task draft ds
walk_steps draft [] = refl
walk_steps draft (d ∷ ds) = ap (λ r. r >>= λ next. walk add_task_steps next ds) (add_task-steps draft d) ∙ same_rest (add_task draft d) _ _ (λ next. walk_steps next ds)
