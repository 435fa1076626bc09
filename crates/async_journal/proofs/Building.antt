-- A net to which plain tasks are added one by one.
use Rattle.std.proofs.Common.{◌≡◌, ◌∙◌, ℕ, ◌+◌, List, [], ◌∷◌, ◌++◌, sym, ap}
use Rattle.std.proofs.lemmas.List.{append-nil, append_assoc, replicate_more}
use Rattle.std.specs.Prelude.{replicate}
use Rattle.task_graph.specs.NetRows.{NetRows}
use Rattle.task_graph.specs.NetBuilder.{with_task, settled}
use Rattle.async_journal.specs.RunNets.{plain_task, with_plain_tasks}

-- nothing is added yet
pub no_tasks : (net : NetRows) → net ≡ with_plain_tasks net 0
no_tasks net = ap (λ rows. record { tasks = rows; edges = net.edges; sems = net.sems }) (sym (append-nil net.tasks))

-- a plain task more
pub one_task : (net now new : NetRows) (n : ℕ) → net.sems ≡ [] → now ≡ with_plain_tasks net n → new ≡ with_task now (settled now plain_task) → new ≡ with_plain_tasks net (n + 1)
one_task net now new n none same added =
    added ∙ ap (λ (net' : NetRows). with_task net' (settled net' plain_task)) same
    ∙ ap (λ (sems : List ℕ). record { tasks = (net.tasks ++ replicate n plain_task) ++ settled (record { tasks = []; edges = []; sems = sems }) plain_task ∷ []; edges = net.edges; sems = net.sems }) none
    ∙ ap (λ rows. record { tasks = rows; edges = net.edges; sems = net.sems })
    (append_assoc net.tasks (replicate n plain_task) (plain_task ∷ []) ∙ ap (λ rows. net.tasks ++ rows) (replicate_more n plain_task))
