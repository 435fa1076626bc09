-- Graphs that keep the rules, as they are made.
use Rattle.std.proofs.Common.{◌≡◌, ℕ, zero, suc, ◌+◌, ◌<◌, ◌≤◌, List, [], ◌∷◌, ◌++◌, map, take, get_or, length, All, refl, sym, ap, subst, ◌∙◌, arith}
use Rattle.std.proofs.lemmas.List.{get_or-map, length-map, map-append, take_all}
use Rattle.task_graph.specs.NetRows.{NetRows}
use Rattle.graph_plans.specs.declared.ops.Op.{Op}
use Rattle.graph_plans.specs.declared.plans.Graph.{Graph}
use Rattle.graph_plans.specs.PlanEdges.{IsAmong, edge_row}
use Rattle.graph_plans.specs.PlanRows.{file_edge_limit, file_task_limit, graph_rows}
use Rattle.graph_drafts.specs.declared.draft.Draft.{Draft}
use Rattle.graph_plans.specs.declared.edges.Edge.{Edge}
use Rattle.graph_file.specs.declared.numbers.TaskNumbers.{TaskNumbers}
use Rattle.graph_drafts.specs.FileText.{DraftRows, TaskText}
use Rattle.graph_file.specs.PlanText.{edges_from, graph_with, graphs_with, numbered, ops_of, task_names}
use Rattle.graph_file.specs.inside.Drafts.{AreReady, IsReady, NamesOnce, net_with}
use Rattle.graph_drafts.specs.inside.Reading.{draft_rows}
use Rattle.graph_file.proofs.PlanLemmas.{HasNames-of, edges-count, edges-numbered, names-once, numbered-count, numbered-draft}

module _ (modules texts : List (List ℕ)) (draft : DraftRows) (numbers : List TaskNumbers) (ready : IsReady modules draft numbers) where
  ops_count : length (ops_of modules texts draft.tasks) ≡ length draft.tasks
  ops_count = length-map draft.tasks (λ (task : TaskText). numbered modules texts task.op)

  pub ready-each : length numbers ≡ length (ops_of modules texts draft.tasks)
  ready-each = numbered-count modules draft draft.tasks numbers (numbered-draft modules draft numbers ready.numbered) ∙ sym ops_count

  pub ready-tasks : length (ops_of modules texts draft.tasks) ≤ file_task_limit
  ready-tasks = omega (arith, ops_count, ready.tasks)

  pub ready-units : All (NamesOnce (length draft.sems)) numbers
  ready-units =
      let once = (HasNames-of draft (task_names draft) ready.named).0.once in
      let all = names-once modules draft draft.tasks numbers (numbered-draft modules draft numbers ready.numbered) once in
      subst (λ (sems : ℕ). All (NamesOnce sems) numbers) (sym ready.is_draft.sem_count) all

  pub ready-edges : (edges : List Edge) → map edge_row edges ≡ edges_from 0 numbers → length edges ≤ file_edge_limit
  ready-edges edges are = omega (arith, length-map edges edge_row, ap length are, edges-count 0 numbers, ready.edges)

  pub ready-among : (edges : List Edge) → map edge_row edges ≡ edges_from 0 numbers → All (IsAmong (length (ops_of modules texts draft.tasks))) (map edge_row edges)
  ready-among edges are =
      subst (λ rows. All (IsAmong (length (ops_of modules texts draft.tasks))) rows) (sym are)
      (subst (λ (tasks : ℕ). All (IsAmong tasks) (edges_from 0 numbers)) (sym ops_count) (edges-numbered modules draft numbers (numbered-draft modules draft numbers ready.numbered)))

-- a graph with the parts of a draft is its graph
pub graph-made : (modules texts : List (List ℕ)) (draft : DraftRows) (numbers : List TaskNumbers) (name : List ℕ) (names sem_names : List (List ℕ)) (ops : List Op) (sems : List ℕ) (shown : List Op) (edges : List Edge) (net shared : NetRows)
    → name ≡ draft.name → names ≡ task_names draft → ops ≡ ops_of modules texts draft.tasks → sem_names ≡ draft.sem_names → sems ≡ draft.sems → shown ≡ ops → map edge_row edges ≡ edges_from 0 numbers
    → net ≡ net_with sems shown numbers (map edge_row edges) → shared ≡ net
    → record { name = name; names = names; ops = ops; sem_names = sem_names; net = shared } ≡ graph_with modules texts draft numbers
graph-made modules texts draft numbers name names sem_names ops sems shown edges net shared is_name are_names are_ops are_sem_names are_sems same are_edges is_net is_shared =
    rw (is_name, are_names, are_sem_names, is_shared, is_net, are_sems, same, are_ops, are_edges) refl

-- ---- one graph after another

pub ready-length : (modules : List (List ℕ)) (drafts : List DraftRows) (numbers : List (List TaskNumbers)) → AreReady modules drafts numbers → length numbers ≡ length drafts
ready-length modules [] [] ready = refl
ready-length modules [] (n ∷ numbers) ready = absurd ready
ready-length modules (draft ∷ drafts) [] ready = absurd ready
ready-length modules (draft ∷ drafts) (n ∷ numbers) ready = ap suc (ready-length modules drafts numbers ready.1)

ready-at : (modules : List (List ℕ)) (drafts : List DraftRows) (numbers : List (List TaskNumbers)) (k : ℕ) (d : DraftRows) → AreReady modules drafts numbers → k < length drafts → IsReady modules (get_or drafts k d) (get_or numbers k [])
ready-at modules [] numbers k d ready within = absurd (omega (arith, within))
ready-at modules (draft ∷ drafts) [] k d ready within = absurd ready
ready-at modules (draft ∷ drafts) (n ∷ numbers) zero d ready within = ready.0
ready-at modules (draft ∷ drafts) (n ∷ numbers) (suc k) d ready within = ready-at modules drafts numbers k d ready.1 (omega (arith, within))

-- the graph at a place keeps the rules
pub ready-item : (modules : List (List ℕ)) (drafts : List Draft) (numbers : List (List TaskNumbers)) (k at : ℕ) (draft : Draft) (own : List TaskNumbers) → AreReady modules (map draft_rows drafts) numbers → k < length drafts → draft ≡ get_or drafts k draft
    → at ≡ k → own ≡ get_or numbers at [] → IsReady modules (draft_rows draft) own
ready-item modules drafts numbers k at draft own ready within is same own_is =
    let long : k < length (map draft_rows drafts) = rw (length-map drafts draft_rows) within in
    let here : get_or (map draft_rows drafts) k (draft_rows draft) ≡ draft_rows draft = get_or-map draft_rows drafts k draft (draft_rows draft) within ∙ ap draft_rows (sym is) in
    let number : own ≡ get_or numbers k [] = own_is ∙ ap (λ i. get_or numbers i []) same in
    subst (IsReady modules (draft_rows draft)) (sym number) (subst (λ d. IsReady modules d (get_or numbers k [])) here (ready-at modules (map draft_rows drafts) numbers k (draft_rows draft) ready long))

graphs-snoc : (modules texts : List (List ℕ)) (drafts : List DraftRows) (numbers : List (List TaskNumbers)) (k : ℕ) (d : DraftRows) → k < length drafts → k < length numbers
    → graphs_with modules texts (take (suc k) drafts) (take (suc k) numbers) ≡ graphs_with modules texts (take k drafts) (take k numbers) ++ graph_with modules texts (get_or drafts k d) (get_or numbers k []) ∷ []
graphs-snoc modules texts [] numbers k d in_drafts in_numbers = absurd (omega (arith, in_drafts))
graphs-snoc modules texts (draft ∷ drafts) [] k d in_drafts in_numbers = absurd (omega (arith, in_numbers))
graphs-snoc modules texts (draft ∷ drafts) (n ∷ numbers) zero d in_drafts in_numbers = refl
graphs-snoc modules texts (draft ∷ drafts) (n ∷ numbers) (suc k) d in_drafts in_numbers =
    ap (λ graphs. graph_with modules texts draft n ∷ graphs) (graphs-snoc modules texts drafts numbers k d (omega (arith, in_drafts)) (omega (arith, in_numbers)))

-- one graph more was made
pub graphs-more : (modules texts : List (List ℕ)) (drafts : List Draft) (numbers : List (List TaskNumbers)) (k more at : ℕ) (draft : Draft) (own : List TaskNumbers) (graph : Graph) (old new : List Graph) → AreReady modules (map draft_rows drafts) numbers
    → k < length drafts → draft ≡ get_or drafts k draft → at ≡ k → own ≡ get_or numbers at [] → more ≡ k + 1 → graph_rows graph ≡ graph_with modules texts (draft_rows draft) own → new ≡ old ++ graph ∷ []
    → map graph_rows old ≡ graphs_with modules texts (take k (map draft_rows drafts)) (take k numbers) → map graph_rows new ≡ graphs_with modules texts (take more (map draft_rows drafts)) (take more numbers)
graphs-more modules texts drafts numbers k more at draft own graph old new ready within is same own_is longer made added so_far =
    let long : k < length (map draft_rows drafts) = rw (length-map drafts draft_rows) within in
    let in_numbers : k < length numbers = omega (arith, long, ready-length modules (map draft_rows drafts) numbers ready) in
    let here : get_or (map draft_rows drafts) k (draft_rows draft) ≡ draft_rows draft = get_or-map draft_rows drafts k draft (draft_rows draft) within ∙ ap draft_rows (sym is) in
    let number : own ≡ get_or numbers k [] = own_is ∙ ap (λ i. get_or numbers i []) same in
    let next : more ≡ suc k = omega (arith, longer) in
    let one : graph_rows graph ≡ graph_with modules texts (get_or (map draft_rows drafts) k (draft_rows draft)) (get_or numbers k []) = made ∙ ap (graph_with modules texts (draft_rows draft)) number ∙ ap (λ d. graph_with modules texts d (get_or numbers k [])) (sym here) in
    ap (map graph_rows) added ∙ map-append graph_rows old (graph ∷ []) ∙ ap (λ gs. gs ++ graph_rows graph ∷ []) so_far ∙ ap (λ g. graphs_with modules texts (take k (map draft_rows drafts)) (take k numbers) ++ g ∷ []) one
    ∙ sym (graphs-snoc modules texts (map draft_rows drafts) numbers k (draft_rows draft) long in_numbers) ∙ ap (λ m. graphs_with modules texts (take m (map draft_rows drafts)) (take m numbers)) (sym next)

-- all were made
pub graphs-end : (modules texts : List (List ℕ)) (drafts : List Draft) (numbers : List (List TaskNumbers)) (k : ℕ) (graphs : List Graph) → AreReady modules (map draft_rows drafts) numbers → k ≡ length drafts
    → map graph_rows graphs ≡ graphs_with modules texts (take k (map draft_rows drafts)) (take k numbers) → map graph_rows graphs ≡ graphs_with modules texts (map draft_rows drafts) numbers
graphs-end modules texts drafts numbers k graphs ready all so_far =
    let count : length (map draft_rows drafts) ≡ length drafts = length-map drafts draft_rows in
    let many = ready-length modules (map draft_rows drafts) numbers ready in
    so_far ∙ ap (λ ds. graphs_with modules texts ds (take k numbers)) (take_all k (map draft_rows drafts) (omega (arith, all, count))) ∙ ap (graphs_with modules texts (map draft_rows drafts)) (take_all k numbers (omega (arith, all, count, many)))
