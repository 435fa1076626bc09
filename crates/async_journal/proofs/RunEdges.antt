-- The edges of the net of a run of async tasks, by the tasks that its adds name.
use Rattle.std.proofs.Common.{◌≡◌, ◌≢◌, ◌∙◌, ℕ, zero, suc, ◌+◌, ◌<◌, Bool, true, false, not, ◌&&◌, cond, eqb, List, [], ◌∷◌, ◌++◌, length, Option, Some, None, refl, sym, ap, subst, arith}
use Rattle.std.specs.Prelude.{slice_get, ◌==◌}
use Rattle.std.specs.Option.{option_map_or}
use Rattle.std.specs.List.{AllZip, flat_map}
use Rattle.std.proofs.lemmas.Bool.Decides.{nat_tests}
use Rattle.task_graph.specs.declared.net.TaskRow.{TaskRow}
use Rattle.task_graph.specs.declared.net.EdgeRow.{EdgeRow}
use Rattle.task_graph.specs.Places.{places_from}
use Rattle.task_graph.specs.Net.{chooses, is_weak_row, strong_in, in_edges}
use Rattle.async_tasks.specs.declared.history.AddRow.{AddRow}
use Rattle.async_journal.specs.RunNets.{plain_task, edges_into, edges_of_add, run_net}
use Rattle.async_journal.proofs.ByPlace.{some_same, in_copies}

abbrev pub edge : ℕ → ℕ → EdgeRow
edge a t = record { from = a; to = t; start = false }

-- an edge of these is one from a task to another
abbrev pub IsEdge : List EdgeRow → ℕ → ℕ → ℕ → Type 0
IsEdge whole t e a = slice_get whole e ≡ Some (edge a t)

abbrev leads_to : ℕ → EdgeRow → Bool
leads_to t row = row.to == t

places_same : {X : Type 0} (p q : X → Bool) (n : ℕ) (xs : List X) → ((x : X) → p x ≡ q x) → places_from p n xs ≡ places_from q n xs
places_same p q n [] each = refl
places_same p q n (x ∷ xs) each =
    ap (λ b. cond b (n ∷ places_from p (suc n) xs) (places_from p (suc n) xs)) (each x)
    ∙ ap (λ ns. cond (q x) (n ∷ ns) ns) (places_same p q (suc n) xs each)

-- edges into another task
none_into : (t i : ℕ) (after : List ℕ) (more : List EdgeRow) (n : ℕ) → i ≢ t → places_from (leads_to t) n (edges_into i after ++ more) ≡ places_from (leads_to t) (n + length after) more
none_into t i [] more n other = ap (λ m. places_from (leads_to t) m more) (let e : n ≡ n + 0 = omega arith in e)
none_into t i (a ∷ more_after) more n other =
    let miss : eqb i t ≡ false = grind (arith, nat_tests) in
    ap (λ b. cond b (n ∷ places_from (leads_to t) (suc n) (edges_into i more_after ++ more)) (places_from (leads_to t) (suc n) (edges_into i more_after ++ more))) miss
    ∙ none_into t i more_after more (suc n) other
    ∙ ap (λ m. places_from (leads_to t) m more) (let e : suc n + length more_after ≡ n + length (a ∷ more_after) = omega arith in e)

none_later : (t n i : ℕ) (rows : List AddRow) → ((k : ℕ) (r : AddRow) → slice_get rows k ≡ Some r → r.id ≡ i + k) → t < i → places_from (leads_to t) n (flat_map edges_of_add rows) ≡ []
none_later t n i [] ids before = refl
none_later t n i (r ∷ rs) ids before =
    none_into t r.id r.after (flat_map edges_of_add rs) n (λ same. let e : r.id ≡ i + 0 = ids 0 r refl in absurd (omega arith))
    ∙ none_later t (n + length r.after) (i + 1) rs (λ k q at. let e : q.id ≡ i + suc k = ids (suc k) q at in omega arith) (omega arith)

-- edges into the task
all_into : (t : ℕ) (whole : List EdgeRow) (after : List ℕ) (more : List EdgeRow) (n : ℕ) → ((k : ℕ) (x : EdgeRow) → slice_get (edges_into t after ++ more) k ≡ Some x → slice_get whole (n + k) ≡ Some x) → ((m : ℕ) → places_from (leads_to t) m more ≡ []) →
    AllZip (IsEdge whole t) (places_from (leads_to t) n (edges_into t after ++ more)) after
all_into t whole [] more n in_whole none = subst (λ es. AllZip (IsEdge whole t) es []) (sym (none n)) tt
all_into t whole (a ∷ more_after) more n in_whole none =
    let hit : eqb t t ≡ true = grind (arith, nat_tests) in
    subst (λ b. AllZip (IsEdge whole t) (cond b (n ∷ places_from (leads_to t) (suc n) (edges_into t more_after ++ more)) (places_from (leads_to t) (suc n) (edges_into t more_after ++ more))) (a ∷ more_after)) (sym hit) (
      subst (λ m. slice_get whole m ≡ Some (edge a t)) (let e : n + 0 ≡ n = omega arith in e) (in_whole 0 (edge a t) refl),
      all_into t whole more_after more (suc n) (λ k x at. subst (λ m. slice_get whole m ≡ Some x) (let e : n + suc k ≡ suc n + k = omega arith in e) (in_whole (suc k) x at)) none,
    )

behind_edges : (i : ℕ) (after : List ℕ) (more : List EdgeRow) (k : ℕ) → slice_get (edges_into i after ++ more) (length after + k) ≡ slice_get more k
behind_edges i [] more k = ap (slice_get more) (let e : 0 + k ≡ k = omega arith in e)
behind_edges i (a ∷ more_after) more k =
    ap (slice_get (edges_into i (a ∷ more_after) ++ more)) (let e : length (a ∷ more_after) + k ≡ suc (length more_after + k) = omega arith in e)
    ∙ behind_edges i more_after more k

zip_at : (t : ℕ) (whole : List EdgeRow) (rows : List AddRow) (i j n : ℕ) (row : AddRow) → ((k : ℕ) (r : AddRow) → slice_get rows k ≡ Some r → r.id ≡ i + k) → t ≡ i + j → slice_get rows j ≡ Some row →
    ((k : ℕ) (x : EdgeRow) → slice_get (flat_map edges_of_add rows) k ≡ Some x → slice_get whole (n + k) ≡ Some x) → AllZip (IsEdge whole t) (places_from (leads_to t) n (flat_map edges_of_add rows)) row.after
zip_at t whole [] i j n row ids is at in_whole = absurd (cc)
zip_at t whole (r ∷ rs) i zero n row ids is at in_whole =
    let same : t ≡ r.id = (let e : r.id ≡ i + 0 = ids 0 r refl in omega arith) in
    subst (λ (q : AddRow). AllZip (IsEdge whole t) (places_from (leads_to t) n (edges_into r.id r.after ++ flat_map edges_of_add rs)) q.after) (some_same at)
    (subst (λ u. AllZip (IsEdge whole t) (places_from (leads_to t) n (edges_into u r.after ++ flat_map edges_of_add rs)) r.after) same
    (all_into t whole r.after (flat_map edges_of_add rs) n (λ k x at_k. in_whole k x (subst (λ u. slice_get (edges_into u r.after ++ flat_map edges_of_add rs) k ≡ Some x) same at_k))
    (λ m. none_later t m (i + 1) rs (λ k q at_k. let e : q.id ≡ i + suc k = ids (suc k) q at_k in omega arith) (omega (arith, is)))))
zip_at t whole (r ∷ rs) i (suc j) n row ids is at in_whole =
    subst (λ es. AllZip (IsEdge whole t) es row.after)
    (sym (none_into t r.id r.after (flat_map edges_of_add rs) n (λ same. let e : r.id ≡ i + 0 = ids 0 r refl in absurd (omega (arith, is)))))
    (zip_at t whole rs (i + 1) j (n + length r.after) row (λ k q at_k. let e : q.id ≡ i + suc k = ids (suc k) q at_k in omega arith) (let e : t ≡ (i + 1) + j = omega (arith, is) in e) at
    (λ k x at_k. subst (λ m. slice_get whole m ≡ Some x) (let e : n + (length r.after + k) ≡ (n + length r.after) + k = omega arith in e)
    (in_whole (length r.after + k) x (behind_edges r.id r.after (flat_map edges_of_add rs) k ∙ at_k))))

-- The edges into a task come from the tasks that its add names, in their order.
pub edges_in : (adds : List AddRow) (t : ℕ) (row : AddRow) → ((k : ℕ) (r : AddRow) → slice_get adds k ≡ Some r → r.id ≡ k) → slice_get adds t ≡ Some row → AllZip (IsEdge (run_net adds).edges t) (in_edges (run_net adds) t) row.after
edges_in adds t row ids at =
    zip_at t (flat_map edges_of_add adds) adds 0 t 0 row (λ k r at_k. ids k r at_k ∙ (let e : k ≡ 0 + k = omega arith in e)) (omega arith) at
    (λ k x at_k. subst (λ m. slice_get (flat_map edges_of_add adds) m ≡ Some x) (let e : k ≡ 0 + k = omega arith in e) at_k)

-- All of them are strong.
strong_row : (adds : List AddRow) (row : EdgeRow) → is_weak_row (run_net adds) row ≡ false
strong_row adds row = by_row (slice_get (run_net adds).tasks row.from) refl
  where
    by_row : (o : Option TaskRow) → slice_get (run_net adds).tasks row.from ≡ o → option_map_or (λ (r : TaskRow). chooses r.shape) o false ≡ false
    by_row None is = refl
    by_row (Some r) is = ap (λ (q : TaskRow). chooses q.shape) (in_copies (length adds) row.from plain_task r is)

pub strong_edges : (adds : List AddRow) (t : ℕ) → strong_in (run_net adds) t ≡ in_edges (run_net adds) t
strong_edges adds t = places_same (λ (row : EdgeRow). leads_to t row && not (is_weak_row (run_net adds) row)) (leads_to t) 0 (run_net adds).edges
    (λ row. ap (λ b. leads_to t row && not b) (strong_row adds row) ∙ and_true (leads_to t row))
  where
    and_true : (b : Bool) → (b && true) ≡ b
    and_true true = refl
    and_true false = refl

pub no_weak : (adds : List AddRow) (e : ℕ) → option_map_or (is_weak_row (run_net adds)) (slice_get (run_net adds).edges e) false ≡ false
no_weak adds e = by_row (slice_get (run_net adds).edges e)
  where
    by_row : (o : Option EdgeRow) → option_map_or (is_weak_row (run_net adds)) o false ≡ false
    by_row None = refl
    by_row (Some row) = strong_row adds row
