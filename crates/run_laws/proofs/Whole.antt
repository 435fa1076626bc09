-- In a complete run in which nothing was cut short, the ends of each task are all its one-thread values.
use Rattle.std.proofs.Common.{◌≡◌, ◌≢◌, ℕ, zero, suc, ◌+◌, ◌<◌, ◌≤◌, Bool, true, false, not, ◌&&◌, cond, min, List, [], ◌∷◌, ◌++◌, length, map, Option, Some, None, sym, refl, ap, ◌∙◌, arith, get_or}
use Rattle.std.specs.Prelude.{slice_get, count_by, fold, ◌==◌}
use Rattle.std.specs.Option.{option_map_or}
use Rattle.std.specs.List.{AllByRecursion, AllZip}
use Rattle.std.proofs.lemmas.Bool.{false≢true}
use Rattle.std.proofs.lemmas.Option.{slice_get_within, slice_get-get_or, same_Some}
use Rattle.task_graph.specs.NetRows.{NetRows}
use Rattle.task_graph.specs.Places.{places_from}
use Rattle.task_graph.specs.Net.{IsSource, is_weak, is_weak_row, strong_in}
use Rattle.task_graph.specs.declared.net.EdgeRow.{EdgeRow}
use Rattle.journal_rules.specs.declared.entry.Entry.{Entry}
use Rattle.journal_rules.specs.declared.entry.Entry.TheVariants.{Start, End, Fault, Drop}
use Rattle.journal_rules.specs.declared.entry.DropWhy.TheVariants.{Halted, Limit, Stuck}
use Rattle.journal_rules.specs.Counts.{given, used, used_source, start_at, is_open, is_fault}
use Rattle.journal_rules.specs.Complete.{Complete, least, is_limited}
use Rattle.journal_rules.specs.HaltLimitStuckRule.{is_stuck}
use Rattle.journal_rules.specs.ShapeLegal.{ShapeLegal, MayFollow}
use Rattle.journal_rules.proofs.Snoc.{count_by_push}
use Rattle.journal_rules.proofs.Tallying.{count_by_push_no}
use Rattle.journal_rules.proofs.Reaching.{at_below}
use Rattle.join_words.specs.Ins.{InputValue}
use Rattle.run_frame.specs.declared.run.ValueRow.{ValueRow}
use Rattle.run_frame.specs.Runs.{IsFine}
use Rattle.run_laws.specs.Starts.{rounds_in}
use Rattle.run_laws.specs.OneThreadValue.{TaskEnd, OneAnswer, tokens, source_of, one_thread_value}
use Rattle.run_laws.specs.Ends.{ends, is_task}
use Rattle.run_laws.proofs.Along.{along}
use Rattle.run_laws.proofs.Phases.{Phase, idle, busy, faults_one, stops_one, faults_stop, and_right}
use Rattle.run_laws.proofs.Steps.{starts_in, ends_in, tokens_in}
use Rattle.run_laws.proofs.Values.{Kept, Ran}
use Rattle.run_laws.proofs.Agreement.{Answered, answers_at, agree_from, same_items, rounds_at}
use Rattle.run_laws.proofs.Legally.{Given, kept_all, placed_along, one_thread}
use Rattle.run_laws.proofs.Fronts.{front_get, front_from, front_same, front_tokens, rounds_parts, only_round}
use Rattle.run_laws.specs.Prefixes.{IsPrefixOf}
use Rattle.run_laws.proofs.Reaches.{is_end, ends_reached, Sourced, reach_all}

-- Without a Fault and a Drop at the limit or for want of a unit there is no Drop at all.
Unstopped : (ℕ → Option ℕ) → List Entry → Type 0
Unstopped at b = count_by is_fault b ≡ 0 → count_by is_limited b ≡ 0 → count_by is_stuck b ≡ 0 → (t : ℕ) → count_by (stops_one at t) b ≡ 0

unstopped_step : (net : NetRows) (limit : ℕ) (at : ℕ → Option ℕ) (b : List Entry) (x : Entry) → MayFollow net limit b x → Unstopped at b → Unstopped at (b ++ x ∷ [])
unfolding Unstopped
unstopped_step net limit at b x may kept no_fault no_limit no_stuck t =
    count_by_push_no (stops_one at t) b x (by_entry x may fault_x limit_x stuck_x) ∙ kept (omega (arith, count_by_push is_fault b x, no_fault)) (omega (arith, count_by_push is_limited b x, no_limit)) (omega (arith, count_by_push is_stuck b x, no_stuck)) t
  where
    zeroth : (c : Bool) (k : ℕ) → k + cond c 1 0 ≡ 0 → c ≡ false
    zeroth true k h = absurd (omega arith)
    zeroth false k h = refl

    fault_x : is_fault x ≡ false
    fault_x = zeroth (is_fault x) (count_by is_fault b) (sym (count_by_push is_fault b x) ∙ no_fault)

    limit_x : is_limited x ≡ false
    limit_x = zeroth (is_limited x) (count_by is_limited b) (sym (count_by_push is_limited b x) ∙ no_limit)

    stuck_x : is_stuck x ≡ false
    stuck_x = zeroth (is_stuck x) (count_by is_stuck b) (sym (count_by_push is_stuck b x) ∙ no_stuck)

    none_before : count_by is_fault b ≡ 0
    none_before = omega (arith, count_by_push is_fault b x, no_fault)

    by_entry : (y : Entry) → MayFollow net limit b y → is_fault y ≡ false → is_limited y ≡ false → is_stuck y ≡ false → stops_one at t y ≡ false
    by_entry (Start task cause ins) m f l s = refl
    by_entry (End start gives inner) m f l s = refl
    by_entry (Fault start why) m f l s = absurd (false≢true (sym f))
    by_entry (Drop task cause Halted) m f l s = absurd (omega (arith, m.halt_limit_stuck.dropped, none_before))
    by_entry (Drop task cause Limit) m f l s = absurd (false≢true (sym l))
    by_entry (Drop task cause (Stuck u)) m f l s = absurd (false≢true (sym s))

pub unstopped : (net : NetRows) (limit : ℕ) (h : List Entry) → ShapeLegal net limit h → IsFine h → (t : ℕ) → count_by (stops_one (start_at h) t) h ≡ 0
unfolding Unstopped
unstopped net limit h shape fine =
    (along (MayFollow net limit) (Unstopped (start_at h)) (λ b x may kept. unstopped_step net limit (start_at h) b x may kept) [] h (λ f l s t. refl) shape).1 fine.no_fault fine.none_limited fine.none_stuck

-- what isn't above any is not above the least
pub least_above : (m : ℕ) (g : ℕ → ℕ) (es : List ℕ) → es ≢ [] → AllByRecursion (λ e. m ≤ g e) es → m ≤ least (map g es)
least_above m g [] has each = absurd (has refl)
least_above m g (e ∷ es) has each = fold_above (g e) es each.0 each.1
  where
    fold_above : (n : ℕ) (ds : List ℕ) → m ≤ n → AllByRecursion (λ d. m ≤ g d) ds → m ≤ fold min n (map g ds)
    fold_above n [] low each = low
    fold_above n (d ∷ ds) low each = fold_above (min n (g d)) ds (omega (arith, each.0)) each.1

-- what each has by what stands beside it
zip_each : {X Y : Type 0} (R : X → Y → Type 0) (P : X → Type 0) → ((x : X) (y : Y) → R x y → P x) → (xs : List X) (ys : List Y) → AllZip R xs ys → AllByRecursion P xs
zip_each R P less [] ys all = tt
zip_each R P less (x ∷ xs) [] all = absurd all
zip_each R P less (x ∷ xs) (y ∷ ys) all = (less x y all.0, zip_each R P less xs ys all.1)

-- a task without strong in-edges is a source task, where no edge is weak
source_when : (net : NetRows) (t : ℕ) → ((e : ℕ) → is_weak net e ≡ false) → strong_in net t ≡ [] → IsSource net t
source_when net t strong none = same_none (λ (row : EdgeRow). row.to == t) (λ (row : EdgeRow). not (is_weak_row net row)) 0 net.edges (λ i row is. ap not (sym (ap (λ o. option_map_or (is_weak_row net) o false) is) ∙ strong i)) none
  where
    same_none : {X : Type 0} (p q : X → Bool) (n : ℕ) (xs : List X) → ((i : ℕ) (x : X) → slice_get xs i ≡ Some x → q x ≡ true) → places_from (λ x. p x && q x) n xs ≡ [] → places_from p n xs ≡ []
    same_none p q n [] each h = refl
    same_none p q n (x ∷ xs) each h = by_test (p x) (ap (λ b. cond (p x && b) (n ∷ places_from (λ y. p y && q y) (suc n) xs) (places_from (λ y. p y && q y) (suc n) xs)) (sym (each 0 x refl)) ∙ h) (same_none p q (suc n) xs (λ i y is. each (suc i) y is))
      where
        by_test : (b : Bool) → cond (b && true) (n ∷ places_from (λ y. p y && q y) (suc n) xs) (places_from (λ y. p y && q y) (suc n) xs) ≡ [] → (places_from (λ y. p y && q y) (suc n) xs ≡ [] → places_from p (suc n) xs ≡ [])
            → cond b (n ∷ places_from p (suc n) xs) (places_from p (suc n) xs) ≡ []
        by_test true h2 rest = absurd (cc)
        by_test false h2 rest = rest h2

-- a run that is complete and fine
pub record Finished (net : NetRows) (limit : ℕ) (h : List Entry) : Type 0 where
  pub complete : Complete net limit h
  pub fine : IsFine h
  pub sources_in : (e : ℕ) → source_of net e < length net.tasks

pub all_ended : {V : Type 0} (net : NetRows) (limit : ℕ) (one : OneAnswer V) (values : List (ValueRow V)) (h : List Entry) → Given net limit one values h → Finished net limit h → (t : ℕ) → length (ends_in values (start_at h) t h) ≡ length (starts_in values t h)
all_ended net limit one values h is done t = by_phase ((placed_along net limit h is.shape is.steady.single).1.phases t)
  where
    at : ℕ → Option ℕ
    at = start_at h

    ran : Ran net one values at t h (starts_in values t h) (ends_in values at t h)
    ran = (kept_all net limit one values h is).1.ran t

    none : count_by (faults_one at t) h ≤ 0
    none = omega (arith, faults_stop at t h, unstopped net limit h is.shape done.fine t)

    by_phase : Phase at t h → length (ends_in values at t h) ≡ length (starts_in values t h)
    by_phase (idle same rests) = omega (arith, ran.begun, ran.ended, same, none)
    by_phase (busy n one_more runs) =
        let opened : is_open h n ≡ true = and_right (is_task t (start_at h n)) _ runs.runs in
        absurd (false≢true (sym (at_below (λ m. is_open h m ≡ false) (length h) done.complete.none_open n runs.below) ∙ opened))

-- each round of the one-thread values has a Start
pub round_started : {V : Type 0} (net : NetRows) (limit : ℕ) (one : OneAnswer V) (values : List (ValueRow V)) (h : List Entry) → Given net limit one values h → Finished net limit h
    → (n t : ℕ) → t < length net.tasks → ((p : ℕ) → p < length net.tasks → IsPrefixOf (one_thread_value net one n p) (ends values h p))
    → (k : ℕ) (r : List (InputValue V)) → slice_get (rounds_in net one n t) k ≡ Some r → k < length (starts_in values t h)
round_started {V} net limit one values h is done n t below before k r at_k = by_edges (strong_in net t) refl
  where
    at : ℕ → Option ℕ
    at = start_at h

    kept : Kept net one values at h
    kept = (kept_all net limit one values h is).1

    ran : Ran net one values at t h (starts_in values t h) (ends_in values at t h)
    ran = kept.ran t

    parts : ℕ → List (InputValue V)
    parts e = tokens net e (one_thread_value net one n (source_of net e))

    still : count_by (stops_one at t) h ≡ 0
    still = unstopped net limit h is.shape done.fine t

    by_edges : (es : List ℕ) → strong_in net t ≡ es → k < length (starts_in values t h)
    by_edges [] none =
        let once : used_source t h ≡ 1 = at_below (λ s. IsSource net s → used_source s h ≡ 1) (length net.tasks) done.complete.sources t below (source_when net t is.strong none) in
        let sourced : Sourced at t h = (reach_all net limit one values h is).sources t none in
        omega (arith, ran.begun, sourced.not_dropped still, once, only_round parts (strong_in net t) k r at_k none)
    by_edges (e ∷ es) has =
        let some : strong_in net t ≢ [] = λ none. absurd (cc) in
        let each_given : AllByRecursion (λ f. k + 1 ≤ given net f h) (strong_in net t) =
        zip_each (λ f x. slice_get (parts f) k ≡ Some x) (λ f. k + 1 ≤ given net f h)
        (λ f x at_f. omega (arith, (kept.held f).count, slice_get_within _ k x (front_get (parts f) (tokens_in net values at f h) (front_tokens net f _ _ (before (source_of net f) (done.sources_in f))) k x at_f)))
        (strong_in net t) r (rounds_parts parts (strong_in net t) k r at_k) in
        let used_all : used t h ≡ least (map (λ f. given net f h) (strong_in net t)) = at_below (λ s. strong_in net s ≢ [] → used s h ≡ least (map (λ f. given net f h) (strong_in net s))) (length net.tasks) done.complete.strong t below some in
        omega (arith, ran.used_up still some, used_all, least_above (k + 1) (λ f. given net f h) (strong_in net t) some each_given)

-- each element of the one-thread values has an end
pub all_values : {V : Type 0} (net : NetRows) (limit : ℕ) (one : OneAnswer V) (values : List (ValueRow V)) (h : List Entry) → Given net limit one values h → Finished net limit h
    → (n t : ℕ) → t < length net.tasks → IsPrefixOf (one_thread_value net one n t) (ends values h t)
all_values net limit one values h is done zero t below = tt
all_values {V} net limit one values h is done (suc n) t below = front_from _ (ends values h t) (each (λ p p_below. all_values net limit one values h is done n p p_below))
  where
    each : ((p : ℕ) → p < length net.tasks → IsPrefixOf (one_thread_value net one n p) (ends values h p)) → (k : ℕ) (u : TaskEnd V) → slice_get (one_thread_value net one (suc n) t) k ≡ Some u → slice_get (ends values h t) k ≡ Some u
    each before k u at_u =
        let a : Answered (one t) (rounds_in net one n t) k u = answers_at (one t) (rounds_in net one n t) k u at_u in
        let there = slice_get-get_or (ends values h t) k u (omega (arith, round_started net limit one values h is done n t below before k a.item a.at_item, all_ended net limit one values h is done t)) in
        there ∙ ap Some (one_thread net limit one values h is (suc n) t k u (get_or (ends values h t) k u) at_u there)

-- The ends of each task of a complete and fine run are its one-thread values.
pub whole_values : {V : Type 0} (net : NetRows) (limit : ℕ) (one : OneAnswer V) (values : List (ValueRow V)) (h : List Entry) → Given net limit one values h → Finished net limit h
    → (m t : ℕ) → t < length net.tasks → ends values h t ≡ one_thread_value net one (m + count_by is_end h) t
whole_values net limit one values h is done m t below = front_same _ _ (ends_reached net limit one values h is m t) (all_values net limit one values h is done (m + count_by is_end h) t below)

-- and no round of a task has a fault
pub no_faults : {V : Type 0} (net : NetRows) (limit : ℕ) (one : OneAnswer V) (values : List (ValueRow V)) (h : List Entry) → Given net limit one values h → Finished net limit h
    → (n t : ℕ) → t < length net.tasks → (k : ℕ) (r : List (InputValue V)) → slice_get (rounds_in net one n t) k ≡ Some r → one t r ≢ None
no_faults {V} net limit one values h is done n t below k r at_k fault =
    let at : ℕ → Option ℕ = start_at h in
    let kept : Kept net one values at h = (kept_all net limit one values h is).1 in
    let before : (p : ℕ) → p < length net.tasks → IsPrefixOf (one_thread_value net one n p) (ends values h p) = λ p p_below. all_values net limit one values h is done n p p_below in
    let started : k < length (starts_in values t h) = round_started net limit one values h is done n t below before k r at_k in
    let at_start : slice_get (starts_in values t h) k ≡ Some (get_or (starts_in values t h) k r) = slice_get-get_or (starts_in values t h) k r started in
    let same : r ≡ get_or (starts_in values t h) k r =
    same_items (λ e. tokens net e (one_thread_value net one n (source_of net e))) (λ e. tokens_in net values at e h) k (strong_in net t) r (get_or (starts_in values t h) k r)
    (λ e. agree_from _ _ (λ j x y at_x at_y. same_Some _ _ (sym (front_get _ (tokens_in net values at e h) (front_tokens net e _ _ (before (source_of net e) (done.sources_in e))) j x at_x) ∙ at_y)))
    (rounds_at _ k r at_k) (kept.finds t k _ at_start) in
    no_such (slice_get (ends_in values at t h) k) refl (omega (arith, started, all_ended net limit one values h is done t)) (λ u at_u. sym fault ∙ ap (one t) same ∙ (kept.ran t).answered k _ u at_start at_u)
  where
    no_such : (o : Option (TaskEnd V)) → slice_get (ends_in values (start_at h) t h) k ≡ o → k < length (ends_in values (start_at h) t h) → ((u : TaskEnd V) → slice_get (ends_in values (start_at h) t h) k ≡ Some u → None ≡ Some u) → ⊥
    no_such None is2 in_list each = past (ends_in values (start_at h) t h) k is2 in_list
      where
        past : {X : Type 0} (xs : List X) (j : ℕ) → slice_get xs j ≡ None → j < length xs → ⊥
        past [] j none less = absurd (omega arith)
        past (x ∷ xs) zero none less = absurd (cc)
        past (x ∷ xs) (suc j) none less = past xs j none (omega arith)
    no_such (Some u) is2 in_list each = let never = each u is2 in absurd (cc)
