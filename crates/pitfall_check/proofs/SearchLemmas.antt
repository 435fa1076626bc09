-- What a depth-first search keeps.
use Rattle.std.proofs.Common.{◌≡◌, ◌≢◌, ◌⊎◌, inl, inr, ◌==◌, ℕ, ◌+◌, ◌<◌, ◌≤◌, Bool, true, false, not, ◌&&◌, cond, zero, suc, List, [], ◌∷◌, ◌++◌, length, get_or, replicate, slice_get, slice_set, reverse, Option, Some, None, refl, sym, ap, ◌∙◌, subst, eq-eqb, length-append, arith}
use Rattle.std.specs.Option.{option_map, option_map_or}
use Rattle.std.proofs.lemmas.Bool.{eqb-true}
use Rattle.std.specs.List.{Contains, All, AllPairs, count_by}
use Rattle.std.proofs.lemmas.List.{get_or-set_same, get_or-set_other, get_or_append_left, get_or_default, get_or-replicate, get_or_past, length-set, length-replicate, reverse-append}
use Rattle.std.proofs.lemmas.List.Sums.{sum_by-cons}
use Rattle.std.proofs.str.Laws.{order}
use Rattle.std.proofs.lemmas.List.Elements.{All-nil, All-push, All-contains, Contains-push, Contains-push_cases, Contains-append_left, Contains-append_right, Contains-append_cases, Contains-get_or}
use Rattle.std.proofs.lemmas.List.Quantifiers.{all_pairs_push}
use Rattle.task_graph.specs.declared.net.EdgeRow.{EdgeRow}
use Rattle.task_graph.specs.declared.net.TaskRow.{TaskRow}
use Rattle.task_graph.specs.NetRows.{NetRows}
use Rattle.task_graph.specs.Net.{IsNet, is_weak, task_chooses, out_edges}
use Rattle.pitfall_check.specs.declared.progress.Progress.{Progress}
use Rattle.pitfall_check.specs.declared.progress.Progress.TheVariants.{Unseen, Open, Done}
use Rattle.pitfall_check.specs.inside.Steps.{IsStrongStep, stays, onward, edge_to}
use Rattle.pitfall_check.specs.inside.SearchRules.{progress_of, is_unseen, leads_to_unseen, NoneLeadsToUnseen, Precedes, IsFinishOrder, IsSearch, FindsNext, OnlySeesMore, IsFullOrder}
use Rattle.pitfall_check.proofs.PlaceLemmas.{read_of_zeros, passing_listed, member_cases, member_first, member_later, no_member}
use Rattle.pitfall_check.proofs.EdgeLemmas.{both}
use Rattle.pitfall_check.proofs.StepLemmas.{out_passes, not_true, same_value, weak_where_chooses}
use Rattle.pitfall_check.proofs.SpreadLemmas.{same_or_not, count_by-set_no, count_by-set_same}

-- a test that fails where a weaker one does
fails_both : (a b c : Bool) → (b ≡ false → c ≡ false) → (a && b) ≡ false → (a && c) ≡ false
fails_both false b c weaker fails = refl
fails_both true b c weaker fails = weaker fails

fails_at : {X : Type 0} (f g : X → Bool) (o : Option X) → ((x : X) → f x ≡ false → g x ≡ false) → option_map_or f o false ≡ false → option_map_or g o false ≡ false
fails_at f g None weaker fails = refl
fails_at f g (Some x) weaker fails = weaker x fails

-- a task that was seen stays seen when another state of a seen task is noted
pub seen_after : (states : List Progress) (t : ℕ) (now : Progress) → t < length states → is_unseen now ≡ false → OnlySeesMore states (slice_set states t now)
seen_after states t now below seen u was = elim (same_or_not u t) [
  | inl same ↦ ap (λ v. is_unseen (get_or (slice_set states t now) v Unseen)) same ∙ ap is_unseen (get_or-set_same states t now Unseen below) ∙ seen
  | inr other ↦ ap is_unseen (get_or-set_other states t u now Unseen other) ∙ was
]

leads_on_after : (net : NetRows) (old new : List Progress) (e : ℕ) → OnlySeesMore old new → leads_to_unseen net old e ≡ false → leads_to_unseen net new e ≡ false
leads_on_after net old new e more fails =
    fails_both (not (is_weak net e)) (option_map_or (λ (row : EdgeRow). is_unseen (progress_of old row.to)) (slice_get net.edges e) false) (option_map_or (λ (row : EdgeRow). is_unseen (progress_of new row.to)) (slice_get net.edges e) false)
    (fails_at (λ (row : EdgeRow). is_unseen (progress_of old row.to)) (λ (row : EdgeRow). is_unseen (progress_of new row.to)) (slice_get net.edges e) (λ row. more row.to)) fails

NoneLeadsToUnseen-after : (net : NetRows) (old new : List Progress) (t n : ℕ) → OnlySeesMore old new → NoneLeadsToUnseen net old t n → NoneLeadsToUnseen net new t n
NoneLeadsToUnseen-after net old new t n more none k low below = leads_on_after net old new (get_or (out_edges net t) k 0) more (none k low below)

-- where no edge out of a task leads on, a strong step out of it leads to a task that was seen
step_seen : (net : NetRows) (states : List Progress) (a b : ℕ) → IsStrongStep net a b → NoneLeadsToUnseen net states a (length (out_edges net a)) → is_unseen (progress_of states b) ≡ false
step_seen net states a b s none =
    let here = passing_listed (λ (row : EdgeRow). row.from == a) net.edges s.step.edge (record { item = s.step.row; is = s.step.is; passes = eq-eqb s.step.row.from a s.step.from }) in
    at_place here.0 here.1 (sym (get_or_default (out_edges net a) here.0 0 s.step.edge here.1 ∙ here.2))
  where
    at_place : (k : ℕ) → k < length (out_edges net a) → s.step.edge ≡ get_or (out_edges net a) k 0 → is_unseen (progress_of states b) ≡ false
    at_place k below same =
        let fails : leads_to_unseen net states s.step.edge ≡ false = subst (λ e. leads_to_unseen net states e ≡ false) (sym same) (none k below below) in
        let strong = s.strong in
        let head : option_map_or (λ (row : EdgeRow). is_unseen (progress_of states row.to)) (slice_get net.edges s.step.edge) false ≡ is_unseen (progress_of states s.step.row.to) = ap (λ o. option_map_or (λ (row : EdgeRow). is_unseen (progress_of states row.to)) o false) s.step.is in
        let plain = subst (λ w. (not w && option_map_or (λ (row : EdgeRow). is_unseen (progress_of states row.to)) (slice_get net.edges s.step.edge) false) ≡ false) strong fails in
        ap (λ u. is_unseen (progress_of states u)) (sym s.step.to) ∙ sym head ∙ plain

-- a task that was seen is open or finished
seen_cases : (p : Progress) → is_unseen p ≡ false → (p ≡ Open) ⊎ (p ≡ Done)
seen_cases Unseen seen = absurd (cc)
seen_cases Open seen = inl refl
seen_cases Done seen = inr refl

open_not_done : (states : List Progress) (a b : ℕ) → progress_of states a ≡ Open → progress_of states b ≡ Done → a ≢ b
open_not_done states a b opens done same = absurd (let here = ap (progress_of states) same in cc)

unseen_not_open : (states : List Progress) (a b : ℕ) → progress_of states a ≡ Unseen → progress_of states b ≡ Open → b ≢ a
unseen_not_open states a b unseen opens same = absurd (let here = ap (progress_of states) same in cc)

unseen_not_done : (states : List Progress) (a b : ℕ) → progress_of states a ≡ Unseen → progress_of states b ≡ Done → b ≢ a
unseen_not_done states a b unseen done same = absurd (let here = ap (progress_of states) same in cc)

-- members of a list the other way round
pub member_of_reverse : {X : Type 0} (xs : List X) (x : X) → Contains (reverse xs) x → Contains xs x
member_of_reverse [] x here = here
member_of_reverse (y ∷ ys) x here = elim (Contains-append_cases (reverse ys) (y ∷ []) x (subst (λ zs. Contains zs x) (reverse-append (y ∷ []) ys) here)) [
  | inl later ↦ member_later y ys x (member_of_reverse ys x later)
  | inr first ↦ elim (member_cases y [] x first) [
    | inl same ↦ subst (Contains (y ∷ ys)) same (member_first y ys)
    | inr none ↦ absurd (no_member x none)
  ]
]

pub member_reversed : {X : Type 0} (xs : List X) (x : X) → Contains xs x → Contains (reverse xs) x
member_reversed [] x here = here
member_reversed (y ∷ ys) x here = subst (λ zs. Contains zs x) (sym (reverse-append (y ∷ []) ys)) (elim (member_cases y ys x here) [
  | inl same ↦ Contains-append_right (reverse ys) (y ∷ []) x (subst (Contains (y ∷ [])) same (member_first y []))
  | inr later ↦ Contains-append_left (reverse ys) (y ∷ []) x (member_reversed ys x later)
])

-- the last item of a list
last_item : (xs : List ℕ) (x d : ℕ) → get_or (xs ++ x ∷ []) (length xs) d ≡ x
last_item [] x d = refl
last_item (y ∷ ys) x d = last_item ys x d

front : (P : ℕ → Type 0) (xs ys : List ℕ) → All P (xs ++ ys) → All P xs
front P xs ys each k d below = subst P (get_or_append_left xs ys d k below) (each k d (omega (arith, below, length-append xs ys)))

-- a task is put on the path
module _ (net : NetRows) (states : List Progress) (cursors path done : List ℕ) (t : ℕ) (search : IsSearch net states cursors path done) (in_range : t < length net.tasks)
    (unseen : progress_of states t ≡ Unseen) (leads : All (λ a. Precedes net a t) path) where
  now : List Progress
  now = slice_set states t Open

  below : t < length states
  below = omega (arith, in_range, search.states_size)

  opened : progress_of (slice_set states t Open) t ≡ Open
  opened = get_or-set_same states t Open Unseen below

  other_state : (u : ℕ) → u ≢ t → progress_of (slice_set states t Open) u ≡ progress_of states u
  other_state u other = get_or-set_other states t u Open Unseen other

  more : OnlySeesMore states (slice_set states t Open)
  more = seen_after states t Open below refl

  path_still_open : All (λ u. progress_of (slice_set states t Open) u ≡ Open) path
  path_still_open k d inside =
      let opens = search.path_open k d inside in
      other_state (get_or path k d) (unseen_not_open states t (get_or path k d) unseen opens) ∙ opens

  order_still_done : All (λ u. progress_of (slice_set states t Open) u ≡ Done) done
  order_still_done k d inside =
      let is = search.order_done k d inside in
      other_state (get_or done k d) (unseen_not_done states t (get_or done k d) unseen is) ∙ is

  on_path : (u : ℕ) → progress_of (slice_set states t Open) u ≡ Open → Contains (path ++ t ∷ []) u
  on_path u opens = elim (same_or_not u t) [
    | inl same ↦ subst (Contains (path ++ t ∷ [])) (sym same) (Contains-push path t)
    | inr other ↦ Contains-append_left path (t ∷ []) u (search.open_on_path u (sym (other_state u other) ∙ opens))
  ]

  was_done : (u : ℕ) → progress_of (slice_set states t Open) u ≡ Done → progress_of states u ≡ Done
  was_done u is = sym (other_state u (λ same. absurd (open_not_done (slice_set states t Open) t u opened is (sym same)))) ∙ is

  pub IsSearch-open : IsSearch net (slice_set states t Open) cursors (path ++ t ∷ []) done
  IsSearch-open = record {
    well_formed = search.well_formed;
    states_size = length-set states t Open ∙ search.states_size;
    cursors_size = search.cursors_size;
    path_in_range = All-push (λ u. u < length net.tasks) path t search.path_in_range in_range;
    path_open = All-push (λ u. progress_of (slice_set states t Open) u ≡ Open) path t path_still_open opened;
    open_on_path = on_path;
    path_leads = all_pairs_push (λ a b. (a ≢ b) × Precedes net a b) path t search.path_leads (λ k d inside. (unseen_not_open states t (get_or path k d) unseen (search.path_open k d inside), leads k d inside));
    passed = λ u. NoneLeadsToUnseen-after net states (slice_set states t Open) u (get_or cursors u 0) more (search.passed u);
    order_in_range = search.order_in_range;
    order_done = order_still_done;
    done_in_order = λ u is. search.done_in_order u (was_done u is);
    done_passed = λ u is. NoneLeadsToUnseen-after net states (slice_set states t Open) u (length (out_edges net u)) more (search.done_passed u (was_done u is));
    finished = search.finished;
    count = omega (arith, search.count, length-append path (t ∷ []), one_less);
  }
    where
      one_less : count_by is_unseen (slice_set states t Open) + 1 ≡ count_by is_unseen states
      one_less = count_by-set_no is_unseen states t Open Unseen below (ap is_unseen unseen) refl

-- the last task of the path is finished
module _ (net : NetRows) (states : List Progress) (cursors path done : List ℕ) (t : ℕ) (search : IsSearch net states cursors (path ++ t ∷ []) done) where
  last_place : length path < length (path ++ t ∷ [])
  last_place = omega (arith, length-append path (t ∷ []))

  last_open : progress_of states t ≡ Open
  last_open = subst (λ u. progress_of states u ≡ Open) (last_item path t 0) (search.path_open (length path) 0 last_place)

  last_in_range : t < length net.tasks
  last_in_range = subst (λ u. u < length net.tasks) (last_item path t 0) (search.path_in_range (length path) 0 last_place)

  -- each earlier task of the path is another, and leads to the last
  before_last : (k d : ℕ) → k < length path → (get_or path k d ≢ t) × Precedes net (get_or path k d) t
  before_last k d inside =
      subst (λ u. (get_or path k d ≢ u) × Precedes net (get_or path k d) u) (last_item path t d)
      (subst (λ u. (u ≢ get_or (path ++ t ∷ []) (length path) d) × Precedes net u (get_or (path ++ t ∷ []) (length path) d)) (get_or_append_left path (t ∷ []) d k inside)
      (search.path_leads k (length path) d inside last_place))

  member_leads : (u : ℕ) → Contains path u → Precedes net u t
  member_leads u (k, inside, is) = subst (λ v. Precedes net v t) is (before_last k u inside).1

  -- the found edge is a step to a task that wasn't seen, to which the whole path leads
  pub path_leads_on : (b : ℕ) → IsStrongStep net t b → All (λ a. Precedes net a b) (path ++ t ∷ [])
  path_leads_on b step = All-push (λ a. Precedes net a b) path t (λ k d inside. onward (before_last k d inside).1 step) (onward stays step)

  pub path_task_in_range : t < length net.tasks
  path_task_in_range = last_in_range

  state_below : t < length states
  state_below = omega (arith, last_in_range, search.states_size)

  -- what was seen stays so
  pub finish_sees_more : OnlySeesMore states (slice_set states t Done)
  finish_sees_more = seen_after states t Done state_below refl

  -- as many tasks weren't seen as before, since this one was
  pub finish_as_many : count_by is_unseen (slice_set states t Done) ≡ count_by is_unseen states
  finish_as_many = count_by-set_same is_unseen states t Done Unseen state_below (ap is_unseen last_open) refl

  module _ (none : NoneLeadsToUnseen net states t (length (out_edges net t))) where
    closed : progress_of (slice_set states t Done) t ≡ Done
    closed = get_or-set_same states t Done Unseen state_below

    kept_state : (u : ℕ) → u ≢ t → progress_of (slice_set states t Done) u ≡ progress_of states u
    kept_state u other = get_or-set_other states t u Done Unseen other

    front_open : All (λ u. progress_of (slice_set states t Done) u ≡ Open) path
    front_open k d inside = kept_state (get_or path k d) (before_last k d inside).0 ∙ front (λ u. progress_of states u ≡ Open) path (t ∷ []) search.path_open k d inside

    still_on_path : (u : ℕ) → progress_of (slice_set states t Done) u ≡ Open → Contains path u
    still_on_path u opens = by_cases (Contains-push_cases path t u (search.open_on_path u (sym (kept_state u other) ∙ opens)))
      where
        other : u ≢ t
        other = open_not_done (slice_set states t Done) u t opens closed

        by_cases : Contains path u ⊎ (t ≡ u) → Contains path u
        by_cases (inl inside) = inside
        by_cases (inr same) = absurd (other (sym same))

    front_leads : AllPairs (λ a b. (a ≢ b) × Precedes net a b) path
    front_leads i j d before inside =
        subst (λ u. (u ≢ get_or path j d) × Precedes net u (get_or path j d)) (get_or_append_left path (t ∷ []) d i (omega (arith, before, inside)))
        (subst (λ u. (get_or (path ++ t ∷ []) i d ≢ u) × Precedes net (get_or (path ++ t ∷ []) i d) u) (get_or_append_left path (t ∷ []) d j inside)
        (search.path_leads i j d before (omega (arith, inside, last_place))))

    order_done_now : All (λ u. progress_of (slice_set states t Done) u ≡ Done) done
    order_done_now k d inside =
        let is = search.order_done k d inside in
        kept_state (get_or done k d) (λ same. open_not_done states t (get_or done k d) last_open is (sym same)) ∙ is

    in_order_now : (u : ℕ) → progress_of (slice_set states t Done) u ≡ Done → Contains (done ++ t ∷ []) u
    in_order_now u is = elim (same_or_not u t) [
      | inl same ↦ subst (Contains (done ++ t ∷ [])) (sym same) (Contains-push done t)
      | inr other ↦ Contains-append_left done (t ∷ []) u (search.done_in_order u (sym (kept_state u other) ∙ is))
    ]

    done_passed_now : (u : ℕ) → progress_of (slice_set states t Done) u ≡ Done → NoneLeadsToUnseen net (slice_set states t Done) u (length (out_edges net u))
    done_passed_now u is = NoneLeadsToUnseen-after net states (slice_set states t Done) u (length (out_edges net u)) finish_sees_more (elim (same_or_not u t) [
      | inl same ↦ subst (λ v. NoneLeadsToUnseen net states v (length (out_edges net v))) (sym same) none
      | inr other ↦ search.done_passed u (sym (kept_state u other) ∙ is)
    ])

    not_twice : ¬ Contains (reverse done) t
    not_twice here =
        let is = All-contains (λ u. progress_of states u ≡ Done) done t search.order_done (member_of_reverse done t here) in
        open_not_done states t t last_open is refl

    -- none of the edges of the finished tasks leads on
    passed_all : (a : ℕ) → Contains (t ∷ reverse done) a → NoneLeadsToUnseen net states a (length (out_edges net a))
    passed_all a here = elim (member_cases t (reverse done) a here) [
      | inl same ↦ subst (λ u. NoneLeadsToUnseen net states u (length (out_edges net u))) same none
      | inr among ↦ search.done_passed a (All-contains (λ u. progress_of states u ≡ Done) done a search.order_done (member_of_reverse done a among))
    ]

    leads_back : (a b : ℕ) → Contains (t ∷ reverse done) a → IsStrongStep net a b → Contains (t ∷ reverse done) b ⊎ Precedes net b t
    leads_back a b here step = elim (seen_cases (progress_of states b) (step_seen net states a b step (passed_all a here))) [
      | inl opens ↦ elim (Contains-push_cases path t b (search.open_on_path b opens)) [
        | inl inside ↦ inr (member_leads b inside)
        | inr same ↦ inl (subst (Contains (t ∷ reverse done)) same (member_first t (reverse done)))
      ]
      | inr is ↦ inl (member_later t (reverse done) b (member_reversed done b (search.done_in_order b is)))
    ]

    pub IsSearch-finish : IsSearch net (slice_set states t Done) cursors path (done ++ t ∷ [])
    IsSearch-finish = record {
      well_formed = search.well_formed;
      states_size = length-set states t Done ∙ search.states_size;
      cursors_size = search.cursors_size;
      path_in_range = front (λ u. u < length net.tasks) path (t ∷ []) search.path_in_range;
      path_open = front_open;
      open_on_path = still_on_path;
      path_leads = front_leads;
      passed = λ u. NoneLeadsToUnseen-after net states (slice_set states t Done) u (get_or cursors u 0) finish_sees_more (search.passed u);
      order_in_range = All-push (λ u. u < length net.tasks) done t search.order_in_range last_in_range;
      order_done = All-push (λ u. progress_of (slice_set states t Done) u ≡ Done) done t order_done_now closed;
      done_in_order = in_order_now;
      done_passed = done_passed_now;
      finished = subst (IsFinishOrder net) (sym (reverse-append done (t ∷ []))) (search.finished, not_twice, leads_back);
      count = omega (arith, search.count, length-append path (t ∷ []), length-append done (t ∷ []), finish_as_many);
    }

-- a task's cursor goes on past edges that don't lead on
pub IsSearch-advance : (net : NetRows) (states : List Progress) (cursors path done : List ℕ) (t place : ℕ) → t < length net.tasks → IsSearch net states cursors path done
    → NoneLeadsToUnseen net states t place → IsSearch net states (slice_set cursors t place) path done
IsSearch-advance net states cursors path done t place in_range search none = record {
  well_formed = search.well_formed;
  states_size = search.states_size;
  cursors_size = length-set cursors t place ∙ search.cursors_size;
  path_in_range = search.path_in_range;
  path_open = search.path_open;
  open_on_path = search.open_on_path;
  path_leads = search.path_leads;
  passed = λ u. elim (same_or_not u t) [
    | inl same ↦
        let at : get_or (slice_set cursors t place) u 0 ≡ place = ap (λ v. get_or (slice_set cursors t place) v 0) same ∙ get_or-set_same cursors t place 0 (omega (arith, in_range, search.cursors_size)) in
        subst (λ v. NoneLeadsToUnseen net states v (get_or (slice_set cursors t place) u 0)) (sym same) (subst (NoneLeadsToUnseen net states t) (sym at) none)
    | inr other ↦ subst (NoneLeadsToUnseen net states u) (sym (get_or-set_other cursors t u place 0 other)) (search.passed u)
  ];
  order_in_range = search.order_in_range;
  order_done = search.order_done;
  done_in_order = search.done_in_order;
  done_passed = search.done_passed;
  finished = search.finished;
  count = search.count;
}

pub unseen_is : (p : Progress) → is_unseen p ≡ true → p ≡ Unseen
unseen_is Unseen is = refl
unseen_is Open is = absurd (cc)
unseen_is Done is = absurd (cc)

-- an edge that leads on is a strong step to a task that wasn't seen
pub record StepsOn (net : NetRows) (states : List Progress) (t b : ℕ) : Type 0 where
  pub step : IsStrongStep net t b
  pub unseen : progress_of states b ≡ Unseen

pub found_step : (net : NetRows) (states : List Progress) (t place b : ℕ) → FindsNext net states t place → edge_to net (get_or (out_edges net t) place 0) ≡ Some b → StepsOn net states t b
found_step net states t place b found ends =
    let e : ℕ = get_or (out_edges net t) place 0 in
    let unseen_row : EdgeRow → Bool = λ row. is_unseen (progress_of states row.to) in
    let at = out_passes net t e (Contains-get_or (out_edges net t) place 0 found.below) in
    let tests = both (not (is_weak net e)) (option_map_or unseen_row (slice_get net.edges e) false) found.leads in
    let to : at.item.to ≡ b = same_value at.item.to b (sym (ap (option_map (λ (row : EdgeRow). row.to)) at.is) ∙ ends) in
    record {
      step = record { step = record { edge = e; row = at.item; is = at.is; from = eqb-true at.item.from t at.passes; to = to }; strong = not_true (is_weak net e) tests.0 };
      unseen = ap (progress_of states) (sym to) ∙ unseen_is (progress_of states at.item.to) (sym (ap (λ o. option_map_or unseen_row o false) at.is) ∙ tests.1);
    }

-- whether an edge leads on, by its ends
pub leads_to_unseen_by : (net : NetRows) (states : List Progress) (t e b : ℕ) → Contains (out_edges net t) e → edge_to net e ≡ Some b
    → leads_to_unseen net states e ≡ (not (task_chooses net t) && is_unseen (progress_of states b))
leads_to_unseen_by net states t e b here ends =
    let unseen_row : EdgeRow → Bool = λ row. is_unseen (progress_of states row.to) in
    let at = out_passes net t e here in
    let to : at.item.to ≡ b = same_value at.item.to b (sym (ap (option_map (λ (row : EdgeRow). row.to)) at.is) ∙ ends) in
    ap (λ w. not w && option_map_or unseen_row (slice_get net.edges e) false) (weak_where_chooses net t e here)
    ∙ ap (λ u. not (task_chooses net t) && u) (ap (λ o. option_map_or unseen_row o false) at.is ∙ ap (λ u. is_unseen (progress_of states u)) to)

with_true : (b : Bool) → (b && true) ≡ b
with_true true = refl
with_true false = refl

pub leads_where_unseen : (net : NetRows) (states : List Progress) (t e b : ℕ) → Contains (out_edges net t) e → edge_to net e ≡ Some b → is_unseen (progress_of states b) ≡ true
    → leads_to_unseen net states e ≡ not (task_chooses net t)
leads_where_unseen net states t e b here ends unseen =
    leads_to_unseen_by net states t e b here ends ∙ ap (λ u. not (task_chooses net t) && u) unseen ∙ with_true (not (task_chooses net t))

-- one edge more out of a task doesn't lead on
pub NoneLeadsToUnseen-more : (net : NetRows) (states : List Progress) (t n : ℕ) → NoneLeadsToUnseen net states t n
    → leads_to_unseen net states (get_or (out_edges net t) n 0) ≡ false → NoneLeadsToUnseen net states t (n + 1)
NoneLeadsToUnseen-more net states t n before last k low below = elim (order k n) [
  | inl earlier ↦ before k earlier below
  | inr late ↦ let same : n ≡ k = omega (arith, late, low) in subst (λ i. leads_to_unseen net states (get_or (out_edges net t) i 0) ≡ false) same last
]

-- a search goes on to a task that wasn't seen
pub IsSearch-go_on : (net : NetRows) (states : List Progress) (cursors path done : List ℕ) (t place b : ℕ) → IsSearch net states cursors (path ++ t ∷ []) done
    → FindsNext net states t place → edge_to net (get_or (out_edges net t) place 0) ≡ Some b → b < length net.tasks
    → IsSearch net (slice_set states b Open) (slice_set cursors t place) ((path ++ t ∷ []) ++ b ∷ []) done
IsSearch-go_on net states cursors path done t place b search found ends in_range =
    let on = found_step net states t place b found ends in
    IsSearch-open net states (slice_set cursors t place) (path ++ t ∷ []) done b
    (IsSearch-advance net states cursors (path ++ t ∷ []) done t place (path_task_in_range net states cursors path done t search) search found.first)
    in_range on.unseen (path_leads_on net states cursors path done t search b on.step)

-- each task that is opened is one less that wasn't seen
pub fewer_unseen : (states : List Progress) (b : ℕ) → b < length states → progress_of states b ≡ Unseen → count_by is_unseen (slice_set states b Open) + 1 ≡ count_by is_unseen states
fewer_unseen states b below unseen = count_by-set_no is_unseen states b Open Unseen below (ap is_unseen unseen) refl

-- the same search, by equal lists
pub IsSearch-same : (net : NetRows) (states states' : List Progress) (cursors cursors' path path' done done' : List ℕ) → states ≡ states' → cursors ≡ cursors' → path ≡ path' → done ≡ done'
    → IsSearch net states' cursors' path' done' → IsSearch net states cursors path done
IsSearch-same net states states' cursors cursors' path path' done done' s c p d search =
    subst (λ (xs : List Progress). IsSearch net xs cursors path done) (sym s)
    (subst (λ (xs : List ℕ). IsSearch net states' xs path done) (sym c)
    (subst (λ (xs : List ℕ). IsSearch net states' cursors' xs done) (sym p)
    (subst (λ (xs : List ℕ). IsSearch net states' cursors' path' xs) (sym d) search)))

-- of states that are all unseen each read gives that
unseen_everywhere : (n t : ℕ) → progress_of (replicate n Unseen) t ≡ Unseen
unseen_everywhere n t = elim (order t n) [
  | inl below ↦ get_or-replicate n t Unseen Unseen below
  | inr past ↦ get_or_past (replicate n Unseen) t Unseen (omega (arith, past, length-replicate n Unseen))
]

-- and each of them counts
all_unseen : (n : ℕ) → count_by is_unseen (replicate n Unseen) ≡ n
all_unseen zero = refl
all_unseen (suc n) = sum_by-cons (λ (p : Progress). cond (is_unseen p) 1 0) Unseen (replicate n Unseen) ∙ omega (arith, all_unseen n)

-- what a search keeps holds where no task was seen and nothing is on the path
nothing_seen : (net : NetRows) (n : ℕ) → n ≡ length net.tasks → IsNet net → IsSearch net (replicate n Unseen) (replicate n 0) [] []
nothing_seen net n size well_formed = record {
  well_formed = well_formed;
  states_size = length-replicate n Unseen ∙ size;
  cursors_size = length-replicate {A = ℕ} n 0 ∙ size;
  path_in_range = All-nil (λ t. t < length net.tasks);
  path_open = All-nil (λ t. progress_of (replicate n Unseen) t ≡ Open);
  open_on_path = λ t opens. absurd (let unseen = unseen_everywhere n t in cc);
  path_leads = λ i j d before inside. absurd (omega (arith, inside));
  passed = λ t k below inside. absurd (omega (arith, below, read_of_zeros n t));
  order_in_range = All-nil (λ t. t < length net.tasks);
  order_done = All-nil (λ t. progress_of (replicate n Unseen) t ≡ Done);
  done_in_order = λ t done. absurd (let unseen = unseen_everywhere n t in cc);
  done_passed = λ t done. absurd (let unseen = unseen_everywhere n t in cc);
  finished = tt;
  count = omega (arith, all_unseen n, size);
}

-- a search that has seen no task
pub IsSearch-new : (net : NetRows) (rows : List TaskRow) (states : List Progress) (cursors path done : List ℕ) → IsNet net → rows ≡ net.tasks
    → states ≡ replicate (length rows) Unseen → cursors ≡ replicate (length rows) 0 → path ≡ [] → done ≡ [] → IsSearch net states cursors path done
IsSearch-new net rows states cursors path done well_formed same unseen zeros p d =
    IsSearch-same net states (replicate (length rows) Unseen) cursors (replicate (length rows) 0) path [] done [] unseen zeros p d
    (nothing_seen net (length rows) (ap length same) well_formed)

-- a search begins at a task that wasn't seen
pub IsSearch-begin : (net : NetRows) (states : List Progress) (cursors path done : List ℕ) (t : ℕ) → IsSearch net states cursors path done → path ≡ [] → t < length net.tasks
    → is_unseen (progress_of states t) ≡ true → IsSearch net (slice_set states t Open) cursors (path ++ t ∷ []) done
IsSearch-begin net states cursors path done t search none in_range unseen =
    IsSearch-open net states cursors path done t search in_range (unseen_is (progress_of states t) unseen) (subst (All (λ a. Precedes net a t)) (sym none) (All-nil (λ a. Precedes net a t)))

-- a search that has seen all tasks and goes along none has finished all
pub IsFullOrder-all : (net : NetRows) (states : List Progress) (cursors path done : List ℕ) (n : ℕ) → IsSearch net states cursors path done → path ≡ [] → length net.tasks ≤ n
    → ((t : ℕ) → t < n → is_unseen (progress_of states t) ≡ false) → IsFullOrder net done
IsFullOrder-all net states cursors path done n search none all seen = record {
  finished = search.finished;
  all = λ t below. elim (seen_cases (progress_of states t) (seen t (omega (arith, below, all)))) [
    | inl opens ↦ absurd (no_member t (subst (λ (xs : List ℕ). Contains xs t) none (search.open_on_path t opens)))
    | inr is ↦ search.done_in_order t is
  ];
  in_range = search.order_in_range;
  size = omega (arith, search.count);
}
