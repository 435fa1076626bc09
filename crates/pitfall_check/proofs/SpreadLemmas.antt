-- How marks are added.
use Rattle.std.proofs.Common.{Some, ◌≡◌, ◌≢◌, ◌⊎◌, inl, inr, ◌==◌, ℕ, ◌+◌, ◌-◌, ◌<◌, ◌≤◌, Bool, true, false, cond, List, [], ◌∷◌, ◌++◌, length, get_or, slice_set, refl, sym, ap, ◌∙◌, subst, append_assoc, length-append, arith}
use Rattle.std.specs.List.{Contains, All, count_by}
use Rattle.std.proofs.str.Laws.{order}
use Rattle.std.proofs.lemmas.Bool.Decides.{nat_tests}
use Rattle.std.proofs.lemmas.List.{append-nil, get_or-set_same, get_or-set_other, get_or_append_left, get_or_past, get_or_default, length-set}
use Rattle.std.proofs.lemmas.List.Sums.{sum_by-set}
use Rattle.std.proofs.lemmas.List.Elements.{All-nil, All-cons, All-append, All-contains, Contains-append_left, Contains-append_right}
use Rattle.task_graph.specs.NetRows.{NetRows}
use Rattle.pitfall_check.specs.declared.way.Way.{Way}
use Rattle.pitfall_check.specs.inside.Steps.{StepsBy, stays, onward, edges_by, end_by}
use Rattle.pitfall_check.specs.inside.MarkSpread.{Adds, unmarked_count, EndIsMarked, EndsAreMarked, FreshReach, IsSpreading, IsSpread}
use Rattle.pitfall_check.proofs.PlaceLemmas.{member_first}
use Rattle.pitfall_check.proofs.StepLemmas.{edge_of_step, same_value}

-- whether two numbers are equal
pub same_or_not : (a b : ℕ) → (a ≡ b) ⊎ (a ≢ b)
same_or_not a b = elim (order a b) [
  | inl below ↦ inr (λ same. absurd (omega (arith, below, same)))
  | inr least ↦ elim (order b a) [
    | inl above ↦ inr (λ same. absurd (omega (arith, above, same)))
    | inr most ↦ inl (omega (arith, least, most))
  ]
]

-- a number that isn't 0 stands within its list
pub nonzero_below : (xs : List ℕ) (t : ℕ) → get_or xs t 0 ≢ 0 → t < length xs
nonzero_below xs t some = elim (order t (length xs)) [
  | inl below ↦ below
  | inr past ↦ absurd (some (get_or_past xs t 0 past))
]

-- how much an item counts
counts_one : (b : Bool) → b ≡ true → ◌≡◌ {A = ℕ} (cond b 1 0) 1
counts_one true passes = refl
counts_one false passes = absurd (cc)

counts_none : (b : Bool) → b ≡ false → ◌≡◌ {A = ℕ} (cond b 1 0) 0
counts_none true fails = absurd (cc)
counts_none false fails = refl

-- an item that passes is replaced by one that doesn't
pub count_by-set_no : {X : Type 0} (p : X → Bool) (xs : List X) (i : ℕ) (y d : X) → i < length xs → p (get_or xs i d) ≡ true → p y ≡ false
    → count_by p (slice_set xs i y) + 1 ≡ count_by p xs
count_by-set_no p xs i y d below passes fails =
    let sums = sum_by-set (λ x. cond (p x) 1 0) xs i y d below in
    let one = counts_one (p (get_or xs i d)) passes in
    let none = counts_none (p y) fails in
    omega (arith, sums, one, none)

-- an item that doesn't pass is replaced by another
pub count_by-set_same : {X : Type 0} (p : X → Bool) (xs : List X) (i : ℕ) (y d : X) → i < length xs → p (get_or xs i d) ≡ false → p y ≡ false
    → count_by p (slice_set xs i y) ≡ count_by p xs
count_by-set_same p xs i y d below fails fails_too =
    let sums = sum_by-set (λ x. cond (p x) 1 0) xs i y d below in
    let old = counts_none (p (get_or xs i d)) fails in
    let none = counts_none (p y) fails_too in
    omega (arith, sums, old, none)

-- nothing was added
pub Adds-none : (P : ℕ → Type 0) (mark : ℕ) (marks queue : List ℕ) → Adds P mark marks queue marks queue
Adds-none P mark marks queue = record {
  more = [];
  queued = sym (append-nil queue);
  kept = λ t had. refl;
  facts = All-nil P;
  fresh = All-nil (λ t. get_or marks t 0 ≡ 0);
  marked = All-nil (λ t. get_or marks t 0 ≡ mark);
  listed = λ t none some. absurd (some none);
  size = refl;
  count = omega arith;
}

is_zero : (n : ℕ) → n ≡ 0 → (n == 0) ≡ true
is_zero n same = ap (λ k. k == 0) same

not_zero : (n : ℕ) → 0 < n → (n == 0) ≡ false
not_zero n positive = grind (arith, nat_tests)

-- a task without a mark got one
pub Adds-one : (mark : ℕ) (marks queue : List ℕ) (t : ℕ) → t < length marks → get_or marks t 0 ≡ 0 → 0 < mark
    → Adds (λ u. u ≡ t) mark marks queue (slice_set marks t mark) (queue ++ t ∷ [])
Adds-one mark marks queue t below none positive = record {
  more = t ∷ [];
  queued = refl;
  kept = λ u had. get_or-set_other marks t u mark 0 (λ same. had (ap (λ i. get_or marks i 0) same ∙ none));
  facts = All-cons (λ u. u ≡ t) t [] refl (All-nil (λ u. u ≡ t));
  fresh = All-cons (λ u. get_or marks u 0 ≡ 0) t [] none (All-nil (λ u. get_or marks u 0 ≡ 0));
  marked = All-cons (λ u. get_or (slice_set marks t mark) u 0 ≡ mark) t [] (get_or-set_same marks t mark 0 below) (All-nil (λ u. get_or (slice_set marks t mark) u 0 ≡ mark));
  listed = λ u old new. elim (same_or_not u t) [
    | inl same ↦ subst (Contains (t ∷ [])) (sym same) (member_first t [])
    | inr other ↦ absurd (new (get_or-set_other marks t u mark 0 other ∙ old))
  ];
  size = length-set marks t mark;
  count = count_by-set_no (λ m. m == 0) marks t mark 0 below (is_zero (get_or marks t 0) none) (not_zero mark positive);
}

-- more was added to what was added
module _ (P : ℕ → Type 0) (mark : ℕ) (a b c qa qb qc : List ℕ) (positive : 0 < mark) (first : Adds P mark a qa b qb) (second : Adds P mark b qb c qc) where
  fresh_before : (t : ℕ) → get_or b t 0 ≡ 0 → get_or a t 0 ≡ 0
  fresh_before t none = elim (same_or_not (get_or a t 0) 0) [
    | inl same ↦ same
    | inr had ↦ absurd (had (sym (first.kept t had) ∙ none))
  ]

  still_marked : (t : ℕ) → get_or b t 0 ≡ mark → get_or c t 0 ≡ mark
  still_marked t is = second.kept t (λ none. absurd (omega (arith, positive, is, none))) ∙ is

  in_both : (t : ℕ) → get_or a t 0 ≡ 0 → get_or c t 0 ≢ 0 → Contains (first.more ++ second.more) t
  in_both t none some = elim (same_or_not (get_or b t 0) 0) [
    | inl same ↦ Contains-append_right first.more second.more t (second.listed t same some)
    | inr had ↦ Contains-append_left first.more second.more t (first.listed t none had)
  ]

  pub Adds-then : Adds P mark a qa c qc
  Adds-then = record {
    more = first.more ++ second.more;
    queued = second.queued ∙ ap (λ q. q ++ second.more) first.queued ∙ append_assoc qa first.more second.more;
    kept = λ t had. second.kept t (λ none. had (sym (first.kept t had) ∙ none)) ∙ first.kept t had;
    facts = All-append P first.more second.more first.facts second.facts;
    fresh = All-append (λ t. get_or a t 0 ≡ 0) first.more second.more first.fresh (λ k d below. fresh_before (get_or second.more k d) (second.fresh k d below));
    marked = All-append (λ t. get_or c t 0 ≡ mark) first.more second.more (λ k d below. still_marked (get_or first.more k d) (first.marked k d below)) second.marked;
    listed = in_both;
    size = second.size ∙ first.size;
    count = omega (arith, first.count, second.count, length-append first.more second.more);
  }

-- what was added has another fact
pub Adds-weaker : (P Q : ℕ → Type 0) (mark : ℕ) (old queue new longer : List ℕ) → ((t : ℕ) → P t → get_or old t 0 ≡ 0 → Q t)
    → Adds P mark old queue new longer → Adds Q mark old queue new longer
Adds-weaker P Q mark old queue new longer weaker adds = record {
  more = adds.more;
  queued = adds.queued;
  kept = adds.kept;
  facts = λ k d below. weaker (get_or adds.more k d) (adds.facts k d below) (adds.fresh k d below);
  fresh = adds.fresh;
  marked = adds.marked;
  listed = adds.listed;
  size = adds.size;
  count = adds.count;
}

-- marks stay
pub still_marked_after : (P : ℕ → Type 0) (mark : ℕ) (old queue new longer : List ℕ) → Adds P mark old queue new longer → (t : ℕ) → get_or old t 0 ≢ 0 → get_or new t 0 ≢ 0
still_marked_after P mark old queue new longer adds t had none = had (sym (adds.kept t had) ∙ none)

pub EndsAreMarked-after : (P : ℕ → Type 0) (mark : ℕ) (old queue new longer : List ℕ) → Adds P mark old queue new longer
    → (way : Way) (net : NetRows) (t : ℕ) → EndsAreMarked way net old t → EndsAreMarked way net new t
EndsAreMarked-after P mark old queue new longer adds way net t ends k d below b is = still_marked_after P mark old queue new longer adds b (ends k d below b is)

module _ (way : Way) (net : NetRows) (root mark : ℕ) (old : List ℕ) (positive : 0 < mark) where
  -- the root was marked
  pub IsSpreading-begin : (new queue : List ℕ) → get_or old root 0 ≡ 0 → get_or new root 0 ≢ 0 → Adds (λ t. t ≡ root) mark old [] new queue → IsSpreading way net root mark old new queue 0
  IsSpreading-begin new queue none some adds = record {
    adds = Adds-weaker (λ t. t ≡ root) (FreshReach way net old root) mark old [] new queue (λ t same fresh. subst (FreshReach way net old root) (sym same) stays) adds;
    root_marked = All-contains (λ t. get_or new t 0 ≡ mark) adds.more root adds.marked (adds.listed root none some);
    closed = λ k below. absurd (omega (arith, below));
    within = omega arith;
  }

  -- the tasks at the ends of one task's edges were marked
  module _ (new queue newer longer : List ℕ) (next : ℕ) (so_far : IsSpreading way net root mark old new queue next) (left : next < length queue)
      (adds : Adds (StepsBy way net (get_or queue next 0)) mark new queue newer longer) (ends : EndsAreMarked way net newer (get_or queue next 0)) where
    in_queue : queue ≡ so_far.adds.more
    in_queue = so_far.adds.queued

    task : ℕ
    task = get_or queue next 0

    task_reached : FreshReach way net old root (get_or queue next 0)
    task_reached = subst (λ (q : List ℕ). FreshReach way net old root (get_or q next 0)) (sym in_queue) (so_far.adds.facts next 0 (subst (λ (q : List ℕ). next < length q) in_queue left))

    fresh_before_old : (t : ℕ) → get_or new t 0 ≡ 0 → get_or old t 0 ≡ 0
    fresh_before_old t none = elim (same_or_not (get_or old t 0) 0) [
      | inl same ↦ same
      | inr had ↦ absurd (had (sym (so_far.adds.kept t had) ∙ none))
    ]

    reaches : (t : ℕ) → StepsBy way net (get_or queue next 0) t → get_or new t 0 ≡ 0 → FreshReach way net old root t
    reaches t step fresh = onward task_reached (step, fresh_before_old t fresh)

    same_item : (k : ℕ) → k < length queue → get_or longer k 0 ≡ get_or queue k 0
    same_item k below = ap (λ q. get_or q k 0) adds.queued ∙ get_or_append_left queue adds.more 0 k below

    longer_by : length longer ≡ length queue + length adds.more
    longer_by = ap length adds.queued ∙ length-append queue adds.more

    closed_next : (k : ℕ) → k < next + 1 → EndsAreMarked way net newer (get_or longer k 0)
    closed_next k below = subst (EndsAreMarked way net newer) (sym (same_item k (omega (arith, below, left)))) (elim (order k next) [
      | inl before ↦ EndsAreMarked-after (StepsBy way net (get_or queue next 0)) mark new queue newer longer adds way net (get_or queue k 0) (so_far.closed k before)
      | inr last ↦ let same : next ≡ k = omega (arith, last, below) in subst (λ i. EndsAreMarked way net newer (get_or queue i 0)) same ends
    ])

    pub IsSpreading-next : IsSpreading way net root mark old newer longer (next + 1)
    IsSpreading-next = record {
      adds = Adds-then (FreshReach way net old root) mark old new newer [] queue longer positive so_far.adds
          (Adds-weaker (StepsBy way net (get_or queue next 0)) (FreshReach way net old root) mark new queue newer longer reaches adds);
      root_marked = adds.kept root (λ none. absurd (omega (arith, positive, none, so_far.root_marked))) ∙ so_far.root_marked;
      closed = closed_next;
      within = omega (arith, left, longer_by);
    }

    -- as many tasks as got a mark were put into the queue
    pub less_is_left : unmarked_count newer + length longer - (next + 1) < unmarked_count new + length queue - next
    less_is_left = omega (arith, adds.count, longer_by, left)

  -- at the end of the queue all is marked
  pub IsSpread-end : (new queue : List ℕ) (next : ℕ) → IsSpreading way net root mark old new queue next → length queue ≤ next → IsSpread way net root mark old new
  IsSpread-end new queue next so_far done = record {
    size = so_far.adds.size;
    root_marked = so_far.root_marked;
    kept = so_far.adds.kept;
    marked = λ t none some. All-contains (λ u. get_or new u 0 ≡ mark) so_far.adds.more t so_far.adds.marked (so_far.adds.listed t none some);
    reached = λ t none some. All-contains (FreshReach way net old root) so_far.adds.more t so_far.adds.facts (so_far.adds.listed t none some);
    closed = λ a b none some step. step_closed a b (so_far.adds.listed a none some) step;
  }
    where
      ends_marked : (a : ℕ) → Contains so_far.adds.more a → EndsAreMarked way net new a
      ends_marked a (k, below, is) =
          let same : get_or queue k 0 ≡ a = ap (λ q. get_or q k 0) so_far.adds.queued ∙ get_or_default so_far.adds.more k 0 a below ∙ is in
          let longer = ap length so_far.adds.queued in
          subst (EndsAreMarked way net new) same (so_far.closed k (omega (arith, below, longer, done)))

      step_closed : (a b : ℕ) → Contains so_far.adds.more a → StepsBy way net a b → get_or new b 0 ≢ 0
      step_closed a b among step =
          let edge = edge_of_step way net a b step in
          All-contains (EndIsMarked way net new) (edges_by way net a) edge.edge (ends_marked a among) edge.here b edge.ends

-- the tasks in the queue are tasks of the net
pub queue_in_range : (way : Way) (net : NetRows) (root mark : ℕ) (old new queue : List ℕ) (next k : ℕ) → 0 < mark → IsSpreading way net root mark old new queue next → k < length queue → get_or queue k 0 < length new
queue_in_range way net root mark old new queue next k positive so_far below =
    let same = so_far.adds.queued in
    let marked = subst (λ (q : List ℕ). k < length q → get_or new (get_or q k 0) 0 ≡ mark) (sym same) (λ inside. so_far.adds.marked k 0 inside) below in
    nonzero_below new (get_or queue k 0) (λ none. absurd (omega (arith, marked, none, positive)))

-- one edge more of a task was followed
pub ends_more : (P : ℕ → Type 0) (mark : ℕ) (old queue new longer : List ℕ) (way : Way) (net : NetRows) (edges : List ℕ) (n end : ℕ)
    → Adds P mark old queue new longer → ((k : ℕ) → k < n → EndIsMarked way net old (get_or edges k 0))
    → end_by way net (get_or edges n 0) ≡ Some end → get_or new end 0 ≢ 0
    → (k : ℕ) → k < n + 1 → EndIsMarked way net new (get_or edges k 0)
ends_more P mark old queue new longer way net edges n end adds before ends_at marked k below b is = elim (order k n) [
  | inl earlier ↦ still_marked_after P mark old queue new longer adds b (before k earlier b is)
  | inr last ↦
      let same : k ≡ n = omega (arith, last, below) in
      let is_end : Some b ≡ Some end = sym is ∙ ap (λ i. end_by way net (get_or edges i 0)) same ∙ ends_at in
      let ends : b ≡ end = same_value b end is_end in
      subst (λ t. get_or new t 0 ≢ 0) (sym ends) marked
]

-- all of them were
pub EndsAreMarked-all : (way : Way) (net : NetRows) (marks edges : List ℕ) (t n : ℕ) → edges ≡ edges_by way net t → length edges ≤ n
    → ((k : ℕ) → k < n → EndIsMarked way net marks (get_or edges k 0)) → EndsAreMarked way net marks t
EndsAreMarked-all way net marks edges t n same all each = subst (All (EndIsMarked way net marks)) same (λ k d below.
    subst (EndIsMarked way net marks) (get_or_default edges k 0 d below) (each k (omega (arith, below, all))))
