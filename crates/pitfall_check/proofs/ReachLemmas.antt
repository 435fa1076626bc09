-- The marks of what is reached from sources.
use Rattle.std.proofs.Common.{◌≡◌, ◌≢◌, inl, inr, ◌==◌, ◌↔◌, ℕ, ◌+◌, ◌<◌, ◌≤◌, Bool, IsTrue, List, length, get_or, replicate, sym, ap, ◌∙◌, subst, arith}
use Rattle.std.proofs.lemmas.Bool.{eqb-true}
use Rattle.std.proofs.lemmas.List.{length-replicate}
use Rattle.std.proofs.str.Laws.{order}
use Rattle.task_graph.specs.NetRows.{NetRows}
use Rattle.task_graph.specs.Net.{IsSource}
use Rattle.task_graph.specs.declared.net.TaskRow.{TaskRow}
use Rattle.pitfall_check.specs.declared.way.Way.TheVariants.{Ahead}
use Rattle.pitfall_check.specs.Walks.{IsReachable}
use Rattle.pitfall_check.specs.Pitfalls.{IsNeverReached}
use Rattle.pitfall_check.specs.inside.Steps.{IsStep}
use Rattle.pitfall_check.specs.inside.MarkSpread.{IsSpread, FreshStep}
use Rattle.pitfall_check.specs.inside.ReachMarks.{MarksReached}
use Rattle.pitfall_check.proofs.PlaceLemmas.{read_of_zeros}
use Rattle.pitfall_check.proofs.SpreadLemmas.{same_or_not}
use Rattle.pitfall_check.proofs.WalkLemmas.{reach_by, walk_of_steps, walk_keeps}

-- without marks nothing is said
pub MarksReached-none : (net : NetRows) (marks : List ℕ) → length marks ≡ length net.tasks → ((t : ℕ) → get_or marks t 0 ≡ 0) → MarksReached net marks 0
MarksReached-none net marks size none = record {
  size = size;
  reached = λ t some. absurd (some (none t));
  closed = λ a b step some. absurd (some (none a));
  sources = λ s below. absurd (omega (arith, below));
}

-- so it is with a 0 for each task
pub MarksReached-begin : (net : NetRows) (rows : List TaskRow) (marks : List ℕ) → marks ≡ replicate (length rows) 0 → rows ≡ net.tasks → MarksReached net marks 0
MarksReached-begin net rows marks zeros same =
    subst (λ xs. MarksReached net xs 0) (sym zeros)
    (MarksReached-none net (replicate (length rows) 0) (length-replicate (length rows) 0 ∙ ap length same) (read_of_zeros (length rows)))

-- the next task is marked, or is no source
pub MarksReached-more : (net : NetRows) (marks : List ℕ) (n : ℕ) → MarksReached net marks n → (IsSource net n → get_or marks n 0 ≢ 0) → MarksReached net marks (n + 1)
MarksReached-more net marks n so_far next = record {
  size = so_far.size;
  reached = so_far.reached;
  closed = so_far.closed;
  sources = λ s below is. elim (order s n) [
    | inl before ↦ so_far.sources s before is
    | inr last ↦ let same : n ≡ s = omega (arith, last, below) in subst (λ t. IsSource net t → get_or marks t 0 ≢ 0) same next is
  ];
}

-- marks spread from a source
module _ (net : NetRows) (old new : List ℕ) (n source : ℕ) (so_far : MarksReached net old n) (in_range : source < length net.tasks) (is : IsSource net source) (spread : IsSpread Ahead net source 1 old new) where
  by_walk : (t : ℕ) → get_or old t 0 ≡ 0 → get_or new t 0 ≢ 0 → IsReachable net t
  by_walk t none some =
      let walk = walk_of_steps net source t (reach_by (FreshStep Ahead net old) (IsStep net) (λ x y step. step.0) source t (spread.reached t none some)) in
      record { source = source; in_range = in_range; is_source = is; edges = walk.0; walk = walk.1 }

  still : (t : ℕ) → get_or old t 0 ≢ 0 → get_or new t 0 ≢ 0
  still t had none = had (sym (spread.kept t had) ∙ none)

  reached_now : (t : ℕ) → get_or new t 0 ≢ 0 → IsReachable net t
  reached_now t some = elim (same_or_not (get_or old t 0) 0) [
    | inl none ↦ by_walk t none some
    | inr had ↦ so_far.reached t had
  ]

  closed_now : (a b : ℕ) → IsStep net a b → get_or new a 0 ≢ 0 → get_or new b 0 ≢ 0
  closed_now a b step some = elim (same_or_not (get_or old a 0) 0) [
    | inl none ↦ spread.closed a b none some step
    | inr had ↦ still b (so_far.closed a b step had)
  ]

  pub MarksReached-spread : MarksReached net new n
  MarksReached-spread = record {
    size = spread.size ∙ so_far.size;
    reached = reached_now;
    closed = closed_now;
    sources = λ s below is. still s (so_far.sources s below is);
  }

-- a task that is reached is marked in the end
pub marked_where_reached : (net : NetRows) (marks : List ℕ) (n t : ℕ) → length net.tasks ≤ n → MarksReached net marks n → IsReachable net t → get_or marks t 0 ≢ 0
marked_where_reached net marks n t all marked r =
    walk_keeps net (λ u. get_or marks u 0 ≢ 0) marked.closed r.edges r.source t r.walk (marked.sources r.source (omega (arith, r.in_range, all)) r.is_source)

-- a task without a mark is never reached, and back
pub tells_never_reached : (net : NetRows) (marks : List ℕ) (n t : ℕ) (unmarked : Bool) → length net.tasks ≤ n → MarksReached net marks n → t < length net.tasks
    → unmarked ≡ (get_or marks t 0 == 0) → (IsTrue unmarked ↔ IsNeverReached net t)
tells_never_reached net marks n t unmarked all marked below is = (
  λ yes. record {
    in_range = below;
    never = λ r. marked_where_reached net marks n t all marked r (eqb-true (get_or marks t 0) 0 (sym is ∙ yes));
  },
  λ never. elim (same_or_not (get_or marks t 0) 0) [
    | inl none ↦ is ∙ ap (λ m. m == 0) none
    | inr some ↦ absurd (never.never (marked.reached t some))
  ],
)
