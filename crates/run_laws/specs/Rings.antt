-- Nets whose edges lie on rings that carry one token at most.
use Rattle.std.specs.Prelude.{◌≡◌, ◌≢◌, ℕ, ◌<◌, ◌≤◌, ◌==◌, true, false, List, [], length, count_by, sum_by}
use Rattle.std.specs.List.{AllByRecursion, list_any}
use Rattle.task_graph.specs.NetRows.{NetRows}
use Rattle.task_graph.specs.Net.{is_weak, strong_in}
use Rattle.journal_rules.specs.Counts.{first_tokens}
use Rattle.run_laws.specs.OneThreadValue.{source_of, target_of}

-- A ring of edges: each task has as many of them in as out, or more, and they begin with one token or none in all.
pub record IsRing (net : NetRows) (ring : List ℕ) : Type 0 where
  pub balanced : (t : ℕ) → count_by (λ e. t == source_of net e) ring ≤ count_by (λ e. t == target_of net e) ring
  pub one_token : sum_by (first_tokens net) ring ≤ 1
  pub in_range : AllByRecursion (λ e. e < length net.edges) ring

-- the ring of an edge
pub record RingOf (net : NetRows) (e : ℕ) : Type 0 where
  pub ring : List ℕ
  pub is_ring : IsRing net ring
  pub has : list_any (λ f. f == e) ring ≡ true

-- Each edge is strong and lies on a ring, and each task has an in-edge.
pub record IsRinged (net : NetRows) : Type 0 where
  pub strong : (e : ℕ) → is_weak net e ≡ false
  pub rings : (e : ℕ) → e < length net.edges → RingOf net e
  pub fed : (t : ℕ) → t < length net.tasks → strong_in net t ≢ []
