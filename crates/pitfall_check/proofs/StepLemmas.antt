-- Steps by the lists of a task's edges.
use Rattle.std.proofs.Common.{◌≡◌, ◌==◌, ℕ, ◌<◌, Bool, true, false, not, ◌&&◌, length, get_or, slice_get, Option, Some, refl, sym, ap, ◌∙◌, eq-eqb}
use Rattle.std.specs.List.{Contains, All}
use Rattle.std.specs.Option.{option_map, option_map_or}
use Rattle.std.proofs.lemmas.Bool.{eqb-true}
use Rattle.std.proofs.lemmas.List.Elements.{Contains-get_or}
use Rattle.task_graph.specs.declared.net.EdgeRow.{EdgeRow}
use Rattle.task_graph.specs.NetRows.{NetRows}
use Rattle.task_graph.specs.Net.{is_weak, is_weak_row, task_chooses, out_edges, strong_in}
use Rattle.pitfall_check.specs.declared.way.Way.{Way}
use Rattle.pitfall_check.specs.declared.way.Way.TheVariants.{Ahead, StrongBack}
use Rattle.pitfall_check.specs.inside.Steps.{StepsBy, edges_by, end_by}
use Rattle.pitfall_check.proofs.PlaceLemmas.{PassesAtPlace, listed_passes, passing_listed}
use Rattle.pitfall_check.proofs.EdgeLemmas.{place_below, both}

-- two tests that pass
pub and_true : (a b : Bool) → a ≡ true → b ≡ true → (a && b) ≡ true
and_true true true p q = refl
and_true true false p q = q
and_true false b p q = p

pub not_true : (b : Bool) → not b ≡ true → b ≡ false
not_true false is = refl
not_true true is = absurd (cc)

pub not_false : (b : Bool) → b ≡ false → not b ≡ true
not_false false is = refl
not_false true is = absurd (cc)

same_number : (a b : ℕ) → a ≡ b → (a == b) ≡ true
same_number a b same = eq-eqb a b same

-- what an option's value becomes
mapped : {X Y : Type 0} (f : X → Y) (o : Option X) (x : X) → o ≡ Some x → option_map f o ≡ Some (f x)
mapped f o x is = ap (option_map f) is

weak_at : (net : NetRows) (e : ℕ) (row : EdgeRow) → slice_get net.edges e ≡ Some row → is_weak net e ≡ is_weak_row net row
weak_at net e row is = ap (λ o. option_map_or (is_weak_row net) o false) is

-- an edge out of a task
pub out_passes : (net : NetRows) (t e : ℕ) → Contains (out_edges net t) e → PassesAtPlace (λ (row : EdgeRow). row.from == t) net.edges e
out_passes net t e here = listed_passes (λ (row : EdgeRow). row.from == t) net.edges e here

strong_passes : (net : NetRows) (t e : ℕ) → Contains (strong_in net t) e → PassesAtPlace (λ (row : EdgeRow). (row.to == t) && not (is_weak_row net row)) net.edges e
strong_passes net t e here = listed_passes (λ (row : EdgeRow). (row.to == t) && not (is_weak_row net row)) net.edges e here

-- the edges that a way follows are edges of the net
pub edges_by_in_range : (way : Way) (net : NetRows) (t : ℕ) → All (λ e. e < length net.edges) (edges_by way net t)
edges_by_in_range Ahead net t k d below =
    let at = out_passes net t (get_or (out_edges net t) k d) (Contains-get_or (out_edges net t) k d below) in
    place_below net.edges (get_or (out_edges net t) k d) at.item at.is
edges_by_in_range StrongBack net t k d below =
    let at = strong_passes net t (get_or (strong_in net t) k d) (Contains-get_or (strong_in net t) k d below) in
    place_below net.edges (get_or (strong_in net t) k d) at.item at.is

-- the edges out of a task are weak where it chooses
pub weak_where_chooses : (net : NetRows) (t e : ℕ) → Contains (out_edges net t) e → is_weak net e ≡ task_chooses net t
weak_where_chooses net t e here =
    let at = out_passes net t e here in
    weak_at net e at.item at.is ∙ ap (task_chooses net) (eqb-true at.item.from t at.passes)

pub same_value : {X : Type 0} (x y : X) → ◌≡◌ {A = Option X} (Some x) (Some y) → x ≡ y
same_value x y same = cc

-- an edge that a way follows is a step to the task at its end
pub step_by : (way : Way) (net : NetRows) (a e b : ℕ) → Contains (edges_by way net a) e → end_by way net e ≡ Some b → StepsBy way net a b
step_by Ahead net a e b here ends =
    let at = out_passes net a e here in
    let to = sym (mapped (λ (row : EdgeRow). row.to) (slice_get net.edges e) at.item at.is) ∙ ends in
    record { edge = e; row = at.item; is = at.is; from = eqb-true at.item.from a at.passes; to = same_value at.item.to b to }
step_by StrongBack net a e b here ends =
    let at = strong_passes net a e here in
    let from = sym (mapped (λ (row : EdgeRow). row.from) (slice_get net.edges e) at.item at.is) ∙ ends in
    let tests = both (at.item.to == a) (not (is_weak_row net at.item)) at.passes in
    record {
      step = record { edge = e; row = at.item; is = at.is; from = same_value at.item.from b from; to = eqb-true at.item.to a tests.0 };
      strong = weak_at net e at.item at.is ∙ not_true (is_weak_row net at.item) tests.1;
    }

-- and back
pub record FollowsEdge (way : Way) (net : NetRows) (a b : ℕ) : Type 0 where
  pub edge : ℕ
  pub here : Contains (edges_by way net a) edge
  pub ends : end_by way net edge ≡ Some b

pub edge_of_step : (way : Way) (net : NetRows) (a b : ℕ) → StepsBy way net a b → FollowsEdge way net a b
edge_of_step Ahead net a b s = record {
  edge = s.edge;
  here = passing_listed (λ (row : EdgeRow). row.from == a) net.edges s.edge (record { item = s.row; is = s.is; passes = same_number s.row.from a s.from });
  ends = mapped (λ (row : EdgeRow). row.to) (slice_get net.edges s.edge) s.row s.is ∙ ap Some s.to;
}
edge_of_step StrongBack net a b s = record {
  edge = s.step.edge;
  here = passing_listed (λ (row : EdgeRow). (row.to == a) && not (is_weak_row net row)) net.edges s.step.edge (record {
    item = s.step.row;
    is = s.step.is;
    passes = and_true (s.step.row.to == a) (not (is_weak_row net s.step.row)) (same_number s.step.row.to a s.step.to) (not_false (is_weak_row net s.step.row) (sym (weak_at net s.step.edge s.step.row s.step.is) ∙ s.strong));
  });
  ends = mapped (λ (row : EdgeRow). row.from) (slice_get net.edges s.step.edge) s.step.row s.step.is ∙ ap Some s.step.from;
}
