-- The edges into and out of a task, and the tasks that they name.
use Rattle.std.proofs.Common.{◌≡◌, ◌≢◌, ◌==◌, ℕ, suc, zero, ◌<◌, Bool, true, false, not, ◌&&◌, List, [], ◌∷◌, length, get_or, slice_get, Option, Some, None, IsSomeAnd, refl, sym, ap, ◌∙◌, subst, arith}
use Rattle.std.specs.List.{Contains, All}
use Rattle.std.proofs.lemmas.Bool.{eqb-true}
use Rattle.task_graph.specs.declared.net.EdgeRow.{EdgeRow}
use Rattle.task_graph.specs.NetRows.{NetRows}
use Rattle.task_graph.specs.Net.{is_weak_row, strong_in, weak_in, IsNet, IsEdgeOf}
use Rattle.std.proofs.lemmas.List.Elements.{Contains-get_or}
use Rattle.std.proofs.lemmas.List.{get_or_default}
use Rattle.pitfall_check.specs.Pitfalls.{edge_from, HasManyConditions}
use Rattle.pitfall_check.specs.Walks.{IsWalk, IsOnStrongCycle}
use Rattle.pitfall_check.proofs.PlaceLemmas.{PassesAtPlace, listed_passes}

-- an item at a place, which there is
pub place_below : {X : Type 0} (xs : List X) (k : ℕ) (x : X) → slice_get xs k ≡ Some x → k < length xs
place_below [] k x is = absurd (cc)
place_below (y ∷ xs) zero x is = omega arith
place_below (y ∷ xs) (suc k) x is = let rest = place_below xs k x is in omega arith

-- what holds of each item holds of the one at a place
pub holds_at : {X : Type 0} (P : X → Type 0) (xs : List X) (k : ℕ) (x : X) → All P xs → slice_get xs k ≡ Some x → P x
holds_at P [] k x each is = absurd (cc)
holds_at P (y ∷ xs) zero x each is = let same : y ≡ x = cc in subst P same (each 0 y (omega arith))
holds_at P (y ∷ xs) (suc k) x each is = holds_at P xs k x (λ i d below. each (suc i) d (omega arith)) is

pub both : (a b : Bool) → (a && b) ≡ true → (a ≡ true) × (b ≡ true)
both true true same = (refl, refl)
both true false same = absurd (cc)
both false b same = absurd (cc)

-- an edge that leads into a task
pub record LeadsInto (net : NetRows) (e t : ℕ) : Type 0 where
  pub row : EdgeRow
  pub is : slice_get net.edges e ≡ Some row
  pub to : row.to ≡ t

from_test : (net : NetRows) (t e : ℕ) (q : EdgeRow → Bool) → PassesAtPlace (λ (row : EdgeRow). (row.to == t) && q row) net.edges e → LeadsInto net e t
from_test net t e q at = record { row = at.item; is = at.is; to = eqb-true at.item.to t (both (at.item.to == t) (q at.item) at.passes).0 }

pub weak_leads : (net : NetRows) (t e : ℕ) → Contains (weak_in net t) e → LeadsInto net e t
weak_leads net t e here = from_test net t e (is_weak_row net) (listed_passes (λ (row : EdgeRow). (row.to == t) && is_weak_row net row) net.edges e here)

pub strong_leads : (net : NetRows) (t e : ℕ) → Contains (strong_in net t) e → LeadsInto net e t
strong_leads net t e here = from_test net t e (λ row. not (is_weak_row net row)) (listed_passes (λ (row : EdgeRow). (row.to == t) && not (is_weak_row net row)) net.edges e here)

-- the weak edges into a task are edges of the net
pub weak_in_range : (net : NetRows) (t : ℕ) → All (λ e. e < length net.edges) (weak_in net t)
weak_in_range net t k d below =
    let leads = weak_leads net t (get_or (weak_in net t) k d) (Contains-get_or (weak_in net t) k d below) in
    place_below net.edges (get_or (weak_in net t) k d) leads.row leads.is

-- a task into which an edge leads is a task of the net
pub into_task : (net : NetRows) (e t : ℕ) → IsNet net → LeadsInto net e t → t < length net.tasks
into_task net e t is leads =
    let fits = holds_at (IsEdgeOf net) net.edges e leads.row is.edges leads.is in
    let to = leads.to in
    omega (arith, fits.to_in_range, to)

-- what an option has that holds of its value
pub value_of : {X : Type 0} (P : X → Type 0) (o : Option X) → IsSomeAnd o P → (x : X) × (o ≡ Some x) × P x
value_of P None holds = absurd holds
value_of P (Some x) holds = (x, refl, holds)

-- a task that an edge leaves is a task of the net
pub out_of_task : (net : NetRows) (e t : ℕ) (row : EdgeRow) → IsNet net → slice_get net.edges e ≡ Some row → row.from ≡ t → t < length net.tasks
out_of_task net e t row is at from =
    let fits = holds_at (IsEdgeOf net) net.edges e row is.edges at in
    omega (arith, fits.from_in_range, from)

-- a task on a cycle is a task of the net
leaves_along : (net : NetRows) (t : ℕ) (edges : List ℕ) → IsNet net → edges ≢ [] → IsWalk net t edges t → t < length net.tasks
leaves_along net t [] is some walk = absurd (some refl)
leaves_along net t (e ∷ es) is some walk =
    let first = value_of (λ (row : EdgeRow). (row.from ≡ t) × IsWalk net row.to es t) (slice_get net.edges e) walk in
    out_of_task net e t first.0 is first.1 first.2.0

pub task_on_cycle : (net : NetRows) (t : ℕ) → IsNet net → IsOnStrongCycle net t → t < length net.tasks
task_on_cycle net t is cycle = leaves_along net t cycle.edges is cycle.some cycle.closed

-- where each weak edge into a task leaves the task that the first one leaves, there is one condition at most
pub no_many_conditions : (net : NetRows) (t : ℕ)
    → ((k : ℕ) → k < length (weak_in net t) → edge_from net (get_or (weak_in net t) k 0) ≡ edge_from net (get_or (weak_in net t) 0 0))
    → ¬ HasManyConditions net t
no_many_conditions net t same many = many.differ (at_one many.first many.first_in ∙ sym (at_one many.second many.second_in))
  where
    at_one : (e : ℕ) → Contains (weak_in net t) e → edge_from net e ≡ edge_from net (get_or (weak_in net t) 0 0)
    at_one e (k, below, is) = ap (edge_from net) (sym is ∙ get_or_default (weak_in net t) k e 0 below) ∙ same k below

-- where one leaves another task, there are several
pub many_conditions : (net : NetRows) (t k : ℕ) → k < length (weak_in net t)
    → edge_from net (get_or (weak_in net t) k 0) ≢ edge_from net (get_or (weak_in net t) 0 0)
    → HasManyConditions net t
many_conditions net t k below differ = record {
  first = get_or (weak_in net t) k 0;
  second = get_or (weak_in net t) 0 0;
  first_in = Contains-get_or (weak_in net t) k 0 below;
  second_in = Contains-get_or (weak_in net t) 0 0 (omega (arith, below));
  differ = differ;
}

-- both ends of an edge are tasks of the net
pub ends_in_range : (net : NetRows) (e : ℕ) (d : EdgeRow) → e < length net.edges → IsNet net → (get_or net.edges e d).from < length net.tasks × (get_or net.edges e d).to < length net.tasks
ends_in_range net e d below is = let fits = is.edges e d below in (fits.from_in_range, fits.to_in_range)
