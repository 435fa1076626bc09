-- Walks, and what is reached by steps.
use Rattle.std.proofs.Common.{◌≡◌, ℕ, false, List, [], ◌∷◌, ◌++◌, slice_get, Option, Some, IsSomeAnd, refl, sym, ◌∙◌, subst}
use Rattle.std.specs.List.{All}
use Rattle.std.proofs.lemmas.List.Elements.{All-nil, All-push, All-head, All-tail}
use Rattle.task_graph.specs.declared.net.EdgeRow.{EdgeRow}
use Rattle.task_graph.specs.NetRows.{NetRows}
use Rattle.task_graph.specs.Net.{is_weak}
use Rattle.pitfall_check.specs.Walks.{IsWalk}
use Rattle.pitfall_check.specs.inside.Steps.{IsStep, IsStrongStep, Reach, stays, onward}
use Rattle.pitfall_check.proofs.EdgeLemmas.{value_of}

-- what is reached from what is reached
pub reach_then : (Step : ℕ → ℕ → Type 0) (a b c : ℕ) → Reach Step a b → Reach Step b c → Reach Step a c
reach_then Step a b c first stays = first
reach_then Step a b c first (onward {b = m} more step) = onward (reach_then Step a b m first more) step

-- by other steps
pub reach_by : (Step Other : ℕ → ℕ → Type 0) → ((x y : ℕ) → Step x y → Other x y) → (a b : ℕ) → Reach Step a b → Reach Other a b
reach_by Step Other same a b stays = stays
reach_by Step Other same a b (onward {b = m} more step) = onward (reach_by Step Other same a m more) (same m b step)

-- what a step keeps holds of what is reached
pub reach_keeps : (Step : ℕ → ℕ → Type 0) (P : ℕ → Type 0) → ((x y : ℕ) → Step x y → P x → P y) → (a b : ℕ) → Reach Step a b → P a → P b
reach_keeps Step P keeps a b stays holds = holds
reach_keeps Step P keeps a b (onward {b = m} more step) holds = keeps m b step (reach_keeps Step P keeps a m more holds)

some_and : {X : Type 0} (P : X → Type 0) (o : Option X) (x : X) → o ≡ Some x → P x → IsSomeAnd o P
some_and P o x is holds = subst (λ v. IsSomeAnd v P) (sym is) holds

-- a walk with one edge more at its end
pub IsWalk-push : (net : NetRows) (es : List ℕ) (a b c : ℕ) (s : IsStep net b c) → IsWalk net a es b → IsWalk net a (es ++ s.edge ∷ []) c
IsWalk-push net [] a b c s walk = some_and (λ (row : EdgeRow). (row.from ≡ a) × (row.to ≡ c)) (slice_get net.edges s.edge) s.row s.is (s.from ∙ sym walk, s.to)
IsWalk-push net (e ∷ es) a b c s walk =
    let first = value_of (λ (row : EdgeRow). (row.from ≡ a) × IsWalk net row.to es b) (slice_get net.edges e) walk in
    some_and (λ (row : EdgeRow). (row.from ≡ a) × IsWalk net row.to (es ++ s.edge ∷ []) c) (slice_get net.edges e) first.0 first.1 (first.2.0, IsWalk-push net es first.0.to b c s first.2.1)

-- steps make a walk
pub walk_of_steps : (net : NetRows) (a b : ℕ) → Reach (IsStep net) a b → (es : List ℕ) × IsWalk net a es b
walk_of_steps net a b stays = ([], refl)
walk_of_steps net a b (onward {b = m} more step) =
    let before = walk_of_steps net a m more in
    (before.0 ++ step.edge ∷ [], IsWalk-push net before.0 a m b step before.1)

-- strong ones make one of strong edges
pub record StrongWalk (net : NetRows) (a b : ℕ) : Type 0 where
  pub edges : List ℕ
  pub strong : All (λ e. is_weak net e ≡ false) edges
  pub walk : IsWalk net a edges b

pub walk_of_strong : (net : NetRows) (a b : ℕ) → Reach (IsStrongStep net) a b → StrongWalk net a b
walk_of_strong net a b stays = record { edges = []; strong = All-nil (λ e. is_weak net e ≡ false); walk = refl }
walk_of_strong net a b (onward {b = m} more step) =
    let before = walk_of_strong net a m more in
    record {
      edges = before.edges ++ step.step.edge ∷ [];
      strong = All-push (λ e. is_weak net e ≡ false) before.edges step.step.edge before.strong step.strong;
      walk = IsWalk-push net before.edges a m b step.step before.walk;
    }

-- a walk that begins with an edge
pub record BeginsWithStep (net : NetRows) (a e : ℕ) (es : List ℕ) (b : ℕ) : Type 0 where
  pub row : EdgeRow
  pub is : slice_get net.edges e ≡ Some row
  pub from : row.from ≡ a
  pub rest : IsWalk net row.to es b

pub first_step : (net : NetRows) (a e : ℕ) (es : List ℕ) (b : ℕ) → IsWalk net a (e ∷ es) b → BeginsWithStep net a e es b
first_step net a e es b walk =
    let first = value_of (λ (row : EdgeRow). (row.from ≡ a) × IsWalk net row.to es b) (slice_get net.edges e) walk in
    record { row = first.0; is = first.1; from = first.2.0; rest = first.2.1 }

-- what each step keeps holds at the end of a walk
pub walk_keeps : (net : NetRows) (P : ℕ → Type 0) → ((x y : ℕ) → IsStep net x y → P x → P y) → (es : List ℕ) (a b : ℕ) → IsWalk net a es b → P a → P b
walk_keeps net P keeps [] a b walk holds = subst P walk holds
walk_keeps net P keeps (e ∷ es) a b walk holds =
    let first = first_step net a e es b walk in
    walk_keeps net P keeps es first.row.to b first.rest (keeps a first.row.to (record { edge = e; row = first.row; is = first.is; from = first.from; to = refl }) holds)

-- the same of a walk of strong edges
pub strong_walk_keeps : (net : NetRows) (P : ℕ → Type 0) → ((x y : ℕ) → IsStrongStep net x y → P x → P y) → (es : List ℕ) (a b : ℕ)
    → All (λ e. is_weak net e ≡ false) es → IsWalk net a es b → P a → P b
strong_walk_keeps net P keeps [] a b strong walk holds = subst P walk holds
strong_walk_keeps net P keeps (e ∷ es) a b strong walk holds =
    let first = first_step net a e es b walk in
    let step : IsStrongStep net a first.row.to = record { step = record { edge = e; row = first.row; is = first.is; from = first.from; to = refl }; strong = All-head (λ e. is_weak net e ≡ false) e es strong } in
    strong_walk_keeps net P keeps es first.row.to b (All-tail (λ e. is_weak net e ≡ false) e es strong) first.rest (keeps a first.row.to step holds)
