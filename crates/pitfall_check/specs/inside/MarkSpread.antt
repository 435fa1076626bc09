-- Marks that spread over a net from task to task.
use Rattle.std.specs.Prelude.{◌≡◌, ◌≢◌, ◌==◌, ℕ, ◌+◌, ◌<◌, ◌≤◌, List, [], ◌++◌, length, slice_index, count_by, All, Contains, Some}
use Rattle.task_graph.specs.NetRows.{NetRows}
use Rattle.pitfall_check.specs.declared.way.Way.{Way}
use Rattle.pitfall_check.specs.inside.Steps.{StepsBy, Reach, edges_by, end_by}

-- how many tasks have no mark, which is the mark 0
abbrev pub unmarked_count : List ℕ → ℕ
unmarked_count marks = count_by (λ mark. mark == 0) marks

-- From old to new marks some tasks without a mark, of each of which a fact holds, got this mark. They were put at
-- the end of the queue, and no others were.
pub record Adds (P : ℕ → Type 0) (mark : ℕ) (old queue new longer : List ℕ) : Type 0 where
  pub more : List ℕ
  pub queued : longer ≡ queue ++ more
  pub kept : (t : ℕ) → slice_index old t ≢ 0 → slice_index new t ≡ slice_index old t
  pub facts : All P more
  pub fresh : All (λ t. slice_index old t ≡ 0) more
  pub marked : All (λ t. slice_index new t ≡ mark) more
  pub listed : (t : ℕ) → slice_index old t ≡ 0 → slice_index new t ≢ 0 → Contains more t
  pub size : length new ≡ length old
  pub count : unmarked_count new + length more ≡ unmarked_count old

-- the task at the end of an edge has a mark
abbrev pub EndIsMarked : Way → NetRows → List ℕ → ℕ → Type 0
EndIsMarked way net marks e = (b : ℕ) → end_by way net e ≡ Some b → slice_index marks b ≢ 0

-- each end of a task's edges has a mark
abbrev pub EndsAreMarked : Way → NetRows → List ℕ → ℕ → Type 0
EndsAreMarked way net marks t = All (EndIsMarked way net marks) (edges_by way net t)

-- a step to a task that had no mark
abbrev pub FreshStep : Way → NetRows → List ℕ → ℕ → ℕ → Type 0
FreshStep way net old a b = StepsBy way net a b × (slice_index old b ≡ 0)

-- a task reached by such steps
abbrev pub FreshReach : Way → NetRows → List ℕ → ℕ → ℕ → Type 0
FreshReach way net old root t = Reach (FreshStep way net old) root t

-- The root and what is reached from it through tasks without a mark got a mark.
pub record IsSpread (way : Way) (net : NetRows) (root mark : ℕ) (old new : List ℕ) : Type 0 where
  pub size : length new ≡ length old
  pub root_marked : slice_index new root ≡ mark
  pub kept : (t : ℕ) → slice_index old t ≢ 0 → slice_index new t ≡ slice_index old t
  pub marked : (t : ℕ) → slice_index old t ≡ 0 → slice_index new t ≢ 0 → slice_index new t ≡ mark
  pub reached : (t : ℕ) → slice_index old t ≡ 0 → slice_index new t ≢ 0 → FreshReach way net old root t
  pub closed : (a b : ℕ) → slice_index old a ≡ 0 → slice_index new a ≢ 0 → StepsBy way net a b → slice_index new b ≢ 0

-- The marks while they spread: the tasks in the queue got a mark, and the ends of the edges of its first ones have one.
pub record IsSpreading (way : Way) (net : NetRows) (root mark : ℕ) (old new queue : List ℕ) (next : ℕ) : Type 0 where
  pub adds : Adds (FreshReach way net old root) mark old [] new queue
  pub root_marked : slice_index new root ≡ mark
  pub closed : (k : ℕ) → k < next → EndsAreMarked way net new (slice_index queue k)
  pub within : next ≤ length queue
