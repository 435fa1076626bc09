-- What a step makes of its release.
use Rattle.std.specs.Prelude.{◌≡◌, ◌⊎◌, ℕ, false, List, [], ◌∷◌, ◌++◌}
use Rattle.task_graph.specs.NetRows.{NetRows}
use Rattle.task_graph.specs.Net.{is_weak}
use Rattle.atomic_table.specs.Seated.{TableId}
use Rattle.journal_rules.specs.declared.entry.Cause.{Cause}
use Rattle.journal_rules.specs.declared.entry.Cause.TheVariants.{Strong}
use Rattle.table_steps.specs.Giving.{target}
use Rattle.join_tables.specs.States.{FreshState, fresh_state}
use Rattle.join_tables.specs.Turns.{release_cause}
use Rattle.join_tables.specs.declared.fates.Fate.{Fate}
use Rattle.join_tables.specs.declared.fates.Fate.TheVariants.{Ended, Faulted, Dropped, AllDropped}

-- what became of a release of this task by this cause
abbrev pub IsFateOf : {V : Type 0} → ℕ → Cause → Fate V → Type 0
IsFateOf t cause (Ended e) = (e.task ≡ t) × (e.cause ≡ cause)
IsFateOf t cause (Faulted f) = (f.task ≡ t) × (f.cause ≡ cause)
IsFateOf t cause (Dropped d) = (d.task ≡ t) × (d.cause ≡ cause)
IsFateOf t cause (AllDropped drops) = ⊥

-- the edges that an end gave
abbrev pub given_by : {V : Type 0} → Fate V → List ℕ
given_by (Ended e) = e.gives
given_by _ = []

-- the release that a token on an edge can make
abbrev pub release_of : NetRows → TableId → ℕ → FreshState
release_of net n e = fresh_state n (target net e) (release_cause net e)

-- These edges made these releases, in their order: a weak edge always one, and a strong edge one or none.
abbrev pub AreMadeBy : NetRows → TableId → List ℕ → List FreshState → Type 0
AreMadeBy net n [] [] = Unit {0}
AreMadeBy net n [] (fresh ∷ more) = ⊥
AreMadeBy net n (e ∷ edges) [] = (is_weak net e ≡ false) × AreMadeBy net n edges []
AreMadeBy net n (e ∷ edges) (fresh ∷ more) = ((fresh ≡ release_of net n e) × AreMadeBy net n edges more) ⊎ ((is_weak net e ≡ false) × AreMadeBy net n edges (fresh ∷ more))

-- Releases that these edges made were added.
pub record GivesEdges (net : NetRows) (n : TableId) (edges : List ℕ) (before after : List FreshState) : Type 0 where
  pub more : List FreshState
  pub after_is : after ≡ before ++ more
  pub made : AreMadeBy net n edges more

-- The task was released once more by tokens that were left on its strong in-edges, or it wasn't.
pub record MayRelease (n : TableId) (t : ℕ) (cause : Cause) (before after : List FreshState) : Type 0 where
  pub again : List FreshState
  pub after_is : after ≡ before ++ again
  pub is : (again ≡ []) ⊎ ((cause ≡ Strong) × (again ≡ fresh_state n t Strong ∷ []))

-- What a step makes of a release, to which this came: first releases by the edges that its end gave, then such a
-- release of the same task.
pub record Makes {V : Type 0} (net : NetRows) (release : FreshState) (fate : Fate V) (before after : List FreshState) : Type 0 where
  pub between : List FreshState
  pub gives : GivesEdges net release.table (given_by fate) before between
  pub again : MayRelease release.table release.task release.cause between after

-- the same, where that is what became of this release
pub record Uses {V : Type 0} (net : NetRows) (release : FreshState) (fate : Fate V) (before after : List FreshState) : Type 0 where
  pub of : IsFateOf release.task release.cause fate
  pub makes : Makes net release fate before after
