-- Counts up to the greatest `usize`.
use Rattle.std.specs.Prelude.{◌≡◌, ℕ, ◌-◌, ◌^◌, min}
use Rattle.graph_file.specs.declared.limits.Counts.{Counts as CountsOf}
use Rattle.graph_file.specs.PlanText.{Counts}

-- a number, or the greatest `usize` where it is past that
abbrev pub capped : ℕ → ℕ
capped n = min n (2 ^ 64 - 1)

-- what the code has of these counts
pub record AreCounted (counts : Counts) (found : CountsOf) : Type 0 where
  pub tasks : found.tasks ≡ capped counts.tasks
  pub edges : found.edges ≡ capped counts.edges
  pub sems : found.sems ≡ capped counts.sems
