-- What the watchers of a call were told.
use Rattle.std.specs.Prelude.{◌≡◌, ◌≢◌, ℕ, List, [], take, drop, length, Option, Some}
use Rattle.command_line.specs.Requests.{Asked, run, profile, generate}
use Rattle.topology_runs.specs.Told.{AreToldRounds}
use Rattle.flow_run.specs.RoundTexts.{TextRun}

-- how many workers are asked for, where a graph is to be run
abbrev pub asked_workers : Option Asked → ℕ
asked_workers (Some (run file limit workers rounds journal)) = workers
asked_workers (Some (profile file limit workers rounds)) = workers
asked_workers (Some (generate layers workers)) = workers
asked_workers asked = 0

-- Watchers, before and after rounds by so many workers. The first of them, one a worker, were together told as many
-- spans as the rounds have, with the runs inside them, where none was given up. The others are as they were.
pub record HaveSeen {X : Type 0} (told : X → ℕ) (workers : ℕ) (NoneGivenUp : Type 0) (runs : List TextRun) (old new : List X) : Type 0 where
  pub seen : NoneGivenUp → take workers old ≢ [] → AreToldRounds told runs (take workers old) (take workers new)
  pub others : drop workers new ≡ drop workers old
  pub count : length new ≡ length old
