-- Teams of workers, as contracts see them.
use Rattle.std.specs.Prelude.{◌<◌, List, All, length, map}
use Rattle.worker_seat.specs.Crews.{AreSeatsOf, MayBegin, watcher_of}
use Rattle.topology_runs.specs.declared.team.Team.{Team}
use Rattle.topology_runs.specs.declared.team.Workers.{Workers}
use Rattle.topology_runs.specs.declared.team.Workers.TheVariants.{Alone, Seated}

-- the watchers of the workers, in their order
abbrev pub watchers_in : {J V X : Type 0} → Workers J X V → List X
watchers_in (Alone watchers) = watchers.items
watchers_in (Seated crew seats) = map watcher_of seats.items

-- they may run a job: no allocation has failed in an earlier run of seats; one thread has at most one watcher
abbrev pub MayRun : {J V X : Type 0} → Workers J X V → Type 0
MayRun (Alone watchers) = length watchers.items < 2
MayRun (Seated crew seats) = AreSeatsOf crew seats.items × All MayBegin seats.items

abbrev pub watchers_of : {J V X : Type 0} → Team J X V → List X
watchers_of team = watchers_in team.workers

abbrev pub IsReady : {J V X : Type 0} → Team J X V → Type 0
IsReady team = MayRun team.workers
