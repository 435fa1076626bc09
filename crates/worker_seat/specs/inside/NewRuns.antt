-- Runs that have begun for the seats of a crew.
use Rattle.std.specs.Prelude.{◌≡◌, ℕ, length}
use Rattle.std.specs.Arc.{arc_value}
use Rattle.worker_seat.specs.inside.Attendances.{AreNew}
use Rattle.worker_seat.specs.declared.seats.NewRun.{NewRun}

-- The run's book was made with so many tellers, and these are here, each new.
pub record HasTellers {J V : Type 0} (count : ℕ) (new : NewRun J V) : Type 0 where
  pub made : (arc_value new.run).book.tellers ≡ count
  pub fresh : AreNew (arc_value new.run).book.name new.tellers.items
  pub all : length new.tellers.items ≡ count
