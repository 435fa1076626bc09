-- An end before what a call was to do.
use Rattle.std.specs.Prelude.{◌≡◌}
use Rattle.call_status.specs.declared.status.Status.{Status}
use Rattle.call_status.specs.declared.stop.Stop.{Stop}
use Rattle.call_status.specs.Statuses.{status_of}

-- Something stopped it before it came to anything, and the status says what.
pub record StoppedBefore (Stops : Stop → Type 0) (status : Status) (Nothing : Type 0) : Type 0 where
  pub why : Stop
  pub stops : Stops why
  pub reported : status ≡ status_of why
  pub none : Nothing
