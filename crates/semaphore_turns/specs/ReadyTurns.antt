-- Releases that may be taken up.
use Rattle.std.specs.Prelude.{◌≡◌, [], None}
use Rattle.join_tables.specs.States.{FreshState}
use Rattle.semaphore_turns.specs.WaitingTurns.{release_of}
use Rattle.semaphore_turns.specs.declared.ready_kind.ReadyKind.{ReadyKind}
use Rattle.semaphore_turns.specs.declared.ready_kind.ReadyKind.TheVariants.{Fresh, Woken}

-- the release, new or woken
abbrev pub ready_as : {V : Type 0} → ReadyKind V → FreshState
ready_as (Fresh fresh) = fresh
ready_as (Woken turn sem) = release_of turn

-- it wasn't refused and holds no unit
abbrev pub IsUnheld : {V : Type 0} → ReadyKind V → Type 0
IsUnheld (Fresh fresh) = Unit {0}
IsUnheld (Woken turn sem) = (turn.refused ≡ None) × (turn.held ≡ [])
