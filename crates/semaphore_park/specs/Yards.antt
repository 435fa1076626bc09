-- Yards and their passes, as contracts see them.
use Rattle.keyed_lock.specs.Locks.{made_with, IsLockPass}
use Rattle.keyed_lock.specs.declared.lock.LockPass.{LockPass}
use Rattle.semaphore_park.specs.Parking.{YardView}
use Rattle.semaphore_park.specs.declared.yard.ParkYard.{ParkYard}

-- the yard as it was opened. Its key is the yard's, for good
abbrev pub opened_as : {T H : Type 0} → ParkYard T H → YardView T H
opened_as yard = made_with yard.lock

-- the pass is for this yard
abbrev pub IsYardPass : {T H : Type 0} → ParkYard T H → LockPass (YardView T H) → Type 0
IsYardPass yard pass = IsLockPass yard.lock pass
