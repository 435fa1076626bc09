-- Locks, as contracts see them.
use Rattle.std.specs.Prelude.{◌≡◌, [], ◌∷◌, None}
use Rattle.keyed_lock.specs.declared.lock.KeyedLock.{KeyedLock}
use Rattle.keyed_lock.specs.declared.lock.LockPass.{LockPass}

-- the value that a lock was made with. Its key is the lock's key, for good
abbrev pub made_with : {T : Type 0} → KeyedLock T → T
made_with lock = lock.table.shared.key.value

-- the pass is for this lock, whose slot it holds, with nothing in it
abbrev pub IsLockPass : {T : Type 0} → KeyedLock T → LockPass T → Type 0
IsLockPass lock pass = (pass.seat.table_id ≡ lock.table.shared.table_id) × (pass.seat.me.1 ≡ (0, None) ∷ [])
