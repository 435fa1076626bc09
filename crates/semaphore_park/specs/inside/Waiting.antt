-- The invariant of what is parked.
use Rattle.std.specs.Prelude.{ℕ, All}
use Rattle.semaphore_park.specs.Parking.{YardView, parked_on}

-- each item waits for a unit of the semaphore on which it is parked
abbrev pub AllWait : {T H : Type 0} → (T → H → ℕ → Type 0) → YardView T H → Type 0
AllWait {T} waits_at yard = (sem : ℕ) → All (λ (item : T). waits_at item yard.home sem) (parked_on yard sem)
