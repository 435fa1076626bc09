-- What is parked in a yard, as contracts see it.
use Rattle.std.specs.Prelude.{ℕ, List, [], length, replicate, slice_index_or, slice_set}

-- A yard: what its items belong to, and the items that are parked on each semaphore, by its number, the first to be
-- woken in front
pub record YardView (T H : Type 0) : Type 0 where
  pub home : H
  pub lists : List (List T)

abbrev pub yard_view : {T H : Type 0} → H → List (List T) → YardView T H
yard_view home lists = record { home = home; lists = lists }

-- a yard with no item, for so many semaphores
abbrev pub empty_yard : {T H : Type 0} → H → ℕ → YardView T H
empty_yard home sems = yard_view home (replicate sems [])

-- the items that are parked on a semaphore
abbrev pub parked_on : {T H : Type 0} → YardView T H → ℕ → List T
parked_on yard sem = slice_index_or yard.lists sem []

-- the yard with these items on a semaphore, and on the others what was there
abbrev pub with_parked : {T H : Type 0} → YardView T H → ℕ → List T → YardView T H
with_parked yard sem items = yard_view yard.home (slice_set yard.lists sem items)

-- what tells a yard from others: what its items belong to, and how many semaphores it has
pub record YardKey (H : Type 0) : Type 0 where
  pub home : H
  pub sems : ℕ

abbrev pub yard_key : {T H : Type 0} → YardView T H → YardKey H
yard_key yard = record { home = yard.home; sems = length yard.lists }
