-- Turns that are done and not yet with their keeper.
use Rattle.std.specs.Prelude.{◌≡◌, ◌<◌, [], length, None}
use Rattle.std.specs.Vec.{vec_capacity, vec_len}
use Rattle.table_runs.specs.declared.done_turns.DoneTurns.{DoneTurns}

-- the same turns and runs
pub record HasSame {J V : Type 0} (old new : DoneTurns J V) : Type 0 where
  pub table : new.batch.table ≡ old.batch.table
  pub fates : new.batch.fates ≡ old.batch.fates
  pub inner : new.inner.items ≡ old.inner.items

-- There is room for one more turn, and for a run.
pub record HasSpace {J V : Type 0} (done : DoneTurns J V) : Type 0 where
  pub turn : length done.batch.fates < done.batch.room
  pub run : vec_len done.inner < vec_capacity done.inner

-- no turn
pub record IsNoTurn {J V : Type 0} (done : DoneTurns J V) : Type 0 where
  pub table : done.batch.table ≡ None
  pub fates : done.batch.fates ≡ []
  pub inner : done.inner.items ≡ []
