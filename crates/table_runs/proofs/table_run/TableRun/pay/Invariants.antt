use Rattle.std.proofs.Common.{◌≡◌, ◌+◌, ◌≤◌, [], length, vec_capacity, vec_len}
use Rattle.table_runs.specs.Runs.{AreOf}
use Rattle.table_runs.proofs.Making.{PaidSoFar}
use Rattle.table_runs.proofs.table_run.TableRun.pay.Given as goal

abbrev pub invariant-loop-next : goal.invariant-loop-next
invariant-loop-next g l = record {
  table : l.owing.table ≡ l.self.table;
  units : l.owing.units ≡ [];
  ended : l.owing.ended ≡ l.fn.owing.ended;
  of : AreOf l.self.table l.made.items;
  paid : PaidSoFar l.self-inside.table.net l.owing.table l.fn.owing.left l.owing.left l.fn.made.items l.made.items;
  few : vec_len l.made + length l.owing.left ≤ vec_len l.fn.made + length l.fn.owing.left;
  bare : l.owing.bare ≡ l.fn.owing.bare;
  capacity : vec_capacity l.made ≡ vec_capacity l.fn.made;
}

abbrev pub decreases-loop-next : goal.decreases-loop-next
decreases-loop-next g l = length l.owing.left
