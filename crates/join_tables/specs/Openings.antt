-- How a table begins.
use Rattle.std.specs.Prelude.{◌≡◌, ℕ, [], length, All}
use Rattle.task_graph.specs.NetRows.{NetRows}
use Rattle.join_tables.specs.declared.opening.Opening.{Opening}
use Rattle.join_tables.specs.States.{FreshState}
use Rattle.join_tables.specs.Keeping.{TellsRun, keeper_state}
use Rattle.join_tables.specs.FirstCauses.{first_fresh}

-- The table is of this net and limit, and there is a release of each source task and of each task whose strong in-edges
-- all begin with a token, by rising task. Where there is none, the run is finished. The keeper has taken in nothing and
-- has found nothing.
pub record OpensTable {V : Type 0} (net : NetRows) (limit : ℕ) (o : Opening V) : Type 0 where
  pub net_is : o.table.net ≡ net
  pub limit_is : o.table.limit ≡ limit
  pub fresh : o.fresh.items ≡ first_fresh o.table.table net 0 (length net.tasks)
  pub of_table : All (λ (f : FreshState). f.table ≡ o.table.table) o.fresh.items
  pub nothing : o.fresh.items ≡ [] → TellsRun net limit []
  pub keeper : o.keeper ≡ keeper_state o.table.table [] []
