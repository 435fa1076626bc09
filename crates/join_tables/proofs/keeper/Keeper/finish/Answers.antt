use Rattle.std.proofs.Common.{ap, subst}
use Rattle.outside_io.specs.declared.list.NoMemory.{NoMemory}
use Rattle.table_steps.proofs.Values.{one_known}
use Rattle.join_tables.specs.Keeping.{KeeperState, AgreeOnValues, entries_told}
use Rattle.join_tables.proofs.Merging.{told_below}
use Rattle.join_tables.proofs.Valuing.{merges_ok, finished_ok, values_ok}
use Rattle.join_tables.proofs.keeper.Keeper.finish.Goals as goal

pub merged-requires : goal.merged-requires
merged-requires g c = told_below (entries_told c.args.self.fates) (entries_told c.self.inside.fates.items) (ap (λ (k : KeeperState _). entries_told k.fates) c.self.view_is) c.requires

pub returns-clause-merges : goal.returns-clause-merges
returns-clause-merges g c = merges_ok NoMemory c.self.inside.fates.items c.args.self.fates c.merged.result (ap (λ (k : KeeperState _). k.fates) c.self.view_is) c.requires c.merged.ensures

pub returns-clause-finished : goal.returns-clause-finished
returns-clause-finished g c = finished_ok NoMemory c.self.inside.fates.items c.args.self.fates c.merged.result (ap (λ (k : KeeperState _). k.fates) c.self.view_is) c.merged.ensures

pub returns-clause-values : goal.returns-clause-values
returns-clause-values g c = values_ok NoMemory c.self.inside.fates.items c.args.self.fates c.merged.result (ap (λ (k : KeeperState _). k.fates) c.self.view_is) c.requires c.merged.ensures

pub returns-clause-agree : goal.returns-clause-agree
returns-clause-agree g c = subst (λ (k : KeeperState _). AgreeOnValues k.fates) c.self.view_is (one_known _ _ c.self.invariant.4 c.self.invariant.5)
