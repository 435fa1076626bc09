use Rattle.std.proofs.Common.{◌≡◌, [], take}
use Rattle.std.specs.Prelude.{drop}
use Rattle.table_steps.specs.inside.Accounts.{first_notes}
use Rattle.join_tables.specs.inside.FirstReleases.{duties_of, states_of}
use Rattle.join_tables.proofs.turns.NetTable.deal_all.Given as goal

abbrev pub invariant-loop-release : goal.invariant-loop-release
invariant-loop-release g l = (l.seat.table_id ≡ l.self.table) × (l.seat.id ≡ 0) × (l.seat.found ≡ []) × (l.seat.values ≡ l.initial.seat.values) × (l.seat.me ≡ (first_notes (duties_of (drop l.release-index l.release-items)), [])) × (l.fresh.items ≡ states_of l.self.table (take l.release-index l.release-items))
