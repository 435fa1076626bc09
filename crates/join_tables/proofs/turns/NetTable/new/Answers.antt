use Rattle.std.proofs.Common.{rules, ◌≡◌, length, map}
use Rattle.std.specs.Arc.{arc_value}
use Rattle.table_steps.specs.Values.{given_parts}
use Rattle.table_steps.specs.inside.Opening.{first_duties}
use Rattle.join_tables.specs.inside.FirstReleases.{duties_of, states_of, AreOpeningWords, AreFirstParcels}
use Rattle.join_tables.proofs.FirstStep.{begins_table, live_is, all_of_table}
use Rattle.join_tables.proofs.FirstFresh.{is_first_fresh, nothing_runs}
use Rattle.join_tables.proofs.turns.NetTable.new.Goals as goal

pub table_of-requires-clause-accounts : goal.table_of-requires-clause-accounts
table_of-requires-clause-accounts g c =
    let net = arc_value c.args.net in
    let first : duties_of c.in_ok-releases.releases.items ≡ first_duties net 0 (length net.tasks) = search rules in
    let live : c.len.result ≡ length c.in_ok-releases.releases.items = search rules in
    let words : AreOpeningWords net c.len.result c.as_slice.result.now = search rules in
    let lie : AreFirstParcels net (map given_parts c.in_ok-parcels.parcels.items) = search rules in
    begins_table given_parts net c.args.limit c.len.result c.as_slice.result.now c.in_ok-parcels.parcels.items lie c.requires.limit (live_is net c.in_ok-releases.releases.items c.len.result live first) words

pub returns : goal.returns
returns g c =
    let net = arc_value c.args.net in
    let rs = c.in_ok-releases.releases.items in
    let first : duties_of rs ≡ first_duties net 0 (length net.tasks) = search rules in
    let live : c.len.result ≡ length rs = search rules in
    let words : AreOpeningWords net c.len.result c.as_slice.result.now = search rules in
    let lie : AreFirstParcels net (map given_parts c.in_ok-parcels.parcels.items) = search rules in
    let dealt : c.in_ok-fresh.fresh.items ≡ states_of c.in_ok-table.table.shared.table_id rs = search rules in
    record {
      net_is = search rules;
      limit_is = search rules;
      fresh = is_first_fresh c.in_ok-table.table.shared.table_id net rs c.in_ok-fresh.fresh.items dealt first;
      of_table = all_of_table c.in_ok-table.table.shared.table_id rs c.in_ok-fresh.fresh.items dealt;
      nothing = nothing_runs given_parts net c.args.limit c.len.result c.as_slice.result.now c.in_ok-parcels.parcels.items rs c.in_ok-table.table.shared.table_id c.in_ok-fresh.fresh.items lie c.requires.limit live first words dealt;
      keeper = search rules;
    }
