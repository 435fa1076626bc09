use Rattle.std.specs.Arc.{arc_value}
use Rattle.table_steps.specs.inside.Accounts.{opening_notes}
use Rattle.table_steps.proofs.ValueSteps.{opens_knowing}
use Rattle.table_steps.proofs.opening.table_of.Goals as goal

pub new-requires : goal.new-requires
new-requires g c =
    let net = arc_value c.args.limited.now.net in let limit = c.args.limited.now.limit in
    opens_knowing net limit c.args.words.now c.args.parcels.items (opening_notes net limit) c.requires.accounts c.requires.no_values
