use Rattle.std.proofs.Common.{◌<◌, All, length, sym, subst}
use Rattle.join_tables.proofs.Releasing.{in_range}
use Rattle.join_tables.proofs.releases.bare_count.Goals as goal

pub bare_among-requires : goal.bare_among-requires
bare_among-requires c = subst (λ es. All (λ e. e < length c.args.net.now.edges) es) (sym c.strong_in.ensures) (in_range c.args.net.now c.args.task)
