use Rattle.std.proofs.Common.{sym, subst, ◌∙◌}
use Rattle.graph_file.specs.inside.UseNets.{AreUses}
use Rattle.graph_file.proofs.limits.check_cycles.Goals as goal

pub first_on_cycle-requires : goal.first_on_cycle-requires
first_on_cycle-requires c = subst AreUses (sym (c.as_slice.ensures ∙ c.in_ok-uses.ensures)) c.requires.uses
