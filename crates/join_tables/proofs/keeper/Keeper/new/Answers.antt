use Rattle.std.proofs.Common.{sym, ap, ◌∙◌, subst}
use Rattle.table_steps.specs.inside.Accounts.{busy, weigh}
use Rattle.table_steps.specs.Values.{Knows, HaveOneValueEach}
use Rattle.table_steps.proofs.Values.{knows_none}
use Rattle.join_tables.specs.Values.{values_known}
use Rattle.join_tables.specs.Keeping.{entries_told}
use Rattle.join_tables.specs.inside.Recording.{tellings, told_notes}
use Rattle.join_tables.proofs.Knowing.{one_none}
use Rattle.join_tables.proofs.keeper.Keeper.new.Goals as goal

pub invariant_of-result : goal.invariant_of-result
invariant_of-result g c = (
  c.requires.keeper,
  ap (λ m. m.1) c.requires.view,
  ap (λ m. tellings m.0) c.requires.view ∙ ap (λ fates. told_notes (entries_told fates)) (sym c.new.ensures.items),
  ap (λ m. weigh busy m.0) c.requires.view,
  subst (λ fates. Knows c.args.seat.values (values_known fates)) (sym c.new.ensures.items) (knows_none _),
  subst HaveOneValueEach (sym c.requires.values) one_none,
)
