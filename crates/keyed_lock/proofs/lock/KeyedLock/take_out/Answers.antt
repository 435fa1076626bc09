use Rattle.std.proofs.Common.{ap, sym, ◌∙◌, ◌∷◌, Some}
use Rattle.atomic_table.specs.Table.{rest}
use Rattle.keyed_lock.proofs.Steps.{held_value}
use Rattle.keyed_lock.proofs.lock.KeyedLock.take_out.Goals as goal

pub exchange-value-requires : goal.exchange-value-requires
exchange-value-requires g c =
    let has = held_value g.T.Keyed.key c.args.self.now.table.shared.key.value c.args.seat.me.1 c.requires.value in
    (c.requires.table, (Some has.0, has.1 ∙ ap (λ held. (0, Some has.0) ∷ rest held) (sym has.1)))
