use Rattle.std.proofs.Common.{arith, refl}
use Rattle.keyed_lock.proofs.Steps.{claims}
use Rattle.keyed_lock.proofs.lock.KeyedLock.take.Goals as goal

pub load_new_seat-seat-requires : goal.load_new_seat-seat-requires
load_new_seat-seat-requires g c =
    let words = c.args.self.now.words in
    (omega arith, λ s kept len small. (c.args.self.now.table.shared.key, kept, refl))

pub swap-requires : goal.swap-requires
swap-requires g c =
    let words = c.args.self.now.words in
    (c.loop.invariant.0, omega arith, claims g.T.Keyed.key c.args.self.now.table.shared.key _ _ _ c.loop.invariant.1 _ (λ _. (1, refl)))
