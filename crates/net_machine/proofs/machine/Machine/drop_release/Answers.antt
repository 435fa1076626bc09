use Rattle.std.proofs.Common.{refl}
use Rattle.std.specs.Arc.{arc_value}
use Rattle.journal_rules.proofs.CountLaws.{can_grow}
use Rattle.net_machine.proofs.Keeping.{counted_room, has_dropped, same_state}
use Rattle.net_machine.proofs.machine.Machine.drop_release.Goals as goal

pub drop_release-requires-clause-grow : goal.drop_release-requires-clause-grow
drop_release-requires-clause-grow c =
    let net = arc_value c.self.inside.net in
    let h = c.self.inside.journal in
    let counted = counted_room net h c.self.inside.counts (record c.self.inside.counts { open_starts = c.append.new.open_starts }) c.self.invariant.counted c.in-Ok-append.ensures.opened refl refl refl refl refl refl in
    rw c.deref.ensures (can_grow net h _ counted c.in-Ok-append.ensures.size)

pub invariant_of-self-2 : goal.invariant_of-self-2
invariant_of-self-2 c =
    let net = arc_value c.self.inside.net in
    let h = c.self.inside.journal in
    let counted = counted_room net h c.self.inside.counts (record c.self.inside.counts { open_starts = c.append.new.open_starts }) c.self.invariant.counted c.in-Ok-append.ensures.opened refl refl refl refl refl refl in
    let may = rw (c.position.ensures, ← c.self.view_is) at c.in-Ok.ensures in
    let counts_it = rw c.deref.ensures at c.drop_release.ensures.counted in
    let tells_it = rw c.deref-2.ensures at c.take.ensures in
    let done = has_dropped net c.self.inside.limit c.args.task h _ c.args.cause c.args.why _ _ _ _ _ _ c.self.invariant may c.in-Ok-append.ensures.appended counted c.in-Ok-append.ensures.room counts_it tells_it in
    done.kept

pub returns-clause-dropped : goal.returns-clause-dropped
returns-clause-dropped c =
    let net = arc_value c.self.inside.net in
    let h = c.self.inside.journal in
    let counted = counted_room net h c.self.inside.counts (record c.self.inside.counts { open_starts = c.append.new.open_starts }) c.self.invariant.counted c.in-Ok-append.ensures.opened refl refl refl refl refl refl in
    let may = rw (c.position.ensures, ← c.self.view_is) at c.in-Ok.ensures in
    let counts_it = rw c.deref.ensures at c.drop_release.ensures.counted in
    let tells_it = rw c.deref-2.ensures at c.take.ensures in
    let done = has_dropped net c.self.inside.limit c.args.task h _ c.args.cause c.args.why _ _ _ _ _ _ c.self.invariant may c.in-Ok-append.ensures.appended counted c.in-Ok-append.ensures.room counts_it tells_it in
    rw (← c.self.view_is) (record { stands = c.in-Ok-append.ensures.place; allowed = done.may; after = same_state _ _ _ _ done.journal })
