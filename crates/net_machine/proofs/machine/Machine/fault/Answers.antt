use Rattle.std.proofs.Common.{refl}
use Rattle.std.specs.Arc.{arc_value}
use Rattle.journal_rules.proofs.CountLaws.{can_grow, open_flag}
use Rattle.net_machine.proofs.Keeping.{counted_room, has_faulted, same_state}
use Rattle.net_machine.proofs.machine.Machine.fault.Goals as goal

pub fault-requires-clause-grow : goal.fault-requires-clause-grow
fault-requires-clause-grow c =
    let net = arc_value c.self.inside.net in
    let h = c.self.inside.journal in
    let counted = counted_room net h c.self.inside.counts (record c.self.inside.counts { open_starts = c.append.new.open_starts }) c.self.invariant.counted c.in-Ok-append.ensures.opened refl refl refl refl refl refl in
    rw c.deref.ensures (can_grow net h _ counted c.in-Ok-append.ensures.size)

pub fault-requires-clause-opened : goal.fault-requires-clause-opened
fault-requires-clause-opened c =
    let found = rw (c.position.ensures, ← c.self.view_is) at c.in-Ok.ensures.checked in
    open_flag c.self.inside.journal _ c.args.start c.in-Ok-append.ensures.opened found.0.closing

pub invariant_of-self-2 : goal.invariant_of-self-2
invariant_of-self-2 c =
    let net = arc_value c.self.inside.net in
    let h = c.self.inside.journal in
    let counted = counted_room net h c.self.inside.counts (record c.self.inside.counts { open_starts = c.append.new.open_starts }) c.self.invariant.counted c.in-Ok-append.ensures.opened refl refl refl refl refl refl in
    let found = rw (c.position.ensures, ← c.self.view_is) at c.in-Ok.ensures.checked in
    let counts_it = rw c.deref.ensures at c.fault.ensures.counted in
    let done = has_faulted net c.self.inside.limit c.args.start c.in-Ok.task _ h _ c.args.why _ _ _ _ _ c.self.invariant found.0 found.1 c.in-Ok-append.ensures.appended c.in-Ok-append.ensures.place counted c.in-Ok-append.ensures.room counts_it in
    done.kept

pub returns-clause-faulted : goal.returns-clause-faulted
returns-clause-faulted c =
    let net = arc_value c.self.inside.net in
    let h = c.self.inside.journal in
    let counted = counted_room net h c.self.inside.counts (record c.self.inside.counts { open_starts = c.append.new.open_starts }) c.self.invariant.counted c.in-Ok-append.ensures.opened refl refl refl refl refl refl in
    let found = rw (c.position.ensures, ← c.self.view_is) at c.in-Ok.ensures.checked in
    let counts_it = rw c.deref.ensures at c.fault.ensures.counted in
    let done = has_faulted net c.self.inside.limit c.args.start c.in-Ok.task _ h _ c.args.why _ _ _ _ _ c.self.invariant found.0 found.1 c.in-Ok-append.ensures.appended c.in-Ok-append.ensures.place counted c.in-Ok-append.ensures.room counts_it in
    rw (← c.self.view_is) (record { stands = c.in-Ok-append.ensures.place; allowed = done.may; after = same_state _ _ _ _ done.journal })
