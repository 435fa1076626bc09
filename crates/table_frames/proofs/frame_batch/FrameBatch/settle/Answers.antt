use Rattle.std.proofs.Common.{rules, ◌≡◌, ◌≢◌, [], sym, ap, ◌∙◌, subst}
use Rattle.std.specs.Prelude.{IfSome}
use Rattle.std.specs.Arc.{arc_value}
use Rattle.table_frames.specs.Frames.{frames_around}
use Rattle.table_frames.specs.inside.FrameBatches.{FrameBatchView, AreDoneAt, IsBackOf}
use Rattle.table_frames.proofs.Batches.{no_back, no_turn_left, none_back, same_none}
use Rattle.table_frames.proofs.Settling.{settled_over}
use Rattle.table_frames.proofs.frame_batch.FrameBatch.settle.Goals as goal

pub invariant_of-self-in_err-settle_parked : goal.invariant_of-self-in_err-settle_parked
invariant_of-self-in_err-settle_parked g c =
    let fates = ap (λ (v : FrameBatchView g.row.J.Denot g.row.J-V.Denot). v.backlog.fates) c.self.view_is ∙ c.requires in
    let table = c.is_empty-is_empty.ensures.table.0 (c.is_empty-is_empty.ensures.fates.1 fates) in
    let none = no_turn_left g.J.Job.meaning (frames_around c.self.inside.frame) c.self.inside.done table fates c.self.invariant.0 in
    let back = no_back (frames_around c.self.inside.frame) c.self.inside.done c.self.inside.returned fates c.self.invariant.2 in
    subst (λ o. AreDoneAt g.J.Job.meaning (frames_around o) c.self.inside.done × IfSome o (λ frame. arc_value frame ≢ []) × IsBackOf (frames_around o) c.self.inside.done c.self.inside.returned) (sym c.take.ensures.after) (none, tt, none_back [] c.self.inside.done c.self.inside.returned none back)

pub invariant_of-self-in-Waits-1 : goal.invariant_of-self-in-Waits-1
invariant_of-self-in-Waits-1 g c =
    let fates = ap (λ (v : FrameBatchView g.row.J.Denot g.row.J-V.Denot). v.backlog.fates) c.self.view_is ∙ c.requires in
    let table = c.is_empty-is_empty.ensures.table.0 (c.is_empty-is_empty.ensures.fates.1 fates) in
    let none = no_turn_left g.J.Job.meaning (frames_around c.self.inside.frame) c.self.inside.done table fates c.self.invariant.0 in
    let back = no_back (frames_around c.self.inside.frame) c.self.inside.done c.self.inside.returned fates c.self.invariant.2 in
    subst (λ o. AreDoneAt g.J.Job.meaning (frames_around o) c.self.inside.done × IfSome o (λ frame. arc_value frame ≢ []) × IsBackOf (frames_around o) c.self.inside.done c.self.inside.returned) (sym c.take.ensures.after) (none, tt, none_back [] c.self.inside.done c.self.inside.returned none back)

pub invariant_of-self-in-Goes : goal.invariant_of-self-in-Goes
invariant_of-self-in-Goes g c =
    let fates = ap (λ (v : FrameBatchView g.row.J.Denot g.row.J-V.Denot). v.backlog.fates) c.self.view_is ∙ c.requires in
    let table = c.is_empty-is_empty.ensures.table.0 (c.is_empty-is_empty.ensures.fates.1 fates) in
    let none = no_turn_left g.J.Job.meaning (frames_around c.self.inside.frame) c.self.inside.done table fates c.self.invariant.0 in
    let back = no_back (frames_around c.self.inside.frame) c.self.inside.done c.self.inside.returned fates c.self.invariant.2 in
    subst (λ o. AreDoneAt g.J.Job.meaning (frames_around o) c.self.inside.done × IfSome o (λ frame. arc_value frame ≢ []) × IsBackOf (frames_around o) c.self.inside.done c.self.inside.returned) (sym c.take.ensures.after) (none, tt, none_back [] c.self.inside.done c.self.inside.returned none back)

pub invariant_of-self-in_err-make_room-in-Over : goal.invariant_of-self-in_err-make_room-in-Over
invariant_of-self-in_err-make_room-in-Over g c =
    let fates = ap (λ (v : FrameBatchView g.row.J.Denot g.row.J-V.Denot). v.backlog.fates) c.self.view_is ∙ c.requires in
    let table = c.is_empty-is_empty.ensures.table.0 (c.is_empty-is_empty.ensures.fates.1 fates) in
    let none = no_turn_left g.J.Job.meaning (frames_around c.self.inside.frame) c.self.inside.done table fates c.self.invariant.0 in
    let back = no_back (frames_around c.self.inside.frame) c.self.inside.done c.self.inside.returned fates c.self.invariant.2 in
    let none' = same_none c.self.inside.done c.make_room.new.self c.make_room.ensures.same none in
    subst (λ o. AreDoneAt g.J.Job.meaning (frames_around o) c.make_room.new.self × IfSome o (λ frame. arc_value frame ≢ []) × IsBackOf (frames_around o) c.make_room.new.self c.self.inside.returned) (sym c.take.ensures.after) (none', tt, none_back [] c.make_room.new.self c.self.inside.returned none' back)

pub gather-requires-clause-spent : goal.gather-requires-clause-spent
gather-requires-clause-spent g c κs within =
    let same : c.deref-in-Over.result.now ≡ c.deref.result.now = search rules in
    settled_over g.J.Job.meaning c.deref.result.now c.deref-in-Over.result.now c.in_ok-settle_parked.field-0 c.in-Over.spent same c.in-Over.is c.in_ok-settle_parked.ensures
