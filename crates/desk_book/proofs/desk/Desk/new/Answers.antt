use Rattle.std.proofs.Common.{◌≡◌, ◌∙◌, ap, map, sym}
use Rattle.std.specs.Arc.{arc_value}
use Rattle.keyed_lock.specs.Locks.{made_with}
use Rattle.desk_book.specs.States.{DeskKey, DeskLocked, desk_key, key_of}
use Rattle.desk_book.proofs.Beginning.{passes_of}
use Rattle.desk_book.proofs.desk.Desk.new.Goals as goal

pub returns-clause-passes : goal.returns-clause-passes
returns-clause-passes g c =
    let J = g.row.J.Denot in
    let register = c.in_ok-register.field-0.register in
    let key : key_of (made_with c.in_ok-lock.lock) ≡ desk_key register c.args.callers (map arc_value c.args.jobs.items) =
    ap (λ (d : DeskLocked J). key_of d) c.in_ok-lock.ensures.ok ∙ c.open_passes.ensures.key ∙ c.in_ok-register.ensures.key in
    passes_of (key_of (made_with c.in_ok-lock.lock)) register c.args.callers c.in_ok-passes.passes.items (sym (ap (λ (k : DeskKey J). k.register) key)) (ap (λ (k : DeskKey J). k.callers) key) c.in_ok-passes.ensures.passes.0 c.in_ok-passes.ensures.passes.1
