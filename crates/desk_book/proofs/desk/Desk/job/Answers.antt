use Rattle.std.proofs.Common.{◌≡◌, ◌∙◌, ap, sym, length, arith}
use Rattle.std.specs.Arc.{arc_value}
use Rattle.std.proofs.lemmas.List.{length-map}
use Rattle.desk_book.specs.States.{DeskKey}
use Rattle.desk_book.proofs.Running.{holds_at}
use Rattle.desk_book.proofs.desk.Desk.job.Goals as goal

pub returns-clause-recurs : goal.returns-clause-recurs
returns-clause-recurs g c =
    let d = c.self.inside in
    let same : length c.args.self.now.jobs ≡ length d.jobs.items = sym (ap (λ (k : DeskKey g.row.J.Denot). length k.jobs) c.self.view_is) ∙ ap length c.self.invariant.1 ∙ length-map d.jobs.items arc_value in
    holds_at g.J.Recurs.may_recur arc_value d.jobs.items c.args.graph c.index.result.now c.self.invariant.4 (omega (arith, c.requires, same)) c.index.ensures
