use Rattle.std.proofs.Common.{◌≡◌, ◌∙◌, ◌++◌, ◌∷◌, [], List, ap, length, map, sym, subst}
use Rattle.std.specs.Arc.{arc_value}
use Rattle.run_frame.specs.declared.run.FrameRun.{FrameRun}
use Rattle.desk_book.specs.Histories.{asks_of}
use Rattle.desk_book.specs.States.{DeskLocked}
use Rattle.desk_book.proofs.Running.{asked_runs}
use Rattle.desk_book.proofs.state.DeskState.ask_in.Goals as goal

pub invariant_of-self-2 : goal.invariant_of-self-2
invariant_of-self-2 g c =
    let s = c.self.inside in
    let number : c.args.ask.number ≡ length (asks_of s.book.history) = subst (λ (d : DeskLocked g.row.J.Denot). c.args.ask.number ≡ length (asks_of d.book.history)) (sym c.self.view_is) c.requires.ask.number in
    asked_runs g.J.Job.meaning (map arc_value s.jobs.value.items) s.book c.ask_in.new.self s.runs.items c.push_reserved.new.self.items c.args.ask c.in_ok-ask_in.ensures.ok number c.in_ok-ask_in.ensures.waits
    (c.push_reserved.ensures.items ∙ ap (λ (rs : List (List (FrameRun g.row.J.Denot g.row.J-V.Denot))). rs ++ c.new.result ∷ []) c.reserve.ensures.items ∙ ap (λ (r : List (FrameRun g.row.J.Denot g.row.J-V.Denot)). s.runs.items ++ r ∷ []) c.new.ensures)
    c.self.invariant
