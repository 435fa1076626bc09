use Rattle.std.proofs.Common.{◌∙◌, sym, subst, map, ℕ, ◌<◌, length}
use Rattle.std.specs.Arc.{arc_value}
use Rattle.desk_book.specs.declared.desk_run.DeskRun.{DeskRun}
use Rattle.desk_book.specs.Histories.{IsOver, asks_of, turn_of}
use Rattle.desk_book.specs.Finishes.{IsDeskRun}
use Rattle.desk_book.specs.States.{DeskLocked}
use Rattle.desk_book.proofs.Running.{is_desk_run}
use Rattle.desk_book.proofs.state.DeskState.into_run.Goals as goal

pub returns-clause-run : goal.returns-clause-run
returns-clause-run g c =
    let s = c.self.inside in
    let run : DeskRun g.row.J.Denot g.row.J-V.Denot = record { history = c.from_vec.result; runs = c.from_vec-2.result } in
    let over = subst (λ (d : DeskLocked g.row.J.Denot). (n : ℕ) → n < length (asks_of d.book.history) → IsOver (turn_of d.book.history n)) (sym c.self.view_is) c.requires in
    subst (λ (d : DeskLocked g.row.J.Denot). IsDeskRun g.J.Job.meaning d.book.callers d.jobs run) c.self.view_is
    (is_desk_run g.J.Job.meaning (map arc_value s.jobs.value.items) s.book s.runs.items run c.self.invariant c.into_history.ensures.right over (c.from_vec.ensures ∙ c.into_history.ensures.history) c.from_vec-2.ensures)
