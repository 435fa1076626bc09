use Rattle.std.proofs.Common.{◌≡◌, ◌∙◌, List, ap, map, set, sym, subst}
use Rattle.std.specs.Arc.{arc_value}
use Rattle.run_frame.specs.declared.run.FrameRun.{FrameRun}
use Rattle.desk_book.specs.declared.entry.Ask.{Ask}
use Rattle.desk_book.specs.Rounds.{AreRoundsOf, journals_of}
use Rattle.desk_book.specs.States.{DeskLocked, desk_locked, with_rounds}
use Rattle.desk_book.proofs.Running.{ended_runs, map_set}
use Rattle.desk_book.proofs.state.DeskState.end_in.Goals as goal

pub invariant_of-self : goal.invariant_of-self
invariant_of-self g c =
    let s = c.self.inside in
    ended_runs g.J.Job.meaning (map arc_value s.jobs.value.items) s.book c.end_in.new.self s.runs.items c.set_runs.new.all.items c.args.taken c.args.whole c.args.runs c.end_in.ensures
    (subst (λ (d : DeskLocked g.row.J.Denot). AreRoundsOf g.J.Job.meaning d.jobs c.args.taken.ask c.args.whole c.args.runs) (sym c.self.view_is) c.requires.rounds)
    (c.set_runs.ensures ∙ ap (λ (a : Ask). set s.runs.items a.number c.args.runs) c.ask-number.ensures) c.self.invariant

pub returns-clause-rounds : goal.returns-clause-rounds
returns-clause-rounds g c =
    let s = c.self.inside in
    let W = FrameRun g.row.J.Denot g.row.J-V.Denot in
    let same : c.set_runs.new.all.items ≡ set s.runs.items c.args.taken.ask.number c.args.runs = c.set_runs.ensures ∙ ap (λ (a : Ask). set s.runs.items a.number c.args.runs) c.ask-number.ensures in
    ap (λ ns. desk_locked c.end_in.new.self (map arc_value s.jobs.value.items) ns) (ap (λ (rs : List (List W)). map (λ (r : List W). journals_of r) rs) same ∙ map_set (λ (r : List W). journals_of r) s.runs.items c.args.taken.ask.number c.args.runs)
    ∙ ap (λ (d : DeskLocked g.row.J.Denot). with_rounds d c.end_in.new.self c.args.taken.ask.number (journals_of c.args.runs)) c.self.view_is
