use Rattle.std.proofs.Common.{◌≡◌, ◌≢◌, ◌++◌, List, [], ◌∷◌, length, sym, ap, ◌∙◌, subst, arith}
use Rattle.std.proofs.lemmas.List.{nil_from_length}
use Rattle.std.proofs.lemmas.Grind.{common_steps}
use Rattle.std.specs.Arc.{arc_value}
use Rattle.run_frame.specs.declared.run.FrameRun.{FrameRun}
use Rattle.topology_runs.specs.Teams.{watchers_of}
use Rattle.topology_runs.specs.Told.{AreToldRounds}
use Rattle.topology_runs.proofs.RoundLemmas.{first_rounds_next, recurs_next}
use Rattle.topology_runs.proofs.ToldLemmas.{told_round}
use Rattle.topology_runs.proofs.rounds.add_rounds.Goals as goal

pub loop-preserved : goal.loop-preserved
loop-preserved g c = record {
  first = first_rounds_next g.J.Job.meaning (arc_value c.args.first.now) _ c.loop.runs.items _ _ _ _ c.in_ok-run.run' (arc_value c.in_ok-job.job)
      c.as_slice.ensures.value c.reserve.ensures.items c.as_slice-in-loop.ensures.value c.push_reserved.ensures.items c.loop.invariant.first (omega arith)
      (c.is_over.ensures.goes_on c.if-is_over.false) c.in_ok-job.ensures.follows c.in_ok-run.ensures.run;
  count = grind (arith, common_steps);
  ready = c.in_ok-run.ensures.ready;
  watchers = λ some.
      let told = g.X.Watch.told in
      let old = watchers_of c.args.team.now in
      let new = watchers_of c.run.new.self in
      let some_left : watchers_of c.loop.team ≢ [] = λ none. some (nil_from_length old (sym c.loop.invariant.same ∙ ap length none)) in
      let runs_are = c.push_reserved.ensures.items ∙ ap (λ (rs : List (FrameRun g.row.J.Denot g.row.J-V.Denot)). rs ++ c.in_ok-run.run' ∷ []) c.reserve.ensures.items in
      subst (λ (rs : List (FrameRun g.row.J.Denot g.row.J-V.Denot)). AreToldRounds told rs old new) (sym runs_are)
      (told_round told c.loop.runs.items c.in_ok-run.run' old (watchers_of c.loop.team) new (c.loop.invariant.watchers some) (c.in_ok-run.ensures.watchers some_left));
  same = c.run.ensures.count ∙ c.loop.invariant.same;
  recurs = recurs_next g.J.Recurs.may_recur c.loop.runs.items _ _ c.in_ok-run.run' (arc_value c.in_ok-job.job) c.reserve.ensures.items c.push_reserved.ensures.items
      c.loop.invariant.recurs c.in_ok-run.ensures.run.same c.in_ok-job.ensures.recurs;
}
