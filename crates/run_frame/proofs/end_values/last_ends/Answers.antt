use Rattle.std.proofs.Common.{rules, arith, sym, ap, ◌∙◌, ◌≡◌, ◌==◌, None, Some, if◌then◌else◌}
use Rattle.run_frame.specs.LastEnds.{ended_at}
use Rattle.run_frame.proofs.EndsLemmas.{last_before_more}
use Rattle.run_frame.proofs.end_values.last_ends.Goals.{in-Some, in_default}
use Rattle.run_frame.proofs.end_values.last_ends.Goals as goal

pub loop-place-preserved : goal.loop-place-preserved
loop-place-preserved c = elim c.match-ended_task.branch [
  | in-Some w ↦
      let is : ended_at c.args.journal.now c.loop-place.place ≡ Some w.in-Some.task = search rules in
      rw (w.ends-is) (record {
        len = w.note_end.ensures.len ∙ c.loop-place.invariant.len;
        each = λ t below.
            w.note_end.ensures.each t (omega (arith, below, c.loop-place.invariant.len))
            ∙ ap (λ o. if w.in-Some.task == t then Some c.loop-place.place else o) (c.loop-place.invariant.each t below)
            ∙ sym (last_before_more c.args.journal.now t c.loop-place.place (Some w.in-Some.task) is);
      })
  | in_default w ↦
      let is : ended_at c.args.journal.now c.loop-place.place ≡ None = search rules in
      rw (w.ends-is) (record {
        len = c.loop-place.invariant.len;
        each = λ t below. c.loop-place.invariant.each t below ∙ sym (last_before_more c.args.journal.now t c.loop-place.place None is);
      })
]
