use Rattle.std.proofs.Common.{rules, arith, sym, ap, ◌∙◌, ◌≡◌, ◌==◌, None, Some}
use Rattle.std.specs.Prelude.{if◌then◌else◌}
use Rattle.run_frame.specs.NestedRule.{journal_of}
use Rattle.run_frame.specs.Runs.{values_of}
use Rattle.text_tasks.specs.inside.Gathering.{token_ended}
use Rattle.text_tasks.proofs.PipeTextLemmas.{token_end_more}
use Rattle.text_tasks.proofs.pipe_text.token_ends.Goals.{in-Some, in_default}
use Rattle.text_tasks.proofs.pipe_text.token_ends.Goals as goal

pub loop-n-preserved : goal.loop-n-preserved
loop-n-preserved c =
    let pipes = c.args.pipes in
    let journal = journal_of c.args.run.now in
    let rows = values_of c.args.run.now in
    let n = c.loop-n.n in
    elim c.match-ended_token.branch [
      | in-Some w ↦
          let is : Some w.in-Some.place ≡ token_ended pipes journal rows n = search rules in
          rw (w.ends-is) (record {
            len = w.note_end.ensures.len ∙ c.loop-n.invariant.len;
            each = λ place below.
                w.note_end.ensures.each place (omega (arith, below, c.loop-n.invariant.len))
                ∙ ap (λ o. if w.in-Some.place == place then Some n else o) (c.loop-n.invariant.each place below)
                ∙ sym (token_end_more pipes journal rows place n (Some w.in-Some.place) is);
          })
      | in_default w ↦
          let is : None ≡ token_ended pipes journal rows n = search rules in
          rw (w.ends-is) (record {
            len = c.loop-n.invariant.len;
            each = λ place below. c.loop-n.invariant.each place below ∙ sym (token_end_more pipes journal rows place n None is);
          })
    ]
