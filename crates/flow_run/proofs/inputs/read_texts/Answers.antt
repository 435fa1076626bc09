use Rattle.std.proofs.Common.{List, ℕ, subst, ◌∙◌}
use Rattle.call_status.specs.Statuses.{status_of}
use Rattle.flow_run.specs.Reads.{FailsWith}
use Rattle.flow_run.specs.Requests.{IsAdded, StopsAtName, SourceTexts, text_limit}
use Rattle.flow_run.proofs.Preparing.{read_one_more, stops_at}
use Rattle.flow_run.proofs.inputs.read_texts.Goals as goal

pub returns-in-Err-clause-stops : goal.returns-in-Err-clause-stops
returns-in-Err-clause-stops g c =
    let so_far = c.loop-name.invariant in
    stops_at (g.F.Texts.held c.args.texts.now) c.args.names.now c.loop-name.table c.loop-name.name-index c.name-item.result c.in-Err.stop c.loop-name-test.true c.name-item.is so_far.are
    (subst (λ (h : SourceTexts). StopsAtName h c.name-item.result text_limit c.in-Err.stop) so_far.held c.in-Err.ensures.stops)

pub returns-in-Err-clause-fails : goal.returns-in-Err-clause-fails
returns-in-Err-clause-fails g c =
    subst (λ (before : List (List ℕ)). FailsWith (status_of c.in-Err.stop) before (g.F.Texts.failed c.add_text.new.texts)) c.loop-name.invariant.failed c.in-Err.ensures.fails

pub loop-name-preserved : goal.loop-name-preserved
loop-name-preserved g c =
    let so_far = c.loop-name.invariant in
    record {
      held = c.add_text.ensures.stays ∙ so_far.held;
      failed = c.in_default.ensures.fails ∙ so_far.failed;
      are = read_one_more (g.F.Texts.held c.args.texts.now) c.args.names.now c.loop-name.name-index c.name-item.result c.loop-name.table c.add_text.new.table c.loop-name-test.true c.name-item.is so_far.are
          (subst (λ (h : SourceTexts). IsAdded h c.name-item.result c.loop-name.table c.add_text.new.table) so_far.held c.in_default.ensures.added);
    }
