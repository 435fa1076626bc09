use Rattle.std.proofs.Common.{◌≡◌, [], None, map, sym, subst}
use Rattle.std.specs.String.{string_bytes}
use Rattle.command_line.specs.Requests.{asked_by}
use Rattle.flow_run.specs.declared.call.Ended.{Ended}
use Rattle.flow_run.specs.Answers.{HasWritten, output_of}
use Rattle.flow_run.proofs.Ending.{nothing_is_read}
use Rattle.flow_run.proofs.RoundReports.{nothing_read}
use Rattle.flow_run.proofs.call.answer.Goals as goal

pub returns-in-Err-NoMemory-clause-output : goal.returns-in-Err-NoMemory-clause-output
returns-in-Err-NoMemory-clause-output g c =
    let arguments = map string_bytes c.args.words.now in
    subst (λ (end : Ended). HasWritten g.S.Sink.state c.args.out.now c.args.out.now end.status ((end.runs ≡ []) × (end.conclusion ≡ None)) (output_of arguments end.runs end.conclusion) end.written)
    (sym c.stopped-in-Err-NoMemory.ensures) (nothing_read g.S.Sink.state c.args.out.now _ (asked_by arguments) c.requires)

pub returns-in-Ok-Generate-clause-read : goal.returns-in-Ok-Generate-clause-read
returns-in-Ok-Generate-clause-read g c =
    let ran = c.run_generated in
    nothing_is_read g.F.Texts.held g.F.Texts.failed c.args.texts.now c.in-Ok-Generate.asked.layers ran.result.status ran.result.runs ran.ensures.ends
