use Rattle.std.proofs.Common.{sym, subst}
use Rattle.call_status.specs.Delivery.{Delivers}
use Rattle.flow_run.specs.Generated.{summary_text}
use Rattle.flow_run.proofs.GeneratedLemmas.{first_summary}
use Rattle.flow_run.proofs.generate_command.deliver_summary.Goals as goal

pub returns-in-len1-up-clause-delivers : goal.returns-in-len1-up-clause-delivers
returns-in-len1-up-clause-delivers g c =
    let state = g.S.Sink.state in
    let layers = c.args.layers in
    let run = c.run-item.result in
    subst (λ bytes. Delivers (state c.args.out.now) (state c.flushed.new.sink) bytes c.flushed.result) (sym (first_summary layers c.args.runs.now run c.in-len1-up.len_at_least c.run-item.is))
    (c.flushed.ensures (state c.args.out.now) (summary_text layers run) c.requires.nothing_held c.put_summary-written.ensures)
