use Rattle.std.proofs.Common.{◌≡◌, inl, inr, sym, ◌∙◌, arith}
use Rattle.call_status.specs.declared.status.Status.TheVariants.{WriteFault, NoMemory}
use Rattle.std.specs.Prelude.{map}
use Rattle.std.specs.String.{string_bytes}
use Rattle.flow_run.proofs.Completing.{completes}
use Rattle.flow_run.proofs.Plainly.{kept_in_order, kept_plainly, plain_completes, plain_done, plain_written}
use Rattle.flow_run.proofs.Ending.{no_read_fault}
use Rattle.flow_run.proofs.Upgrading.{upgrade_done}
use Rattle.flow_run.proofs.call.flow_main.Goals as goal

pub returns-clause-completes : goal.returns-clause-completes
returns-clause-completes g c = λ hand well fine.
    let did = c.answer-status.ensures in
    completes c.answer-status.result.status (no_read_fault g.F.Texts.held g.F.Texts.failed _ _ c.answer-status.result.status did.read well.reads)
    (λ same. elim (did.output.cause (did.output.write_fault same)) [
      | inl rises ↦ absurd (omega (arith, rises, well.writes))
      | inr memory ↦ absurd (let never : WriteFault ≡ NoMemory = sym same ∙ memory in cc)
    ])
    (g.F.Texts.held c.args.texts.now) (map string_bytes c.args.words.now) _ _ did.ends hand fine

pub returns-clause-kept_plainly : goal.returns-clause-kept_plainly
returns-clause-kept_plainly g c =
    kept_plainly (g.F.Texts.held c.args.texts.now) (map string_bytes c.args.words.now) c.answer-status.result.status c.answer-status.result.runs _ c.answer-status.ensures.ends

pub returns-clause-plainly : goal.returns-clause-plainly
returns-clause-plainly g c = λ rounds job asks.
    let did = c.answer-status.ensures in
    let held = g.F.Texts.held c.args.texts.now in
    let arguments = map string_bytes c.args.words.now in
    let status = c.answer-status.result.status in
    record {
      well = λ done. plain_done held arguments status rounds job asks _ _ did.ends done;
      output = λ done. plain_written held arguments status rounds job asks _ _ did.ends done _ _ (did.output.whole (did.output.done done));
      done = λ well nothing.
          plain_completes held arguments status rounds job asks _ _ did.ends well
          (no_read_fault g.F.Texts.held g.F.Texts.failed _ _ status did.read nothing.reads)
          (λ same. elim (did.output.cause (did.output.write_fault same)) [
            | inl rises ↦ absurd (omega (arith, rises, nothing.writes))
            | inr memory ↦ absurd (let never : WriteFault ≡ NoMemory = sym same ∙ memory in cc)
          ]);
    }

pub returns-clause-upgrades : goal.returns-clause-upgrades
returns-clause-upgrades g c = λ file asks done.
    let did = c.answer-status.ensures in
    upgrade_done (g.F.Texts.held c.args.texts.now) file _ _ (map string_bytes c.args.words.now) c.answer-status.result.status c.answer-status.result.runs _ did.ends asks done
    (did.output.whole (did.output.done done))

pub returns-clause-pipes : goal.returns-clause-pipes
returns-clause-pipes g c =
    kept_in_order (g.F.Texts.held c.args.texts.now) (map string_bytes c.args.words.now) c.answer-status.result.status c.answer-status.result.runs _ c.answer-status.ensures.ends
