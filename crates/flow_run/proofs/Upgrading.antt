-- An upgrade that is done has written a graph file for the same plan.
use Rattle.std.proofs.Common.{◌≡◌, inl, inr, ℕ, List, ◌++◌, Option, Some, sym, ap, ◌∙◌, subst}
use Rattle.outside_io.specs.Sink.{Took}
use Rattle.call_status.specs.declared.status.Status.{Status}
use Rattle.call_status.specs.declared.status.Status.TheVariants.{Done, NoMemory}
use Rattle.call_status.specs.declared.stop.Stop.{Stop}
use Rattle.call_status.specs.declared.stop.Stop.TheVariants as stop
use Rattle.call_status.specs.Statuses.{status_of}
use Rattle.command_line.specs.Requests.{asked_by, upgrade}
use Rattle.flow_run.specs.declared.conclusion.Conclusion.{Conclusion}
use Rattle.flow_run.specs.Requests.{SourceTexts}
use Rattle.flow_run.specs.Answers.{AskedEnds, TextRun, CallEnds, conclusion_text, output_of, runs_text}
use Rattle.flow_run.specs.Upgrades.{IsUpgraded, TakesSamePlan, UpgradeEnds}

never_done : (why : Stop) → status_of why ≡ Done → ⊥
never_done (stop.BadGraph error) same = cc
never_done (stop.NoSource spot) same = cc
never_done (stop.NoText name) same = cc
never_done (stop.LongText name) same = cc
never_done (stop.ReadFault name) same = cc
never_done (stop.BadJournal line) same = cc
never_done stop.NoMemory same = cc

module _ (held : SourceTexts) (file : List ℕ) (before after : Option (List ℕ)) where
  -- what was written of the new file alone
  takes_plan : (text : List ℕ) → IsUpgraded held file text → Took before after text → TakesSamePlan held file before after
  takes_plan text is took = record { bytes = is.bytes; text = text; plan = is.plan; read = is.read; stands = is.stands; took = took; same = is.same }

  pub upgrade_done : (arguments : List (List ℕ)) (status : Status) (runs : List TextRun) (concluded : Option Conclusion) → CallEnds held arguments status runs concluded
      → asked_by arguments ≡ Some (upgrade file) → status ≡ Done → Took before after (output_of arguments runs concluded) → TakesSamePlan held file before after
  upgrade_done arguments status runs concluded (inl ends) asks done took = by_end (subst (λ asked. AskedEnds held asked status runs concluded) asks ends).0
    where
      by_end : UpgradeEnds held file status concluded → TakesSamePlan held file before after
      by_end (inl stopped) = absurd (never_done stopped.why (sym stopped.reported ∙ done))
      by_end (inr ended) =
          let written : output_of arguments runs concluded ≡ ended.text = ap (λ ask. runs_text ask runs ++ conclusion_text concluded) asks ∙ ap conclusion_text ended.only in
          takes_plan ended.text ended.upgraded (subst (Took before after) written took)
  upgrade_done arguments status runs concluded (inr (memory, none, nothing)) asks done took = absurd (let never : NoMemory ≡ Done = sym memory ∙ done in cc)
