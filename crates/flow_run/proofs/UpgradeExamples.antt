-- What an upgrade of a graph file comes to, how it ends and what it writes, computed on a graph file `g` of one byte.
use Rattle.std.proofs.Common.{◌≡◌, ℕ, ◌+◌, List, [], ◌∷◌, ◌++◌, length, Option, Some, None, inl, inr, refl, sym, ap, subst, ◌∙◌, arith}
use Rattle.std.specs.Prelude.{bytes_eq, if◌then◌else◌}
use Rattle.graph_plans.specs.PlanRows.{PlanRows}
use Rattle.graph_plans.specs.declared.spots.Spot.TheVariants.{File}
use Rattle.graph_file.specs.PlanText.{PlanText}
use Rattle.graph_writer.specs.WrittenPlan.{plan_text}
use Rattle.call_status.specs.declared.status.Status.TheVariants.{Done, NoText, WriteFault}
use Rattle.call_status.specs.declared.status.Status.TheVariants as status
use Rattle.call_status.specs.declared.stop.Stop.{Stop}
use Rattle.call_status.specs.declared.stop.Stop.TheVariants as stop
use Rattle.call_status.specs.Statuses.{status_of}
use Rattle.command_line.specs.Requests.{asked_by, upgrade as upgrade_of}
use Rattle.legal_run.specs.declared.verdict.Verdict.TheVariants.{Complete as Finished}
use Rattle.flow_run.specs.declared.conclusion.Conclusion.TheVariants as conclusion
use Rattle.flow_run.specs.Requests.{SourceTexts}
use Rattle.flow_run.specs.PlanFiles.{IsAfterConclusion}
use Rattle.flow_run.specs.Upgrades.{IsUpgraded, EndsUpgraded, UpgradeEnds, TakesSamePlan}
use Rattle.flow_run.specs.Answers.{conclusion_text, output_of, runs_text}
use Rattle.flow_run.proofs.Completing.{one_plan}

abbrev g : List ℕ
g = 0 ∷ []

-- what is held: a byte under `g`
abbrev texts : List ℕ → Option (List ℕ)
texts name = if bytes_eq name g then Some (1 ∷ []) else None

abbrev held : SourceTexts
held = Some texts

-- What is written of a new file is the file, without an end to its line.
file_written : conclusion_text (Some (conclusion.GraphFile (7 ∷ 8 ∷ []))) ≡ 7 ∷ 8 ∷ []
file_written = refl

output_of_an_upgrade : (arguments : List (List ℕ)) → asked_by arguments ≡ Some (upgrade_of g) → output_of arguments [] (Some (conclusion.GraphFile (7 ∷ []))) ≡ 7 ∷ []
output_of_an_upgrade arguments asks = ap (λ asked. runs_text asked [] ++ 7 ∷ []) asks

-- The new file is what is written for the plan of the one that is held, and stands for that plan.
module _ (plan : PlanRows) (stands : PlanText (1 ∷ []) plan) (same : PlanText (plan_text plan) plan) where
  upgraded : IsUpgraded held g (plan_text plan)
  upgraded = record { bytes = 1 ∷ []; plan = plan; read = (refl, omega arith); stands = stands; written = refl; same = same }

  ends_upgraded : UpgradeEnds held g Done (Some (conclusion.GraphFile (plan_text plan))) × UpgradeEnds held g WriteFault (Some (conclusion.GraphFile (plan_text plan)))
  ends_upgraded = (
    inr (record { text = plan_text plan; only = refl; upgraded = upgraded; after = inl refl }),
    inr (record { text = plan_text plan; only = refl; upgraded = upgraded; after = inr (inl refl) }),
  )

  -- a line feed behind it isn't written
  with_a_line_feed : (text : List ℕ) → length text ≡ length (plan_text plan) + 1 → ¬ IsUpgraded held g text
  with_a_line_feed text longer is =
      let read : Some (1 ∷ []) ≡ Some is.bytes = is.read.0 in
      let bytes : 1 ∷ [] ≡ is.bytes = cc in
      let plans = one_plan is.bytes is.plan plan is.stands (subst (λ b. PlanText b plan) bytes stands) in
      absurd (omega (arith, longer, ap length (is.written ∙ ap plan_text plans)))

  -- a file of another plan isn't what an upgrade comes to
  file_of_another_plan : (other : PlanRows) (text : List ℕ) → ¬ (other ≡ plan) → PlanText text other → ¬ IsUpgraded held g text
  file_of_another_plan other text differs also is =
      let read : Some (1 ∷ []) ≡ Some is.bytes = is.read.0 in
      let bytes : 1 ∷ [] ≡ is.bytes = cc in
      differs (one_plan text other is.plan also is.same ∙ one_plan is.bytes is.plan plan is.stands (subst (λ b. PlanText b plan) bytes stands))

  -- The output takes it behind what it took before; where it doesn't say what it took, no more is known.
  takes_plan : TakesSamePlan held g (Some (5 ∷ [])) (Some (5 ∷ plan_text plan))
  takes_plan = record { bytes = 1 ∷ []; text = plan_text plan; plan = plan; read = (refl, omega arith); stands = stands; took = refl; same = same }

  takes_something : TakesSamePlan held g None None
  takes_something = record { bytes = 1 ∷ []; text = plan_text plan; plan = plan; read = (refl, omega arith); stands = stands; took = refl; same = same }

  takes_another_plan : (other : PlanRows) (text : List ℕ) → ¬ (other ≡ plan) → PlanText text other → ¬ TakesSamePlan held g (Some []) (Some text)
  takes_another_plan other text differs also takes =
      let read : Some (1 ∷ []) ≡ Some takes.bytes = takes.read.0 in
      let bytes : 1 ∷ [] ≡ takes.bytes = cc in
      let took : Some text ≡ Some takes.text = takes.took in
      let texts : text ≡ takes.text = cc in
      differs (one_plan text other takes.plan also (subst (λ t. PlanText t takes.plan) (sym texts) takes.same) ∙ one_plan takes.bytes takes.plan plan takes.stands (subst (λ b. PlanText b plan) bytes stands))

upgrade_of_a_missing_file : (text : List ℕ) → ¬ IsUpgraded held (2 ∷ []) text
upgrade_of_a_missing_file text is = let never : None ≡ Some is.bytes = is.read.0 in absurd (cc)

-- An end before the plan has no new file, and isn't done.
stopped_before_its_plan : UpgradeEnds held (2 ∷ []) (NoText (2 ∷ [])) None
stopped_before_its_plan = inl (record { why = stop.NoText (2 ∷ []); stops = inl (refl, refl); reported = refl; none = refl })

done_without_a_file : ¬ UpgradeEnds held g Done None
done_without_a_file (inl stopped) = never stopped.why stopped.reported
  where
    never : (why : Stop) → ¬ (Done ≡ status_of why)
    never (stop.BadGraph error) same = absurd (cc)
    never (stop.NoSource spot) same = absurd (cc)
    never (stop.NoText name) same = absurd (cc)
    never (stop.LongText name) same = absurd (cc)
    never (stop.ReadFault name) same = absurd (cc)
    never (stop.BadJournal line) same = absurd (cc)
    never stop.NoMemory same = absurd (cc)
done_without_a_file (inr ended) = let only : None ≡ Some (conclusion.GraphFile ended.text) = ended.only in absurd (cc)

verdict_of_an_upgrade : ¬ UpgradeEnds held g Done (Some (conclusion.Verdict Finished))
verdict_of_an_upgrade (inl stopped) = let none = stopped.none in absurd (cc)
verdict_of_an_upgrade (inr ended) = let only = ended.only in absurd (cc)

-- A graph without a source is upgraded like others: that is no status of an upgrade.
no_source_after_a_plan : ¬ EndsUpgraded held g (status.NoSource File) (Some (conclusion.GraphFile []))
no_source_after_a_plan ended = by_status ended.after
  where
    by_status : ¬ IsAfterConclusion (status.NoSource File)
    by_status (inl same) = absurd (cc)
    by_status (inr (inl same)) = absurd (cc)
    by_status (inr (inr same)) = absurd (cc)
