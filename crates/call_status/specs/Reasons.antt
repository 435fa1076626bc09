-- The reason of a run, as text.
use Rattle.std.specs.Prelude.{ℕ, List, [], ◌∷◌, ◌++◌, codes, decimal, Option}
use Rattle.journal_rules.specs.declared.entry.Why.{Why}
use Rattle.journal_rules.specs.declared.entry.Why.TheVariants.{Long, Wide, Unmet, Inner, OverRelease}
use Rattle.graph_plans.specs.PlanRows.{PlanRows}
use Rattle.call_status.specs.Paths.{path_text}
use Rattle.nested_runs.specs.declared.reasons.Reason.{Reason}
use Rattle.nested_runs.specs.declared.reasons.Reason.TheVariants.{Fine, Fault, Limit, Stuck}

-- why a task faulted
abbrev pub why_text : Why → List ℕ
why_text (Long bytes) = codes "long " ++ decimal bytes
why_text (Wide parts) = codes "wide " ++ decimal parts
why_text (Unmet token) = codes "unmet " ++ decimal token
why_text Inner = codes "inner"
why_text (OverRelease semaphore) = codes "over " ++ decimal semaphore

abbrev pub fault_text : Option PlanRows → List ℕ → Why → List ℕ
fault_text plan path why = codes "fault " ++ path_text plan path ++ codes ": " ++ why_text why

-- the limit that was met, and where that wasn't the run itself
abbrev pub within_path : Option PlanRows → List ℕ → List ℕ
within_path plan [] = []
within_path plan (task ∷ rest) = codes " in " ++ path_text plan (task ∷ rest)

abbrev pub limit_text : Option PlanRows → List ℕ → ℕ → List ℕ
limit_text plan path limit = codes "limit " ++ decimal limit ++ within_path plan path

abbrev pub stuck_text : Option PlanRows → List ℕ → List ℕ
stuck_text plan path = codes "stuck " ++ path_text plan path

-- the last line of the report of a run that didn't end fine
abbrev pub reason_line : Option PlanRows → Reason → List ℕ
reason_line plan Fine = []
reason_line plan (Fault path why) = codes "!! " ++ fault_text plan path why ++ codes "\n"
reason_line plan (Limit path limit) = codes "!! " ++ limit_text plan path limit ++ codes "\n"
reason_line plan (Stuck path) = codes "!! " ++ stuck_text plan path ++ codes "\n"
