-- What the reading of a file answers.
use Rattle.std.proofs.Common.{◌≢◌, ℕ, List, IfErr, IfOk, Result, Ok, Err}
use Rattle.graph_plans.specs.declared.plans.Plan.{Plan}
use Rattle.graph_plans.specs.PlanRows.{IsPlan, plan_rows}
use Rattle.graph_drafts.specs.declared.refusals.GraphError.{GraphError}
use Rattle.graph_drafts.specs.declared.refusals.GraphError.TheVariants.{NoMemory}
use Rattle.graph_file.specs.PlanText.{IsRefused, PlanText, read_plan}
use Rattle.graph_drafts.specs.inside.Reading.{ReadsAs}
use Rattle.graph_file.proofs.PlanLemmas.{IsPlan-read}

pub plan-found : (bytes : List ℕ) (r : Result Plan GraphError) → ReadsAs plan_rows r (read_plan bytes) → IfOk r (λ plan. PlanText bytes (plan_rows plan))
plan-found bytes (Ok plan) reads = reads
plan-found bytes (Err e) reads = tt

pub rules-kept : (bytes : List ℕ) (r : Result Plan GraphError) → ReadsAs plan_rows r (read_plan bytes) → IfOk r (λ plan. IsPlan (plan_rows plan))
rules-kept bytes (Ok plan) reads = IsPlan-read bytes (plan_rows plan) reads
rules-kept bytes (Err e) reads = tt

pub refusal-reported : (bytes : List ℕ) (r : Result Plan GraphError) → ReadsAs plan_rows r (read_plan bytes) → IfErr r (λ error. error ≢ NoMemory → IsRefused bytes error)
refusal-reported bytes (Ok plan) reads = tt
refusal-reported bytes (Err e) reads = reads
