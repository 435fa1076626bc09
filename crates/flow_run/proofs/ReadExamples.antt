-- What a call has done to the texts when it ends, and what it needs in order to do all that it is asked for, computed
-- on a source whose state is the names of its failed reads.
use Rattle.std.proofs.Common.{◌≡◌, ℕ, List, [], ◌∷◌, length, Option, Some, None, false, inl, inr, refl, arith, ap, Result, Ok, Err}
use Rattle.std.specs.Prelude.{◌==◌, if◌then◌else◌}
use Rattle.outside_io.specs.Sink.{SinkState}
use Rattle.call_status.specs.declared.status.Status.TheVariants.{Done, BadWords, NoText, ReadFault, NoMemory}
use Rattle.call_status.specs.declared.stop.Stop.{Stop}
use Rattle.call_status.specs.declared.stop.Stop.TheVariants as stop
use Rattle.command_line.specs.Requests.{once, run as run_of, profile as profile_of, judge as judge_of, check as check_of, upgrade as upgrade_of, generate as generate_of}
use Rattle.flow_run.specs.Requests.{SourceTexts, CanBeRun}
use Rattle.flow_run.specs.Judgements.{CanBeJudged}
use Rattle.flow_run.specs.PlanFiles.{HoldsPlan}
use Rattle.flow_run.specs.Reads.{FailsOnce, FailsBy, HaveRead}
use Rattle.flow_run.specs.Completion.{IsAtHand, NothingFails}

abbrev t : List ℕ
t = 1 ∷ []

abbrev u : List ℕ
u = 2 ∷ []

abbrev keeps : List (List ℕ) → SourceTexts
keeps failed = None

abbrev names : List (List ℕ) → List (List ℕ)
names failed = failed

abbrev none : List (List ℕ)
none = []

-- ---- which reads failed

no_read_failed : HaveRead keeps names none none Done
no_read_failed = record { stays = refl; fails = refl; untouched = λ is. absurd (cc) }

failed_read_hidden : ¬ HaveRead keeps names none (t ∷ []) Done
failed_read_hidden is = absurd (omega (arith, ap length is.fails))

failed_read_beside_a_missing_text : ¬ HaveRead keeps names none (t ∷ []) (NoText u)
failed_read_beside_a_missing_text is = absurd (omega (arith, ap length is.fails))

read_fault_of_nothing : ¬ HaveRead keeps names none none (ReadFault t)
read_fault_of_nothing is = absurd (omega (arith, ap length is.fails))

read_fault_told : HaveRead keeps names (u ∷ []) (u ∷ t ∷ []) (ReadFault t)
read_fault_told = record { stays = refl; fails = refl; untouched = λ is. absurd (cc) }

read_fault_on_another_name : ¬ HaveRead keeps names none (t ∷ []) (ReadFault u)
read_fault_on_another_name is = let same : t ∷ [] ≡ u ∷ [] = is.fails in absurd (cc)

first_failed_read_hidden_by_a_second : ¬ HaveRead keeps names none (t ∷ u ∷ []) (ReadFault u)
first_failed_read_hidden_by_a_second is = absurd (omega (arith, ap length is.fails))

second_failed_read_hidden : ¬ HaveRead keeps names none (t ∷ u ∷ []) (ReadFault t)
second_failed_read_hidden is = absurd (omega (arith, ap length is.fails))

-- Without memory one read at most may have failed that the status doesn't name.
failed_read_behind_memory : HaveRead keeps names none (t ∷ []) NoMemory × HaveRead keeps names none none NoMemory
failed_read_behind_memory = (
  record { stays = refl; fails = inr (t, refl); untouched = λ is. absurd (cc) },
  record { stays = refl; fails = inl refl; untouched = λ is. absurd (cc) },
)

two_failed_reads_behind_memory : ¬ FailsOnce none (t ∷ u ∷ [])
two_failed_reads_behind_memory (inl same) = absurd (omega (arith, ap length same))
two_failed_reads_behind_memory (inr (name, same)) = absurd (omega (arith, ap length same))

failed_reads_forgotten : ¬ FailsOnce (t ∷ []) none
failed_reads_forgotten (inl same) = absurd (omega (arith, ap length same))
failed_reads_forgotten (inr (name, same)) = absurd (omega (arith, ap length same))

abbrev changes : ℕ → SourceTexts
changes n = if n == 0 then Some (λ name. None) else None

texts_changed : ¬ HaveRead changes (λ n. none) 0 1 Done
texts_changed is = let same : changes 1 ≡ changes 0 = is.stays in absurd (cc)

-- Where nothing is asked for the source is as it was.
read_for_bad_words : ¬ HaveRead (λ (n : ℕ). None) (λ n. none) 0 1 BadWords
read_for_bad_words is = absurd (omega (arith, is.untouched refl))

abbrev read_all : Result ℕ Stop
read_all = Ok 0

abbrev read_failed : Result ℕ Stop
read_failed = Err (stop.ReadFault t)

reads_that_stop : FailsBy read_all none none × FailsBy read_failed none (t ∷ []) × FailsBy {A = ℕ} (Err (stop.NoText u)) none none
reads_that_stop = (refl, refl, refl)

good_read_noted : ¬ FailsBy read_all none (t ∷ [])
good_read_noted is = absurd (omega (arith, ap length is))

failed_read_not_noted : ¬ FailsBy read_failed none none
failed_read_not_noted is = absurd (omega (arith, ap length is))

-- ---- what is at hand

module _ (text : List ℕ → Option (List ℕ)) where
  by_its_command : (CanBeRun text t → IsAtHand (Some text) (Some (run_of t 77 4 once false))) × (CanBeJudged text t u 9 → IsAtHand (Some text) (Some (judge_of t u 9))) × (HoldsPlan text t → IsAtHand (Some text) (Some (check_of t)) × IsAtHand (Some text) (Some (upgrade_of t)))
  by_its_command = (λ can. can, λ can. can, λ can. (can, can))

  nothing_asked_for : ¬ IsAtHand (Some text) None
  nothing_asked_for hand = hand

run_of_nothing_specified : (¬ IsAtHand None (Some (run_of t 77 4 once false))) × (¬ IsAtHand None (Some (profile_of t 77 4 once)))
run_of_nothing_specified = (λ hand. hand, λ hand. hand)

read_of_nothing_specified : (¬ IsAtHand None (Some (judge_of t u 9))) × (¬ IsAtHand None (Some (check_of t))) × (¬ IsAtHand None (Some (upgrade_of t)))
read_of_nothing_specified = (λ hand. hand, λ hand. hand, λ hand. hand)

-- A generated graph needs no source.
nothing_needed : IsAtHand None (Some (generate_of 3 4))
nothing_needed = tt

-- ---- nothing fails

abbrev sink : ℕ → SinkState
sink faults = record { taken = Some []; held_back = []; faults = faults }

nothing_fails : NothingFails names (λ (state : SinkState). state) (t ∷ []) (t ∷ []) (sink 2) (sink 2)
nothing_fails = record { reads = refl; writes = refl }

read_fails : ¬ NothingFails names (λ (state : SinkState). state) none (t ∷ []) (sink 0) (sink 0)
read_fails is = absurd (omega (arith, ap length is.reads))

write_fails : ¬ NothingFails names (λ (state : SinkState). state) none none (sink 0) (sink 1)
write_fails is = absurd (omega (arith, is.writes))
