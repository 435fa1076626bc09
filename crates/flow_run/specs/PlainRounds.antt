-- The rounds of a plan without conditions, worked out by one thread.
use Rattle.std.specs.Prelude.{ℕ, zero, suc, Bool, true, false, List, [], ◌∷◌, ◌++◌, All}
use Rattle.std.specs.List.{enumerate_from, flat_map}
use Rattle.command_line.specs.Requests.{AskedRounds, once, times, until, most_rounds}
use Rattle.text_ops.specs.TextMeaning.{has_word}
use Rattle.text_tasks.specs.declared.job.TextJob.{TextJob}
use Rattle.report_laws.specs.PlainReport.{RunsWell, plain_feedback, plain_next, plain_report}
use Rattle.flow_run.specs.RoundTexts.{line_before}

-- whether a round that passes on this text is the last, whatever their number
abbrev pub ends_with : AskedRounds → List ℕ → Bool
ends_with once text = false
ends_with (times n) text = false
ends_with (until word) text = has_word word text

-- The jobs of so many rounds at most. Each after the first has what the round before passes on as its input, and there
-- is none after a round that passes on a text at which they end.
abbrev pub jobs_by_turns : (List ℕ → Bool) → ℕ → TextJob → List TextJob
jobs_by_turns ends zero job = []
jobs_by_turns ends (suc n) job = job ∷ elim (ends (plain_feedback job)) [ true ↦ [] | false ↦ jobs_by_turns ends n (plain_next job) ]

-- the jobs of the rounds that are asked for, of which the first is this one
abbrev pub plain_jobs : AskedRounds → TextJob → List TextJob
plain_jobs asked job = jobs_by_turns (ends_with asked) (most_rounds asked) job

-- No task faults in any of these rounds, and in none more tasks start than the limit.
abbrev pub RoundsRunWell : AskedRounds → TextJob → Type 0
RoundsRunWell asked job = All RunsWell (plain_jobs asked job)

-- what is written of a round of this number: its line, if it has one, and its report
abbrev pub plain_round : AskedRounds → ℕ × TextJob → List ℕ
plain_round asked (n, job) = line_before asked n ++ plain_report job

-- what is written of these rounds
abbrev pub plain_rounds : AskedRounds → TextJob → List ℕ
plain_rounds asked job = flat_map (plain_round asked) (enumerate_from 1 (plain_jobs asked job))
