-- Which rounds a call asks for, and what is written of them.
use Rattle.std.specs.Prelude.{ℕ, Bool, true, false, List, [], ◌++◌, codes, decimal}
use Rattle.std.specs.List.{enumerate_from, flat_map}
use Rattle.std.specs.Option.{option_map_or}
use Rattle.run_frame.specs.declared.run.FrameRun.{FrameRun}
use Rattle.run_frame.specs.NestedRule.{journal_of}
use Rattle.command_line.specs.Requests.{AskedRounds, once, times, until, most_rounds}
use Rattle.journal_text.specs.declared.version.Version.TheVariants.{Two}
use Rattle.journal_text.specs.JournalText.{journal_text}
use Rattle.nested_runs.specs.Reasons.{run_reason}
use Rattle.nested_runs.specs.Rounds.{RoundRule, last_run}
use Rattle.nested_runs.specs.declared.reasons.Reason.{Reason}
use Rattle.nested_runs.specs.declared.reasons.Reason.TheVariants as reason
use Rattle.text_ops.specs.TextMeaning.{has_word}
use Rattle.text_tasks.specs.declared.item.Item.{Item}
use Rattle.text_tasks.specs.declared.job.TextJob.{TextJob}
use Rattle.text_tasks.specs.JobMeaning.{feedback_of, text_job}
use Rattle.report_laws.specs.Output.{report_of}

-- a run of text jobs
abbrev pub TextRun : Type 0
TextRun = FrameRun TextJob Item

-- whether a word occurs in a line of what the last of these runs handed on
abbrev pub last_has : List ℕ → List TextRun → Bool
last_has word runs = option_map_or (λ run. has_word word (feedback_of run)) (last_run runs) false

-- after which rounds there is no further one
abbrev pub rounds_end : AskedRounds → List TextRun → Bool
rounds_end once runs = false
rounds_end (times n) runs = false
rounds_end (until word) runs = last_has word runs

-- the rule of the rounds that are asked for
abbrev pub round_rule : AskedRounds → RoundRule TextJob Item
round_rule asked = record { most = most_rounds asked; ends = rounds_end asked }

-- why the last of these runs came to its end
abbrev pub last_reason : List TextRun → Reason
last_reason runs = option_map_or (run_reason text_job) (last_run runs) reason.Fine

-- what is written of a run: its journal in place of its report, or its report
abbrev pub run_text : Bool → TextRun → List ℕ
run_text true kept = journal_text Two (journal_of kept)
run_text false kept = report_of kept

-- the line of a round of this number
abbrev pub round_line : ℕ → List ℕ
round_line n = codes "## round " ++ decimal n ++ codes "\n"

-- what is written before it, where a number of rounds or a word is asked for
abbrev pub line_before : AskedRounds → ℕ → List ℕ
line_before once n = []
line_before (times k) n = round_line n
line_before (until word) n = round_line n

-- what is written of a round
abbrev pub round_text : AskedRounds → Bool → ℕ × TextRun → List ℕ
round_text asked journal (n, run) = line_before asked n ++ run_text journal run

-- what is written of these rounds
abbrev pub rounds_text : AskedRounds → Bool → List TextRun → List ℕ
rounds_text asked journal runs = flat_map (round_text asked journal) (enumerate_from 1 runs)
