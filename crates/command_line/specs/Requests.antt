-- What a command line asks for.
use Rattle.std.specs.Prelude.{ℕ, Bool, true, false, List, [], ◌∷◌, Option, Some, None, option_and_then, option_map, if◌then◌else◌, codes}
use Rattle.std.specs.Option.{option_map_or}
use Rattle.std.specs.Str.{bytes_eq}
use Rattle.clap.specs.Walk.{Row, Rule}
use Rattle.clap.specs.Words.{App, Kinds, first_of, matches_of, fault_of, new_app, new_rule, with_rule}
use Rattle.clap.specs.declared.builder.action.ArgAction.TheVariants.{SetTrue}
use Rattle.clap.specs.Simple.{on_top}
use Rattle.command_line.specs.declared.numbers.TheConstants.{DEFAULT_GRAIN, DEFAULT_LIMIT, DEFAULT_WORKERS, GREATEST_GRAIN, GREATEST_LAYERS, GREATEST_LIMIT, GREATEST_TIMES, GREATEST_WORKERS}
use Rattle.command_line.specs.Numbers.{number_in}

-- How often a graph is run: once, where nothing is said; so many times; or until a round passes on a line in which a
-- word occurs.
pub data AskedRounds : Type 0 where
  once : AskedRounds
  times : ℕ → AskedRounds
  until : List ℕ → AskedRounds

-- how many rounds there are at most
abbrev pub most_rounds : AskedRounds → ℕ
most_rounds once = 1
most_rounds (times n) = n
most_rounds (until word) = GREATEST_TIMES

-- What is asked for: to run the graph in a file, with at most so many starts a round, by so many workers and so often,
-- and to write the journals in place of the reports or not; to run it so and count what each task did; to judge the
-- journal in another file, which may have so many starts; to find how the graph in a file can go wrong; to write the
-- graph in a file as a file of the newest version; to run a generated graph of so many layers, by so many workers; or
-- to count the lines of a text in which a word occurs, in chunks of so many lines, by so many workers.
pub data Asked : Type 0 where
  run : List ℕ → ℕ → ℕ → AskedRounds → Bool → Asked
  profile : List ℕ → ℕ → ℕ → AskedRounds → Asked
  judge : List ℕ → List ℕ → ℕ → Asked
  check : List ℕ → Asked
  upgrade : List ℕ → Asked
  generate : ℕ → ℕ → Asked
  count : List ℕ → List ℕ → ℕ → ℕ → Asked

-- a command of this name that reads no name of a program, and of itself has no flag
abbrev pub command_named : List ℕ → App
command_named name = on_top (λ s. record s { no_binary_name = true; disable_help_flag = true }) (new_app name)

-- an argument that has to be there, by its place, and an option with a value
abbrev pub required : List ℕ → Rule
required name = record (new_rule name) { required = true }

abbrev pub option : List ℕ → Rule
option name = record (new_rule name) { long = Some name }

-- an option without a value
abbrev pub flag : List ℕ → Rule
flag name = record (new_rule name) { long = Some name; action = Some SetTrue }

-- `NAME FILE [--limit N] [--workers N] [--times N] [--until WORD]`
unfoldable pub runs_app : List ℕ → App
runs_app name = with_rule (with_rule (with_rule (with_rule (with_rule (command_named name) (required (codes "file"))) (option (codes "limit"))) (option (codes "workers"))) (option (codes "times"))) (option (codes "until"))

-- `run` with these and `[--journal]`, and `profile` with these alone
unfoldable pub run_app : App
run_app = with_rule (runs_app (codes "run")) (flag (codes "journal"))

unfoldable pub profile_app : App
profile_app = runs_app (codes "profile")

-- `judge FILE JOURNAL [--limit N]`
unfoldable pub judge_app : App
judge_app = with_rule (with_rule (with_rule (command_named (codes "judge")) (required (codes "file"))) (required (codes "journal"))) (option (codes "limit"))

-- `check FILE`
unfoldable pub check_app : App
check_app = with_rule (command_named (codes "check")) (required (codes "file"))

-- `upgrade FILE`
unfoldable pub upgrade_app : App
upgrade_app = with_rule (command_named (codes "upgrade")) (required (codes "file"))

-- `generate N [--workers N]`
unfoldable pub generate_app : App
generate_app = with_rule (with_rule (command_named (codes "generate")) (required (codes "layers"))) (option (codes "workers"))

-- `count WORD FILE [--grain N] [--workers N]`
unfoldable pub count_app : App
count_app = with_rule (with_rule (with_rule (with_rule (command_named (codes "count")) (required (codes "word"))) (required (codes "file"))) (option (codes "grain"))) (option (codes "workers"))

-- what a command finds among the arguments, where it finds no fault with them
abbrev pub rows_without : Kinds → List Row → Option (List Row)
rows_without [] rows = Some rows
rows_without (kind ∷ kinds) rows = None

abbrev pub rows_in : App → List (List ℕ) → Option (List Row)
rows_in app arguments = rows_without (fault_of app arguments) (matches_of app arguments)

-- the limit that an option's value asks for, from 1 to 1,000,000; without the option, 100,000
abbrev pub limit_by : Option (List ℕ) → Option ℕ
limit_by text = option_map_or (number_in 1 GREATEST_LIMIT) text (Some DEFAULT_LIMIT)

-- the number of workers that an option's value asks for; without the option, the default
abbrev pub workers_by : Option (List ℕ) → Option ℕ
workers_by text = option_map_or (number_in 1 GREATEST_WORKERS) text (Some DEFAULT_WORKERS)

-- the number of lines of a chunk that an option's value asks for, from 1 to 1,000,000; without the option, 1,000
abbrev pub grain_by : Option (List ℕ) → Option ℕ
grain_by text = option_map_or (number_in 1 GREATEST_GRAIN) text (Some DEFAULT_GRAIN)

-- the rounds that the values of `--times`, from 0 to 1,000, and of `--until` ask for, of which one at most may be there
abbrev pub rounds_by : Option (List ℕ) → Option (List ℕ) → Option AskedRounds
rounds_by None None = Some once
rounds_by (Some text) None = option_map times (number_in 0 GREATEST_TIMES text)
rounds_by None (Some word) = Some (until word)
rounds_by (Some text) (Some word) = None

abbrev pub rounds_in : List Row → Option AskedRounds
rounds_in rows = rounds_by (first_of (codes "times") rows) (first_of (codes "until") rows)

-- whether a flag stands there, by what `clap` says of it
abbrev pub is_set : Option (List ℕ) → Bool
is_set text = option_map_or (λ value. bytes_eq value (codes "true")) text false

-- what is asked for with a file, a limit, workers and rounds
abbrev pub asked_with : (List ℕ → ℕ → ℕ → AskedRounds → Asked) → List Row → Option Asked
asked_with make rows =
    option_and_then (λ file. option_and_then (λ limit. option_and_then (λ workers. option_map (make file limit workers) (rounds_in rows)) (workers_by (first_of (codes "workers") rows))) (limit_by (first_of (codes "limit") rows))) (first_of (codes "file") rows)

-- the run that is asked for
abbrev pub run_in : List Row → Option Asked
run_in rows = asked_with (λ file limit workers rounds. run file limit workers rounds (is_set (first_of (codes "journal") rows))) rows

-- the profile that is asked for
abbrev pub profile_in : List Row → Option Asked
profile_in = asked_with profile

-- the judgement that is asked for
abbrev pub judge_in : List Row → Option Asked
judge_in rows =
    option_and_then (λ file. option_and_then (λ journal. option_map (judge file journal) (limit_by (first_of (codes "limit") rows))) (first_of (codes "journal") rows)) (first_of (codes "file") rows)

-- the check that is asked for
abbrev pub check_in : List Row → Option Asked
check_in rows = option_map check (first_of (codes "file") rows)

-- the upgrade that is asked for
abbrev pub upgrade_in : List Row → Option Asked
upgrade_in rows = option_map upgrade (first_of (codes "file") rows)

-- the generated graph that is asked for, of 1 to 900 layers
abbrev pub generate_in : List Row → Option Asked
generate_in rows =
    option_and_then (λ layers. option_map (generate layers) (workers_by (first_of (codes "workers") rows))) (option_and_then (number_in 1 GREATEST_LAYERS) (first_of (codes "layers") rows))

-- the count that is asked for
abbrev pub count_in : List Row → Option Asked
count_in rows =
    option_and_then (λ word. option_and_then (λ file. option_and_then (λ grain. option_map (count word file grain) (workers_by (first_of (codes "workers") rows))) (grain_by (first_of (codes "grain") rows))) (first_of (codes "file") rows)) (first_of (codes "word") rows)

-- What a command line asks for: its first argument names the command that reads the others.
abbrev pub asked_by : List (List ℕ) → Option Asked
asked_by [] = None
asked_by (command ∷ arguments) = if bytes_eq command (codes "run") then option_and_then run_in (rows_in run_app arguments)
    else (if bytes_eq command (codes "profile") then option_and_then profile_in (rows_in profile_app arguments)
    else (if bytes_eq command (codes "judge") then option_and_then judge_in (rows_in judge_app arguments)
    else (if bytes_eq command (codes "check") then option_and_then check_in (rows_in check_app arguments)
    else (if bytes_eq command (codes "upgrade") then option_and_then upgrade_in (rows_in upgrade_app arguments)
    else (if bytes_eq command (codes "generate") then option_and_then generate_in (rows_in generate_app arguments)
    else (if bytes_eq command (codes "count") then option_and_then count_in (rows_in count_app arguments) else None))))))
