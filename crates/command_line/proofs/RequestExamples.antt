-- Command lines and what they ask for, computed.
use Rattle.std.proofs.Common.{◌≡◌, refl, arith, codes, Some, None, [], ◌∷◌, List, ℕ, true, false}
use Rattle.std.specs.Borrow.{Bor}
use Rattle.command_line.specs.declared.request.Request.TheVariants.{Run, Profile, Judge, Check, Upgrade, Generate, Count}
use Rattle.command_line.specs.declared.options.RunOptions.{RunOptions}
use Rattle.command_line.specs.declared.rounds.Rounds.TheVariants.{Once, Times, Until}
use Rattle.command_line.specs.Asked.{asked}
use Rattle.command_line.specs.Rounds.{asked_rounds}
use Rattle.clap.proofs.OnLiterals.{clap_on_literals}
use Rattle.command_line.specs.Numbers.{number_in}
use Rattle.command_line.specs.Requests.{once, times, until, most_rounds, run, profile, judge, check, upgrade, generate, count, asked_by, grain_by, limit_by, workers_by, rounds_by, runs_app, run_app, profile_app, judge_app, check_app, upgrade_app, generate_app, count_app}

-- Numbers have 1 to 7 digits and nothing else, and are in their range.
least : number_in 1 1000000 (codes "1") ≡ Some 1
least = refl

greatest : number_in 1 1000000 (codes "1000000") ≡ Some 1000000
greatest = refl

zeros_in_front : number_in 1 1000000 (codes "0000012") ≡ Some 12
zeros_in_front = refl

too_low : number_in 1 1000000 (codes "0") ≡ None
too_low = refl

too_high : number_in 1 1000000 (codes "1000001") ≡ None
too_high = refl

eight_digits : number_in 1 1000000 (codes "00000001") ≡ None
eight_digits = refl

no_digit : number_in 0 9 [] ≡ None
no_digit = refl

a_plus : number_in 1 9 (codes "+4") ≡ None
a_plus = refl

a_letter : number_in 1 9 (codes "1x") ≡ None
a_letter = refl

-- A run of a file, with the limit that is said or the default.
plain : asked_by (codes "run" ∷ codes "g" ∷ []) ≡ Some (run (codes "g") 100000 4 once false)
unfolding clap_on_literals runs_app run_app profile_app judge_app check_app upgrade_app
plain = refl

limited : asked_by (codes "run" ∷ codes "g" ∷ codes "--limit" ∷ codes "10" ∷ []) ≡ Some (run (codes "g") 10 4 once false)
unfolding clap_on_literals runs_app run_app profile_app judge_app check_app upgrade_app
limited = refl

limit_first : asked_by (codes "run" ∷ codes "--limit=10" ∷ codes "g" ∷ []) ≡ Some (run (codes "g") 10 4 once false)
unfolding clap_on_literals runs_app run_app profile_app judge_app check_app upgrade_app
limit_first = refl

behind_two_hyphens : asked_by (codes "run" ∷ codes "--" ∷ codes "-g" ∷ []) ≡ Some (run (codes "-g") 100000 4 once false)
unfolding clap_on_literals runs_app run_app profile_app judge_app check_app upgrade_app
behind_two_hyphens = refl

-- What is refused: no command, another one, no file, two files, other options, an option twice or without its value,
-- help, and numbers that are none.
nothing : asked_by [] ≡ None
nothing = refl

another_command : asked_by (codes "Run" ∷ codes "g" ∷ []) ≡ None
another_command = refl

no_file : asked_by (codes "run" ∷ []) ≡ None
unfolding clap_on_literals runs_app run_app profile_app judge_app check_app upgrade_app
no_file = refl

two_files : asked_by (codes "run" ∷ codes "g" ∷ codes "h" ∷ []) ≡ None
unfolding clap_on_literals runs_app run_app profile_app judge_app check_app upgrade_app
two_files = refl

unknown_option : asked_by (codes "run" ∷ codes "g" ∷ codes "--grain" ∷ codes "4" ∷ []) ≡ None
unfolding clap_on_literals runs_app run_app profile_app judge_app check_app upgrade_app
unknown_option = refl

hyphen_file : asked_by (codes "run" ∷ codes "-g" ∷ []) ≡ None
unfolding clap_on_literals runs_app run_app profile_app judge_app check_app upgrade_app
hyphen_file = refl

limit_twice : asked_by (codes "run" ∷ codes "g" ∷ codes "--limit" ∷ codes "1" ∷ codes "--limit" ∷ codes "1" ∷ []) ≡ None
unfolding clap_on_literals runs_app run_app profile_app judge_app check_app upgrade_app
limit_twice = refl

limit_without_value : asked_by (codes "run" ∷ codes "g" ∷ codes "--limit" ∷ []) ≡ None
unfolding clap_on_literals runs_app run_app profile_app judge_app check_app upgrade_app
limit_without_value = refl

help : asked_by (codes "run" ∷ codes "g" ∷ codes "--help" ∷ []) ≡ None
unfolding clap_on_literals runs_app run_app profile_app judge_app check_app upgrade_app
help = refl

bad_limit : asked_by (codes "run" ∷ codes "g" ∷ codes "--limit" ∷ codes "1x" ∷ []) ≡ None
unfolding clap_on_literals runs_app run_app profile_app judge_app check_app upgrade_app
bad_limit = refl

-- The journal in place of the report.
with_journal : asked_by (codes "run" ∷ codes "g" ∷ codes "--journal" ∷ []) ≡ Some (run (codes "g") 100000 4 once true)
unfolding clap_on_literals runs_app run_app profile_app judge_app check_app upgrade_app
with_journal = refl

journal_first : asked_by (codes "run" ∷ codes "--journal" ∷ codes "--limit" ∷ codes "7" ∷ codes "g" ∷ []) ≡ Some (run (codes "g") 7 4 once true)
unfolding clap_on_literals runs_app run_app profile_app judge_app check_app upgrade_app
journal_first = refl

journal_with_value : asked_by (codes "run" ∷ codes "g" ∷ codes "--journal=yes" ∷ []) ≡ None
unfolding clap_on_literals runs_app run_app profile_app judge_app check_app upgrade_app
journal_with_value = refl

journal_twice : asked_by (codes "run" ∷ codes "g" ∷ codes "--journal" ∷ codes "--journal" ∷ []) ≡ None
unfolding clap_on_literals runs_app run_app profile_app judge_app check_app upgrade_app
journal_twice = refl

-- A judgement of a journal, with the limit that is said or the default.
judged : asked_by (codes "judge" ∷ codes "g" ∷ codes "j" ∷ []) ≡ Some (judge (codes "g") (codes "j") 100000)
unfolding clap_on_literals runs_app run_app profile_app judge_app check_app upgrade_app
judged = refl

judged_within : asked_by (codes "judge" ∷ codes "g" ∷ codes "--limit" ∷ codes "3" ∷ codes "j" ∷ []) ≡ Some (judge (codes "g") (codes "j") 3)
unfolding clap_on_literals runs_app run_app profile_app judge_app check_app upgrade_app
judged_within = refl

no_journal : asked_by (codes "judge" ∷ codes "g" ∷ []) ≡ None
unfolding clap_on_literals runs_app run_app profile_app judge_app check_app upgrade_app
no_journal = refl

three_files : asked_by (codes "judge" ∷ codes "g" ∷ codes "j" ∷ codes "k" ∷ []) ≡ None
unfolding clap_on_literals runs_app run_app profile_app judge_app check_app upgrade_app
three_files = refl

flag_of_another_command : asked_by (codes "judge" ∷ codes "g" ∷ codes "j" ∷ codes "--journal" ∷ []) ≡ None
unfolding clap_on_literals runs_app run_app profile_app judge_app check_app upgrade_app
flag_of_another_command = refl

judged_within_nothing : asked_by (codes "judge" ∷ codes "g" ∷ codes "j" ∷ codes "--limit" ∷ codes "0" ∷ []) ≡ None
unfolding clap_on_literals runs_app run_app profile_app judge_app check_app upgrade_app
judged_within_nothing = refl

-- The greatest limit that may be asked for, and one more.
greatest_limit : (limit_by (Some (codes "1000000")) ≡ Some 1000000) × (limit_by (Some (codes "1000001")) ≡ None)
greatest_limit = (refl, refl)

-- The workers of a run, which are asked for beside the limit: 1 to 16, and 4 where nothing is said.
by_workers : asked_by (codes "run" ∷ codes "g" ∷ codes "--workers" ∷ codes "16" ∷ []) ≡ Some (run (codes "g") 100000 16 once false)
unfolding clap_on_literals runs_app run_app profile_app judge_app check_app upgrade_app
by_workers = refl

by_workers_within : asked_by (codes "run" ∷ codes "--workers=2" ∷ codes "--limit" ∷ codes "3" ∷ codes "g" ∷ []) ≡ Some (run (codes "g") 3 2 once false)
unfolding clap_on_literals runs_app run_app profile_app judge_app check_app upgrade_app
by_workers_within = refl

greatest_number_of_workers : (workers_by (Some (codes "1")) ≡ Some 1) × (workers_by (Some (codes "16")) ≡ Some 16) × (workers_by (Some (codes "17")) ≡ None) × (workers_by (Some (codes "0")) ≡ None)
greatest_number_of_workers = (refl, refl, refl, refl)

four_workers : workers_by None ≡ Some 4
four_workers = refl

by_no_worker : asked_by (codes "run" ∷ codes "g" ∷ codes "--workers" ∷ codes "0" ∷ []) ≡ None
unfolding clap_on_literals runs_app run_app profile_app judge_app check_app upgrade_app
by_no_worker = refl

-- How often it is run: so many times, from 0 to 1,000, or until a word occurs, which may be any, or else once.
twice : asked_by (codes "run" ∷ codes "g" ∷ codes "--times" ∷ codes "2" ∷ []) ≡ Some (run (codes "g") 100000 4 (times 2) false)
unfolding clap_on_literals runs_app run_app profile_app judge_app check_app upgrade_app
twice = refl

times_first : asked_by (codes "run" ∷ codes "--times=1" ∷ codes "--journal" ∷ codes "g" ∷ codes "--limit" ∷ codes "9" ∷ []) ≡ Some (run (codes "g") 9 4 (times 1) true)
unfolding clap_on_literals runs_app run_app profile_app judge_app check_app upgrade_app
times_first = refl

until_without_value : asked_by (codes "run" ∷ codes "g" ∷ codes "--workers" ∷ codes "2" ∷ codes "--until" ∷ codes "--limit" ∷ []) ≡ None
unfolding clap_on_literals runs_app run_app profile_app judge_app check_app upgrade_app
until_without_value = refl

until_a_word : asked_by (codes "run" ∷ codes "g" ∷ codes "--workers" ∷ codes "2" ∷ codes "--until" ∷ codes "1 1 1" ∷ []) ≡ Some (run (codes "g") 100000 2 (until (codes "1 1 1")) false)
unfolding clap_on_literals runs_app run_app profile_app judge_app check_app upgrade_app
until_a_word = refl

until_a_hyphen : asked_by (codes "run" ∷ codes "g" ∷ codes "--until=-x" ∷ []) ≡ Some (run (codes "g") 100000 4 (until (codes "-x")) false)
unfolding clap_on_literals runs_app run_app profile_app judge_app check_app upgrade_app
until_a_hyphen = refl

until_no_byte : asked_by (codes "run" ∷ codes "g" ∷ codes "--until=" ∷ []) ≡ Some (run (codes "g") 100000 4 (until []) false)
unfolding clap_on_literals runs_app run_app profile_app judge_app check_app upgrade_app
until_no_byte = refl

times_and_until : asked_by (codes "run" ∷ codes "g" ∷ codes "--times" ∷ codes "2" ∷ codes "--until" ∷ codes "x" ∷ []) ≡ None
unfolding clap_on_literals runs_app run_app profile_app judge_app check_app upgrade_app
times_and_until = refl

until_and_bad_times : asked_by (codes "run" ∷ codes "g" ∷ codes "--until" ∷ codes "x" ∷ codes "--times" ∷ codes "2x" ∷ []) ≡ None
unfolding clap_on_literals runs_app run_app profile_app judge_app check_app upgrade_app
until_and_bad_times = refl

times_twice : asked_by (codes "run" ∷ codes "g" ∷ codes "--times" ∷ codes "2" ∷ codes "--times" ∷ codes "2" ∷ []) ≡ None
unfolding clap_on_literals runs_app run_app profile_app judge_app check_app upgrade_app
times_twice = refl

until_twice : asked_by (codes "run" ∷ codes "g" ∷ codes "--until" ∷ codes "x" ∷ codes "--until" ∷ codes "x" ∷ []) ≡ None
unfolding clap_on_literals runs_app run_app profile_app judge_app check_app upgrade_app
until_twice = refl

too_often : asked_by (codes "run" ∷ codes "g" ∷ codes "--times" ∷ codes "1001" ∷ []) ≡ None
unfolding clap_on_literals runs_app run_app profile_app judge_app check_app upgrade_app
too_often = refl

numbers_of_times : (rounds_by (Some (codes "0")) None ≡ Some (times 0)) × (rounds_by (Some (codes "0001000")) None ≡ Some (times 1000)) × (rounds_by (Some (codes "1001")) None ≡ None) × (rounds_by (Some (codes "00000001")) None ≡ None) × (rounds_by (Some []) None ≡ None)
numbers_of_times = (refl, refl, refl, refl, refl)

at_most : (most_rounds once ≡ 1) × (most_rounds (times 0) ≡ 0) × ((word : List ℕ) → most_rounds (until word) ≡ 1000)
at_most = (refl, refl, λ word. refl)

-- A profile, which has the options of a run without `--journal`.
profiled : asked_by (codes "profile" ∷ codes "g" ∷ []) ≡ Some (profile (codes "g") 100000 4 once)
unfolding clap_on_literals runs_app run_app profile_app judge_app check_app upgrade_app
profiled = refl

profiled_so_often : asked_by (codes "profile" ∷ codes "--limit" ∷ codes "7" ∷ codes "g" ∷ codes "--times" ∷ codes "3" ∷ codes "--workers=1" ∷ []) ≡ Some (profile (codes "g") 7 1 (times 3))
unfolding clap_on_literals runs_app run_app profile_app judge_app check_app upgrade_app
profiled_so_often = refl

profiled_until : asked_by (codes "profile" ∷ codes "g" ∷ codes "--until" ∷ codes "done" ∷ []) ≡ Some (profile (codes "g") 100000 4 (until (codes "done")))
unfolding clap_on_literals runs_app run_app profile_app judge_app check_app upgrade_app
profiled_until = refl

profile_times_and_until : asked_by (codes "profile" ∷ codes "g" ∷ codes "--until" ∷ codes "x" ∷ codes "--times" ∷ codes "1" ∷ []) ≡ None
unfolding clap_on_literals runs_app run_app profile_app judge_app check_app upgrade_app
profile_times_and_until = refl

journal_of_a_profile : asked_by (codes "profile" ∷ codes "g" ∷ codes "--journal" ∷ []) ≡ None
unfolding clap_on_literals runs_app run_app profile_app judge_app check_app upgrade_app
journal_of_a_profile = refl

nothing_to_profile : asked_by (codes "profile" ∷ []) ≡ None
unfolding clap_on_literals runs_app run_app profile_app judge_app check_app upgrade_app
nothing_to_profile = refl

two_files_to_profile : asked_by (codes "profile" ∷ codes "g" ∷ codes "h" ∷ []) ≡ None
unfolding clap_on_literals runs_app run_app profile_app judge_app check_app upgrade_app
two_files_to_profile = refl

profile_without_worker : asked_by (codes "profile" ∷ codes "g" ∷ codes "--workers" ∷ codes "0" ∷ []) ≡ None
unfolding clap_on_literals runs_app run_app profile_app judge_app check_app upgrade_app
profile_without_worker = refl

times_of_a_judgement : asked_by (codes "judge" ∷ codes "g" ∷ codes "j" ∷ codes "--times" ∷ codes "1" ∷ []) ≡ None
unfolding clap_on_literals runs_app run_app profile_app judge_app check_app upgrade_app
times_of_a_judgement = refl

-- A check of a graph, which has a file and nothing else.
checked : asked_by (codes "check" ∷ codes "g" ∷ []) ≡ Some (check (codes "g"))
unfolding clap_on_literals runs_app run_app profile_app judge_app check_app upgrade_app
checked = refl

checked_behind_two_hyphens : asked_by (codes "check" ∷ codes "--" ∷ codes "-g" ∷ []) ≡ Some (check (codes "-g"))
unfolding clap_on_literals runs_app run_app profile_app judge_app check_app upgrade_app
checked_behind_two_hyphens = refl

nothing_to_check : asked_by (codes "check" ∷ []) ≡ None
unfolding clap_on_literals runs_app run_app profile_app judge_app check_app upgrade_app
nothing_to_check = refl

two_files_to_check : asked_by (codes "check" ∷ codes "g" ∷ codes "h" ∷ []) ≡ None
unfolding clap_on_literals runs_app run_app profile_app judge_app check_app upgrade_app
two_files_to_check = refl

limit_of_a_check : asked_by (codes "check" ∷ codes "g" ∷ codes "--limit" ∷ codes "3" ∷ []) ≡ None
unfolding clap_on_literals runs_app run_app profile_app judge_app check_app upgrade_app
limit_of_a_check = refl

help_on_a_check : asked_by (codes "check" ∷ codes "g" ∷ codes "--help" ∷ []) ≡ None
unfolding clap_on_literals runs_app run_app profile_app judge_app check_app upgrade_app
help_on_a_check = refl

-- An upgrade of a graph file, which has a file and nothing else.
upgraded : asked_by (codes "upgrade" ∷ codes "g" ∷ []) ≡ Some (upgrade (codes "g"))
unfolding clap_on_literals runs_app run_app profile_app judge_app check_app upgrade_app
upgraded = refl

upgraded_behind_two_hyphens : asked_by (codes "upgrade" ∷ codes "--" ∷ codes "-g" ∷ []) ≡ Some (upgrade (codes "-g"))
unfolding clap_on_literals runs_app run_app profile_app judge_app check_app upgrade_app
upgraded_behind_two_hyphens = refl

nothing_to_upgrade : asked_by (codes "upgrade" ∷ []) ≡ None
unfolding clap_on_literals runs_app run_app profile_app judge_app check_app upgrade_app
nothing_to_upgrade = refl

two_files_to_upgrade : asked_by (codes "upgrade" ∷ codes "g" ∷ codes "h" ∷ []) ≡ None
unfolding clap_on_literals runs_app run_app profile_app judge_app check_app upgrade_app
two_files_to_upgrade = refl

workers_of_an_upgrade : asked_by (codes "upgrade" ∷ codes "g" ∷ codes "--workers" ∷ codes "3" ∷ []) ≡ None
unfolding clap_on_literals runs_app run_app profile_app judge_app check_app upgrade_app
workers_of_an_upgrade = refl

help_on_an_upgrade : asked_by (codes "upgrade" ∷ codes "--help" ∷ []) ≡ None
unfolding clap_on_literals runs_app run_app profile_app judge_app check_app upgrade_app
help_on_an_upgrade = refl

-- A generated graph, of 1 to 900 layers, and its workers.
generated : asked_by (codes "generate" ∷ codes "900" ∷ []) ≡ Some (generate 900 4)
unfolding clap_on_literals runs_app run_app profile_app judge_app check_app upgrade_app generate_app
generated = refl

generated_by_one : asked_by (codes "generate" ∷ codes "1" ∷ codes "--workers" ∷ codes "1" ∷ []) ≡ Some (generate 1 1)
unfolding clap_on_literals runs_app run_app profile_app judge_app check_app upgrade_app generate_app
generated_by_one = refl

no_layers : asked_by (codes "generate" ∷ codes "0" ∷ []) ≡ None
unfolding clap_on_literals runs_app run_app profile_app judge_app check_app upgrade_app generate_app
no_layers = refl

past_the_layers : asked_by (codes "generate" ∷ codes "901" ∷ []) ≡ None
unfolding clap_on_literals runs_app run_app profile_app judge_app check_app upgrade_app generate_app
past_the_layers = refl

nothing_to_generate : asked_by (codes "generate" ∷ []) ≡ None
unfolding clap_on_literals runs_app run_app profile_app judge_app check_app upgrade_app generate_app
nothing_to_generate = refl

two_numbers_to_generate : asked_by (codes "generate" ∷ codes "1" ∷ codes "2" ∷ []) ≡ None
unfolding clap_on_literals runs_app run_app profile_app judge_app check_app upgrade_app generate_app
two_numbers_to_generate = refl

past_the_workers_of_a_generated_graph : asked_by (codes "generate" ∷ codes "1" ∷ codes "--workers" ∷ codes "17" ∷ []) ≡ None
unfolding clap_on_literals runs_app run_app profile_app judge_app check_app upgrade_app generate_app
past_the_workers_of_a_generated_graph = refl

limit_of_a_generated_graph : asked_by (codes "generate" ∷ codes "1" ∷ codes "--limit" ∷ codes "5" ∷ []) ≡ None
unfolding clap_on_literals runs_app run_app profile_app judge_app check_app upgrade_app generate_app
limit_of_a_generated_graph = refl

-- The lines in which a word occurs, in chunks of 1 to 1,000,000 lines, and the workers that count them.
counted : asked_by (codes "count" ∷ codes "w" ∷ codes "t" ∷ []) ≡ Some (count (codes "w") (codes "t") 1000 4)
unfolding clap_on_literals runs_app run_app profile_app judge_app check_app upgrade_app generate_app count_app
counted = refl

counted_by_one : asked_by (codes "count" ∷ codes "w" ∷ codes "t" ∷ codes "--grain" ∷ codes "1" ∷ codes "--workers" ∷ codes "1" ∷ []) ≡ Some (count (codes "w") (codes "t") 1 1)
unfolding clap_on_literals runs_app run_app profile_app judge_app check_app upgrade_app generate_app count_app
counted_by_one = refl

greatest_chunks : asked_by (codes "count" ∷ codes "" ∷ codes "t" ∷ codes "--grain=1000000" ∷ []) ≡ Some (count [] (codes "t") 1000000 4)
unfolding clap_on_literals runs_app run_app profile_app judge_app check_app upgrade_app generate_app count_app
greatest_chunks = refl

no_lines_a_chunk : asked_by (codes "count" ∷ codes "w" ∷ codes "t" ∷ codes "--grain" ∷ codes "0" ∷ []) ≡ None
unfolding clap_on_literals runs_app run_app profile_app judge_app check_app upgrade_app generate_app count_app
no_lines_a_chunk = refl

past_the_lines_of_a_chunk : asked_by (codes "count" ∷ codes "w" ∷ codes "t" ∷ codes "--grain" ∷ codes "1000001" ∷ []) ≡ None
unfolding clap_on_literals runs_app run_app profile_app judge_app check_app upgrade_app generate_app count_app
past_the_lines_of_a_chunk = refl

lines_of_a_chunk_missing : asked_by (codes "count" ∷ codes "w" ∷ codes "t" ∷ codes "--grain" ∷ []) ≡ None
unfolding clap_on_literals runs_app run_app profile_app judge_app check_app upgrade_app generate_app count_app
lines_of_a_chunk_missing = refl

lines_of_a_chunk_twice : asked_by (codes "count" ∷ codes "w" ∷ codes "t" ∷ codes "--grain" ∷ codes "1" ∷ codes "--grain" ∷ codes "1" ∷ []) ≡ None
unfolding clap_on_literals runs_app run_app profile_app judge_app check_app upgrade_app generate_app count_app
lines_of_a_chunk_twice = refl

no_text_to_count_in : asked_by (codes "count" ∷ codes "w" ∷ []) ≡ None
unfolding clap_on_literals runs_app run_app profile_app judge_app check_app upgrade_app generate_app count_app
no_text_to_count_in = refl

past_the_workers_of_a_count : asked_by (codes "count" ∷ codes "w" ∷ codes "t" ∷ codes "--workers" ∷ codes "17" ∷ []) ≡ None
unfolding clap_on_literals runs_app run_app profile_app judge_app check_app upgrade_app generate_app count_app
past_the_workers_of_a_count = refl

another_spelling : asked_by (codes "Check" ∷ codes "g" ∷ []) ≡ None
another_spelling = refl

-- What requests of the source ask for.
module _ (file journal word : Bor (List ℕ)) where
  so_often : RunOptions
  so_often = record { file = file; limit = 5; workers = 9; rounds = Times 3; within_limit = omega arith; some_workers = (omega arith, omega arith); within_times = omega arith }

  asks_for_a_run : asked (Run (record { options = so_often; journal = true })) ≡ run file.now 5 9 (times 3) true
  unfolding so_often
  asks_for_a_run = refl

  asks_for_a_profile : asked (Profile (record { options = so_often })) ≡ profile file.now 5 9 (times 3)
  unfolding so_often
  asks_for_a_profile = refl

  asks_for_rounds : (asked_rounds Once ≡ once) × (asked_rounds (Until word) ≡ until word.now)
  asks_for_rounds = (refl, refl)

  asks_for_a_judgement : asked (Judge (record { file = file; journal = journal; limit = 6; within_limit = omega arith })) ≡ judge file.now journal.now 6
  asks_for_a_judgement = refl

  asks_for_a_check : asked (Check (record { file = file })) ≡ check file.now
  asks_for_a_check = refl

  asks_for_an_upgrade : asked (Upgrade (record { file = file })) ≡ upgrade file.now
  asks_for_an_upgrade = refl

  asks_for_a_generated_graph : asked (Generate (record { layers = 3; workers = 2; within_layers = (omega arith, omega arith); some_workers = (omega arith, omega arith) })) ≡ generate 3 2
  asks_for_a_generated_graph = refl

  asks_for_a_count : asked (Count (record { word = word; file = file; grain = 7; workers = 2; within_grain = (omega arith, omega arith); some_workers = (omega arith, omega arith) })) ≡ count word.now file.now 7 2
  asks_for_a_count = refl
