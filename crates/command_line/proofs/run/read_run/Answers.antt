use Rattle.std.proofs.Common.{map, subst, sym, ◌≡◌, ◌∙◌, true, refl}
use Rattle.std.specs.String.{string_bytes}
use Rattle.clap.specs.Words.{App, app_of, found_of, is_simple, is_simple_and_free, rows_of}
use Rattle.clap.proofs.OnLiterals.{clap_on_literals}
use Rattle.command_line.specs.declared.run.Run.{Run}
use Rattle.command_line.specs.Requests.{run, run_app, run_in, runs_app}
use Rattle.command_line.specs.Rounds.{asked_rounds}
use Rattle.command_line.proofs.Reading.{asks, request_err, request_ok}
use Rattle.command_line.proofs.run.read_run.Goals as goal

run_is_simple : is_simple run_app ≡ true
unfolding clap_on_literals run_app runs_app
run_is_simple = refl

run_is_free : is_simple_and_free run_app ≡ true
unfolding clap_on_literals run_app runs_app
run_is_free = refl

pub matches_in-requires-clause-simple : goal.matches_in-requires-clause-simple
matches_in-requires-clause-simple c = subst (λ (app : App). is_simple app ≡ true) (sym c.in_ok-command.ensures) run_is_simple

pub matches_in-requires-clause-free : goal.matches_in-requires-clause-free
matches_in-requires-clause-free c = subst (λ (app : App). is_simple_and_free app ≡ true) (sym c.in_ok-command.ensures) run_is_free

pub returns-clause-ok : goal.returns-clause-ok
returns-clause-ok c =
    let wanted = asks run_in run_app (app_of c.in_ok-command.command) (map string_bytes c.args.arguments.now) (rows_of (found_of c.in_ok-matches.matches)) c.in_ok-command.ensures c.in_ok-matches.ensures.ok in
    request_ok (λ (r : Run). run r.options.file.now r.options.limit r.options.workers (asked_rounds r.options.rounds) r.journal) _ c.run_of.result c.ok_or.result c.ok_or.ensures.value (c.run_of.ensures ∙ sym wanted)

pub returns-clause-err : goal.returns-clause-err
returns-clause-err c =
    let wanted = asks run_in run_app (app_of c.in_ok-command.command) (map string_bytes c.args.arguments.now) (rows_of (found_of c.in_ok-matches.matches)) c.in_ok-command.ensures c.in_ok-matches.ensures.ok in
    request_err (λ (r : Run). run r.options.file.now r.options.limit r.options.workers (asked_rounds r.options.rounds) r.journal) _ c.run_of.result c.ok_or.result c.ok_or.ensures.value (c.run_of.ensures ∙ sym wanted)
