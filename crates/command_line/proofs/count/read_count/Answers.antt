use Rattle.std.proofs.Common.{map, subst, sym, ◌≡◌, ◌∙◌, true, refl}
use Rattle.std.specs.String.{string_bytes}
use Rattle.clap.specs.Words.{App, app_of, found_of, is_simple, is_simple_and_free, rows_of}
use Rattle.clap.proofs.OnLiterals.{clap_on_literals}
use Rattle.command_line.specs.declared.count.Count.{Count}
use Rattle.command_line.specs.Requests.{count, count_app, count_in}
use Rattle.command_line.proofs.Reading.{asks, request_err, request_ok}
use Rattle.command_line.proofs.count.read_count.Goals as goal

count_is_simple : is_simple count_app ≡ true
unfolding clap_on_literals count_app
count_is_simple = refl

count_is_free : is_simple_and_free count_app ≡ true
unfolding clap_on_literals count_app
count_is_free = refl

pub matches_in-requires-clause-simple : goal.matches_in-requires-clause-simple
matches_in-requires-clause-simple c = subst (λ (app : App). is_simple app ≡ true) (sym c.in_ok-command.ensures) count_is_simple

pub matches_in-requires-clause-free : goal.matches_in-requires-clause-free
matches_in-requires-clause-free c = subst (λ (app : App). is_simple_and_free app ≡ true) (sym c.in_ok-command.ensures) count_is_free

pub returns-clause-ok : goal.returns-clause-ok
returns-clause-ok c =
    let wanted = asks count_in count_app (app_of c.in_ok-command.command) (map string_bytes c.args.arguments.now) (rows_of (found_of c.in_ok-matches.matches)) c.in_ok-command.ensures c.in_ok-matches.ensures.ok in
    request_ok (λ (r : Count). count r.word.now r.file.now r.grain r.workers) _ c.count_of.result c.ok_or.result c.ok_or.ensures.value (c.count_of.ensures ∙ sym wanted)

pub returns-clause-err : goal.returns-clause-err
returns-clause-err c =
    let wanted = asks count_in count_app (app_of c.in_ok-command.command) (map string_bytes c.args.arguments.now) (rows_of (found_of c.in_ok-matches.matches)) c.in_ok-command.ensures c.in_ok-matches.ensures.ok in
    request_err (λ (r : Count). count r.word.now r.file.now r.grain r.workers) _ c.count_of.result c.ok_or.result c.ok_or.ensures.value (c.count_of.ensures ∙ sym wanted)
