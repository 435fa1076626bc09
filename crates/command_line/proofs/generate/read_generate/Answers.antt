use Rattle.std.proofs.Common.{map, subst, sym, ◌≡◌, ◌∙◌, true, refl}
use Rattle.std.specs.String.{string_bytes}
use Rattle.clap.specs.Words.{App, app_of, found_of, is_simple, is_simple_and_free, rows_of}
use Rattle.clap.proofs.OnLiterals.{clap_on_literals}
use Rattle.command_line.specs.declared.generate.Generate.{Generate}
use Rattle.command_line.specs.Requests.{generate, generate_app, generate_in}
use Rattle.command_line.proofs.Reading.{asks, request_err, request_ok}
use Rattle.command_line.proofs.generate.read_generate.Goals as goal

generate_is_simple : is_simple generate_app ≡ true
unfolding clap_on_literals generate_app
generate_is_simple = refl

generate_is_free : is_simple_and_free generate_app ≡ true
unfolding clap_on_literals generate_app
generate_is_free = refl

pub matches_in-requires-clause-simple : goal.matches_in-requires-clause-simple
matches_in-requires-clause-simple c = subst (λ (app : App). is_simple app ≡ true) (sym c.in_ok-command.ensures) generate_is_simple

pub matches_in-requires-clause-free : goal.matches_in-requires-clause-free
matches_in-requires-clause-free c = subst (λ (app : App). is_simple_and_free app ≡ true) (sym c.in_ok-command.ensures) generate_is_free

pub returns-clause-ok : goal.returns-clause-ok
returns-clause-ok c =
    let wanted = asks generate_in generate_app (app_of c.in_ok-command.command) (map string_bytes c.args.arguments.now) (rows_of (found_of c.in_ok-matches.matches)) c.in_ok-command.ensures c.in_ok-matches.ensures.ok in
    request_ok (λ (r : Generate). generate r.layers r.workers) _ c.generate_of.result c.ok_or.result c.ok_or.ensures.value (c.generate_of.ensures ∙ sym wanted)

pub returns-clause-err : goal.returns-clause-err
returns-clause-err c =
    let wanted = asks generate_in generate_app (app_of c.in_ok-command.command) (map string_bytes c.args.arguments.now) (rows_of (found_of c.in_ok-matches.matches)) c.in_ok-command.ensures c.in_ok-matches.ensures.ok in
    request_err (λ (r : Generate). generate r.layers r.workers) _ c.generate_of.result c.ok_or.result c.ok_or.ensures.value (c.generate_of.ensures ∙ sym wanted)
