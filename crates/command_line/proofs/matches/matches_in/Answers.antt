use Rattle.std.proofs.Common.{◌≡◌, refl, map}
use Rattle.std.specs.String.{string_bytes}
use Rattle.clap.specs.Words.{app_of, found_of, rows_of}
use Rattle.command_line.specs.declared.request.ArgumentsError.TheVariants.{NoMemory}
use Rattle.command_line.proofs.Reading.{found_rows, no_rows}
use Rattle.command_line.proofs.matches.matches_in.Goals as goal

pub returns-in-Ok-clause-ok : goal.returns-in-Ok-clause-ok
returns-in-Ok-clause-ok c =
    found_rows (app_of c.args.command) (app_of c.args.command) (map string_bytes c.args.arguments.now) (rows_of (found_of c.in-Ok.matches)) refl c.requires.simple c.requires.free
    c.in-Ok.ensures.kinds (λ simple. (c.in-Ok.ensures.matches simple).0)

pub returns-in-Err-clause-err : goal.returns-in-Err-clause-err
returns-in-Err-clause-err c = λ refused.
    no_rows (app_of c.args.command) (app_of c.args.command) (map string_bytes c.args.arguments.now) c.in-Err.error refl c.requires.free
    c.in-Err.ensures.kinds (λ out. let memory : c.arguments_error.result ≡ NoMemory = c.arguments_error.ensures.memory out in cc)
