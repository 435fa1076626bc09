use Rattle.std.proofs.Common.{◌∙◌, [], sym, ap}
use Rattle.std.specs.Option.{option_copied}
use Rattle.call_status.proofs.Missing.{missing}
use Rattle.flow_run.proofs.check_command.name_of.Goals as goal

pub returns-in-None : goal.returns-in-None
returns-in-None c = sym (missing c.args.on.now.names c.args.task [] (sym c.get.ensures ∙ ap option_copied c.in-None.is))
