use Rattle.std.proofs.Common.{arith}
use Rattle.text_ops.proofs.FittingKeys.{KeysFit-long}
use Rattle.text_ops.proofs.short_keys.short_keys_fit.Goals as goal

pub returns-then-text-clause-long : goal.returns-then-text-clause-long
returns-then-text-clause-long c = KeysFit-long c.args.text.now c.requires (omega arith)

pub returns-else-text-clause-long : goal.returns-else-text-clause-long
returns-else-text-clause-long c = KeysFit-long c.args.text.now c.requires (omega arith)
