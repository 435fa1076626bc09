use Rattle.command_line.proofs.Digits.{short_is_no_error}
use Rattle.command_line.proofs.numbers.value_of.Goals as goal

pub unreachable-requires : goal.unreachable-requires
unreachable-requires c = short_is_no_error _ c.args.text.now c.in-Err.field-0 c.in-Err.ensures.value.0 c.requires
