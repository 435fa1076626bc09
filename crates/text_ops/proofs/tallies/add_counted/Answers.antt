use Rattle.std.proofs.Common.{arith}
use Rattle.std.proofs.lemmas.Fmt.{length-decimal-le}
use Rattle.text_ops.proofs.tallies.add_counted.Goals as goal

pub write_digits-start-requires : goal.write_digits-start-requires
write_digits-start-requires c = (length-decimal-le 20 c.args.count (omega arith) (omega arith) (omega (arith, c.ranges.count.fits)), omega arith)
