use Rattle.std.proofs.Common.{arith}
use Rattle.journal_text.proofs.TextLemmas.{read_more, shorter, one_longer}
use Rattle.journal_text.proofs.reader.read_entries.Goals as goal

pub loop-rest-smaller : goal.loop-rest-smaller
loop-rest-smaller c = let read = c.in-Ok.ensures.read in shorter c.args.version c.loop-rest.rest.now _ read.0 read.2

pub loop-rest-preserved : goal.loop-rest-preserved
loop-rest-preserved c =
    let read = c.in-Ok.ensures.read in
    let less = shorter c.args.version c.loop-rest.rest.now _ read.0 read.2 in
    let longer = one_longer c.loop-rest.journal c.push_entry.new.journal read.0 read.1 in
    (read_more c.args.version c.args.bytes.now _ _ _ _ read.0 c.loop-rest.invariant.0 read.1 read.2, omega arith, omega arith)
