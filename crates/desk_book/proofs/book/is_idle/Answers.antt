use Rattle.std.proofs.Common.{subst, None}
use Rattle.desk_book.specs.inside.Looks.{IsLastOf}
use Rattle.desk_book.proofs.Looking.{idle_of}
use Rattle.desk_book.proofs.book.is_idle.Goals as goal

pub returns-in-Some : goal.returns-in-Some
returns-in-Some c = idle_of c.args.asks.now c.args.turns.now c.args.graph c.in-Some.n c.is_over.result (subst (IsLastOf c.args.asks.now c.args.graph) c.in-Some.is c.last_of.ensures) c.is_over.ensures

pub returns-in-None : goal.returns-in-None
returns-in-None c = (None, subst (IsLastOf c.args.asks.now c.args.graph) c.in-None.is c.last_of.ensures, tt)
