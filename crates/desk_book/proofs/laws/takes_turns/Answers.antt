use Rattle.desk_book.proofs.TurnLaws.{takes_turns}
use Rattle.desk_book.proofs.laws.takes_turns.Goals as goal

pub returns : goal.returns
returns c graphs callers history right = takes_turns graphs callers history right
