-- What rounds ask for.
use Rattle.command_line.specs.declared.rounds.Rounds.{Rounds}
use Rattle.command_line.specs.declared.rounds.Rounds.TheVariants.{Once, Times, Until}
use Rattle.command_line.specs.Requests.{AskedRounds, once, times, until}

abbrev pub asked_rounds : Rounds → AskedRounds
asked_rounds Once = once
asked_rounds (Times n) = times n
asked_rounds (Until word) = until word.now
