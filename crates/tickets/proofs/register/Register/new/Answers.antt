use Rattle.tickets.proofs.Steps.{begins}
use Rattle.tickets.proofs.register.Register.new.Goals as goal

pub of_words-requires : goal.of_words-requires
of_words-requires g c = begins
