use Rattle.task_graph.proofs.ChoiceLemmas.{chosen_without}
use Rattle.task_graph.proofs.choice.choose_at.Goals as goal

pub returns-in-None : goal.returns-in-None
returns-in-None c = λ answer has. chosen_without _ answer c.args.index.now _ _ c.in-None.ensures has
