use Rattle.task_graph.proofs.ChoiceLemmas.{chosen_again, chosen_new}
use Rattle.task_graph.proofs.choice.choose_edge.Goals as goal

pub returns-then-seen-place : goal.returns-then-seen-place
returns-then-seen-place c =
    λ answer index found has.
    chosen_again _ answer index c.args.place _ _ c.requires.place found c.if-seen-place.true has

pub returns : goal.returns
returns c =
    λ answer index found has.
    rw c.in_ok-push.ensures.ok (chosen_new _ answer index c.args.place _ _ c.requires.rising c.requires.seen c.requires.place found c.if-seen-place.false has)
