use Rattle.test_nets.proofs.exhaustive_steps.+explore.Given as goal

abbrev pub decreases-explore : goal.decreases-explore
decreases-explore l = l.depth
