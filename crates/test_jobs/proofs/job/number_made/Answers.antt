use Rattle.std.proofs.Common.{◌∙◌}
use Rattle.test_jobs.proofs.FirstLemmas.{on_some, on_none}
use Rattle.test_jobs.proofs.job.number_made.Goals as goal

pub returns-in-Some : goal.returns-in-Some
returns-in-Some c = c.number_after.ensures ∙ on_some _ _ c.in-Some.ensures

pub returns-in-None : goal.returns-in-None
returns-in-None c = on_none _ c.in-None.ensures
