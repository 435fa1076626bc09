use Rattle.std.proofs.Common.{◌↔◌, subst}
use Rattle.std.specs.Prelude.{◌==◌, IsTrue}
use Rattle.run_frame.specs.Runs.{IsFine}
use Rattle.run_frame.proofs.FineLemmas.{fine_test}
use Rattle.run_frame.proofs.run.FrameRun.is_fine.Goals as goal

pub returns : goal.returns
returns g c = subst (λ journal. IsTrue (c.count_cuts.result == 0) ↔ IsFine journal) c.as_slice.ensures (fine_test c.count_cuts.result c.as_slice.result.now c.count_cuts.ensures)
