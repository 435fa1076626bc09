use Rattle.std.proofs.Common.{◌≡◌, arith, subst}
use Rattle.table_frames.specs.Frames.{depth_inside}
use Rattle.table_frames.proofs.frame.Frame.depth_below.Goals as goal

pub returns : goal.returns
returns g c = subst (λ fs. c.saturating_add.result ≡ depth_inside fs) c.self.view_is (omega (arith, c.saturating_add.ensures, c.self.invariant.2))
