use Rattle.std.proofs.Common.{◌≡◌, subst}
use Rattle.span_profile.proofs.boxed.BoxDynWatchSendWatch.count.Goals as goal

pub returns : goal.returns
returns g c = subst (λ d. c.count.result ≡ (g.dyn-1.0.entry d.0).1.told d.1) c.deref_box-1.ensures.1 c.count.ensures
