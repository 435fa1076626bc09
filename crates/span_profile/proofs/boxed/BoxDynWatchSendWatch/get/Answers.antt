use Rattle.std.proofs.Common.{◌≡◌, subst}
use Rattle.std.specs.Option.{option_and_then}
use Rattle.std.specs.Prelude.{slice_get}
use Rattle.span_profile.proofs.boxed.BoxDynWatchSendWatch.get.Goals as goal

pub returns : goal.returns
returns g c = subst (λ d. c.get.result ≡ option_and_then (λ spans. slice_get spans c.args.i) ((g.dyn-1.0.entry d.0).1.seen d.1)) c.deref_box-1.ensures.1 c.get.ensures
