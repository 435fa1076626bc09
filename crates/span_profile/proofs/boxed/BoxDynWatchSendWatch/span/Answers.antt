use Rattle.std.proofs.Common.{◌≡◌, ◌++◌, ◌∷◌, [], subst}
use Rattle.std.specs.Option.{option_map}
use Rattle.std.specs.Prelude.{OnErr, OnOk}
use Rattle.span_profile.specs.Watch.{one_more}
use Rattle.span_profile.proofs.boxed.BoxDynWatchSendWatch.span.Goals as goal

pub returns-clause-count : goal.returns-clause-count
returns-clause-count g c = subst (λ d. OnOk c.span.result ((g.dyn-1.0.entry c.deref_box_mut-1.result.now.0).1.told c.span.new.self ≡ one_more ((g.dyn-1.0.entry d.0).1.told d.1))) c.deref_box_mut-1.ensures.value.1 c.span.ensures.0

pub returns-clause-list : goal.returns-clause-list
returns-clause-list g c = subst (λ d. OnOk c.span.result ((g.dyn-1.0.entry c.deref_box_mut-1.result.now.0).1.seen c.span.new.self ≡ option_map (λ spans. spans ++ c.args.span ∷ []) ((g.dyn-1.0.entry d.0).1.seen d.1))) c.deref_box_mut-1.ensures.value.1 c.span.ensures.1.0

pub returns-clause-err_count : goal.returns-clause-err_count
returns-clause-err_count g c = subst (λ d. OnErr c.span.result ((g.dyn-1.0.entry c.deref_box_mut-1.result.now.0).1.told c.span.new.self ≡ (g.dyn-1.0.entry d.0).1.told d.1)) c.deref_box_mut-1.ensures.value.1 c.span.ensures.1.1.0

pub returns-clause-err_list : goal.returns-clause-err_list
returns-clause-err_list g c = subst (λ d. OnErr c.span.result ((g.dyn-1.0.entry c.deref_box_mut-1.result.now.0).1.seen c.span.new.self ≡ (g.dyn-1.0.entry d.0).1.seen d.1)) c.deref_box_mut-1.ensures.value.1 c.span.ensures.1.1.1
