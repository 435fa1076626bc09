use Rattle.std.proofs.Common.{◌≡◌, ◌+◌, ℕ, sym, ap, subst, arith}
use Rattle.std.specs.Prelude.{OnOk}
use Rattle.span_profile.specs.Watch.{TellsOn}
use Rattle.table_frames.proofs.Telling.{tells_one, tells_same}
use Rattle.table_frames.specs.inside.Benches.{spans_told}
use Rattle.table_frames.proofs.alone.tell.Goals as goal

pub returns-in-Some : goal.returns-in-Some
returns-in-Some g c =
    let told = g.X.Watch.told in
    let one = sym (ap (λ s. spans_told s) c.in-Some.is) in
    subst (λ k. OnOk c.span.result ((n : ℕ) → TellsOn told n (n + k) c.args.watcher.now c.span.new.self)) one (tells_one told c.span.result c.args.watcher.now c.span.new.self c.span.ensures.count)

pub returns-in-None : goal.returns-in-None
returns-in-None g c = λ n. tells_same g.X.Watch.told n (n + spans_told c.args.span) c.args.watcher.now (omega (arith, ap (λ s. spans_told s) c.in-None.is))
