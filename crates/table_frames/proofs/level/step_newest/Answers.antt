use Rattle.std.proofs.Common.{◌≡◌}
use Rattle.std.proofs.lemmas.List.Elements.{All-pop}
use Rattle.join_tables.specs.States.{FreshState}
use Rattle.table_frames.proofs.level.step_newest.Goals as goal

pub step-requires-clause-bench : goal.step-requires-clause-bench
step-requires-clause-bench g c κs within =
    let bench = c.requires.bench in
    record {
      ready = (All-pop (λ (f : FreshState). f.table ≡ c.args.run.now.table) c.args.bench.now.ready.items c.pop.new.self.items c.pop.result c.pop.ensures.items bench.ready).0;
      made = bench.made;
      done = bench.done;
      yard = bench.yard;
    }
