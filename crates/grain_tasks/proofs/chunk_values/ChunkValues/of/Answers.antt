use Rattle.std.proofs.Common.{arith}
use Rattle.grain_tasks.specs.declared.chunk_values.ChunkValues.{ChunkValues}
use Rattle.grain_tasks.proofs.GatherLemmas.{values_held}
use Rattle.grain_tasks.proofs.chunk_values.ChunkValues.of.Goals as goal

pub returns : goal.returns
returns g c =
    let long = c.len.ensures in
    let held : ChunkValues g.row.V.Denot = record { ends = c.in_ok-ends.ends; values = c.in_ok-values.values } in
    values_held c.args.journal.now c.args.rows.now c.args.tasks held c.in_ok-ends.ensures.each (λ n below. c.in_ok-values.ensures.each n (omega (arith, below, long)))
