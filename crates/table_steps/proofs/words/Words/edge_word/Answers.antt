use Rattle.std.proofs.Common.{arith}
use Rattle.table_steps.proofs.words.Words.edge_word.Goals as goal

pub overflow_add-result : goal.overflow_add-result
overflow_add-result g c = omega (arith, c.first_edge.ensures.place, c.first_edge.ensures.few, c.first_edge.ensures.room, c.ranges.edge)
