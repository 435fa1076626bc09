use Rattle.text_ops.specs.LineOrder.{in_order}
use Rattle.text_ops.proofs.LawLemmas.{neighbours_differ, each_once, left_in_order, line_left, left_line, counts_add_up}
use Rattle.text_ops.proofs.OrderLemmas.{IsPermutation-in_order, AllPairs-rising, Rises-in_order, IsUpTo-antisym}
use Rattle.text_ops.proofs.laws.order_of_lines.Goals as goal

pub returns-clause-same : goal.returns-clause-same
returns-clause-same c = IsPermutation-in_order

pub returns-clause-rising : goal.returns-clause-rising
returns-clause-rising c lines = AllPairs-rising (in_order lines) (Rises-in_order lines)

pub returns-clause-one : goal.returns-clause-one
returns-clause-one c = IsUpTo-antisym

pub returns-clause-differ : goal.returns-clause-differ
returns-clause-differ c = neighbours_differ

pub returns-clause-ordered : goal.returns-clause-ordered
returns-clause-ordered c = left_in_order

pub returns-clause-once : goal.returns-clause-once
returns-clause-once c = each_once

pub returns-clause-each : goal.returns-clause-each
returns-clause-each c line lines = (line_left line lines, left_line line lines)

pub returns-clause-counts : goal.returns-clause-counts
returns-clause-counts c = counts_add_up
