use Rattle.std.proofs.Common.{List, subst, arith}
use Rattle.std.specs.List.Sorted.{IsPermutation}
use Rattle.text_ops.proofs.sort_keys.sorted_keys.Goals as goal
use Rattle.text_ops.specs.inside.SortKeys.{SortKeyRow}

pub returns : goal.returns
returns g c =
    record {
      permutation = subst (λ (sort_keys : List SortKeyRow). IsPermutation sort_keys c.order_keys.new.sort_keys.items) c.in_ok-sort_keys.ensures c.order_keys.ensures.permutation;
      sorted = c.order_keys.ensures.sorted;
      bytes = λ k. omega (arith, c.type_inv.text k);
    }
