use Rattle.std.proofs.Common.{◌∙◌, List, length, sym, subst, arith}
use Rattle.std.specs.List.Sorted.{IsPermutation}
use Rattle.text_ops.specs.declared.sort_key.Piece.TheVariants.{Key}
use Rattle.text_ops.specs.inside.KeySlots.{AreFilled}
use Rattle.text_ops.specs.inside.SortKeys.{SortKeyRow, AreSortedKeys}
use Rattle.text_ops.proofs.matches.match_by_sort_keys.Goals as goal

pub match_by_slots-requires-clause-slots : goal.match_by_slots-requires-clause-slots
match_by_slots-requires-clause-slots g c =
    let text = c.args.right.now in
    let keys_are = c.as_slice-in-Some.ensures.value ∙ sym c.as_slice.ensures.value in
    let filled = rw c.in-Some.is at c.in_ok-slots.ensures in
    record {
      rows_are = c.as_slice-in-Some.ensures.value ∙ c.in_ok-sort_keys.ensures;
      filled = subst (λ (rows : List SortKeyRow). AreFilled text rows c.as_slice-in-Some-2.result.now (length rows)) (sym keys_are)
          (subst (λ slots. AreFilled text c.as_slice.result.now slots (length c.as_slice.result.now)) (sym c.as_slice-in-Some-2.ensures.value) filled);
    }

pub match_in_order-requires-clause-sort_keys : goal.match_in_order-requires-clause-sort_keys
match_in_order-requires-clause-sort_keys g c =
    subst (λ (sort_keys : List SortKeyRow). AreSortedKeys Key c.args.right.now sort_keys) (sym c.as_slice-2.ensures.value)
    (record {
      permutation = subst (λ (sort_keys : List SortKeyRow). IsPermutation sort_keys c.order_keys.new.sort_keys.items) c.in_ok-sort_keys.ensures c.order_keys.ensures.permutation;
      sorted = c.order_keys.ensures.sorted;
      bytes = λ k. omega (arith, c.type_inv.right k);
    })
