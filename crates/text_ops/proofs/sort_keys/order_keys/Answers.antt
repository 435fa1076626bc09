use Rattle.std.proofs.Common.{◌≡◌, rules, ap}
use Rattle.std.specs.Ordering.{is_lt}
use Rattle.std.proofs.lemmas.Fn.{always_returns_same}
use Rattle.std.proofs.lemmas.List.Sorted.{ranks_by}
use Rattle.text_ops.specs.inside.SortKeys.{SortKeyRow, sort_key_cmp}
use Rattle.text_ops.proofs.SortKeyLemmas.{sort_key_total}
use Rattle.text_ops.proofs.sort_keys.order_keys.Goals as goal

pub returns-clause-sorted : goal.returns-clause-sorted
returns-clause-sorted g c =
    c.sort_unstable_by.ensures.sorted (λ (a : SortKeyRow) (b : SortKeyRow). is_lt (sort_key_cmp c.args.by c.args.text.now a b)) (ranks_by (sort_key_total c.args.by c.args.text.now) (λ (m : SortKeyRow). m)) (always_returns_same _ _ _ (λ a r q h. (let is : r ≡ sort_key_cmp c.args.by c.args.text.now a.0.now a.1.0.now = search rules in ap is_lt is, search rules)))
