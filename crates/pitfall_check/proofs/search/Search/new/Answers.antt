use Rattle.pitfall_check.proofs.SearchLemmas.{IsSearch-new}
use Rattle.pitfall_check.proofs.search.Search.new.Goals as goal

pub returns-clause-search : goal.returns-clause-search
returns-clause-search c =
    IsSearch-new c.args.net.now _ _ _ _ _ c.tasks-count.ensures.well_formed c.tasks-count.ensures.rows
    (c.in_ok-states.ensures.items_if_clones_equal (λ y same. same)) (c.in_ok-cursors.ensures.items_if_clones_equal (λ y same. same))
    c.new.ensures.items c.new-2.ensures.items
