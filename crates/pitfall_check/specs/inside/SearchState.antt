-- What a search holds, by its fields.
use Rattle.std.specs.Prelude.{◌≡◌, ℕ, ◌++◌, ◌∷◌, [], slice_set}
use Rattle.task_graph.specs.NetRows.{NetRows}
use Rattle.pitfall_check.specs.declared.search.Search.{Search}
use Rattle.pitfall_check.specs.declared.progress.Progress.TheVariants.{Open}
use Rattle.pitfall_check.specs.inside.SearchRules.{IsSearch}

abbrev pub HoldsSearch : NetRows → Search → Type 0
HoldsSearch net search = IsSearch net search.states.items search.cursors.items search.path.items search.order.items

-- a task was put at the end of the path
pub record Opens (t : ℕ) (old new : Search) : Type 0 where
  pub states : new.states.items ≡ slice_set old.states.items t Open
  pub cursors : new.cursors.items ≡ old.cursors.items
  pub path : new.path.items ≡ old.path.items ++ t ∷ []
  pub order : new.order.items ≡ old.order.items
