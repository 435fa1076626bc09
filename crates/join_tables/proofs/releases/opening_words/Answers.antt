use Rattle.std.proofs.Common.{rules, ◌≡◌, ◌+◌, ◌≤◌, ℕ, List, length, subst}
use Rattle.std.specs.Prelude.{slice_index}
use Rattle.task_graph.specs.Net.{IsNet}
use Rattle.table_steps.specs.inside.Accounts.{tokens_from}
use Rattle.join_tables.proofs.releases.opening_words.Goals as goal

pub returns : goal.returns
returns c =
    let rows : IsNet c.args.net.now = search rules in
    let size : length c.loop-word.words.items ≡ tokens_from c.args.net.now + length c.args.net.now.edges + length c.args.net.now.tasks = search rules in record {
      rows = rows;
      maxima = λ s. subst (λ (xs : List ℕ). slice_index xs s ≤ 4294967295) c.sems.ensures.rows (c.semaphore_count-sems.ensures.fit s);
      size = size;
      each = c.loop-word.invariant.1;
    }
