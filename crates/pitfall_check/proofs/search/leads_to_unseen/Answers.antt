use Rattle.std.proofs.Common.{◌≡◌, true, not, sym, ap, ◌∙◌}
use Rattle.pitfall_check.specs.inside.SearchRules.{is_unseen, progress_of}
use Rattle.pitfall_check.proofs.SearchLemmas.{leads_where_unseen}
use Rattle.pitfall_check.proofs.search.leads_to_unseen.Goals as goal

pub returns-then-is_unseen : goal.returns-then-is_unseen
returns-then-is_unseen c = λ e here ends.
    let seen = c.if-is_unseen.ensures in
    let unseen : is_unseen (progress_of c.args.states.now c.args.head) ≡ true = cc in
    ap not c.task_chooses.ensures ∙ sym (leads_where_unseen c.args.net.now c.args.states.now c.args.task e c.args.head here ends unseen)
