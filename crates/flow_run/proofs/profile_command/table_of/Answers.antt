use Rattle.std.proofs.Common.{rules, ◌∙◌, sym, ap}
use Rattle.profile_table.specs.Profiles.{after_journal}
use Rattle.profile_table.proofs.ProfileLemmas.{profile_of_more}
use Rattle.run_frame.specs.NestedRule.{journal_of}
use Rattle.flow_run.proofs.profile_command.table_of.Goals as goal

pub loop-run-preserved : goal.loop-run-preserved
loop-run-preserved c =
    c.add.ensures
    ∙ ap (after_journal c.loop-run.table) c.as_slice-journal.ensures
    ∙ ap (λ table. after_journal table (journal_of c.run-item.result)) c.loop-run.invariant
    ∙ sym (profile_of_more journal_of c.args.tasks c.args.runs.now c.loop-run.run-index c.run-item.result (search rules) (search rules))
