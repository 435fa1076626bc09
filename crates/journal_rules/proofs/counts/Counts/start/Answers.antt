use Rattle.std.proofs.Common.{refl, ap, ◌∙◌, ◌<◌, length, subst, true, false, ℕ}
use Rattle.std.specs.Prelude.{slice_set}
use Rattle.std.proofs.lemmas.Option.{slice_get_within}
use Rattle.journal_rules.specs.declared.entry.Entry.TheVariants.{Start}
use Rattle.journal_rules.proofs.ReleaseLaws.{start_use}
use Rattle.journal_rules.proofs.CountLaws.{counted_start}
use Rattle.journal_rules.proofs.counts.Counts.start.Goals as goal

pub returns-clause-counted : goal.returns-clause-counted
returns-clause-counted c = λ limit journal ins reached here counted.
    let room = subst (λ (n : ℕ). n < length c.args.self.now.open_starts) here (slice_get_within c.args.self.now.open_starts c.args.place false c.requires.room) in
    counted_start c.args.net.now limit journal c.args.task c.args.cause ins c.args.self.now _ reached counted room
    (c.use_release.ensures journal (Start c.args.task c.args.cause ins) (start_use c.args.task c.args.cause ins) counted.releases)
    (c.start.ensures limit journal c.args.cause ins reached counted.units)
    (c.open.ensures ∙ ap (λ n. slice_set c.args.self.now.open_starts n true) here) refl refl refl refl
