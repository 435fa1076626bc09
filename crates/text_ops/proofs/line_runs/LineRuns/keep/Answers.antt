use Rattle.std.proofs.Common.{◌∙◌, ◌++◌, sym, ap, subst, arith, append_assoc}
use Rattle.std.specs.List.{between}
use Rattle.text_ops.specs.Lines.{IsNormal}
use Rattle.text_ops.proofs.LineLemmas.{IsNormal-append}
use Rattle.text_ops.proofs.TextLemmas.{between-append}
use Rattle.text_ops.proofs.line_runs.LineRuns.keep.Goals as goal

pub invariant_of-self : goal.invariant_of-self
invariant_of-self c =
    let runs = c.args.self.now in
    let follows = c.if-start-self.true in
    let more = subst (λ place. IsNormal (between place c.args.end runs.text.now)) follows c.requires.lines in
    record {
      rising = omega (arith, runs.rising, c.requires.after, c.requires.rising);
      within = c.requires.within;
      behind = runs.behind;
      lines = subst IsNormal (sym (between-append runs.text.now runs.start runs.end c.args.end runs.rising (omega (arith, c.requires.after, c.requires.rising))))
          (IsNormal-append (between runs.start runs.end runs.text.now) (between runs.end c.args.end runs.text.now) runs.lines more);
      copied = runs.copied;
    }

pub returns-then-start-self-clause-kept : goal.returns-then-start-self-clause-kept
returns-then-start-self-clause-kept c text all kept =
    let runs = c.args.self.now in
    record {
      of_text = kept.of_text;
      copied = kept.copied;
      gathered = kept.gathered;
      same =
          ap (λ place. all ++ between place c.args.end text) c.if-start-self.true
          ∙ ap (λ l. l ++ between runs.end c.args.end text) kept.same
          ∙ append_assoc kept.copied (between runs.start runs.end text) (between runs.end c.args.end text)
          ∙ ap (λ l. kept.copied ++ l) (sym (between-append text runs.start runs.end c.args.end runs.rising (omega (arith, c.requires.after, c.requires.rising))));
    }
