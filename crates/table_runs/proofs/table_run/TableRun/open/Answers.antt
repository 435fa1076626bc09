use Rattle.std.proofs.Common.{◌≡◌, ℕ, zero, suc, Bool, true, false, List, [], length, vec_len, sym, ap, ◌∙◌, subst, arith}
use Rattle.std.specs.Prelude.{◌==◌}
use Rattle.std.proofs.lemmas.Bool.{false≢true}
use Rattle.std.proofs.lemmas.Bool.Decides.{nat_tests}
use Rattle.join_tables.specs.States.{FreshState, fresh_state}
use Rattle.table_runs.specs.Openings.{IsOverAtOnce}
use Rattle.table_runs.specs.Attempts.{IsAgain, release_tried}
use Rattle.table_runs.specs.OpenStarts.{OpenStartView}
use Rattle.table_runs.proofs.Beginning.{none_in, over_at_once}
use Rattle.table_runs.proofs.table_run.TableRun.open.Goals as goal

pub returns-then-is_empty : goal.returns-then-is_empty
returns-then-is_empty g c =
    let n = c.args.self.now.table in
    let over = c.in_ok-attempt.ensures in
    let told : release_tried n c.in_ok-attempt.attempt.outcome ≡ fresh_state n c.start.inside.running.task c.start.inside.running.cause = over.release in
    let started : fresh_state n c.start.inside.running.task c.start.inside.running.cause ≡ fresh_state n c.args.running.task c.args.running.cause = ap (λ (start : OpenStartView g.row.J.Denot g.row.J-V.Denot). fresh_state n start.running.task start.running.cause) (c.start.view_is ∙ c.new-start.ensures) in
    let release : release_tried n c.in_ok-attempt.attempt.outcome ≡ fresh_state n c.args.running.task c.args.running.cause = told ∙ started in
    let begun = c.in_ok-begun.begun in
    let none = none_if begun.fresh.items (vec_len begun.fresh) c.is_empty.result c.if-is_empty.true c.is_empty.ensures (omega (arith, begun.fresh.ok.0)) in (
      record {
        outcome = over.attempt.outcome;
        kept = over.attempt.kept;
        again = subst (λ (f : FreshState). IsAgain n f.task f.cause c.args.again) (sym release) c.requires.again;
      },
      release,
      subst (IsOverAtOnce g.J.Job.meaning) (sym over.inner) (over_at_once g.J.Job.meaning _ begun _ c.in_ok-begun.ensures.begins none c.in_ok-finish.ensures.job c.in_ok-finish.ensures.spans),
    )
  where
    none_if : {X : Type 0} (xs : List X) (n : ℕ) (b : Bool) → b ≡ true → b ≡ (n == 0) → length xs ≡ n → xs ≡ []
    none_if xs zero b on is count = none_in xs count
    none_if xs (suc n) b on is count = let off : (suc n == 0) ≡ false = grind (arith, nat_tests) in absurd (false≢true (sym off ∙ sym is ∙ on))
