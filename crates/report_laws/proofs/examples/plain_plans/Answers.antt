use Rattle.std.proofs.Common.{◌≡◌, ℕ, true, false, List, [], ◌∷◌, refl, sym, arith}
use Rattle.std.specs.Prelude.{All, IfSome}
use Rattle.std.proofs.lemmas.Bool.{false≢true}
use Rattle.std.proofs.lemmas.List.Elements.{All-from_recursion}
use Rattle.task_graph.specs.Net.{chooses}
use Rattle.task_graph.specs.declared.net.Shape.TheVariants.{Plain}
use Rattle.task_graph.specs.declared.net.TaskRow.{TaskRow}
use Rattle.graph_plans.specs.PlanRows.{PlanRows}
use Rattle.graph_plans.specs.declared.ops.Op.{Op}
use Rattle.graph_plans.specs.declared.ops.Op.TheVariants.{Input, Read, Text as OnText}
use Rattle.graph_plans.specs.declared.ops.TextOp.TheVariants.{Head}
use Rattle.report_laws.specs.PlainReport.{OfModule, UsesPlain}
use Rattle.report_laws.specs.SmallPlans.{kept_together, pipes_a_text, runs_one_module, spreads_a_text}
use Rattle.report_laws.proofs.examples.plain_plans.Goals as goal

abbrev row : TaskRow
row = record { shape = Plain; takes = []; puts = [] }

-- what holds of the module that an operation of the top graph runs
abbrev uses : PlanRows → Op → Type 0
uses plan op = OfModule (λ used. IfSome used (UsesPlain 7 plan)) plan.modules op

pub returns-clause-plain : goal.returns-clause-plain
returns-clause-plain c = (
  record {
    no_condition = All-from_recursion (λ (r : TaskRow). chooses r.shape ≡ false) kept_together.top.net.tasks (refl, (refl, (refl, (refl, tt))));
    returns = All-from_recursion (λ (r : TaskRow). r.takes ≡ r.puts) kept_together.top.net.tasks (refl, (refl, (refl, (refl, tt))));
  },
  All-from_recursion (uses kept_together) kept_together.top.ops (tt, (tt, (tt, (tt, tt)))),
)

pub returns-clause-spreads : goal.returns-clause-spreads
returns-clause-spreads c = (
  record {
    no_condition = All-from_recursion (λ (r : TaskRow). chooses r.shape ≡ false) spreads_a_text.top.net.tasks (refl, (refl, tt));
    returns = All-from_recursion (λ (r : TaskRow). r.takes ≡ r.puts) spreads_a_text.top.net.tasks (refl, (refl, tt));
  },
  All-from_recursion (uses spreads_a_text) spreads_a_text.top.ops (tt, (tt, tt)),
)

pub returns-clause-runs : goal.returns-clause-runs
returns-clause-runs c = (
  record {
    no_condition = All-from_recursion (λ (r : TaskRow). chooses r.shape ≡ false) runs_one_module.top.net.tasks (refl, tt);
    returns = All-from_recursion (λ (r : TaskRow). r.takes ≡ r.puts) runs_one_module.top.net.tasks (refl, tt);
  },
  All-from_recursion (uses runs_one_module) runs_one_module.top.ops (
    (
      record {
        no_condition = All-from_recursion (λ (r : TaskRow). chooses r.shape ≡ false) (row ∷ row ∷ []) (refl, (refl, tt));
        returns = All-from_recursion (λ (r : TaskRow). r.takes ≡ r.puts) (row ∷ row ∷ []) (refl, (refl, tt));
      },
      All-from_recursion (OfModule (λ used. IfSome used (UsesPlain 6 runs_one_module)) runs_one_module.modules) (Input ∷ OnText (Head 1) ∷ []) (tt, (tt, tt)),
    ),
    tt,
  ),
)

pub returns-clause-condition : goal.returns-clause-condition
returns-clause-condition c = λ plain. let chosen : true ≡ false = plain.0.no_condition 0 row (omega arith) in false≢true (sym chosen)

pub returns-clause-chooses_inside : goal.returns-clause-chooses_inside
returns-clause-chooses_inside c = λ plain. let chosen : true ≡ false = (plain.1 0 (Read 0) (omega arith)).0.no_condition 1 row (omega arith) in false≢true (sym chosen)

pub returns-clause-unit : goal.returns-clause-unit
returns-clause-unit c = λ plain. let same : ◌≡◌ {A = List ℕ} (0 ∷ []) [] = plain.0.returns 0 row (omega arith) in cc

pub returns-clause-pipes : goal.returns-clause-pipes
returns-clause-pipes c = (
  record {
    no_condition = All-from_recursion (λ (r : TaskRow). chooses r.shape ≡ false) pipes_a_text.top.net.tasks (refl, (refl, tt));
    returns = All-from_recursion (λ (r : TaskRow). r.takes ≡ r.puts) pipes_a_text.top.net.tasks (refl, (refl, tt));
  },
  All-from_recursion (uses pipes_a_text) pipes_a_text.top.ops (tt, (tt, tt)),
)
