use Rattle.std.proofs.Common.{◌∙◌, sym, ap, subst}
use Rattle.async_tasks.specs.AsyncBooks.{AsyncBookState, IsPassOf, IsSeatOf}
use Rattle.test_async.proofs.OnePass.{first_pass}
use Rattle.test_async.proofs.alone.Alone.finish.Goals as goal

pub invariant_of-result : goal.invariant_of-result
invariant_of-result g c =
    let same = c.in-Open.ensures.0 in
    let callers = ap (λ (b : AsyncBookState). b.callers) same ∙ c.args.self.one_caller.0 in
    let first = first_pass c.args.self.book c.in-Open.passes.items c.remove-pass.result c.in-Open.ensures.1.own c.args.self.one_caller.0 c.remove-pass.ensures.value in
    record {
      pass_of = subst (λ b. IsPassOf b c.remove-pass.result) (sym same) first.0;
      seat_of = subst (λ b. IsSeatOf b c.args.self.seat) (sym same) c.args.self.seat_of;
      one_caller = (callers, first.1);
    }
