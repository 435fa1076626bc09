use Rattle.std.proofs.Common.{rules, refl, ◌∙◌, ap, sym}
use Rattle.desk_book.specs.States.{DeskKey}
use Rattle.desk_book.proofs.Closing.{tickets_at}
use Rattle.desk_book.proofs.Done.{is_done, is_open}
use Rattle.desk_book.proofs.desk.Desk.finish.Goals as goal

pub look_all-requires-clause-passes : goal.look_all-requires-clause-passes
look_all-requires-clause-passes g c =
    let have = tickets_at c.args.self c.args.passes.items c.self.inside.register c.requires (sym (ap (λ (k : DeskKey g.row.J.Denot). k.register) c.self.view_is) ∙ c.self.invariant.0) in
    search (rules, have)

pub returns-in-Some : goal.returns-in-Some
returns-in-Some g c =
    let open_here = is_open c.args.self c.args.passes.items c.look_all.new.passes.items c.self.inside.register c.take-state.result.value.book.history c.in-Some.ask c.requires
    (sym (ap (λ (k : DeskKey g.row.J.Denot). k.register) c.self.view_is) ∙ c.self.invariant.0) c.look_all.ensures.each c.in-Some.ensures.some in
    (refl, open_here.0, open_here.1)

pub close_all-requires-clause-passes : goal.close_all-requires-clause-passes
close_all-requires-clause-passes g c =
    let have = tickets_at c.args.self c.args.passes.items c.self.inside.register c.requires (sym (ap (λ (k : DeskKey g.row.J.Denot). k.register) c.self.view_is) ∙ c.self.invariant.0) in
    search (rules, have)

pub returns : goal.returns
returns g c =
    is_done g.J.Job.meaning c.args.self c.args.passes.items c.take-state.result.value c.close_all.new.state c.into_run.result c.requires (c.take-state.ensures.key ∙ c.self.view_is)
    c.close_all.ensures.desk c.close_all.ensures.book c.close_all.ensures.seen c.into_run.ensures.run c.into_run.ensures.history c.into_run.ensures.callers
