use Rattle.std.proofs.Common.{rules, refl, ◌≡◌, ◌∙◌, ap, sym, subst, arith}
use Rattle.keyed_lock.specs.Locks.{made_with}
use Rattle.async_tasks.specs.Books.{BookHistory, BookKey, key_of}
use Rattle.async_tasks.specs.Adds.{HasNoEnd}
use Rattle.async_tasks.specs.Histories.{IsHistory}
use Rattle.async_tasks.specs.Finishes.{HaveTickets}
use Rattle.async_tasks.specs.AsyncBooks.{AsyncBookState}
use Rattle.async_tasks.proofs.Closing.{tickets_at, is_done}
use Rattle.async_tasks.proofs.Looking.{is_open_at}
use Rattle.async_tasks.proofs.book.AsyncBook.finish.Goals as goal

pub close_all-requires-clause-passes : goal.close_all-requires-clause-passes
close_all-requires-clause-passes g c =
    let have = tickets_at c.args.self c.args.passes.items c.self.inside.register c.requires (sym (ap (λ (b : AsyncBookState). b.register) c.self.view_is)) in
    search (rules, have)

pub returns-in_default : goal.returns-in_default
returns-in_default g c =
    let W = g.row.W.Denot in
    let V = g.row.W-V.Denot in
    is_done c.args.self c.args.passes.items c.requires g.W.AsyncWork.answers c.args.self.callers c.close_all.new.state.callers c.into_run.result c.deref_mut.result.now.rows
    c.into_run.ensures.run
    (ap (λ (b : BookHistory W V). b.callers) c.close_all.ensures.book ∙ ap (λ (b : BookHistory W V). b.callers) c.deref_mut.ensures.value
    ∙ ap (λ (k : BookKey). k.callers) c.take-shelved.ensures.key ∙ ap (λ (b : AsyncBookState). b.callers) c.self.view_is)
    (c.into_run.ensures.adds ∙ ap (λ (b : BookHistory W V). b.rows) c.close_all.ensures.book)
    c.close_all.ensures.seen refl

pub look_with_all-requires-clause-passes : goal.look_with_all-requires-clause-passes
look_with_all-requires-clause-passes g c κs within =
    subst (HaveTickets c.self.inside.register) (sym c.deref_mut-3.ensures.value)
    (tickets_at c.args.self c.args.passes.items c.self.inside.register c.requires (sym (ap (λ (b : AsyncBookState). b.register) c.self.view_is)))

pub returns : goal.returns
returns g c =
    let W = g.row.W.Denot in
    let V = g.row.W-V.Denot in
    let same : c.deref.result.now ≡ c.deref_mut-2.result.now = c.deref.ensures ∙ sym c.deref_mut-2.ensures.value in (
      refl,
      is_open_at c.args.self c.args.passes.items c.deref_mut-3.result.now c.look_with_all.new.passes c.self.inside.register c.args.passes.len c.in-Some.task (key_of (made_with c.self.inside.lock).state.value)
          c.deref_mut-2.result.now c.look_with_all.new.state c.of-found.result.value
          c.requires (omega (arith, c.args.passes.ok.0)) c.deref_mut-3.ensures.value (ap (λ (b : AsyncBookState). b.register) c.self.view_is) c.self.invariant.0 (ap (λ (b : AsyncBookState). b.callers) c.self.view_is)
          (ap (λ (b : BookHistory W V). key_of b) c.deref_mut-2.ensures.value ∙ c.take-shelved.ensures.key)
          (subst (λ (b : BookHistory W V). IsHistory b.callers b.rows b.events) same c.first_open.ensures.history)
          (subst (λ (b : BookHistory W V). HasNoEnd b c.in-Some.task) same c.in-Some.ensures.some)
          c.look_with_all.ensures.book (c.of-found.ensures ∙ c.deref-2.ensures) c.look_with_all.ensures.tickets c.look_with_all.ensures.looked,
    )
