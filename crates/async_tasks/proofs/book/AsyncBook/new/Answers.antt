use Rattle.std.proofs.Common.{refl, ◌∙◌, ap}
use Rattle.std.specs.Arc.{arc_value}
use Rattle.keyed_lock.specs.Locks.{made_with}
use Rattle.async_tasks.specs.declared.shelved.Shelved.{Shelved}
use Rattle.async_tasks.specs.Books.{BookHistory, BookKey}
use Rattle.async_tasks.specs.AsyncBooks.{async_book_state, counts_of}
use Rattle.async_tasks.proofs.Beginning.{passes_of}
use Rattle.async_tasks.proofs.book.AsyncBook.new.Goals as goal

pub returns-clause-passes : goal.returns-clause-passes
returns-clause-passes g c =
    passes_of (async_book_state c.in_ok-register.field-0.register (made_with c.in_ok-lock.lock).state.value.callers (counts_of (arc_value c.in_ok-ready.field-0.ready)))
    c.in_ok-register.field-0.register c.args.callers c.in_ok-passes.passes.items refl
    (ap (λ (s : Shelved g.row.W.Denot g.row.W-V.Denot). s.state.value.callers) c.in_ok-lock.ensures.ok ∙ ap (λ (b : BookHistory g.row.W.Denot g.row.W-V.Denot). b.callers) c.in_ok-shelved.ensures ∙ ap (λ (k : BookKey). k.callers) (c.open_passes.ensures.key ∙ c.in_ok-register.ensures.key))
    c.in_ok-passes.ensures.passes.0 c.in_ok-passes.ensures.passes.1
