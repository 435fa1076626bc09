use Rattle.std.proofs.Common.{subst, ◌≡◌, ◌∙◌, ◌++◌, ◌∷◌, [], sym, ap, arith}
use Rattle.std.specs.Prelude.{vec_capacity}
use Rattle.desk_book.specs.declared.entry.DeskEntry.TheVariants.{Asked}
use Rattle.desk_book.specs.declared.turn.Turn.TheVariants.{Waiting}
use Rattle.desk_book.specs.Histories.{AskRule, turn_of}
use Rattle.desk_book.specs.Books.{BookHistory, NothingOut, caller_of}
use Rattle.desk_book.proofs.Keeping.{asked, fresh_waits}
use Rattle.desk_book.proofs.book.DeskBook.ask_in.Goals as goal

pub invariant_of-self-2 : goal.invariant_of-self-2
invariant_of-self-2 c =
    let s = c.self.inside in
    asked s.graphs s.callers (vec_capacity s.history) (vec_capacity c.push_reserved.new.self) s.history.items c.push_reserved.new.self.items s.asks.items c.push_reserved-2.new.self.items c.deref.result.now
    s.turns.items c.push_reserved-3.new.self.items c.deref-2.result.now s.next.items c.set_next_if.new.next.items s.oldest s.book.items c.args.ask c.is_idle-idle.result
    c.self.invariant
    (subst (λ (b : BookHistory). AskRule b.graphs b.callers b.history c.args.ask) (sym c.self.view_is) c.requires.ask)
    (subst (λ (b : BookHistory). NothingOut (caller_of c.args.ask.caller) b.items) (sym c.self.view_is) c.requires.pass)
    (c.deref.ensures.value ∙ c.make_room.ensures.same.1)
    (c.deref-2.ensures.value ∙ c.make_room.ensures.same.2)
    c.is_idle-idle.ensures
    (omega (arith, c.push_reserved.ensures.capacity, c.in_ok-make_room.ensures.history))
    (c.push_reserved.ensures.items ∙ ap (λ xs. xs ++ Asked c.args.ask ∷ []) c.make_room.ensures.same.0)
    (c.push_reserved-2.ensures.items ∙ ap (λ xs. xs ++ c.args.ask ∷ []) c.make_room.ensures.same.1)
    (c.push_reserved-3.ensures.items ∙ ap (λ xs. xs ++ Waiting ∷ []) c.make_room.ensures.same.2)
    c.set_next_if.ensures

pub returns-clause-waits : goal.returns-clause-waits
returns-clause-waits c =
    let s = c.self.inside in
    let rule = subst (λ (b : BookHistory). AskRule b.graphs b.callers b.history c.args.ask) (sym c.self.view_is) c.requires.ask in
    subst (λ (b : BookHistory). turn_of b.history c.args.ask.number ≡ Waiting) c.self.view_is
    (fresh_waits s.graphs s.callers (vec_capacity s.history) s.history.items s.asks.items s.turns.items s.next.items s.oldest c.self.invariant.0 c.args.ask.number rule.number)
