use Rattle.std.proofs.Common.{rules, subst, ◌<◌, ◌∙◌, ◌++◌, ◌∷◌, [], sym, ap, map}
use Rattle.std.specs.Arc.{arc_value}
use Rattle.std.proofs.lemmas.List.{map_push}
use Rattle.async_tasks.specs.declared.stage.Stage.TheVariants.{Waiting}
use Rattle.async_tasks.specs.Books.{BookHistory, NothingOut, caller_of}
use Rattle.async_tasks.proofs.Adding.{added}
use Rattle.async_tasks.proofs.state.BookState.add_listed.Goals as goal

pub invariant_of-self-2 : goal.invariant_of-self-2
invariant_of-self-2 g c = (
  added g.W.AsyncWork.answers c.self.inside.book.register c.self.inside.callers c.self.inside.rows.items c.push_reserved.new.self.items
      c.self.inside.events.items c.make_event_room.new.events.items (map arc_value c.self.inside.works.items) (map arc_value c.push_reserved-2.new.self.items)
      c.self.inside.stages.items c.push_reserved-3.new.self.items c.self.inside.book.items
      c.args.caller (arc_value c.args.work) c.args.after.now c.in-Ok.row
      c.self.invariant.0
      (subst (λ (b : BookHistory g.row.W.Denot g.row.W-V.Denot). c.args.caller < b.callers) (sym c.self.view_is) c.requires.caller)
      (λ full. search rules)
      (search rules)
      (subst (λ (b : BookHistory g.row.W.Denot g.row.W-V.Denot). NothingOut (caller_of c.args.caller) b.items) (sym c.self.view_is) c.requires.pass)
      (search rules)
      (c.push_reserved.ensures.items ∙ ap (λ rs. rs ++ c.in-Ok.row ∷ []) c.make_room.ensures.same.0)
      c.make_event_room.ensures.same
      (ap (map arc_value) (c.push_reserved-2.ensures.items ∙ ap (λ rs. rs ++ c.args.work ∷ []) c.make_room.ensures.same.1) ∙ map_push arc_value c.self.inside.works.items c.args.work)
      (c.push_reserved-3.ensures.items ∙ ap (λ ss. ss ++ Waiting ∷ []) c.make_room.ensures.same.2),
  search rules,
)
