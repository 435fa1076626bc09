use Rattle.std.proofs.Common.{◌≡◌, ◌∙◌, sym}
use Rattle.std.proofs.lemmas.Bool.{false≢true}
use Rattle.desk_book.specs.inside.Looks.{turn_at}
use Rattle.desk_book.specs.declared.turn.Turn.TheVariants.{Waiting}
use Rattle.desk_book.proofs.Looking.{none_more}
use Rattle.desk_book.proofs.looks.first_waiting.Goals as goal

pub loop-n-preserved : goal.loop-n-preserved
loop-n-preserved c = none_more (λ k. turn_at c.args.turns.now k ≡ Waiting) c.args.from c.loop-n.n c.loop-n.invariant
    (λ waits. false≢true (sym c.if-is_waiting.false ∙ c.is_waiting.ensures.1 waits))
