-- What a pass has seen when it has asked, and the key of a desk.
use Rattle.std.proofs.Common.{◌≡◌, ℕ, ◌+◌, List, [], ◌∷◌, ◌++◌, length, refl, sym, ap, ◌∙◌}
use Rattle.std.specs.Prelude.{Result, Ok, Err, IfOk}
use Rattle.std.proofs.lemmas.List.{length_push}
use Rattle.desk_book.specs.declared.entry.DeskEntry.{DeskEntry}
use Rattle.desk_book.specs.declared.entry.DeskEntry.TheVariants.{Asked}
use Rattle.desk_book.specs.declared.desk_error.DeskError.{DeskError}
use Rattle.desk_book.specs.Histories.{asks_of, asks_by}
use Rattle.desk_book.specs.Books.{BookHistory, with_items}
use Rattle.desk_book.specs.Taking.{HasSeen, OpenAsk}
use Rattle.desk_book.specs.Changes.{TakesFirst}
use Rattle.desk_book.specs.Asks.{HasAsked, new_ask}
use Rattle.desk_book.specs.States.{DeskLocked, desk_key, key_of, with_ask, with_book}
use Rattle.desk_book.proofs.Telling.{asks_asked, asks_took, by_asked}

-- the key of a desk with other items
pub key_same : {J : Type 0} (old new : DeskLocked J) → new ≡ with_book old new.book → new.book ≡ with_items old.book new.book.items → key_of new ≡ key_of old
key_same {J} old new desk book = ap (λ (d : DeskLocked J). key_of d) desk ∙ ap (λ (b : BookHistory). desk_key b.register b.callers old.jobs) book

-- what a caller has seen after its ask
pub ask_asked : {J : Type 0} (mid new : DeskLocked J) (caller graph n : ℕ) (front entries : List DeskEntry) (r : Result ℕ DeskError) → HasSeen mid.book.history caller front → IfOk r (λ k. new ≡ with_ask mid (new_ask k caller graph n)) → entries ≡ new.book.history →
    IfOk r (λ k. k ≡ length (asks_of mid.book.history)) → IfOk r (HasAsked caller graph n front entries)
ask_asked {J} mid new caller graph n front entries (Ok k) has ok all number =
    let same : entries ≡ mid.book.history ++ Asked (new_ask k caller graph n) ∷ [] = all ∙ ap (λ (d : DeskLocked J). d.book.history) ok in record {
      last = ap (λ h. length (asks_of h)) same ∙ ap length (asks_asked mid.book.history (new_ask k caller graph n)) ∙ length_push (asks_of mid.book.history) (new_ask k caller graph n) ∙ ap (λ j. j + 1) (sym number);
      kept_it = ap (asks_by caller) same ∙ by_asked caller mid.book.history (new_ask k caller graph n) refl ∙ ap (λ xs. xs ++ new_ask k caller graph n ∷ []) has.1;
    }
ask_asked mid new caller graph n front entries (Err e) has ok all number = tt

-- no ask comes of taking one
pub took_asks : (old new : BookHistory) (taken : OpenAsk) → TakesFirst old new taken → asks_of new.history ≡ asks_of old.history
took_asks old new taken takes = ap (λ (b : BookHistory). asks_of b.history) takes.book ∙ asks_took old.history taken.ask.number
