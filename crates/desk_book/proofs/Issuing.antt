-- What is outstanding fits, after a ticket was issued or redeemed, and after each change.
use Rattle.std.proofs.Common.{◌≡◌, ◌≢◌, ◌⊎◌, inl, inr, ℕ, Bool, eqb, List, [], ◌∷◌, ◌++◌, length, filter, set, Option, Some, None, sym, ap, ◌∙◌, subst}
use Rattle.std.specs.Prelude.{slice_get}
use Rattle.std.proofs.lemmas.List.{append-nil, append_assoc}
use Rattle.desk_book.specs.declared.entry.Ask.{Ask}
use Rattle.desk_book.specs.declared.entry.DeskEntry.{DeskEntry}
use Rattle.desk_book.specs.declared.entry.DeskEntry.TheVariants.{Asked, Took, Ended}
use Rattle.desk_book.specs.declared.turn.Turn.TheVariants.{Waiting, Open}
use Rattle.desk_book.specs.declared.outstanding.Outstanding.{Outstanding}
use Rattle.desk_book.specs.declared.outstanding.Outstanding.TheVariants.{Pass, Running}
use Rattle.desk_book.specs.Histories.{asks_of, asks_by, turn_of}
use Rattle.desk_book.specs.Taking.{IsPassFor, entries_seen, HasSeen}
use Rattle.desk_book.specs.Books.{Holder, holder_of, caller_of, ask_of, NothingOut}
use Rattle.desk_book.specs.inside.Keeps.{ItemFits, KeepsTickets}
use Rattle.desk_book.proofs.Lists.{some_same, get_push_cases, get_kept, get_cleared, not_cleared}
use Rattle.desk_book.proofs.Telling.{asks_asked, asks_took, asks_ended, turn_push, turn_took_here, turn_took_other, turn_ended_other, by_other}
use Rattle.desk_book.proofs.Turning.{open_not_waiting}

same_ask : {a b : ℕ} → ask_of a ≡ ask_of b → a ≡ b
same_ask e = cc

same_caller : {a b : ℕ} → caller_of a ≡ caller_of b → a ≡ b
same_caller e = cc

-- each caller and each ask is outstanding once at most
abbrev OnceEach : List (Option Outstanding) → Type 0
OnceEach items = (n m : ℕ) (x y : Outstanding) → slice_get items n ≡ Some (Some x) → slice_get items m ≡ Some (Some y) → holder_of x ≡ holder_of y → n ≡ m

once_issued : (items : List (Option Outstanding)) (item : Outstanding) → OnceEach items → NothingOut (holder_of item) items → OnceEach (items ++ Some item ∷ [])
once_issued items item once none n m x y at_n at_m same = by_places (get_push_cases items (Some item) (Some x) n at_n) (get_push_cases items (Some item) (Some y) m at_m)
  where
    by_places : (slice_get items n ≡ Some (Some x)) ⊎ ((n ≡ length items) × (Some item ≡ Some x)) → (slice_get items m ≡ Some (Some y)) ⊎ ((m ≡ length items) × (Some item ≡ Some y)) → n ≡ m
    by_places (inl a) (inl b) = once n m x y a b same
    by_places (inl a) (inr b) = absurd (none n x a (same ∙ sym (ap holder_of (some_same b.1))))
    by_places (inr a) (inl b) = absurd (none m y b (sym same ∙ sym (ap holder_of (some_same a.1))))
    by_places (inr a) (inr b) = a.0 ∙ sym b.0

once_redeemed : (items : List (Option Outstanding)) (k : ℕ) → OnceEach items → OnceEach (set items k None)
once_redeemed items k once n m x y at_n at_m same = once n m x y (get_cleared items k n x at_n) (get_cleared items k m y at_m) same

-- a holder whose ticket was redeemed has nothing out
pub nothing_left : (history : List DeskEntry) (items : List (Option Outstanding)) (k : ℕ) (item : Outstanding) → KeepsTickets history items → slice_get items k ≡ Some (Some item) → NothingOut (holder_of item) (set items k None)
nothing_left history items k item h at n x at_n same =
    let here : n ≡ k = h.once n k x item (get_cleared items k n x at_n) at same in
    not_cleared items k x (subst (λ j. slice_get (set items k None) j ≡ Some (Some x)) here at_n)

nothing_issued : (holder : Holder) (items : List (Option Outstanding)) (item : Outstanding) → holder_of item ≢ holder → NothingOut holder items → NothingOut holder (items ++ Some item ∷ [])
nothing_issued holder items item other none n x at same = by_place (get_push_cases items (Some item) (Some x) n at)
  where
    by_place : (slice_get items n ≡ Some (Some x)) ⊎ ((n ≡ length items) × (Some item ≡ Some x)) → ⊥
    by_place (inl old) = none n x old same
    by_place (inr last) = other (ap holder_of (some_same last.1) ∙ same)

-- other callers have nothing out, as before
pub others_out : (items : List (Option Outstanding)) (caller c : ℕ) (item : Outstanding) → IsPassFor caller item → NothingOut (caller_of c) items → (c ≡ caller → ⊥) → NothingOut (caller_of c) (items ++ Some item ∷ [])
others_out items caller c item is none other = nothing_issued (caller_of c) items item (apart item is) none
  where
    apart : (x : Outstanding) → IsPassFor caller x → holder_of x ≢ caller_of c
    apart (Pass k front) is_for same = other (sym (same_caller same) ∙ is_for)
    apart (Running ask) is_for same = is_for

-- an ask that is taken is no caller
pub running_out : (items items' : List (Option Outstanding)) (c : ℕ) (ask : Ask) → items' ≡ items ++ Some (Running ask) ∷ [] → NothingOut (caller_of c) items → NothingOut (caller_of c) items'
running_out items items' c ask same none = subst (NothingOut (caller_of c)) (sym same) (nothing_issued (caller_of c) items (Running ask) (λ e. absurd (let f : ask_of ask.number ≡ caller_of c = e in cc)) none)

pub issued_tickets : (history : List DeskEntry) (items : List (Option Outstanding)) (item : Outstanding) → KeepsTickets history items → ItemFits history item → NothingOut (holder_of item) items → KeepsTickets history (items ++ Some item ∷ [])
issued_tickets history items item h fits none = record {
  fits = λ n x at. all_fit n x (get_push_cases items (Some item) (Some x) n at);
  once = once_issued items item h.once none;
}
  where
    all_fit : (n : ℕ) (x : Outstanding) → (slice_get items n ≡ Some (Some x)) ⊎ ((n ≡ length items) × (Some item ≡ Some x)) → ItemFits history x
    all_fit n x (inl old) = h.fits n x old
    all_fit n x (inr last) = subst (ItemFits history) (some_same last.1) fits

-- a pass that has seen all entries
pub pass_fits : (history : List DeskEntry) (caller : ℕ) (item : Outstanding) → IsPassFor caller item → entries_seen item ≡ history → ItemFits history item
pass_fits history caller (Pass c front) is all = (([], sym all ∙ sym (append-nil front.value.items)), ap (asks_by c) (sym all))
pass_fits history caller (Running ask) is all = absurd is

-- what a pass's ticket shows when it comes back
pub seen_by : (history : List DeskEntry) (caller : ℕ) (item : Outstanding) → ItemFits history item → IsPassFor caller item → HasSeen history caller (entries_seen item)
seen_by history caller (Pass c front) fits is = subst (λ k. HasSeen history k front.value.items) is fits
seen_by history caller (Running ask) fits is = absurd is

pub pass_holder : (caller : ℕ) (item : Outstanding) → IsPassFor caller item → holder_of item ≡ caller_of caller
pass_holder caller (Pass c front) is = ap caller_of is
pass_holder caller (Running ask) is = absurd is

-- what is seen stays a prefix
longer : (history front : List DeskEntry) (entry : DeskEntry) → (more : List DeskEntry) × (history ≡ front ++ more) → (more : List DeskEntry) × (history ++ entry ∷ [] ≡ front ++ more)
longer history front entry seen = (seen.0 ++ entry ∷ [], ap (λ xs. xs ++ entry ∷ []) seen.1 ∙ append_assoc front seen.0 (entry ∷ []))

-- An ask is added, of a caller whose pass is not out.
pub asked_tickets : (history : List DeskEntry) (items : List (Option Outstanding)) (ask : Ask) → KeepsTickets history items → NothingOut (caller_of ask.caller) items → KeepsTickets (history ++ Asked ask ∷ []) items
asked_tickets history items ask h none = record { fits = λ n item at. kept n item at (h.fits n item at); once = h.once }
  where
    kept : (n : ℕ) (item : Outstanding) → slice_get items n ≡ Some (Some item) → ItemFits history item → ItemFits (history ++ Asked ask ∷ []) item
    kept n (Pass c front) at fits = (longer history front.value.items (Asked ask) fits.0, by_other c history ask (λ same. none n (Pass c front) at (ap caller_of (sym same))) ∙ fits.1)
    kept n (Running a) at fits =
        (subst (λ xs. slice_get xs a.number ≡ Some a) (sym (asks_asked history ask)) (get_kept (asks_of history) ask a a.number fits.0), turn_push history (Asked ask) a.number ∙ fits.1)

-- An ask is taken.
pub took_tickets : (history : List DeskEntry) (items : List (Option Outstanding)) (n : ℕ) (ask : Ask) → KeepsTickets history items → turn_of history n ≡ Waiting → slice_get (asks_of history) n ≡ Some ask → ask.number ≡ n → KeepsTickets (history ++ Took n ∷ []) (items ++ Some (Running ask) ∷ [])
took_tickets history items n ask h waits at number = issued_tickets (history ++ Took n ∷ []) items (Running ask) others fits none
  where
    kept : (item : Outstanding) → ItemFits history item → ItemFits (history ++ Took n ∷ []) item
    kept (Pass c front) is = (longer history front.value.items (Took n) is.0, ap (filter (λ (a : Ask). eqb a.caller c)) (asks_took history n) ∙ is.1)
    kept (Running a) is =
        (subst (λ xs. slice_get xs a.number ≡ Some a) (sym (asks_took history n)) is.0, turn_took_other history n a.number (λ same. open_not_waiting is.1 (ap (turn_of history) same ∙ waits)) ∙ is.1)

    others : KeepsTickets (history ++ Took n ∷ []) items
    others = record { fits = λ k item at_k. kept item (h.fits k item at_k); once = h.once }

    fits : ItemFits (history ++ Took n ∷ []) (Running ask)
    fits = (subst (λ k. slice_get (asks_of (history ++ Took n ∷ [])) k ≡ Some ask) (sym number) (ap (λ xs. slice_get xs n) (asks_took history n) ∙ at), subst (λ k. turn_of (history ++ Took n ∷ []) k ≡ Open) (sym number) (turn_took_here history n))

    none : NothingOut (ask_of ask.number) items
    none k (Pass c front) at_k same = absurd (let e : caller_of c ≡ ask_of ask.number = same in cc)
    none k (Running a) at_k same = open_not_waiting (h.fits k (Running a) at_k).1 (ap (turn_of history) (same_ask same ∙ number) ∙ waits)

-- An ask ends, whose ticket came back.
pub ended_tickets : (history : List DeskEntry) (items : List (Option Outstanding)) (k : ℕ) (ask : Ask) (whole : Bool) → KeepsTickets history items → slice_get items k ≡ Some (Some (Running ask)) → KeepsTickets (history ++ Ended ask.number whole ∷ []) (set items k None)
ended_tickets history items k ask whole h at = record {
  fits = λ n item at_n. kept n item at_n (h.fits n item (get_cleared items k n item at_n));
  once = once_redeemed items k h.once;
}
  where
    kept : (n : ℕ) (item : Outstanding) → slice_get (set items k None) n ≡ Some (Some item) → ItemFits history item → ItemFits (history ++ Ended ask.number whole ∷ []) item
    kept n (Pass c front) at_n is = (longer history front.value.items (Ended ask.number whole) is.0, ap (filter (λ (a : Ask). eqb a.caller c)) (asks_ended history ask.number whole) ∙ is.1)
    kept n (Running a) at_n is =
        (subst (λ xs. slice_get xs a.number ≡ Some a) (sym (asks_ended history ask.number whole)) is.0, turn_ended_other history ask.number a.number whole (λ same. nothing_left history items k (Running ask) h at n (Running a) at_n (ap ask_of same)) ∙ is.1)
