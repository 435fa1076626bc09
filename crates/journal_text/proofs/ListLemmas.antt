-- Lists in a line, while a loop reads them.
use Rattle.std.proofs.Common.{◌≡◌, ℕ, zero, suc, ◌+◌, ◌-◌, ◌<◌, List, [], ◌∷◌, ◌++◌, refl, sym, ap, ◌∙◌, arith, append-nil, append_assoc, Option, Some, None}
use Rattle.journal_text.specs.inside.Reading.{ReadFront, with_front, next_item, items_on, ItemsSoFar}

with_front-nothing : {A B : Type 0} (read : Option (List A × B)) → with_front [] read ≡ read
with_front-nothing None = refl
with_front-nothing (Some x) = refl

with_front-twice : {A B : Type 0} (front more : List A) (read : Option (List A × B)) → with_front front (with_front more read) ≡ with_front (front ++ more) read
with_front-twice front more None = refl
with_front-twice front more (Some x) = ap (λ items. Some (items, x.1)) (sym (append_assoc front more x.0))

pub so_far_none : {A : Type 0} (item : List ℕ → ReadFront A) (count : ℕ) (bytes : List ℕ) (old : List A) → ItemsSoFar item count bytes old old count bytes
so_far_none item count bytes old = record { more = []; put = sym (append-nil old); same = sym (with_front-nothing (items_on item count bytes)) }

-- what is read behind an item
pub items_on-next : {A : Type 0} (item : List ℕ → ReadFront A) (left : ℕ) (rest behind : List ℕ) (x : A) → 0 < left → next_item item rest ≡ Some (x, behind)
    → items_on item left rest ≡ with_front (x ∷ []) (items_on item (left - 1) behind)
items_on-next item zero rest behind x some is = absurd (omega arith)
items_on-next item (suc left) rest behind x some is =
    let one : suc left - 1 ≡ left = omega arith in
    rw (is, one) refl

pub items_on-bad : {A : Type 0} (item : List ℕ → ReadFront A) (left : ℕ) (rest : List ℕ) → 0 < left → next_item item rest ≡ None → items_on item left rest ≡ None
items_on-bad item zero rest some is = absurd (omega arith)
items_on-bad item (suc left) rest some is = rw is refl

pub so_far_more : {A : Type 0} {item : List ℕ → ReadFront A} {count : ℕ} {bytes : List ℕ} {old now after : List A} {left fewer : ℕ} {rest : List ℕ} (x : A) (behind : List ℕ)
    → ItemsSoFar item count bytes old now left rest → after ≡ now ++ x ∷ [] → left ≡ fewer + 1 → next_item item rest ≡ Some (x, behind) → ItemsSoFar item count bytes old after fewer behind
so_far_more {item = item} {old = old} {left = left} {fewer = fewer} {rest = rest} x behind so_far put one_less is =
    let e : left - 1 ≡ fewer = omega arith in
    record {
      more = so_far.more ++ x ∷ [];
      put = put ∙ ap (λ items. items ++ x ∷ []) so_far.put ∙ append_assoc old so_far.more (x ∷ []);
      same = so_far.same
          ∙ ap (with_front so_far.more) (items_on-next item left rest behind x (omega arith) is ∙ rw e refl)
          ∙ with_front-twice so_far.more (x ∷ []) (items_on item fewer behind);
    }

pub so_far_bad : {A : Type 0} {item : List ℕ → ReadFront A} {count : ℕ} {bytes : List ℕ} {old now : List A} {left : ℕ} {rest : List ℕ}
    → ItemsSoFar item count bytes old now left rest → 0 < left → next_item item rest ≡ None → items_on item count bytes ≡ None
so_far_bad {item = item} {left = left} {rest = rest} so_far some is = so_far.same ∙ ap (with_front so_far.more) (items_on-bad item left rest some is)

pub so_far_all : {A : Type 0} {item : List ℕ → ReadFront A} {count : ℕ} {bytes : List ℕ} {old now : List A} {left : ℕ} {rest : List ℕ}
    → (so_far : ItemsSoFar item count bytes old now left rest) → left ≡ 0 → items_on item count bytes ≡ Some (so_far.more, rest)
so_far_all {item = item} {rest = rest} so_far none =
    so_far.same ∙ ap (λ n. with_front so_far.more (items_on item n rest)) none ∙ ap (λ items. Some (items, rest)) (append-nil so_far.more)
