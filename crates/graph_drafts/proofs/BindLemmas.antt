-- What a step that answered says of those before it.
use Rattle.std.proofs.Common.{◌≡◌, suc, length, List, [], ◌∷◌, Bool, true, false, Option, Some, None, Result, Ok, Err, IfOk, ok_or, option_and_then, option_map, refl, sym, subst, ap, ◌∙◌}
use Rattle.std.proofs.lemmas.Option.{cond_some, option_and_then_some}
use Rattle.std.specs.List.{list_all}
use Rattle.graph_drafts.specs.declared.refusals.GraphError.{GraphError}
use Rattle.graph_drafts.specs.Contents.{each, passing}
use Rattle.graph_drafts.specs.Steps.{◌>>=◌, passed}

-- both steps answered
pub bind_ok : {A B : Type 0} (r : Result A GraphError) (f : A → Result B GraphError) (y : B) {P : Type 0} → (r >>= f) ≡ Ok y → ((x : A) → r ≡ Ok x → f x ≡ Ok y → P) → P
bind_ok (Ok x) f y is then_ = then_ x refl is
bind_ok (Err e) f y is then_ = cc

pub passed-ok : {B : Type 0} (test : Bool) (e : GraphError) (next : Result B GraphError) (y : B) → (passed test e >>= λ done. next) ≡ Ok y → (test ≡ true) × (next ≡ Ok y)
passed-ok true e next y is = (refl, is)
passed-ok false e next y is = cc

pub ok_or_ok : {A : Type 0} (o : Option A) (e : GraphError) (x : A) → ok_or o e ≡ Ok x → o ≡ Some x
ok_or_ok None e x is = cc
ok_or_ok (Some y) e x is = cc

pub passing-ok : {A : Type 0} (test : A → Bool) (found : Option A) (x : A) → option_and_then (passing test) found ≡ Some x → test x ≡ true
passing-ok test found x is =
    option_and_then_some (passing test) found x is (λ y here passes.
    let same = cond_some (test y) y x passes in
    subst (λ z. test z ≡ true) same.1 same.0)

-- what passes is what was found
pub passing-same : {A : Type 0} (test : A → Bool) (found : Option A) (x : A) → option_and_then (passing test) found ≡ Some x → found ≡ Some x
passing-same test found x is =
    option_and_then_some (passing test) found x is (λ y here passes. here ∙ ap Some (cond_some (test y) y x passes).1)

pub each_rest : {B : Type 0} (o : Option (List B)) (y : B) (ys : List B) → option_map (λ rest. y ∷ rest) o ≡ Some ys → (zs : List B) × (o ≡ Some zs) × (y ∷ zs ≡ ys)
each_rest None y ys is = cc
each_rest (Some zs) y ys is = (zs, refl, cc)

-- what each item gives passes the test that f's results pass
pub each-all : {A B : Type 0} (f : A → Option B) (test : B → Bool) (xs : List A) (ys : List B) → ((x : A) (y : B) → f x ≡ Some y → test y ≡ true) → each f xs ≡ Some ys → list_all test ys ≡ true
each-all f test [] ys passes is = let same : [] ≡ ys = cc in subst (λ zs. list_all test zs ≡ true) same refl
each-all f test (x ∷ xs) ys passes is =
    option_and_then_some (λ y. option_map (λ rest. y ∷ rest) (each f xs)) (f x) ys is (λ y here rest.
    let others = each_rest (each f xs) y ys rest in
    let first : test y ≡ true = passes x y here in
    let later : list_all test others.0 ≡ true = each-all f test xs others.0 passes others.1 in
    let both : list_all test (y ∷ others.0) ≡ true = rw first later in
    subst (λ zs. list_all test zs ≡ true) others.2 both)

pub each-length : {A B : Type 0} (f : A → Option B) (xs : List A) (ys : List B) → each f xs ≡ Some ys → length ys ≡ length xs
each-length f [] ys is = let same : [] ≡ ys = cc in ap length (sym same)
each-length f (x ∷ xs) ys is =
    option_and_then_some (λ y. option_map (λ rest. y ∷ rest) (each f xs)) (f x) ys is (λ y here rest.
    let others = each_rest (each f xs) y ys rest in
    ap length (sym others.2) ∙ ap suc (each-length f xs others.0 others.1))

-- what holds of a result, if there is one, by what is known of it
pub if-ok : {X E : Type 0} (r : Result X E) {P Q : X → Type 0} → ((x : X) → P x → Q x) → IfOk r P → IfOk r Q
if-ok (Ok x) so is = so x is
if-ok (Err e) so is = tt
