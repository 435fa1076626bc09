-- Lists that are read item by item.
use Rattle.std.proofs.Common.{◌≡◌, List, [], ◌∷◌, ◌++◌, map, Option, Some, None, Ok, ok_or, option_and_then, option_map, refl, ap, sym, ◌∙◌, append_assoc}
use Rattle.std.proofs.lemmas.List.{append-nil}
use Rattle.graph_drafts.specs.declared.refusals.GraphError.{GraphError}
use Rattle.graph_drafts.specs.Contents.{each}
use Rattle.graph_drafts.specs.Steps.{◌>>=◌, walk}
use Rattle.graph_drafts.specs.inside.Reading.{put_each}

later : {X Y : Type 0} (f : X → Y) (e : GraphError) (ys : List Y) (x : X) (rest : Option (List X))
    → (ok_or rest e >>= λ xs. Ok ((ys ++ f x ∷ []) ++ map f xs)) ≡ (ok_or (option_map (λ xs. x ∷ xs) rest) e >>= λ xs. Ok (ys ++ map f xs))
later f e ys x None = refl
later f e ys x (Some xs) = ap Ok (append_assoc ys (f x ∷ []) (map f xs))

-- an item that holds nothing, or one behind which the rest is read
walk-put_step : {D X Y : Type 0} (content : D → Option X) (f : X → Y) (e : GraphError) (ys : List Y) (first : Option X) (ds : List D)
    → ((x : X) → walk (put_each content f e) (ys ++ f x ∷ []) ds ≡ (ok_or (each content ds) e >>= λ xs. Ok ((ys ++ f x ∷ []) ++ map f xs)))
    → ((ok_or first e >>= λ x. Ok (ys ++ f x ∷ [])) >>= λ next. walk (put_each content f e) next ds)
    ≡ (ok_or (option_and_then (λ x. option_map (λ xs. x ∷ xs) (each content ds)) first) e >>= λ xs. Ok (ys ++ map f xs))
walk-put_step content f e ys None ds rest = refl
walk-put_step content f e ys (Some x) ds rest = rest x ∙ later f e ys x (each content ds)

-- the items are read one after another just where each of them is read
pub walk-put_each : {D X Y : Type 0} (content : D → Option X) (f : X → Y) (e : GraphError) (ys : List Y) (ds : List D)
    → walk (put_each content f e) ys ds ≡ (ok_or (each content ds) e >>= λ xs. Ok (ys ++ map f xs))
walk-put_each content f e ys [] = ap Ok (sym (append-nil ys))
walk-put_each content f e ys (d ∷ ds) = walk-put_step content f e ys (content d) ds (λ x. walk-put_each content f e (ys ++ f x ∷ []) ds)

map-same : {A : Type 0} (xs : List A) → map (λ x. x) xs ≡ xs
map-same [] = refl
map-same (x ∷ xs) = ap (λ ys. x ∷ ys) (map-same xs)

kept : {A : Type 0} (found : Option (List A)) (e : GraphError) → (ok_or found e >>= λ xs. Ok (map (λ x. x) xs)) ≡ ok_or found e
kept None e = refl
kept (Some xs) e = ap Ok (map-same xs)

-- the same where each item stays as it is
pub walk-put_same : {D X : Type 0} (content : D → Option X) (e : GraphError) (ds : List D) → walk (put_each content (λ x. x) e) [] ds ≡ ok_or (each content ds) e
walk-put_same content e ds = walk-put_each content (λ x. x) e [] ds ∙ kept (each content ds) e
