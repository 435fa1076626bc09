-- A value, level by level, and lists of items and members that grow at their ends.
use Rattle.std.proofs.Common.{◌≡◌, ℕ, List, [], ◌∷◌, ◌++◌, map, Bool, true, false, cond, Option, Some, None, Vec, Global, Bor, bytes_eq, true≢false, refl, sym, ap, ◌∙◌, rules}
use Rattle.std.proofs.lemmas.Slice.Eq.{bytes_eq-Decides}
use Rattle.json.specs.Token.{Token}
use Rattle.json.specs.Json.{parse_map}
use Rattle.serde_json.specs.Data.{Data, array, object, Items, item, no_items, Members, no_members, put}
use Rattle.serde_json.specs.Find.{get_member}
use Rattle.serde_json.proofs.Views.{get_member-put, get_member-put_other}
use Rattle.json_values.specs.inside.View.{items_view, members_view, put_all, view}
use Rattle.json_values.specs.declared.value.Value.{Value, Array, Object, the_lemmas}

abbrev pub Member : Type 0
Member = Bor (List ℕ) × Value

pub view-Array : (v : Vec Value Global) → view (Array v) ≡ array (items_view v.items)
view-Array v = search (rules, the_lemmas)

pub view-Object : (v : Vec Member Global) → view (Object v) ≡ object (members_view v.items)
view-Object v = search (rules, the_lemmas)

-- ---- items

abbrev pub items_before : List Value → Items → Items
items_before [] rest = rest
items_before (v ∷ vs) rest = item (view v) (items_before vs rest)

pub items_before-no_items : (vs : List Value) → items_before vs no_items ≡ items_view vs
items_before-no_items [] = refl
items_before-no_items (v ∷ vs) = ap (item (view v)) (items_before-no_items vs)

items_push : (vs : List Value) (v : Value) (rest : Items) → items_before vs (item (view v) rest) ≡ items_before (vs ++ v ∷ []) rest
items_push [] v rest = refl
items_push (w ∷ vs) v rest = ap (item (view w)) (items_push vs v rest)

pub one_more_item : (vs : List Value) (v : Value) (r : Option (Items × List Token)) → parse_map (items_before vs) (parse_map (item (view v)) r) ≡ parse_map (items_before (vs ++ v ∷ [])) r
one_more_item vs v None = refl
one_more_item vs v (Some p) = ap (λ ds. Some (ds, p.1)) (items_push vs v p.0)

-- ---- members

pushed : (ms : List Member) (m : Member) (before : Members)
    → put_all (map (λ m. (m.0, view m.1)) (ms ++ m ∷ [])) before ≡ put m.0.now (view m.1) (put_all (map (λ m. (m.0, view m.1)) ms) before)
pushed [] m before = refl
pushed (x ∷ ms) m before = pushed ms m (put x.0.now (view x.1) before)

-- a member more is put into those before it
pub members_view-push : (ms : List Member) (m : Member) → members_view (ms ++ m ∷ []) ≡ put m.0.now (view m.1) (members_view ms)
members_view-push ms m = pushed ms m no_members

found-put : (name k : List ℕ) (d : Data) (ms : Members) (same : Bool) → bytes_eq k name ≡ same → get_member name (put k d ms) ≡ cond same (Some d) (get_member name ms)
found-put name k d ms true is = rw (← (bytes_eq-Decides k name).0 is) (get_member-put k d ms)
found-put name k d ms false is = get_member-put_other name k d ms (λ e. true≢false (sym ((bytes_eq-Decides k name).1 (sym e)) ∙ is))

-- the last member of a name is found
pub get_member-push : (name : List ℕ) (ms : List Member) (m : Member)
    → get_member name (members_view (ms ++ m ∷ [])) ≡ cond (bytes_eq m.0.now name) (Some (view m.1)) (get_member name (members_view ms))
get_member-push name ms m = ap (get_member name) (members_view-push ms m) ∙ found-put name m.0.now (view m.1) (members_view ms) (bytes_eq m.0.now name) refl
