-- Operations that are used by others.
use Rattle.std.proofs.Common.{◌≡◌, ℕ, List, [], ◌∷◌, map, Bool, true, false, cond, Option, Some, None, Result, Ok, Err, ok_or, option_map, codes, refl, sym, bytes_eq}
use Rattle.std.proofs.lemmas.Slice.Eq.{bytes_eq-Decides}
use Rattle.serde_json.specs.Data.{Data}
use Rattle.graph_plans.specs.declared.spots.Spot.{Spot}
use Rattle.graph_drafts.specs.declared.refusals.GraphError.{GraphError}
use Rattle.graph_plans.specs.declared.ops.Op.TheVariants.{Text}
use Rattle.graph_plans.specs.declared.pipes.LineOp.TheVariants.{Text as LineText}
use Rattle.graph_drafts.specs.declared.refusals.GraphError.TheVariants.{BadField}
use Rattle.graph_drafts.specs.OpRows.{OpRow, WithFields, does, line_rows, op_called, op_rows, row_called, text_rows, used_by}
use Rattle.graph_drafts.specs.Steps.{◌>>=◌}

row_step : {A B : Type 0} (f : A → B) (here : Bool) (row : OpRow A) (rest : Option (OpRow A)) (later : Option (OpRow B)) → later ≡ option_map (used_by f) rest
    → cond here (Some (used_by f row)) later ≡ option_map (used_by f) (cond here (Some row) rest)
row_step f true row rest later e = refl
row_step f false row rest later e = e

row_called-used : {A B : Type 0} (f : A → B) (rows : List (OpRow A)) (name : List ℕ) → row_called (map (used_by f) rows) name ≡ option_map (used_by f) (row_called rows name)
row_called-used f [] name = refl
row_called-used f (row ∷ rows) name = row_step f (bytes_eq row.name name) row _ _ (row_called-used f rows name)

-- an operation with its fields, as another one
abbrev pub used_found : {A B : Type 0} → (A → B) → WithFields A → WithFields B
used_found f found = record { op = f found.op; fields = found.fields }

made_step : {A B : Type 0} (f : A → B) (fields : List (List ℕ)) (made : Result A GraphError)
    → ((made >>= λ op. Ok (f op)) >>= λ op. Ok (record { op = op; fields = fields })) ≡ ((made >>= λ op. Ok (record { op = op; fields = fields })) >>= λ found. Ok (used_found f found))
made_step f fields (Ok op) = refl
made_step f fields (Err e) = refl

called_step : {A B : Type 0} (f : A → B) (row : Option (OpRow A)) (spot : Spot) (d : Data) (e : GraphError)
    → (ok_or (option_map (used_by f) row) e >>= λ r. r.made spot d >>= λ op. Ok (record { op = op; fields = r.fields }))
    ≡ ((ok_or row e >>= λ r. r.made spot d >>= λ op. Ok (record { op = op; fields = r.fields })) >>= λ found. Ok (used_found f found))
called_step f None spot d e = refl
called_step f (Some row) spot d e = made_step f row.fields (row.made spot d)

-- the operation that the rows for others give is that of the rows
pub op_called_used : {A B : Type 0} (f : A → B) (rows : List (OpRow A)) (name : List ℕ) (spot : Spot) (d : Data)
    → op_called (map (used_by f) rows) name spot d ≡ (op_called rows name spot d >>= λ found. Ok (used_found f found))
op_called_used f rows name spot d = rw (row_called-used f rows name) (called_step f (row_called rows name) spot d _)

-- ---- names that differ

test_of : (test : Bool) (P : Type 0) → (test ≡ true → P) → (P → ⊥) → test ≡ false
test_of true P so not_so = absurd (not_so (so refl))
test_of false P so not_so = refl

pub differs : (key name : List ℕ) → (name ≡ key → ⊥) → bytes_eq key name ≡ false
differs key name other = test_of (bytes_eq key name) (name ≡ key) (λ same. sym ((bytes_eq-Decides key name).0 same)) other

abbrev Is-not : List ℕ → List ℕ → Type 0
Is-not name key = name ≡ key → ⊥

-- a name that no operation on one text has
pub no_text_op : (name : List ℕ) (spot : Spot) (d : Data)
    → Is-not name (codes "pass") → Is-not name (codes "keep") → Is-not name (codes "without") → Is-not name (codes "head") → Is-not name (codes "tail")
    → Is-not name (codes "skip") → Is-not name (codes "sort") → Is-not name (codes "uniq") → Is-not name (codes "count") → Is-not name (codes "tally")
    → op_called text_rows name spot d ≡ Err (BadField spot (codes "op"))
unfolding text_rows
no_text_op name spot d pass_ keep_ without_ head_ tail_ skip_ sort_ uniq_ count_ tally_ =
    rw (
      differs (codes "pass") name pass_,
      differs (codes "keep") name keep_,
      differs (codes "without") name without_,
      differs (codes "head") name head_,
      differs (codes "tail") name tail_,
      differs (codes "skip") name skip_,
      differs (codes "sort") name sort_,
      differs (codes "uniq") name uniq_,
      differs (codes "count") name count_,
      differs (codes "tally") name tally_,
    ) refl

-- a name that only an operation on one text may have, of a pipe
pub no_line_op : (name : List ℕ) (spot : Spot) (d : Data) → Is-not name (codes "number") → Is-not name (codes "stamp") → op_called line_rows name spot d ≡ op_called (map (used_by LineText) text_rows) name spot d
unfolding line_rows
no_line_op name spot d number_ stamp_ = rw (differs (codes "number") name number_, differs (codes "stamp") name stamp_) refl

-- a name that only an operation on one text may have
pub no_own_op : (name : List ℕ) (spot : Spot) (d : Data)
    → Is-not name (codes "input") → Is-not name (codes "read") → Is-not name (codes "match") → Is-not name (codes "back") → Is-not name (codes "ifmore")
    → Is-not name (codes "ifhas") → Is-not name (codes "route") → Is-not name (codes "spread") → Is-not name (codes "module") → Is-not name (codes "pipe")
    → op_called op_rows name spot d ≡ op_called (map (used_by (λ op. does (Text op))) text_rows) name spot d
unfolding op_rows
no_own_op name spot d input_ read_ match_ back_ more_ has_ route_ spread_ module_ pipe_ =
    rw (
      differs (codes "input") name input_,
      differs (codes "read") name read_,
      differs (codes "match") name match_,
      differs (codes "back") name back_,
      differs (codes "ifmore") name more_,
      differs (codes "ifhas") name has_,
      differs (codes "route") name route_,
      differs (codes "spread") name spread_,
      differs (codes "module") name module_,
      differs (codes "pipe") name pipe_,
    ) refl
