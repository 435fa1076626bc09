-- The JSON of a file's bytes.
use Rattle.std.proofs.Common.{◌≡◌, ℕ, List, Bool, true, false, cond, Option, Some, None, Ok, Err, ok_or, Result, refl}
use Rattle.std.proofs.lemmas.Str.{is_utf8-from_IsUtf8, IsUtf8-from_is_utf8}
use Rattle.std.specs.Str.{IsUtf8, is_utf8}
use Rattle.serde_json.specs.Data.{Data}
use Rattle.serde_json.specs.Read.{read}
use Rattle.graph_drafts.specs.declared.refusals.GraphError.{GraphError}
use Rattle.graph_drafts.specs.declared.refusals.GraphError.TheVariants.{NotJson}
use Rattle.graph_file.specs.PlanText.{json_in}

pub json_in-ok : (bytes : List ℕ) (d : Data) → IsUtf8 bytes × (read bytes ≡ Some d) → json_in bytes ≡ Ok d
json_in-ok bytes d is = rw (is_utf8-from_IsUtf8 bytes is.0, is.1) refl

refused-step : (utf8 : Bool) (found : Option Data) → (utf8 ≡ true → found ≡ None) → cond {A = Result Data GraphError} utf8 (ok_or found NotJson) (Err NotJson) ≡ Err NotJson
refused-step true found none = rw (none refl) refl
refused-step false found none = refl

pub json_in-refused : (bytes : List ℕ) → (IsUtf8 bytes → read bytes ≡ None) → json_in bytes ≡ Err NotJson
json_in-refused bytes none = refused-step (is_utf8 bytes) (read bytes) (λ is. none (IsUtf8-from_is_utf8 bytes is))
