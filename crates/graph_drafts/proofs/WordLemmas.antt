-- The words of an operation, and the names in a field.
use Rattle.std.proofs.Common.{◌≡◌, ℕ, ◌≤◌, List, [], map, length, Option, Some, None, Result, ok_or, option_and_then, codes, le-leb, sym}
use Rattle.std.proofs.lemmas.List.{length-map}
use Rattle.std.specs.Borrow.{Bor}
use Rattle.serde_json.specs.Data.{Data}
use Rattle.serde_json.specs.Find.{get}
use Rattle.json_values.specs.inside.View.{view}
use Rattle.json_values.specs.declared.value.Value.{Value}
use Rattle.graph_plans.specs.declared.spots.Spot.{Spot}
use Rattle.graph_drafts.specs.declared.refusals.GraphError.{GraphError}
use Rattle.graph_drafts.specs.declared.refusals.GraphError.TheVariants.{BadField}
use Rattle.graph_drafts.specs.Contents.{list_of, name_of, name_list_of, target_items_of, targets_of, whole_of, word_of, words_of}
use Rattle.graph_drafts.specs.Fields.{allowed}
use Rattle.graph_drafts.specs.Steps.{walk}
use Rattle.graph_drafts.specs.inside.Reading.{Reads, ReadsAs, put_each, strings}
use Rattle.graph_drafts.proofs.EachLemmas.{walk-put_same}

-- words that are few enough, read one after another
words-read : (found : Option Data) (items : List Data) (e : GraphError) → Some items ≡ option_and_then list_of found → length items ≤ 256
    → ok_or (option_and_then words_of found) e ≡ walk (put_each word_of (λ word. word) e) [] items
words-read None items e is few = cc
words-read (Some d) items e is few =
    rw (← is, le-leb (length items) 256 few) (sym (walk-put_same word_of e items))

pub Reads-words : (found : Option Data) (values : List Value) (spot : Spot) (r : Result (List (List ℕ)) GraphError) → Some (map view values) ≡ option_and_then list_of found → length values ≤ 256
    → Reads r (walk (put_each word_of (λ word. word) (BadField spot (codes "words"))) [] (map view values)) → Reads r (ok_or (option_and_then words_of found) (BadField spot (codes "words")))
Reads-words found values spot r is few reads =
    let few_items : length (map view values) ≤ 256 = rw (length-map values view) few in
    rw (words-read found (map view values) (BadField spot (codes "words")) is few_items) reads

-- ---- the tokens for which one waits

targets-read : (found : Option Data) (items : List Data) (e : GraphError) → Some items ≡ option_and_then target_items_of found → ok_or (option_and_then targets_of found) e ≡ walk (put_each (whole_of 0 1000000) (λ target. target) e) [] items
targets-read None items e is = cc
targets-read (Some d) items e is = rw (← is) (sym (walk-put_same (whole_of 0 1000000) e items))

pub Reads-targets : (found : Option Data) (items : List Data) (spot : Spot) (r : Result (List ℕ) GraphError) → Some items ≡ option_and_then target_items_of found
    → Reads r (walk (put_each (whole_of 0 1000000) (λ target. target) (BadField spot (codes "to"))) [] items) → Reads r (ok_or (option_and_then targets_of found) (BadField spot (codes "to")))
Reads-targets found items spot r is reads = rw (targets-read found items (BadField spot (codes "to")) is) reads

-- ---- names

names-read : (d : Data) (items : List Data) (e : GraphError) → Some items ≡ list_of d → ok_or (name_list_of d) e ≡ walk (put_each name_of (λ name. name) e) [] items
names-read d items e is = rw (← is) (sym (walk-put_same name_of e items))

-- the names of a field that is there
pub ReadsAs-names : (spot : Spot) (field : List ℕ) (d list : Data) (items : List Data) (r : Result (List (Bor (List ℕ))) GraphError) → Some list ≡ get field d → Some items ≡ list_of list
    → ReadsAs strings r (walk (put_each name_of (λ name. name) (BadField spot field)) [] items) → ReadsAs strings r (allowed [] name_list_of spot field d)
ReadsAs-names spot field d list items r is are reads = rw (← is, names-read list items (BadField spot field) are) reads
