-- The operations of generated tasks.
use Rattle.std.proofs.Common.{◌≡◌, ℕ, ◌+◌, ◌*◌, ◌/◌, ◌%◌, ◌==◌, Bool, true, false, if◌then◌else◌, List, [], ◌∷◌, length, map, All, codes, refl, ap, ◌∙◌, arith}
use Rattle.std.proofs.lemmas.List.{length-append}
use Rattle.std.proofs.lemmas.List.Elements.{All-append, All-from_recursion, All-head, All-map, All-tail}
use Rattle.std.proofs.lemmas.List.FromFn.{length-map-range_with_len}
use Rattle.graph_plans.specs.declared.ops.Op.{Op}
use Rattle.graph_plans.specs.declared.ops.Op.TheVariants.{Read, Text, IfMore, Pipe}
use Rattle.graph_plans.specs.declared.ops.TextOp.{TextOp}
use Rattle.graph_plans.specs.declared.ops.TextOp.TheVariants.{Pass, Keep, Head, Tail, Skip, Sort, Uniq, Tally}
use Rattle.graph_plans.specs.ModuleUses.{modules_run, run_before}
use Rattle.graph_generator.specs.GeneratedPlan.{even_op, generated_ops, generated_pipeline, last_ops, layer_op, layer_tasks, odd_op, op_draw}
use Rattle.graph_generator.proofs.EdgeLemmas.{All-range}

either-fits : {X : Type 0} (P : X → Type 0) (b : Bool) (x y : X) → P x → P y → P (if b then x else y)
either-fits P true x y first second = first
either-fits P false x y first second = second

-- what holds of each of them
pub record HoldsOfOps (P : Op → Type 0) : Type 0 where
  pub reads : P (Read 0)
  pub head : P (Text (Head 100))
  pub tail : P (Text (Tail 100))
  pub sort : P (Text Sort)
  pub uniq : P (Text Uniq)
  pub keep : P (Text (Keep (codes "1")))
  pub tally : P (Text Tally)
  pub skip : P (Text (Skip 1))
  pub if_more : P (IfMore 10)
  pub pass : P (Text Pass)
  pub pipe : P (Pipe generated_pipeline)

layer_op-fits : (P : Op → Type 0) → HoldsOfOps P → (t d : ℕ) → P (layer_op t d)
layer_op-fits P holds t d =
    let odd = either-fits (λ (op : TextOp). P (Text op)) (d % 2 == 0) (Head 100) (Tail 100) holds.head holds.tail in
    let last = either-fits (λ (op : TextOp). P (Text op)) (d % 3 == 1) Uniq (Keep (codes "1")) holds.uniq holds.keep in
    let even = either-fits (λ (op : TextOp). P (Text op)) (d % 3 == 0) Sort (if d % 3 == 1 then Uniq else Keep (codes "1")) holds.sort last in
    either-fits P (t / 10 == 0) (Read 0) (Text (if t / 10 % 2 == 1 then odd_op d else even_op d)) holds.reads
    (either-fits (λ (op : TextOp). P (Text op)) (t / 10 % 2 == 1) (odd_op d) (even_op d) odd even)

-- holds of all
pub ops-all : (P : Op → Type 0) (layers : ℕ) → HoldsOfOps P → All P (generated_ops layers)
ops-all P layers holds =
    let op = λ (t : ℕ). layer_op t (op_draw layers t) in
    All-append P (map op (layer_tasks layers)) last_ops
    (All-map P op (layer_tasks layers) (All-range (λ t. P (op t)) 0 (10 * layers) (λ t from_ to_. layer_op-fits P holds t (op_draw layers t))))
    (All-from_recursion P last_ops (holds.tally, (holds.reads, (holds.skip, (holds.if_more, (holds.pass, (holds.reads, (holds.pipe, tt))))))))

pub ops-count : (layers : ℕ) → length (generated_ops layers) ≡ 10 * layers + 7
ops-count layers =
    let op = λ (t : ℕ). layer_op t (op_draw layers t) in
    omega (arith, length-append (map op (layer_tasks layers)) last_ops, length-map-range_with_len op 0 (10 * layers))

-- no task runs a module
runs-none : (ops : List Op) → All (λ op. run_before [] op ≡ []) ops → modules_run ops ≡ []
runs-none [] all = refl
runs-none (op ∷ ops) all = ap (λ ms. run_before ms op) (runs-none ops (All-tail (λ (o : Op). run_before [] o ≡ []) op ops all)) ∙ All-head (λ (o : Op). run_before [] o ≡ []) op ops all

pub runs-no-module : (layers : ℕ) → modules_run (generated_ops layers) ≡ []
runs-no-module layers =
    runs-none (generated_ops layers)
    (ops-all (λ op. run_before [] op ≡ []) layers (record { reads = refl; head = refl; tail = refl; sort = refl; uniq = refl; keep = refl; tally = refl; skip = refl; if_more = refl; pass = refl; pipe = refl }))
