-- Static chunks lie one behind the other.
use Rattle.std.proofs.Common.{◌≡◌, ℕ, zero, suc, ◌+◌, ◌*◌, ◌<◌, ◌≤◌, map, ap, ◌∙◌, subst, mul-le-mul_right, suc-mul, zero-mul, arith}
use Rattle.std.specs.Prelude.{min}
use Rattle.std.specs.List.{range_with_len}
use Rattle.std.proofs.lemmas.Grind.{div_ceil_times}
use Rattle.grain_tasks.specs.Chunks.{AreConsecutive, chunk_at, chunk_count, static_chunks}

-- each chunk begins below the count
pub place_below : (count grain place : ℕ) → 1 ≤ grain → place < chunk_count count grain → place * grain < count
place_below count grain place some below =
    let high = (div_ceil_times count grain some).1 in
    let step : suc place * grain ≤ chunk_count count grain * grain = mul-le-mul_right grain below in
    omega (arith, high, step, suc-mul place grain)

-- those from a place on go up to the count
pub consecutive_from : (count grain place n : ℕ) → 1 ≤ grain → place + n ≡ chunk_count count grain → AreConsecutive (min (place * grain) count) count (map (chunk_at count grain) (range_with_len place n))
consecutive_from count grain place zero some all =
    let low = (div_ceil_times count grain some).0 in
    let same : place ≡ chunk_count count grain = omega (arith, all) in
    let here : place * grain ≡ chunk_count count grain * grain = ap (λ k. k * grain) same in
    omega (arith, low, here)
consecutive_from count grain place (suc n) some all =
    let below = place_below count grain place some (omega (arith, all)) in
    let next : (place + 1) * grain ≡ place * grain + grain = (let is : place + 1 ≡ suc place = omega arith in ap (λ k. k * grain) is) ∙ suc-mul place grain in
    let rest = consecutive_from count grain (place + 1) n some (omega (arith, all)) in
    (omega (arith, below), omega (arith, below), subst (λ k. AreConsecutive (min k count) count (map (chunk_at count grain) (range_with_len (place + 1) n))) next rest)

pub consecutive : (count grain : ℕ) → 1 ≤ grain → AreConsecutive 0 count (static_chunks count grain)
consecutive count grain some =
    let none : min (0 * grain) count ≡ 0 = omega (arith, zero-mul grain) in
    subst (λ k. AreConsecutive k count (static_chunks count grain)) none (consecutive_from count grain 0 (chunk_count count grain) some (omega arith))
