-- Each part has an index of its own.
use Rattle.std.proofs.Common.{◌≡◌, ◌≢◌, ℕ, suc, ◌+◌, ◌*◌, ◌<◌, ◌≤◌, refl, ap, sym, arith, mul-le-mul_right, suc-mul}
use mathlib.Core.Logic.{dite}
use native.Mathlib.Decide.{dec_le}
use Rattle.its_types.specs.declared.machine.Part.{Part}
use Rattle.its_types.specs.declared.machine.Part.TheVariants as part
use Rattle.its_steps.specs.Parts.{Setup, Stands, index_of, part_count, translator_count}

-- a row of a table ends before the next one
pub row_below : (rows width i n : ℕ) → i < rows → n < width → i * width + n < rows * width
row_below rows width i n lt ln = let m : suc i * width ≤ rows * width = mul-le-mul_right width lt in omega (arith, suc-mul i width, ln)

row_before : (width i j n m : ℕ) → i < j → n < width → i * width + n ≢ j * width + m
row_before width i j n m lt ln e = let r = row_below j width i n lt ln in absurd (omega (arith, r, e))

row_is : (width i j n m : ℕ) → n < width → m < width → i * width + n ≡ j * width + m → i ≡ j
row_is width i j n m ln lm e = dite (dec_le (suc i) j) (λ lt. absurd (row_before width i j n m lt ln e))
    (λ a. dite (dec_le (suc j) i) (λ lt. absurd (row_before width j i m n lt lm (sym e))) (λ b. omega (arith, a, b)))

pub index_below : (s : Setup) (p : Part) → Stands s p → index_of s p < part_count s
index_below s (part.Maps its) st = omega (arith, st)
index_below s part.Mem st = omega arith
index_below s (part.Shard its n) st = let r = row_below (translator_count s) s.shards its n st.0 st.1 in omega (arith, r)
index_below s (part.Conf vcpu) st = omega (arith, st)
index_below s (part.Pend vcpu) st = omega (arith, st)

pub index_injective : (s : Setup) (p q : Part) → Stands s p → Stands s q → index_of s p ≡ index_of s q → p ≡ q
index_injective s (part.Maps i) (part.Maps j) a b e = ap (λ (k : ℕ). part.Maps k) e
index_injective s (part.Maps i) part.Mem a b e = absurd (omega (arith, a, e))
index_injective s (part.Maps i) (part.Shard j m) a b e = absurd (omega (arith, a, e))
index_injective s (part.Maps i) (part.Conf v) a b e = absurd (omega (arith, a, e))
index_injective s (part.Maps i) (part.Pend v) a b e = absurd (omega (arith, a, e))
index_injective s part.Mem (part.Maps j) a b e = absurd (omega (arith, b, e))
index_injective s part.Mem part.Mem a b e = refl
index_injective s part.Mem (part.Shard j m) a b e = absurd (omega (arith, e))
index_injective s part.Mem (part.Conf v) a b e = absurd (omega (arith, e))
index_injective s part.Mem (part.Pend v) a b e = absurd (omega (arith, e))
index_injective s (part.Shard i n) (part.Maps j) a b e = absurd (omega (arith, b, e))
index_injective s (part.Shard i n) part.Mem a b e = absurd (omega (arith, e))
index_injective s (part.Shard i n) (part.Shard j m) a b e =
    let flat : i * s.shards + n ≡ j * s.shards + m = omega (arith, e) in
    let row : i ≡ j = row_is s.shards i j n m a.1 b.1 flat in
    let place : n ≡ m = omega (arith, flat, ap (λ (k : ℕ). k * s.shards) row) in
    (λ d. part.Shard (row d) (place d))
index_injective s (part.Shard i n) (part.Conf v) a b e = let r = row_below (translator_count s) s.shards i n a.0 a.1 in absurd (omega (arith, r, e))
index_injective s (part.Shard i n) (part.Pend v) a b e = let r = row_below (translator_count s) s.shards i n a.0 a.1 in absurd (omega (arith, r, e))
index_injective s (part.Conf v) (part.Maps j) a b e = absurd (omega (arith, b, e))
index_injective s (part.Conf v) part.Mem a b e = absurd (omega (arith, e))
index_injective s (part.Conf v) (part.Shard j m) a b e = let r = row_below (translator_count s) s.shards j m b.0 b.1 in absurd (omega (arith, r, e))
index_injective s (part.Conf v) (part.Conf x) a b e = let same : v.0 ≡ x.0 = omega (arith, e) in (λ d. part.Conf (record { 0 = same d }))
index_injective s (part.Conf v) (part.Pend x) a b e = absurd (omega (arith, a, e))
index_injective s (part.Pend v) (part.Maps j) a b e = absurd (omega (arith, b, e))
index_injective s (part.Pend v) part.Mem a b e = absurd (omega (arith, e))
index_injective s (part.Pend v) (part.Shard j m) a b e = let r = row_below (translator_count s) s.shards j m b.0 b.1 in absurd (omega (arith, r, e))
index_injective s (part.Pend v) (part.Conf x) a b e = absurd (omega (arith, b, e))
index_injective s (part.Pend v) (part.Pend x) a b e = let same : v.0 ≡ x.0 = omega (arith, e) in (λ d. part.Pend (record { 0 = same d }))
