-- Some bytes followed by zeros, 64 in all.
use Rattle.std.specs.Prelude.{◌≡◌, ℕ, ◌-◌, ◌<◌, ◌≤◌, ◌++◌, List, length, take, drop, replicate}
use Rattle.std.proofs.Common.{arith}
use Rattle.std.proofs.lemmas.List.{take-append-drop, length-take}
use Rattle.its_plain.specs.declared.bytes64.Bytes64.TheInside.{Inside}

pub record IsPadded (len : ℕ) (bytes : List ℕ) : Type 0 where
  pub some : 0 < len
  pub fits : len ≤ 64
  pub whole : length bytes ≡ 64
  pub zeros : drop len bytes ≡ replicate (64 - len) 0

abbrev pub padded : List ℕ → List ℕ
padded xs = xs ++ replicate (64 - length xs) 0

-- the fields come back from the bytes
pub same_padded : (a : Inside) → IsPadded a.len a.bytes
    → (let x : Inside = record { bytes = padded (take a.len a.bytes); len = length (take a.len a.bytes) } in x) ≡ a
same_padded a h =
    let n : length (take a.len a.bytes) ≡ a.len = omega (arith, length-take a.len a.bytes, h.fits, h.whole) in
    let bs : padded (take a.len a.bytes) ≡ a.bytes = rw (n, ← h.zeros) (take-append-drop a.len a.bytes) in
    λ i. record { bytes = bs i; len = n i }
