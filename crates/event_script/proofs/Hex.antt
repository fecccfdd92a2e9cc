-- Bytes that are too few or too many are refused by the number of their digits.
use Rattle.std.proofs.Common.{◌≡◌, ℕ, ◌/◌, ◌<◌, ◌⊎◌, inl, inr, List, length, Result, Ok, Err, refl, arith}
use Rattle.hex.specs.Hex.{decode_of}
use Rattle.hex.specs.declared.error.FromHexError.{FromHexError}
use Rattle.hex.proofs.HexLemmas.{decode_of-ok}
use Rattle.event_script.specs.Fields.{bytes_within, sized}
use Rattle.event_script.specs.declared.fault.Kind.TheVariants.{Hex}

not_sized : (r : Result (List ℕ) FromHexError) → ((bytes : List ℕ) → r ≡ Ok bytes → (length bytes ≡ 0) ⊎ (64 < length bytes)) → sized 64 r ≡ Err Hex
not_sized (Err e) h = refl
not_sized (Ok bytes) h = elim (h bytes refl) [ inl none ↦ grind (arith) | inr many ↦ grind (arith) ]

by_digits : (f bytes : List ℕ) → (length f / 2 ≡ 0) ⊎ (64 < length f / 2) → decode_of f ≡ Ok bytes → (length bytes ≡ 0) ⊎ (64 < length bytes)
by_digits f bytes (inl none) e = inl (omega (arith, (decode_of-ok f bytes e).2))
by_digits f bytes (inr many) e = inr (omega (arith, (decode_of-ok f bytes e).2))

pub too_few_or_many : (f : List ℕ) → (length f / 2 ≡ 0) ⊎ (64 < length f / 2) → bytes_within 64 f ≡ Err Hex
unfolding bytes_within
too_few_or_many f h = not_sized (decode_of f) (λ bytes e. by_digits f bytes h e)
