-- Stretches of guest memory that lie in one window.
use Rattle.std.proofs.Common.{◌≡◌, ℕ, ◌+◌, ◌≤◌, true, List, [], ◌∷◌, length, Some, inl, inr, ap, ◌∙◌, arith}
use Rattle.std.specs.Prelude.{◌&&◌, ◌||◌, nat_le, unwrap_or}
use Rattle.std.specs.Option.{option_map}
use Rattle.std.proofs.lemmas.Bool.{or_cases, or_right, le-leb}
use Rattle.byteorder.specs.Endian.{little_number}
use Rattle.guest_windows.specs.Windows.{Window, has, inside, read_at, number_at}
use Rattle.guest_windows.proofs.Laws.{has-fits, read_inside}

-- a part of what lies in one window does too
pub inside_part : (ws : List Window) (a n b m : ℕ) → a ≤ b → b + m ≤ a + n → inside ws a n ≡ true → inside ws b m ≡ true
inside_part [] a n b m low high is = absurd cc
inside_part (w ∷ ws) a n b m low high is =
    elim (or_cases (has w a n) (inside ws a n) is) [
      | inl it ↦
          let fits = has-fits w a n it in
          let here : has w b m ≡ true =
          ap (λ t. t && nat_le (b + m) (w.base + length w.bytes)) (le-leb w.base b (omega (arith, low, fits.above))) ∙ le-leb (b + m) (w.base + length w.bytes)
          (omega (arith, high, fits.below)) in
          ap (λ t. t || inside ws b m) here
      | inr later ↦ or_right (has w b m) (inside ws b m) (inside_part ws a n b m low high later)
    ]

-- and eight bytes of it are a number
pub number_inside : (ws : List Window) (a : ℕ) → inside ws a 8 ≡ true → number_at ws a ≡ Some (little_number 8 (unwrap_or (read_at ws a 8) []))
number_inside ws a is = ap (option_map (λ bytes. little_number 8 bytes)) (read_inside ws a 8 [] is)
