-- Windows that have the same bytes at all addresses are the same.
use Rattle.std.proofs.Common.{◌≡◌, ℕ, suc, ◌+◌, ◌-◌, ◌<◌, Bool, true, false, List, [], ◌∷◌, length, map, Some, None, inl, inr}
use Rattle.std.proofs.Common.{refl, sym, ap, ◌∙◌, arith, nat_le}
use Rattle.std.specs.Prelude.{◌||◌, slice_index}
use Rattle.std.specs.List.{list_all}
use Rattle.std.proofs.lemmas.Bool.{and_parts, or_cases, leb-true, cases_Bool}
use Rattle.std.proofs.lemmas.Option.{same_Some}
use Rattle.guest_windows.specs.Windows.{Window, has, inside, read_at, byte_at, extent, are_apart, share_no_byte}
use Rattle.guest_windows.proofs.Laws.{has-fits, inside-extents, is_some-read_at}
use Rattle.dirty_log.specs.Copies.{caught_up, in_dirty, CopyIsMemory}
use Rattle.guest_windows.proofs.Mixed.{byte_here, byte_later, has_extent, extents_mixed}
use Rattle.dirty_log.proofs.Tracks.{copy_has_all, nothing}

same_items : (xs ys : List ℕ) → length xs ≡ length ys → ((i : ℕ) → i < length xs → slice_index xs i ≡ slice_index ys i) → xs ≡ ys
same_items [] [] e h = refl
same_items [] (y ∷ ys) e h = absurd cc
same_items (x ∷ xs) [] e h = absurd cc
same_items (x ∷ xs) (y ∷ ys) e h =
    let first : x ≡ y = h 0 (omega arith) in
    let size : length xs ≡ length ys = omega (arith, e) in
    let each : (i : ℕ) → i < length xs → slice_index xs i ≡ slice_index ys i = λ i lt. h (suc i) (omega arith) in
    let rest : xs ≡ ys = same_items xs ys size each in
    ap (λ (z : ℕ). z ∷ xs) first ∙ ap (λ (zs : List ℕ). y ∷ zs) rest

-- no other window has the byte
both_have : (w v : Window) (a : ℕ) → are_apart (extent w) (extent v) ≡ true → has w a 1 ≡ true → has v a 1 ≡ true → ⊥
both_have w v a apart here there =
    let f = has-fits w a 1 here in
    let g = has-fits v a 1 there in
    let above = f.above in let below = f.below in let low = g.above in let high = g.below in
    elim (or_cases (nat_le (w.base + length w.bytes) v.base) (nat_le (v.base + length v.bytes) w.base) apart) [
      | inl e ↦ let le = leb-true (w.base + length w.bytes) v.base e in omega arith
      | inr e ↦ let le = leb-true (v.base + length v.bytes) w.base e in omega arith
    ]

alone : (w : Window) (ws : List Window) (a : ℕ) → list_all (are_apart (extent w)) (map extent ws) ≡ true → has w a 1 ≡ true → inside ws a 1 ≡ false
alone w [] a apart here = refl
alone w (v ∷ ws) a apart here =
    let both = and_parts (are_apart (extent w) (extent v)) (list_all (are_apart (extent w)) (map extent ws)) apart in
    elim (cases_Bool (has v a 1)) [
      | inl there ↦ absurd (both_have w v a both.0 here there)
      | inr not_there ↦ ap (λ (b : Bool). b || inside ws a 1) not_there ∙ alone w ws a both.1 here
    ]

none_at : (ws : List Window) (a : ℕ) → inside ws a 1 ≡ false → byte_at ws a ≡ None
none_at ws a out = nothing (read_at ws a 1) (is_some-read_at ws a 1 ∙ out)

first_same : (v w : Window) (vs ws : List Window) → v.base ≡ w.base → length v.bytes ≡ length w.bytes
    → ((a : ℕ) → byte_at (v ∷ vs) a ≡ byte_at (w ∷ ws) a) → v.bytes ≡ w.bytes
first_same v w vs ws base size h = same_items v.bytes w.bytes size (λ i lt.
    let here : has v (v.base + i) 1 ≡ true = at v i lt in
    let there : has w (v.base + i) 1 ≡ true = sym (has_extent v w (v.base + i) 1 base size) ∙ here in
    let place : v.base + i - v.base ≡ i = omega arith in
    let also : v.base + i - w.base ≡ i = omega (arith, base) in
    same_Some (slice_index v.bytes i) (slice_index w.bytes i) (sym (byte_here v vs (v.base + i) here ∙ ap (λ (k : ℕ). Some (slice_index v.bytes k)) place)
    ∙ h (v.base + i) ∙ byte_here w ws (v.base + i) there ∙ ap (λ (k : ℕ). Some (slice_index w.bytes k)) also))
  where
    at : (v : Window) (i : ℕ) → i < length v.bytes → has v (v.base + i) 1 ≡ true
    at v i lt = grind arith

pub same_windows : (vs ws : List Window) → map extent vs ≡ map extent ws → share_no_byte (map extent ws) ≡ true
    → ((a : ℕ) → byte_at vs a ≡ byte_at ws a) → vs ≡ ws
same_windows [] [] e apart h = refl
same_windows [] (w ∷ ws) e apart h = absurd cc
same_windows (v ∷ vs) [] e apart h = absurd cc
same_windows (v ∷ vs) (w ∷ ws) e apart h =
    let first : extent v ≡ extent w = cc in
    let base : v.base ≡ w.base = ap (λ (p : ℕ × ℕ). p.0) first in
    let size : length v.bytes ≡ length w.bytes = ap (λ (p : ℕ × ℕ). p.1) first in
    let rest : map extent vs ≡ map extent ws = cc in
    let both = and_parts (list_all (are_apart (extent w)) (map extent ws)) (share_no_byte (map extent ws)) apart in
    let bytes = first_same v w vs ws base size h in
    let others : vs ≡ ws = same_windows vs ws rest both.1 (λ a.
    elim (cases_Bool (has w a 1)) [
      | inl here ↦
          let out = alone w ws a both.0 here in
          none_at vs a (inside-extents vs ws a 1 rest ∙ out) ∙ sym (none_at ws a out)
      | inr later ↦
          sym (byte_later v vs a (has_extent v w a 1 base size ∙ later)) ∙ h a ∙ byte_later w ws a later
    ]) in
    ap (λ (u : Window). u ∷ vs) (window base bytes) ∙ ap (λ (us : List Window). w ∷ us) others
  where
    window : {v w : Window} → v.base ≡ w.base → v.bytes ≡ w.bytes → v ≡ w
    window base bytes = λ k. record { base = base k; bytes = bytes k }

pub copy_is : CopyIsMemory
copy_is memory t apart h =
    same_windows (caught_up memory t).copy memory (extents_mixed (in_dirty t.log) memory t.copy ∙ h.windows) apart (λ a. copy_has_all memory t a h)
