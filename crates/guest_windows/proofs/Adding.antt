-- One window more than a memory can have: whether it can have that one too.
use Rattle.std.proofs.Common.{◌≡◌, ℕ, suc, Bool, true, false, nat_le, List, [], ◌∷◌, ◌++◌, length, map, refl, sym, ap, ◌∙◌, inl, inr, arith}
use Rattle.std.proofs.Common.{length-append}
use Rattle.std.specs.Prelude.{◌&&◌, nat_lt}
use Rattle.std.specs.List.{list_all}
use Rattle.std.proofs.lemmas.Bool.{and_parts, cases_Bool}
use Rattle.std.proofs.lemmas.Bool.Decides.{nat_tests}
use Rattle.std.proofs.lemmas.List.{length-map, map-append}
use Rattle.std.proofs.lemmas.List.Folds.{list_all-append}
use Rattle.guest_windows.specs.Windows.{Window, are_apart, are_windows, in_range, share_no_byte, extent, zeros}
use Rattle.guest_windows.specs.Fields.{pairs, listed, windows, window}
use Rattle.guest_windows.specs.declared.frame.Frame.{Frame}
use Rattle.guest_windows.proofs.AllListed.{all_listed}
use Rattle.guest_windows.proofs.Laws.{extents_of_zeros}

and_true : (b : Bool) → (b && true) ≡ b
and_true true = refl
and_true false = refl

all_more : (p : ℕ × ℕ → Bool) (es : List (ℕ × ℕ)) (e : ℕ × ℕ) → list_all p (es ++ e ∷ []) ≡ (list_all p es && p e)
all_more p es e = list_all-append p es (e ∷ []) ∙ ap (λ (b : Bool). list_all p es && b) (and_true (p e))

share_more : (es : List (ℕ × ℕ)) (w : ℕ × ℕ) → share_no_byte (es ++ w ∷ []) ≡ (share_no_byte es && list_all (λ e. are_apart e w) es)
share_more [] w = refl
share_more (e ∷ es) w =
    ap (λ (b : Bool). b && share_no_byte (es ++ w ∷ [])) (all_more (are_apart e) es w)
    ∙ ap (λ (b : Bool). list_all (are_apart e) es && are_apart e w && b) (share_more es w)
    ∙ swap (list_all (are_apart e) es) (are_apart e w) (share_no_byte es) (list_all (λ v. are_apart v w) es)
  where
    swap : (a b c d : Bool) → ((a && b) && (c && d)) ≡ ((a && c) && (b && d))
    swap false b c d = refl
    swap true false false d = refl
    swap true false true d = refl
    swap true true false d = refl
    swap true true true d = refl

some_more : (m n : ℕ) → m ≡ suc n → nat_lt 0 m ≡ true
some_more m n is = grind (arith, nat_tests, is)

few_more : (m n : ℕ) → m ≡ suc n → nat_le m 16 ≡ nat_lt n 16
few_more m n is = elim (cases_Bool (nat_lt n 16)) [
  | inl low ↦ grind (arith, nat_tests, is, low)
  | inr high ↦ grind (arith, nat_tests, is, high)
]

pub one_more : (es : List (ℕ × ℕ)) (w : ℕ × ℕ) → are_windows es ≡ true
    → are_windows (es ++ w ∷ []) ≡ (nat_lt (length es) 16 && in_range w && list_all (λ e. are_apart e w) es)
one_more es w can =
    let some : Bool = nat_lt 0 (length es) in
    let few : Bool = nat_le (length es) 16 in
    let apart = and_parts (some && few && list_all in_range es) (share_no_byte es) can in
    let ranges = and_parts (some && few) (list_all in_range es) apart.0 in
    let long : length (es ++ w ∷ []) ≡ suc (length es) = omega (arith, length-append es (w ∷ [])) in
    let all : List (ℕ × ℕ) = es ++ w ∷ [] in
    ap (λ (b : Bool). b && nat_le (length all) 16 && list_all in_range all && share_no_byte all) (some_more (length all) (length es) long)
    ∙ ap (λ (b : Bool). b && list_all in_range all && share_no_byte all) (few_more (length all) (length es) long)
    ∙ ap (λ (b : Bool). nat_lt (length es) 16 && b && share_no_byte all) (all_more in_range es w ∙ ap (λ (b : Bool). b && in_range w) ranges.1)
    ∙ ap (λ (b : Bool). nat_lt (length es) 16 && in_range w && b)
    (share_more es w ∙ ap (λ (b : Bool). b && list_all (λ e. are_apart e w) es) apart.1)

pub room_is : (fs : List Frame) (w : ℕ × ℕ) → are_windows (map extent (windows fs)) ≡ true
    → are_windows (map extent (windows fs) ++ w ∷ []) ≡ (nat_lt (length fs) 16 && in_range w && list_all (λ e. are_apart e w) (pairs (map listed fs)))
room_is fs w can =
    one_more (map extent (windows fs)) w can
    ∙ ap (λ (n : ℕ). nat_lt n 16 && in_range w && list_all (λ e. are_apart e w) (map extent (windows fs)))
    (length-map (windows fs) extent ∙ length-map fs window)
    ∙ ap (λ (es : List (ℕ × ℕ)). nat_lt (length fs) 16 && in_range w && list_all (λ e. are_apart e w) es) (sym (all_listed fs))

pub extents_more : (ws : List Window) (w : ℕ × ℕ) → map extent (ws ++ zeros w ∷ []) ≡ map extent ws ++ w ∷ []
extents_more ws w = map-append extent ws (zeros w ∷ []) ∙ ap (λ (es : List (ℕ × ℕ)). map extent ws ++ es) (extents_of_zeros (w ∷ []))

-- as a test of windows in hand says
pub can_have : (ws : List Window) (fs ds : List Frame) (w : ℕ × ℕ) (b : Bool) → windows fs ≡ ws → are_windows (map extent (windows fs)) ≡ true → ds ≡ fs
    → b ≡ (nat_lt (length ds) 16 && in_range w && list_all (λ e. are_apart e w) (pairs (map listed ds))) → are_windows (map extent ws ++ w ∷ []) ≡ b
can_have ws fs ds w b view can same is =
    ap (λ (vs : List Window). are_windows (map extent vs ++ w ∷ [])) (sym view) ∙ room_is fs w can
    ∙ ap (λ (xs : List Frame). nat_lt (length xs) 16 && in_range w && list_all (λ e. are_apart e w) (pairs (map listed xs))) (sym same) ∙ sym is
