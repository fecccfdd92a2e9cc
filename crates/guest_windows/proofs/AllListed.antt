-- Windows in a list.
use Rattle.std.proofs.Common.{◌≡◌, ℕ, List, [], ◌∷◌, map, refl, ap, sym, ◌∙◌}
use Rattle.guest_windows.specs.Windows.{extent}
use Rattle.guest_windows.specs.Fields.{pairs, listed, windows, window}
use Rattle.guest_windows.specs.Pages.{rows}
use Rattle.guest_windows.specs.declared.frame.Frame.{Frame}
use Rattle.guest_windows.proofs.Sparse.{length-bytes}

same : (f : Frame) → (f.base, f.len) ≡ extent (window f)
same f = ap (λ (n : ℕ). (f.base, n)) (sym (length-bytes f.len (rows f.groups.items)))

pub all_listed : (fs : List Frame) → pairs (map listed fs) ≡ map extent (windows fs)
all_listed [] = refl
all_listed (f ∷ fs) = ap (λ (e : ℕ × ℕ). e ∷ pairs (map listed fs)) (same f) ∙ ap (λ (es : List (ℕ × ℕ)). extent (window f) ∷ es) (all_listed fs)
