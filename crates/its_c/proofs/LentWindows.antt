-- Lent memory has the machine's windows.
use Rattle.std.proofs.Common.{◌≡◌, ℕ, List, [], ◌∷◌, map, take, drop, Some, None, refl, ap, ◌∙◌}
use Rattle.std.specs.Prelude.{unwrap_or}
use Rattle.std.proofs.lemmas.List.{length-replicate}
use Rattle.guest_windows.specs.Windows.{Window, extent, zeros, write_at}
use Rattle.guest_windows.proofs.Laws.{extents-write_at}
use Rattle.its_numbers.specs.declared.lists.StretchOut.{StretchOut}
use Rattle.owned_machine.specs.Pieces.{with_bytes}
use Rattle.its_c.specs.LentBytes.{laid, lent_memory}

put_windows : (memory : List Window) (address : ℕ) (bytes : List ℕ) → map extent (with_bytes memory address bytes) ≡ map extent memory
put_windows memory address bytes =
    elim (write_at memory address bytes) as (λ o. write_at memory address bytes ≡ o → map extent (unwrap_or o memory) ≡ map extent memory) [
      | None ↦ λ e. refl
      | Some now ↦ λ e. extents-write_at memory address bytes now e
    ] refl

laid_windows : (memory : List Window) (list : List StretchOut) (bytes : List ℕ) → map extent (laid memory list bytes) ≡ map extent memory
laid_windows memory [] bytes = refl
laid_windows memory (s ∷ list) bytes =
    laid_windows (with_bytes memory s.address (take s.length bytes)) list (drop s.length bytes) ∙ put_windows memory s.address (take s.length bytes)

zero_windows : (windows : List (ℕ × ℕ)) → map extent (map zeros windows) ≡ windows
zero_windows [] = refl
zero_windows (w ∷ windows) =
    ap (λ n. (w.0, n) ∷ map extent (map zeros windows)) (length-replicate w.1 0) ∙ ap (λ rest. w ∷ rest) (zero_windows windows)

pub lent_windows : (memory : List Window) (list : List StretchOut) (bytes : List ℕ) → map extent (lent_memory memory list bytes) ≡ map extent memory
lent_windows memory list bytes = laid_windows (map zeros (map extent memory)) list bytes ∙ zero_windows (map extent memory)
