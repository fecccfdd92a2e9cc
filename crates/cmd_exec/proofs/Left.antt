-- INTIDs of which the first were read again, and others are left.
use Rattle.std.proofs.Common.{◌≡◌, ℕ, List, [], ◌++◌, refl, sym, ap, subst, ◌∙◌, append_assoc, append-nil}
use Rattle.guest_windows.specs.Windows.{Window}
use Rattle.its_plain.specs.Commands.{conf_all_reread_at}
use Rattle.lpi_pending.specs.InHand.{RedistParts}
use Rattle.cmd_exec.specs.InHand.{confs_changed}
use Rattle.cmd_exec.specs.Ready.{CanEachReread}
use Rattle.cmd_exec.specs.Walked.{AreLeft}
use Rattle.cmd_exec.proofs.Walks.{read_some, read_none, each_more}

module _ (n : ℕ) (memory : List Window) where
  pub left_all : (xs : List ℕ) (rs : RedistParts) → AreLeft n memory xs xs rs rs
  left_all xs rs = record { done = []; split = refl; redists = sym (read_none n memory rs) }

  pub left_none : (xs : List ℕ) (rs now : RedistParts) → now ≡ confs_changed n (conf_all_reread_at memory xs) rs → AreLeft n memory xs [] rs now
  left_none xs rs now is = record { done = xs; split = sym (append-nil xs); redists = is }

  -- with more that are left
  pub left_with : (xs ys zs : List ℕ) (rs now : RedistParts) → AreLeft n memory xs ys rs now → AreLeft n memory (xs ++ zs) (ys ++ zs) rs now
  left_with xs ys zs rs now h =
      record { done = h.done; split = ap (λ (is : List ℕ). is ++ zs) h.split ∙ append_assoc h.done ys zs; redists = h.redists }

  -- one after the other
  pub left_then : (xs ys zs : List ℕ) (rs now then : RedistParts) → AreLeft n memory xs ys rs now → AreLeft n memory ys zs now then
      → AreLeft n memory xs zs rs then
  left_then xs ys zs rs now then h h' =
      record {
        done = h.done ++ h'.done;
        split = h.split ∙ ap (λ (is : List ℕ). h.done ++ is) h'.split ∙ sym (append_assoc h.done h'.done zs);
        redists = h'.redists ∙ read_some n memory h.done h'.done rs now h.redists;
      }

  -- those left can be read
  pub left_can : (xs ys : List ℕ) (rs now : RedistParts) → AreLeft n memory xs ys rs now → CanEachReread n rs xs → CanEachReread n now ys
  left_can xs ys rs now h can = each_more n memory h.done ys rs now h.redists (subst (CanEachReread n rs) h.split can)

  -- and then all were
  pub left_read : (xs ys : List ℕ) (rs now : RedistParts) → AreLeft n memory xs ys rs now
      → confs_changed n (conf_all_reread_at memory ys) now ≡ confs_changed n (conf_all_reread_at memory xs) rs
  left_read xs ys rs now h =
      read_some n memory h.done ys rs now h.redists ∙ ap (λ (is : List ℕ). confs_changed n (conf_all_reread_at memory is) rs) (sym h.split)
