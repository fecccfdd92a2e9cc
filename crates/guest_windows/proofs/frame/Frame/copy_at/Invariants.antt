use Rattle.std.proofs.Common.{◌≡◌, ◌⊎◌, ℕ, ◌+◌, ◌-◌, ◌<◌, ◌≤◌}
use Rattle.guest_windows.specs.Pages.{rows, byte_in, AreHeld, StillHeld}
use Rattle.guest_windows.proofs.frame.Frame.copy_at.Given as goal

abbrev pub invariant-loop-done : goal.invariant-loop-done
invariant-loop-done l = record {
  within : l.done ≤ l.len;
  here : (i : ℕ) → l.start ≤ i → i < l.start + l.done → byte_in (rows l.self.groups.items) i ≡ byte_in (rows l.from.groups.items) i;
  others : (i : ℕ) → (i < l.start) ⊎ (l.start + l.done ≤ i) → byte_in (rows l.self.groups.items) i ≡ byte_in (rows l.fn.self.groups.items) i;
  held : AreHeld (rows l.self.groups.items) l.start l.len;
  still : StillHeld (rows l.fn.self.groups.items) (rows l.self.groups.items);
  base : l.self.base ≡ l.fn.self.base;
  len : l.self.len ≡ l.fn.self.len;
}

abbrev pub decreases-loop-done : goal.decreases-loop-done
decreases-loop-done l = l.len - l.done
