-- A machine whose memory has one window more.
use Rattle.std.proofs.Common.{◌≡◌, ℕ, Bool, true, false, List, [], ◌∷◌, ◌++◌, Option, refl, sym, ap, subst, ◌∙◌}
use Rattle.std.specs.Prelude.{◌||◌}
use Rattle.std.specs.List.{list_any}
use Rattle.std.proofs.lemmas.List.Folds.{list_any-append}
use Rattle.guest_windows.specs.Windows.{Window, are_windows, has, inside, zeros}
use Rattle.guest_windows.proofs.Adding.{extents_more}
use Rattle.dirty_log.specs.declared.tracked.Tracked.{Tracked}
use Rattle.its_types.specs.declared.machine.Shape.{Shape}
use Rattle.its_types.specs.declared.translation.Bases.{Bases}
use Rattle.its_plain.specs.Plain.{Plain, Redistributor}
use Rattle.its_plain.specs.declared.layout.Layout.{Layout}
use Rattle.its_plain.specs.Saved.{track_of}
use Rattle.its_plain.specs.Sound.{IsSound, IsRedistributor, HasTables}
use Rattle.plain_soundness.proofs.Migrated.{tracks_of, tracked_of}
use Rattle.owned_parts.specs.Owned.{state_of_parts}
use Rattle.owned_parts.specs.declared.parts.Parts.{Parts}
use Rattle.owned_machine.specs.Whole.{IsMachine, GoesOn}
use Rattle.owned_machine.specs.Windows.{can_have, grown, with_window}

-- ---- what one window has, memory with more of them has

or_true : (a b : Bool) → a ≡ true → (a || b) ≡ true
or_true true b e = refl
or_true false b e = absurd cc

still_inside : (memory more : List Window) (address n : ℕ) → inside memory address n ≡ true → inside (memory ++ more) address n ≡ true
still_inside memory more address n h =
    let here : Window → Bool = λ w. has w address n in
    list_any-append here memory more ∙ or_true (list_any here memory) (list_any here more) h

still_has_tables : (s : Shape) (memory more : List Window) (b : Bases) → HasTables s memory b → HasTables s (memory ++ more) b
still_has_tables s memory more b h = record {
  config = still_inside memory more _ _ h.config;
  pending = still_inside memory more _ _ h.pending;
}

redistributor_stays : (l : Layout) (memory more : List Window) (v : ℕ) (r : Redistributor) → IsRedistributor l memory v r
    → IsRedistributor l (memory ++ more) v r
redistributor_stays l memory more v r h = record {
  rising = h.rising;
  lpis = h.lpis;
  config = h.config;
  accepts = h.accepts;
  tables = λ on. still_has_tables l.shape memory more r.bases (h.tables on);
  off_pending = h.off_pending;
  off_config = h.off_config;
  kept = h.kept;
  described = h.described;
  always_on = h.always_on;
}

-- ---- the machine

window_sound : (u : Plain) (w : ℕ × ℕ) → can_have u.memory w ≡ true → IsSound u → IsSound (with_window u w)
window_sound u w can h = record {
  layout = h.layout;
  translators = h.translators;
  vcpus = h.vcpus;
  redistributors = λ v r at. redistributor_stays u.layout u.memory (zeros w ∷ []) v r (h.redistributors v r at);
  memory = ap are_windows (extents_more u.memory w) ∙ can;
  tracks = tracks_of u.layout.track (grown u.memory w);
  tracked = tracked_of u.layout.track (grown u.memory w);
}

pub window_goes : (p : Parts) (w : ℕ × ℕ) (memory : List Window) (track : Option Tracked) → IsMachine p → can_have p.memory w ≡ true
    → memory ≡ grown p.memory w → track ≡ track_of p.layout.track (grown p.memory w)
    → GoesOn (record p { memory = memory; track = track }) (with_window (state_of_parts p) w)
window_goes p w memory track m can is begun =
    subst (λ (t : Option Tracked). GoesOn (record p { memory = memory; track = t }) (with_window (state_of_parts p) w)) (sym begun)
    (subst (λ (x : List Window). GoesOn (record p { memory = x; track = track_of p.layout.track (grown p.memory w) }) (with_window (state_of_parts p) w)) (sym is) (record {
      state = refl;
      whole = record {
        sound = window_sound (state_of_parts p) w can m.sound;
        all_in_hand = m.all_in_hand;
        no_others = m.no_others;
      };
    }))
