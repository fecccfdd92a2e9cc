-- The parts that a translator starts with are those of a sound state.
use Rattle.std.proofs.Common.{◌≡◌, ℕ, zero, suc, Bool, true, false, false, cond, nat_lt, List, [], ◌∷◌, map, replicate, Option, Some, None, refl, sym, ap, subst, ◌∙◌}
use Rattle.std.proofs.Common.{arith, lit<}
use Rattle.std.proofs.lemmas.List.{length-replicate}
use Rattle.std.specs.Prelude.{slice_get, slice_index_or}
use Rattle.std.specs.FinMap.{get-empty}
use Rattle.std.specs.Ordering.{nat_cmp}
use Rattle.std.proofs.lemmas.Option.{same_Some}
use Rattle.std.proofs.lemmas.Bool.{both_ways, cond_both}
use Rattle.guest_windows.specs.Windows.{Window, zeros, extent, are_windows}
use Rattle.gits_regs.specs.Registers as regs
use Rattle.gits_regs.specs.Registers.{Registers}
use Rattle.its_types.specs.Maps.{Maps, pair_cmp, no_maps, device_of, event_of, collection_of}
use Rattle.its_types.specs.Ranges.{lpi_count}
use Rattle.its_types.specs.declared.machine.Shape.{Shape}
use Rattle.its_types.specs.declared.ids.Vcpu.{Vcpu}
use Rattle.its_plain.specs.Plain.{Plain, Translator, Redistributor, no_bases}
use Rattle.its_plain.specs.Sound.{IsSound, IsShape, IsTranslator, IsRedistributor}
use Rattle.lpi_pending.specs.InHand.{RedistParts, no_redists, conf_in, pend_in}
use Rattle.owned_parts.specs.Owned.{ArePartsOfSound}
use Rattle.its_command.specs.declared.command.Command.{Command}
use Rattle.its_command.specs.declared.command.Command.TheVariants as command
use Rattle.its_types.specs.declared.ids.Icid.{Icid}
use Rattle.its_types.specs.declared.machine.Part.{Part}
use Rattle.its_types.specs.declared.machine.Profile.{Profile}
use Rattle.its_types.specs.declared.machine.Profile.TheVariants.{One}
use Rattle.its_plain.specs.Parts.{moved_targets, needed}
use Rattle.cmd_exec.specs.Needs.{bare, is_conf, is_pend, has_some, AreNeededInHand, AreTargets}

pub no_targets : (s : Shape) (m : Maps) → m ≡ no_maps → AreTargets s m
no_targets s m is = λ icid vcpu e.
    let none : collection_of m icid ≡ None = ap (λ (x : Maps). collection_of x icid) is ∙ get-empty nat_cmp icid in
    absurd (not_some (collection_of m icid) vcpu none e)
  where
    not_some : (o : Option Vcpu) (v : Vcpu) → o ≡ None → o ≡ Some v → ⊥
    not_some o v a b = cc

extents_of_zeros : (windows : List (ℕ × ℕ)) → map extent (map zeros windows) ≡ windows
extents_of_zeros [] = refl
extents_of_zeros (w ∷ windows) = ap (λ n. (w.0, n) ∷ map extent (map zeros windows)) (length-replicate w.1 0) ∙ ap (λ rest. w ∷ rest) (extents_of_zeros windows)

pub good_windows : (windows : List (ℕ × ℕ)) (memory : List Window) → memory ≡ map zeros windows → are_windows windows ≡ true
    → are_windows (map extent memory) ≡ true
good_windows windows memory is good = ap (λ (ws : List Window). are_windows (map extent ws)) is ∙ ap are_windows (extents_of_zeros windows) ∙ good

-- ---- a state in which nothing is mapped and all LPIs are off

abbrev off : Shape → Redistributor
off s = record { bases = no_bases; pending = []; accepts = false; config = replicate (lpi_count s.lpi_bits) 0 }

abbrev first : Shape → Registers → List Window → Plain
first s r memory = record {
  layout = record { shape = s; gicr = true; described = replicate s.vcpus no_bases; track = false };
  translators = record { regs = r; maps = no_maps } ∷ [];
  redistributors = replicate s.vcpus (off s);
  memory = memory;
  track = None;
}

from_replicate : {X : Type 0} (n : ℕ) (x y : X) (v : ℕ) → slice_get (replicate n x) v ≡ Some y → x ≡ y
from_replicate zero x y v e = absurd cc
from_replicate (suc n) x y zero e = same_Some x y e
from_replicate (suc n) x y (suc v) e = from_replicate n x y v e

none_held : {X : Type 0} (n v : ℕ) (x : X) → slice_index_or (replicate n None) v None ≡ Some x → ⊥
none_held zero v x e = cc
none_held (suc n) zero x e = cc
none_held (suc n) (suc v) x e = none_held n v x e

nothing : {A : Type 0} (o : Option A) (x : A) → o ≡ None → o ≡ Some x → ⊥
nothing o x a b = cc

off_sound : (s : Shape) (r : Registers) (memory : List Window) (v : ℕ) → IsRedistributor (first s r memory).layout memory v (off s)
off_sound s r memory v = record {
  rising = λ k within. absurd (omega (arith, within));
  lpis = tt;
  config = length-replicate (lpi_count s.lpi_bits) 0;
  accepts = refl;
  tables = λ on. absurd (both_ways false refl on);
  off_pending = λ _. refl;
  off_config = λ _. refl;
  kept = λ _. record { prop_whole = refl; prop_low = lit< tt; id_bits = lit< tt; pend_whole = refl; pend_low = lit< tt };
  described = λ no. absurd (both_ways true no refl);
  always_on = λ no. absurd (both_ways true no refl);
}

first_translator : (s : Shape) (r : Registers) → regs.IsSound r → r.dev_bits ≡ s.dev_bits → IsTranslator s (record { regs = r; maps = no_maps })
first_translator s r sound bits = record {
  regs = sound;
  dev_bits = bits;
  devices = λ dev d e. absurd (nothing (device_of no_maps dev) d (get-empty nat_cmp dev) e);
  events = λ dev ev x e. absurd (nothing (event_of no_maps dev ev) x (get-empty pair_cmp (dev, ev)) e);
  collections = λ icid v e. absurd (nothing (collection_of no_maps icid) v (get-empty nat_cmp icid) e);
}

first_translators : (s : Shape) (r : Registers) → IsTranslator s (record { regs = r; maps = no_maps }) → (i : ℕ) (t : Translator)
    → slice_get (record { regs = r; maps = no_maps } ∷ []) i ≡ Some t → IsTranslator s t
first_translators s r sound zero t e = subst (IsTranslator s) (same_Some (record { regs = r; maps = no_maps }) t e) sound
first_translators s r sound (suc i) t e = absurd cc

first_sound : (s : Shape) (r : Registers) (memory : List Window) → IsShape s → regs.IsSound r → r.dev_bits ≡ s.dev_bits → are_windows (map extent memory) ≡ true
    → IsSound (first s r memory)
first_sound s r memory shape sound bits windows = record {
  layout = record { shape = shape; described = λ no. absurd (both_ways true no refl) };
  translators = first_translators s r (first_translator s r sound bits);
  vcpus = length-replicate s.vcpus (off s);
  redistributors = λ v x e. subst (IsRedistributor (first s r memory).layout memory v) (from_replicate s.vcpus (off s) x v e) (off_sound s r memory v);
  memory = windows;
  tracks = refl;
  tracked = λ t e. absurd cc;
}

pub starts_sound : (s : Shape) (r : Registers) (m : Maps) (memory : List Window) (rs : RedistParts) → IsShape s → regs.IsSound r
    → r.dev_bits ≡ s.dev_bits
    → are_windows (map extent memory) ≡ true → m ≡ no_maps → (n : ℕ) → rs ≡ no_redists n → ArePartsOfSound s r m memory rs
starts_sound s r m memory rs shape sound bits windows maps_is n rs_is =
    let some : Maps → Option Translator = λ (x : Maps). Some (record { regs = r; maps = x }) in (
      first s r memory,
      0,
      first_sound s r memory shape sound bits windows,
      record {
        shape_is = refl;
        translator_is = ap some (sym maps_is);
        memory_is = refl;
        redistributors_are = (
          λ v x e. absurd (none_held n v x (sym (ap (λ (xs : RedistParts). conf_in xs v) rs_is) ∙ e)),
          λ v x e. absurd (none_held n v x (sym (ap (λ (xs : RedistParts). pend_in xs v) rs_is) ∙ e)),
        );
      },
    )

-- in profile 1 a MAPC needs no part of a redistributor
pub mapc_needs_none : (s : Shape) (m : Maps) (rs : RedistParts) (c : Command) (icid : Icid) (target : ℕ) → s.profile ≡ One
    → c ≡ command.Mapc icid target true → AreNeededInHand s m c rs
unfolding needed
mapc_needs_none s m rs c icid target one is =
    subst (λ (x : Command). AreNeededInHand s m x rs) (sym is) (record { confs = λ v e. absurd (none (is_conf v) e); pends = λ v e. absurd (none (is_pend v) e) })
  where
    none : (test : Part → Bool) → has_some test (needed (bare s m) 0 (command.Mapc icid target true)) ≡ true → ⊥
    none test e =
        let has : has_some test (needed (bare s m) 0 (command.Mapc icid target true)) ≡ false =
        ap (λ (p : Profile). has_some test (cond (nat_lt target s.vcpus) (moved_targets p (collection_of m icid.0) target) [])) one
        ∙ cond_both (nat_lt target s.vcpus) [] [] (λ (ps : List Part). has_some test ps ≡ false) (λ _. refl) (λ _. refl) in
        both_ways (has_some test (needed (bare s m) 0 (command.Mapc icid target true))) has e
