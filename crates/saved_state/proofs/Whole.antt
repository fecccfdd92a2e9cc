-- Saved memory and the values of the registers stand for the state that a migration goes on from.
use Rattle.std.proofs.Common.{◌≡◌, ℕ, zero, suc, Bool, true, false, not, nat_lt, List, [], ◌∷◌, map, drop, length, get_or, Option, Some, Result, Ok, refl}
use Rattle.std.proofs.Common.{sym, subst, ap, ◌∙◌, ◌↔◌}
use Rattle.std.specs.Prelude.{◌&&◌, ◌||◌, slice_get}
use Rattle.std.specs.Result.{IsOk}
use Rattle.std.proofs.lemmas.Bool.{and_parts, lt-ltb}
use Rattle.std.proofs.lemmas.List.{length-map}
use Rattle.std.proofs.lemmas.Option.{same_Some}
use Rattle.guest_windows.specs.Windows.{inside}
use Rattle.gits_regs.specs.Registers.{Registers, is_valid, queue_size, ◌>>=◌, ensure, base_allowed, masked, restored}
use Rattle.gits_regs.specs.Registers as regs
use Rattle.gits_regs.specs.declared.values.NotValid.{NotValid}
use Rattle.gits_regs.specs.declared.values.RegValues.{RegValues}
use Rattle.gits_regs.specs.declared.values.Register.{Register}
use Rattle.gits_regs.specs.declared.values.Register.TheVariants as register
use Rattle.its_types.specs.Maps.{event_of}
use Rattle.its_types.specs.Ranges.{lpi_count, pending_bytes}
use Rattle.its_types.specs.declared.translation.Bases.{Bases}
use Rattle.its_types.specs.declared.translation.Event.{Event}
use Rattle.its_plain.specs.Plain.{Plain, Translator, Redistributor}
use Rattle.its_plain.specs.Sound.{IsSound}
use Rattle.its_plain.specs.Saved.{saved, moved, reloaded, IsSavable}
use Rattle.its_plain.specs.DeviceTables.{HasEventOf}
use Rattle.its_plain.specs.Stands.{lacks_tables, AreRedistributorsClear, IsRedistributorIn, IsTranslatorFrom, AreMapsIn}
use Rattle.plain_soundness.proofs.Lists.{at_each_map}
use Rattle.saved_state.specs.Laws.{bases_of, SavedStands}
use Rattle.saved_state.proofs.Redistributors.{saved_inside, redistributors_stand}
use Rattle.saved_state.proofs.Maps.{collections_stand, events_stand}
use Rattle.saved_state.proofs.DeviceTables.{devices_stand}

-- ---- registers

chain : Registers → Result Registers NotValid
chain r = do
  _ ← ensure (base_allowed r.enabled r.cbaser) register.Cbaser
  _ ← ensure (nat_lt r.creadr (queue_size r)) register.Creadr
  _ ← ensure (nat_lt r.cwriter (queue_size r)) register.Cwriter
  _ ← ensure (base_allowed r.enabled r.baser0) register.Baser0
  _ ← ensure (base_allowed r.enabled r.baser1) register.Baser1
  Ok r

all_pass : (a b c d e : Bool) (v w x y z : Register) (r : Registers) → a ≡ true → b ≡ true → c ≡ true → d ≡ true → e ≡ true
    → (ensure a v >>= λ _. ensure b w >>= λ _. ensure c x >>= λ _. ensure d y >>= λ _. ensure e z >>= λ _. Ok r) ≡ Ok r
all_pass a b c d e v w x y z r pa pb pc pd pe =
    ap (λ (t : Bool). ensure t v >>= λ _. ensure b w >>= λ _. ensure c x >>= λ _. ensure d y >>= λ _. ensure e z >>= λ _. Ok r) pa
    ∙ ap (λ (t : Bool). ensure t w >>= λ _. ensure c x >>= λ _. ensure d y >>= λ _. ensure e z >>= λ _. Ok r) pb
    ∙ ap (λ (t : Bool). ensure t x >>= λ _. ensure d y >>= λ _. ensure e z >>= λ _. Ok r) pc
    ∙ ap (λ (t : Bool). ensure t y >>= λ _. ensure e z >>= λ _. Ok r) pd
    ∙ ap (λ (t : Bool). ensure t z >>= λ _. Ok r) pe

stands_allowed : (enabled valid : Bool) → (enabled ≡ true → valid ≡ true) → (not enabled || valid) ≡ true
stands_allowed true valid h = h refl
stands_allowed false valid h = refl

allowed : (r : Registers) → regs.IsSound r → chain r ≡ Ok r
unfolding chain
allowed r h =
    let bases : r.enabled ≡ true → ((is_valid r.cbaser && is_valid r.baser0) ≡ true) × (is_valid r.baser1 ≡ true) = λ on.
    and_parts (is_valid r.cbaser && is_valid r.baser0) (is_valid r.baser1) (h.enabled on) in
    all_pass (base_allowed r.enabled r.cbaser) (nat_lt r.creadr (queue_size r)) (nat_lt r.cwriter (queue_size r)) (base_allowed r.enabled r.baser0)
    (base_allowed r.enabled r.baser1)
    register.Cbaser register.Creadr register.Cwriter register.Baser0 register.Baser1 r
    (stands_allowed r.enabled (is_valid r.cbaser) (λ on. (and_parts (is_valid r.cbaser) (is_valid r.baser0) (bases on).0).0))
    (lt-ltb r.creadr (queue_size r) h.creadr.inside)
    (lt-ltb r.cwriter (queue_size r) h.cwriter.inside)
    (stands_allowed r.enabled (is_valid r.baser0) (λ on. (and_parts (is_valid r.cbaser) (is_valid r.baser0) (bases on).0).1))
    (stands_allowed r.enabled (is_valid r.baser1) (λ on. (bases on).1))

restored_is : (values : RegValues) (dev_bits : ℕ) → restored values dev_bits ≡ chain (masked values dev_bits)
unfolding restored chain
restored_is values dev_bits = refl

is_allowed : (values : RegValues) (dev_bits : ℕ) (r : Registers) → regs.IsSound r → masked values dev_bits ≡ r → IsOk (restored values dev_bits)
is_allowed values dev_bits r h same = subst IsOk (sym (restored_is values dev_bits ∙ ap chain same ∙ allowed r h)) refl

-- ---- maps

module _ (u : Plain) (k : ℕ) (t : Translator) (sound : IsSound u) (savable : IsSavable u) (at : slice_get u.translators k ≡ Some t) where
  events : (dev ev : ℕ) (e : Event) → (event_of t.maps dev ev ≡ Some e) ↔ HasEventOf (saved u) t.regs dev ev e
  events dev ev e = (
    λ is.
        let h = (sound.translators k t at).events dev ev e is in (
          h.device,
          ((devices_stand u k t sound savable at).are dev h.device).0 h.device_is,
          ((events_stand u k t dev h.device sound savable at h.device_is).are ev e).0 is,
        ),
    λ has.
        let is = ((devices_stand u k t sound savable at).are dev has.0).1 has.1 in
        ((events_stand u k t dev has.0 sound savable at is).are ev e).1 has.2,
  )

  maps_in : AreMapsIn u.layout.shape (saved u) t.regs t.maps
  maps_in = record {
    collections_clear = (collections_stand u k t sound savable at).clear;
    devices_clear = (devices_stand u k t sound savable at).clear;
    collections = (collections_stand u k t sound savable at).are;
    devices = (devices_stand u k t sound savable at).are;
    events = events;
  }

-- ---- redistributors

no_lack : (on config pending : Bool) → (on ≡ true → config ≡ true) → (on ≡ true → pending ≡ true) → (on && not (config && pending)) ≡ false
no_lack false config pending c p = refl
no_lack true config pending c p = ap (λ (b : Bool). not (b && pending)) (c refl) ∙ ap not (p refl)

clear : (u : Plain) → IsSound u → AreRedistributorsClear u.layout.shape (saved u) (bases_of u)
clear u sound =
    let s = u.layout.shape in
    at_each_map (λ v b. lacks_tables s (saved u) b ≡ false) (λ r. r.bases) u.redistributors (λ v r at.
    let h = sound.redistributors v r at in
    no_lack r.bases.on (inside (saved u) r.bases.prop.table.0 (lpi_count s.lpi_bits)) (inside (saved u) r.bases.pend.table.0 (pending_bytes s.lpi_bits))
    (λ on. saved_inside u r.bases.prop.table.0 (lpi_count s.lpi_bits) ∙ (h.tables on).config)
    (λ on. saved_inside u r.bases.pend.table.0 (pending_bytes s.lpi_bits) ∙ (h.tables on).pending))

both_maps : {X Y Z : Type 0} (P : Y → Z → Type 0) (f : X → Y) (g : X → Z) (xs : List X) → ((k : ℕ) (x : X) → slice_get xs k ≡ Some x → P (f x) (g x))
    → (k : ℕ) (y : Y) (z : Z) → slice_get (map f xs) k ≡ Some y → slice_get (map g xs) k ≡ Some z → P y z
both_maps P f g [] h k y z at to = absurd cc
both_maps {X} {Y} {Z} P f g (x ∷ xs) h zero y z at to = subst (λ (b : Z). P y b) (same_Some (g x) z to)
    (subst (λ (a : Y). P a (g x)) (same_Some (f x) y at) (h 0 x refl))
both_maps P f g (x ∷ xs) h (suc k) y z at to = both_maps P f g xs (λ j w there. h (suc j) w there) k y z at to

-- ---- translators

-- where registers are what values mask to, it holds of each translator with its values
module _ (n : ℕ) (P : Option RegValues → Translator → Type 0) where
  each_pair : (vs : List RegValues) (ts : List Translator) → map (λ v. masked v n) vs ≡ map (λ t. t.regs) ts
      → ((i : ℕ) (v : RegValues) (t : Translator) → slice_get ts i ≡ Some t → masked v n ≡ t.regs → P (Some v) t)
      → (i : ℕ) (o : Option RegValues) (t : Translator) → slice_get (map Some vs) i ≡ Some o → slice_get ts i ≡ Some t → P o t
  each_pair [] ts e h i o t at to = absurd cc
  each_pair (v ∷ vs) [] e h i o t at to = absurd cc
  each_pair (v ∷ vs) (w ∷ ts) e h zero o t at to =
      let first : masked v n ≡ w.regs = ap (λ (rs : List Registers). get_or rs 0 w.regs) e in
      subst (λ (x : Option RegValues). P x t) (same_Some (Some v) o at) (subst (P (Some v)) (same_Some w t to) (h 0 v w refl first))
  each_pair (v ∷ vs) (w ∷ ts) e h (suc i) o t at to =
      each_pair vs ts (ap (λ (rs : List Registers). drop 1 rs) e) (λ j x y there. h (suc j) x y there) i o t at to

as_many : (n : ℕ) (vs : List RegValues) (ts : List Translator) → map (λ v. masked v n) vs ≡ map (λ t. t.regs) ts → length ts ≡ length (map Some vs)
as_many n vs ts e =
    sym (length-map ts (λ t. t.regs)) ∙ ap (λ (rs : List Registers). length rs) (sym e) ∙ length-map vs (λ v. masked v n) ∙ sym (length-map vs Some)

-- ---- the whole

pub saved_stands : SavedStands
unfolding moved
saved_stands u values sound savable same =
    record {
      clear = clear u sound;
      layout_is = refl;
      memory_is = refl;
      track_is = refl;
      count = as_many u.layout.shape.dev_bits values u.translators same;
      translators =
          each_pair u.layout.shape.dev_bits (IsTranslatorFrom u.layout.shape (saved u)) values u.translators same (λ i v t at is. record {
            allowed = is_allowed v u.layout.shape.dev_bits t.regs (sound.translators i t at).regs is;
            regs = sym is;
            maps = maps_in u i t sound savable at;
          });
      vcpus = length-map u.redistributors (reloaded u.layout.shape (saved u)) ∙ sym (length-map u.redistributors (λ r. r.bases));
      redistributors =
          both_maps (λ (b : Bases) (r : Redistributor). IsRedistributorIn u.layout.shape (saved u) b r) (λ r. r.bases) (reloaded u.layout.shape (saved u))
          u.redistributors
          (λ v r there. redistributors_stand u v r sound savable there);
    }
