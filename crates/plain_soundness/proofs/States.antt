-- A sound state with one part replaced by a sound one is sound.
use Rattle.std.proofs.Common.{◌≡◌, ℕ, ◌<◌, true, false, List, [], length, map, set, Option, Some, None, inl, inr, refl, sym, ap, subst, ◌∙◌, length-set}
use Rattle.std.specs.Prelude.{is_some}
use Rattle.std.specs.Option.{option_map}
use Rattle.std.proofs.lemmas.Bool.{cases_lt, both_ways}
use Rattle.std.proofs.lemmas.List.{get_or_past, length-map}
use Rattle.std.proofs.lemmas.Option.{slice_get-get_or, same_Some}
use Rattle.guest_windows.specs.Windows.{Window, extent, are_windows}
use Rattle.guest_windows.proofs.Laws.{inside-extents}
use Rattle.dirty_log.specs.Copies.{IsTracked}
use Rattle.dirty_log.specs.declared.tracked.Tracked.{Tracked}
use Rattle.gits_regs.specs.Registers as regs
use Rattle.gits_regs.specs.Registers.{Registers}
use Rattle.its_types.specs.Maps.{Maps}
use Rattle.its_types.specs.Ranges.{is_lpi, lpi_count, pending_bytes}
use Rattle.its_types.specs.declared.machine.Shape.{Shape}
use Rattle.its_types.specs.declared.translation.Bases.{Bases}
use Rattle.its_plain.specs.Plain.{Plain, Translator, Redistributor, translator, redistributor, no_translator, no_redistributor, regs_of, maps_of, pending_of}
use Rattle.its_plain.specs.Plain.{is_on, with_translator, with_maps, with_regs, with_redistributor, with_pending}
use Rattle.its_plain.specs.declared.layout.Layout.{Layout}
use Rattle.its_plain.specs.Sound.{IsSound, IsTranslator, IsRedistributor, HasTables}
use Rattle.plain_soundness.proofs.Lists.{at_each_set, at_each_map, same_after_set, IsSet, no_set}
use Rattle.plain_soundness.proofs.Mapped.{AreMaps, SameTables, same_tables, maps_sound, no_maps_sound, translator_made}

-- ---- translators

pub translator_replaced : (u : Plain) (i : ℕ) (t : Translator) → IsSound u → (i < length u.translators → IsTranslator u.layout.shape t)
    → IsSound (with_translator u i t)
translator_replaced u i t h new = record {
  layout = h.layout;
  translators = at_each_set (λ _ x. IsTranslator u.layout.shape x) u.translators i t new h.translators;
  vcpus = h.vcpus;
  redistributors = h.redistributors;
  memory = h.memory;
  tracks = h.tracks;
  tracked = h.tracked;
}

pub translator_sound : (u : Plain) (i : ℕ) → IsSound u → i < length u.translators → IsTranslator u.layout.shape (translator u i)
translator_sound u i h within = h.translators i (translator u i) (slice_get-get_or u.translators i no_translator within)

-- an enabled translator is one of the machine's
pub enabled_within : (u : Plain) (i : ℕ) → (regs_of u i).enabled ≡ true → i < length u.translators
enabled_within u i on =
    elim (cases_lt i (length u.translators)) [
      | inl within ↦ within
      | inr past ↦ let none = ap (λ (t : Translator). t.regs.enabled) (get_or_past u.translators i no_translator past) in absurd
          (both_ways (regs_of u i).enabled none on)
    ]

-- the maps of any number, for no translator has none
pub are_maps : (u : Plain) (i : ℕ) → IsSound u → AreMaps u.layout.shape (regs_of u i) (maps_of u i)
are_maps u i h =
    elim (cases_lt i (length u.translators)) [
      | inl within ↦ maps_sound u.layout.shape (translator u i) (translator_sound u i h within)
      | inr past ↦
          let none : no_translator ≡ translator u i = sym (get_or_past u.translators i no_translator past) in
          subst (λ (t : Translator). AreMaps u.layout.shape t.regs t.maps) none (no_maps_sound u.layout.shape no_translator.regs)
    ]

-- with other maps
pub maps_replaced : (u : Plain) (i : ℕ) (m : Maps) → IsSound u → AreMaps u.layout.shape (regs_of u i) m → IsSound (with_maps u i m)
maps_replaced u i m h maps =
    translator_replaced u i (record (translator u i) { maps = m }) h (λ within.
    let t = translator_sound u i h within in translator_made u.layout.shape (regs_of u i) m t.regs t.dev_bits maps)

-- with other registers and the same tables
pub regs_replaced : (u : Plain) (i : ℕ) (r : Registers) → IsSound u → (regs.IsSound (regs_of u i) → regs.IsSound r) → SameTables (regs_of u i) r
    → IsSound (with_regs u i r)
regs_replaced u i r h new same =
    translator_replaced u i (record (translator u i) { regs = r }) h (λ within.
    let t = translator_sound u i h within in
    translator_made u.layout.shape r (maps_of u i) (new t.regs) (same.dev_bits ∙ t.dev_bits)
    (same_tables u.layout.shape (regs_of u i) r (maps_of u i) same (maps_sound u.layout.shape (translator u i) t)))

-- ---- redistributors

pub redistributor_replaced : (u : Plain) (v : ℕ) (r : Redistributor) → IsSound u → (v < length u.redistributors → IsRedistributor u.layout u.memory v r)
    → IsSound (with_redistributor u v r)
redistributor_replaced u v r h new = record {
  layout = h.layout;
  translators = h.translators;
  vcpus = length-set u.redistributors v r ∙ h.vcpus;
  redistributors = at_each_set (IsRedistributor u.layout u.memory) u.redistributors v r new h.redistributors;
  memory = h.memory;
  tracks = h.tracks;
  tracked = h.tracked;
}

pub redistributor_sound : (u : Plain) (v : ℕ) → IsSound u → v < length u.redistributors → IsRedistributor u.layout u.memory v (redistributor u v)
redistributor_sound u v h within = h.redistributors v (redistributor u v) (slice_get-get_or u.redistributors v no_redistributor within)

pub redistributors_mapped : (u : Plain) (f : Redistributor → Redistributor)
    → ((v : ℕ) (r : Redistributor) → IsRedistributor u.layout u.memory v r → IsRedistributor u.layout u.memory v (f r))
    → IsSound u → IsSound (record u { redistributors = map f u.redistributors })
redistributors_mapped u f keeps h = record {
  layout = h.layout;
  translators = h.translators;
  vcpus = length-map u.redistributors f ∙ h.vcpus;
  redistributors = at_each_map (IsRedistributor u.layout u.memory) f u.redistributors (λ v r e. keeps v r (h.redistributors v r e));
  memory = h.memory;
  tracks = h.tracks;
  tracked = h.tracked;
}

-- ---- pending sets

abbrev pub IsLpi : Plain → ℕ → Type 0
IsLpi u intid = is_lpi u.layout.shape.lpi_bits intid ≡ true

pub pending_set : (u : Plain) (v : ℕ) → IsSound u → IsSet (IsLpi u) (pending_of u v)
pending_set u v h =
    elim (cases_lt v (length u.redistributors)) [
      | inl within ↦ let r = redistributor_sound u v h within in record { rising = r.rising; all = r.lpis }
      | inr past ↦ let none = ap (λ (r : Redistributor). r.pending) (get_or_past u.redistributors v no_redistributor past) in subst (IsSet (IsLpi u)) (sym none)
          (no_set (IsLpi u))
    ]

-- nothing is pending where LPIs are off
pub none_pending : (u : Plain) (v : ℕ) → IsSound u → is_on u v ≡ false → pending_of u v ≡ []
none_pending u v h off =
    elim (cases_lt v (length u.redistributors)) [
      | inl within ↦ let r = redistributor_sound u v h within in r.off_pending (sym r.accepts ∙ off)
      | inr past ↦ ap (λ (r : Redistributor). r.pending) (get_or_past u.redistributors v no_redistributor past)
    ]

pub pending_replaced : (u : Plain) (v : ℕ) (pending : List ℕ) → IsSound u → IsSet (IsLpi u) pending → (is_on u v ≡ false → pending ≡ [])
    → IsSound (with_pending u v pending)
pending_replaced u v pending h set none =
    redistributor_replaced u v (record (redistributor u v) { pending = pending }) h (λ within.
    let r = redistributor_sound u v h within in record {
      rising = set.rising;
      lpis = set.all;
      config = r.config;
      accepts = r.accepts;
      tables = r.tables;
      off_pending = λ off. none (r.accepts ∙ off);
      off_config = r.off_config;
      kept = r.kept;
      described = r.described;
      always_on = r.always_on;
    })

-- a pending set says nothing of where LPIs are on
pub same_on : (u : Plain) (v w : ℕ) (pending : List ℕ) → is_on (with_pending u v pending) w ≡ is_on u w
same_on u v w pending =
    same_after_set (λ (r : Redistributor). r.accepts) u.redistributors v w (record (redistributor u v) { pending = pending }) no_redistributor refl

-- ---- memory

tables_kept : (s : Shape) (now before : List Window) (b : Bases) → map extent now ≡ map extent before → HasTables s before b → HasTables s now b
tables_kept s now before b same h = record {
  config = inside-extents now before b.prop.table.0 (lpi_count s.lpi_bits) same ∙ h.config;
  pending = inside-extents now before b.pend.table.0 (pending_bytes s.lpi_bits) same ∙ h.pending;
}

redistributor_kept : (l : Layout) (now before : List Window) (v : ℕ) (r : Redistributor) → map extent now ≡ map extent before
    → IsRedistributor l before v r → IsRedistributor l now v r
redistributor_kept l now before v r same h = record {
  rising = h.rising;
  lpis = h.lpis;
  config = h.config;
  accepts = h.accepts;
  tables = λ on. tables_kept l.shape now before r.bases same (h.tables on);
  off_pending = h.off_pending;
  off_config = h.off_config;
  kept = h.kept;
  described = h.described;
  always_on = h.always_on;
}

-- ---- the copy of memory

pub some_map : (o : Option Tracked) (f : Tracked → Tracked) → is_some (option_map f o) ≡ is_some o
some_map None f = refl
some_map (Some t) f = refl

pub each_map : (o : Option Tracked) (f : Tracked → Tracked) (P Q : Tracked → Type 0) → ((t : Tracked) → o ≡ Some t → P t) → ((t : Tracked) → P t → Q (f t))
    → (t : Tracked) → option_map f o ≡ Some t → Q t
each_map None f P Q before after t e = absurd cc
each_map (Some x) f P Q before after t e = subst Q (same_Some (f x) t e) (after x (before x refl))

-- other bytes in the same windows, with what is known of the copy then
pub memory_replaced : (u : Plain) (now : List Window) (track : Option Tracked) → map extent now ≡ map extent u.memory → is_some track ≡ u.layout.track
    → ((t : Tracked) → track ≡ Some t → IsTracked now t) → IsSound u → IsSound (record u { memory = now; track = track })
memory_replaced u now track same tracks tracked h = record {
  layout = h.layout;
  translators = h.translators;
  vcpus = h.vcpus;
  redistributors = λ v r e. redistributor_kept u.layout now u.memory v r same (h.redistributors v r e);
  memory = ap are_windows same ∙ h.memory;
  tracks = tracks;
  tracked = tracked;
}
